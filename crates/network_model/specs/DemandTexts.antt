-- The text of a demand: of each end what it owes, in the form of a report, and a last line on the network.
use Rattle.std.specs.Prelude.{◌≡◌, ◌↔◌, ℕ, ◌++◌, Bool, true, false, List, [], length, Option, None, Some, slice_get, codes, IsTrue}
use Rattle.std.specs.Fmt.{decimal}
use Rattle.std.specs.List.{flat_map, range_with_len}
use Rattle.value_texts.specs.Reports.{book_text}
use Rattle.tree_model.specs.declared.hops.End.{End}
use Rattle.tree_model.specs.Goals.{DemandsFit, demand_of}
use Rattle.tree_model.specs.Networks.{Net}
use Rattle.tree_model.specs.Ranks.{longest}
use Rattle.tree_model.specs.Wants.{Locals}

-- of an end of this name
abbrev pub of_end : (List ℕ → End → List ℕ) → Option (List ℕ) → Option End → List ℕ
of_end t None x = []
of_end t (Some name) None = []
of_end t (Some name) (Some x) = t name x

module _ (names : List (List ℕ)) (net : Net) (l : Locals) where
  -- the demand of an end as the book of a report: what it charges together, and each entry with its senders and its flow
  abbrev pub end_demand : ℕ → List ℕ
  end_demand e = of_end (λ name x. book_text name x.iface.capacity (demand_of net l e).rows) (slice_get names e) (slice_get net.ends e)

  -- of one end, or of all in order
  abbrev pub demand_text : Option ℕ → List ℕ
  demand_text None = flat_map end_demand (range_with_len 0 (length net.ends))
  demand_text (Some e) = end_demand e

-- the last line: longest H fits yes, or no
abbrev pub yes_or_no : Bool → List ℕ
yes_or_no true = codes "yes"
yes_or_no false = codes "no"

unfoldable pub last_line : ℕ → Bool → List ℕ
last_line most fits = codes "longest " ++ decimal most ++ codes " fits " ++ yes_or_no fits ++ codes "\n"

-- the demand of all ends of a network, the length of its longest chain of hops, and whether the demands fit
pub record IsDemandText (names : List (List ℕ)) (net : Net) (l : Locals) (text : List ℕ) : Type 0 where
  pub fits : Bool
  pub told : IsTrue fits ↔ DemandsFit net l
  pub text_is : text ≡ demand_text names net l None ++ last_line (longest net) fits
