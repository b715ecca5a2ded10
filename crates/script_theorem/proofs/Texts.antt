-- The report of an end is the text of the book that its node keeps for it; where a network has settled, that of its demand.
use Rattle.std.proofs.Common.{◌≡◌, ℕ, ◌<◌, List, length, Option, None, Some, refl, sym, ap, ◌∙◌}
use Rattle.std.specs.Prelude.{slice_get}
use Rattle.std.specs.List.{flat_map, range_with_len}
use Rattle.std.proofs.lemmas.Option.{slice_get_within}
use Rattle.style_rules.specs.Lines.{BookTable}
use Rattle.router_rules.specs.Books.{book}
use Rattle.router_rules.specs.Facts.{Facts}
use Rattle.tree_model.specs.declared.hops.End.{End}
use Rattle.tree_model.specs.Goals.{demand_of}
use Rattle.tree_model.specs.Networks.{iface_of, node_of, node_of_end}
use Rattle.network_model.specs.Bounds.{AreBounds}
use Rattle.network_model.specs.Locals.{locals_of}
use Rattle.network_model.specs.Runs.{end_report, node_facts, plain_report, with_parts, written}
use Rattle.network_model.specs.Steps.{Report}
use Rattle.network_model.specs.Texts.{table_text}
use Rattle.network_model.specs.Worlds.{World, config_of}
use Rattle.laws_network.proofs.Known.{node_there}
use Rattle.settle_network.specs.Settled.{HasSettled}
use Rattle.network_model.specs.DemandTexts.{demand_text, of_end}
use Rattle.script_theorem.specs.Purged.{books_text, end_text}

-- the node of an end is there
pub facts_there : (q : ℕ) (u : World) → AreBounds q u → (e : ℕ) → e < length u.net.ends → (f : Facts) × (slice_get u.nodes (node_of u.net.ends e) ≡ Some f)
facts_there q u bounds e lt = node_there q u bounds.net u e (record { bounds = bounds; same = record { net = refl; trees = refl; senders = λ n. refl; advertised = λ n. refl; locals = refl } }) lt

-- where the nodes keep these books for their ends
abbrev pub HasBooks : World → (ℕ → BookTable) → Type 0
HasBooks u books = (e : ℕ) (f : Facts) → e < length u.net.ends → slice_get u.nodes (node_of u.net.ends e) ≡ Some f → book f (iface_of u.net.ends e) ≡ books e

module _ (q : ℕ) (names : List (List ℕ)) (u : World) (bounds : AreBounds q u) (books : ℕ → BookTable) (has : HasBooks u books) where
  same_end : (e : ℕ) → end_report q names plain_report u e ≡ end_text names u.net books e
  same_end e = by (slice_get names e) (slice_get u.net.ends e) refl
    where
      named : (name : List ℕ) (x : End) → slice_get u.net.ends e ≡ Some x
          → with_parts (λ name x f. plain_report (config_of q u.net u.trees x.node) name x (iface_of u.net.ends e) f) (Some name) (Some x) (slice_get u.nodes x.node)
          ≡ table_text name x.iface.capacity (books e)
      named name x at =
          let lt : e < length u.net.ends = slice_get_within u.net.ends e x at in
          let node : node_of u.net.ends e ≡ x.node = ap node_of_end at in
          let r = facts_there q u bounds e lt in
          let there : slice_get u.nodes x.node ≡ Some r.0 = ap (λ (n : ℕ). slice_get u.nodes n) (sym node) ∙ r.1 in
          ap (with_parts (λ name x f. plain_report (config_of q u.net u.trees x.node) name x (iface_of u.net.ends e) f) (Some name) (Some x)) there
          ∙ ap (λ (b : BookTable). table_text name x.iface.capacity b) (has e r.0 lt r.1)

      by : (n : Option (List ℕ)) (o : Option End) → slice_get u.net.ends e ≡ o
          → with_parts (λ name x f. plain_report (config_of q u.net u.trees x.node) name x (iface_of u.net.ends e) f) n o (node_facts u o)
          ≡ of_end (λ name x. table_text name x.iface.capacity (books e)) n o
      by None o at = refl
      by (Some name) None at = refl
      by (Some name) (Some x) at = named name x at

  pub report_is_of_books : (e : Option ℕ) → written q names (Report e) u ≡ books_text names u.net books e
  report_is_of_books None = λ i. flat_map (λ e. same_end e i) (range_with_len 0 (length u.net.ends))
  report_is_of_books (Some e) = same_end e

pub report_is_the_demand : (q : ℕ) (names : List (List ℕ)) (u : World) → AreBounds q u → HasSettled q u → (e : Option ℕ) → written q names (Report e) u ≡ demand_text names u.net (locals_of u) e
report_is_the_demand q names u bounds has None = report_is_of_books q names u bounds (demand_of u.net (locals_of u)) (λ e f lt at. has.books e f lt at) None
report_is_the_demand q names u bounds has (Some e) = report_is_of_books q names u bounds (demand_of u.net (locals_of u)) (λ e f lt at. has.books e f lt at) (Some e)
