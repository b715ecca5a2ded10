-- What ends owe, as it is written, is their demand.
use Rattle.std.proofs.Common.{◌≡◌, ℕ, List, ◌++◌, length, Option, None, Some, refl, sym, ap, ◌∙◌, append_assoc}
use Rattle.std.specs.Prelude.{Result, Ok, Err, OnOk, slice_get}
use Rattle.std.specs.List.{flat_map, range_with_len}
use Rattle.std.proofs.lemmas.Option.{slice_get_within}
use Rattle.rsvp_base.specs.declared.entry_key.EntryKey.{EntryKey}
use Rattle.rsvp_base.specs.declared.part.Part.{Part}
use Rattle.rsvp_base.specs.declared.room.NoMemory.{NoMemory}
use Rattle.network_demand.specs.Books.{book_at}
use Rattle.network_demand.specs.Demands.{AreDemands}
use Rattle.value_texts.specs.Reports.{book_text, entry_text, head_text, held_of}
use Rattle.style_rules.specs.Lines.{BookTable}
use Rattle.tree_model.specs.declared.hops.End.{End}
use Rattle.tree_model.specs.Goals.{demand_of}
use Rattle.tree_model.specs.Networks.{Net}
use Rattle.tree_model.specs.Wants.{Locals}
use Rattle.script_demand.specs.Owing.{end_owes, named_owes}
use Rattle.network_model.specs.DemandTexts.{demand_text, end_demand, of_end}

abbrev entries_text : List (EntryKey × Part) → List ℕ
entries_text rows = flat_map (λ (e : EntryKey × Part). entry_text e.0 e.1) rows

-- the line of an end and those of its entries
pub owes_written : (r : Result (Unit {0}) NoMemory) (old mid new name bytes : List ℕ) (capacity sum : ℕ) (book : BookTable) (rows : List (EntryKey × Part)) (o : Option (List ℕ)) → o ≡ Some name
    → bytes ≡ name → rows ≡ book.rows → sum ≡ held_of rows
    → mid ≡ old ++ head_text bytes sum capacity → OnOk r (new ≡ mid ++ entries_text rows) → OnOk r (new ≡ old ++ named_owes capacity book o)
owes_written (Ok _) old mid new name bytes capacity sum book rows o named same all held head is =
    is ∙ ap (λ (x : List ℕ). x ++ entries_text rows) head ∙ append_assoc old (head_text bytes sum capacity) (entries_text rows)
    ∙ (λ i. old ++ (head_text (same i) ((held ∙ ap held_of all) i) capacity ++ entries_text (all i))) ∙ ap (λ (z : Option (List ℕ)). old ++ named_owes capacity book z) (sym named)
owes_written (Err _) old mid new name bytes capacity sum book rows o named same all held head is = tt

module _ (names : List (List ℕ)) where
  -- an end that is there
  pub owes_there : (ends : List End) (owed : List BookTable) (e : ℕ) (x : End) (book : BookTable) → slice_get ends e ≡ Some x → book ≡ book_at owed e
      → named_owes x.iface.capacity book (slice_get names e) ≡ end_owes names ends owed e
  owes_there ends owed e x book at is = by (slice_get names e)
    where
      by : (o : Option (List ℕ)) → named_owes x.iface.capacity book o ≡ of_end (λ name y. book_text name y.iface.capacity (book_at owed e).rows) o (slice_get ends e)
      by None = refl
      by (Some name) = ap (λ (b : BookTable). book_text name x.iface.capacity b.rows) is ∙ ap (of_end (λ name y. book_text name y.iface.capacity (book_at owed e).rows) (Some name)) (sym at)

  -- what each end owes is its demand
  module _ (net : Net) (l : Locals) (owed : List BookTable) (are : AreDemands net l owed) where
    same_end : (e : ℕ) → end_owes names net.ends owed e ≡ end_demand names net l e
    same_end e = by (slice_get names e) (slice_get net.ends e) refl
      where
        by : (n : Option (List ℕ)) (o : Option End) → slice_get net.ends e ≡ o
            → of_end (λ name x. book_text name x.iface.capacity (book_at owed e).rows) n o ≡ of_end (λ name x. book_text name x.iface.capacity (demand_of net l e).rows) n o
        by None o at = refl
        by (Some name) None at = refl
        by (Some name) (Some x) at = ap (λ (b : BookTable). book_text name x.iface.capacity b.rows) (are.each e (slice_get_within net.ends e x at))

    pub owed_is_demanded : flat_map (end_owes names net.ends owed) (range_with_len 0 (length net.ends)) ≡ demand_text names net l None
    owed_is_demanded = λ i. flat_map (λ e. same_end e i) (range_with_len 0 (length net.ends))
