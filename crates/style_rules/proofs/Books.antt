-- Fewer and smaller lines have a smaller book.
use Rattle.std.specs.Prelude.{◌≡◌, ℕ, ◌≤◌, ◌==◌, Some, List}
use Rattle.std.proofs.Common.{sym, ap, ◌∙◌}
use Rattle.rsvp_base.specs.declared.part.Part.{Part}
use Rattle.rsvp_base.specs.Table.{get}
use Rattle.rsvp_base.proofs.Members.{in_filter, to_filter}
use Rattle.style_rules.specs.Parts.{part_charge, IsPartAtMost}
use Rattle.style_rules.specs.Lines.{Line, entry_key, merged_book, at_end, book_of_end, held, IsUnder, AreUnder}
use Rattle.rsvp_base.specs.Orders.{entry_keys}
use Rattle.rsvp_base.specs.declared.entry_key.EntryKey.{EntryKey}
use Rattle.style_rules.specs.PartLaws.{charge_below}
use Rattle.style_rules.proofs.Merges.{merge_below, sums_below}

same_entry : (l g : Line) → IsUnder l g → entry_key l ≡ entry_key g
same_entry l g h = λ i. record { session = (h.key i).0; style = h.style i; unit = (h.key i).1.1 }

pub under_at_end : (e : ℕ) (ls gs : List Line) → AreUnder ls gs → AreUnder (at_end e ls) (at_end e gs)
under_at_end e ls gs h l i =
    let s = in_filter (λ (z : Line). z.end == e) l ls i in
    let g = h l s.0 in
    let same : l.end ≡ g.0.end = ap (λ k. k.1.0.0) g.2.key in
    (g.0, to_filter (λ (z : Line). z.end == e) g.0 gs g.1 (ap (λ n. n == e) (sym same) ∙ s.1), g.2)

-- each entry of the smaller book is under an entry of the larger
pub book_below : (ls gs : List Line) → AreUnder ls gs → (k : EntryKey) (x : Part) → get (merged_book ls) k ≡ Some x → (y : Part) × (get (merged_book gs) k ≡ Some y) × IsPartAtMost x y
book_below ls gs h =
    merge_below entry_keys entry_key (λ (l : Line). l.part) entry_key (λ (l : Line). l.part) ls gs
    (λ l i named. let g = h l i in (g.0, g.1, same_entry l g.0 g.2, g.2.part))

pub held_below : (ls gs : List Line) → AreUnder ls gs → held (merged_book ls) ≤ held (merged_book gs)
held_below ls gs h =
    sums_below entry_keys entry_key (λ (l : Line). l.part) entry_key (λ (l : Line). l.part) part_charge charge_below ls gs
    (λ l i named. let g = h l i in (g.0, g.1, same_entry l g.0 g.2, g.2.part))

pub held_at_end_below : (e : ℕ) (ls gs : List Line) → AreUnder ls gs → held (book_of_end e ls) ≤ held (book_of_end e gs)
held_at_end_below e ls gs h = held_below (at_end e ls) (at_end e gs) (under_at_end e ls gs h)
