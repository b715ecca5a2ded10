-- The book that a node keeps charges an interface what the book of its facts does.
use Rattle.std.specs.Prelude.{◌≡◌, ℕ, ◌+◌, List, [], ◌∷◌, sum_by, Option, Some, None, refl}
use Rattle.std.specs.List.{fold}
use Rattle.std.proofs.Common.{sym, ap, ◌∙◌}
use Rattle.admission_book.specs.Book.{Entries}
use Rattle.admission_book.specs.Charges.{charges}
use Rattle.rsvp_base.specs.Keys.{numbers}
use Rattle.rsvp_base.specs.Orders.{entry_keys}
use Rattle.rsvp_base.specs.Table.{Table, changed, changed_rows, get}
use Rattle.rsvp_base.specs.TokenBucket.{TokenBucket}
use Rattle.rsvp_base.specs.Under.{under}
use Rattle.rsvp_base.specs.declared.entry_key.EntryKey.{EntryKey}
use Rattle.rsvp_base.specs.declared.part.Part.{Part}
use Rattle.rsvp_base.proofs.Tables.{get-changed, same_table, then_do}
use Rattle.rsvp_base.proofs.UnderLaws.{get-under}
use Rattle.style_rules.specs.Lines.{held}
use Rattle.style_rules.specs.Parts.{part_charge}
use Rattle.router_rules.specs.Books.{book}
use Rattle.router_rules.specs.Facts.{Facts}
use Rattle.router_state.specs.State.{State, facts_at, facts_of}
use Rattle.resv_admission.specs.Kept.{IsBookOf, flow_in}

pub front_is : (c : ℕ) (n : State) → facts_at c n ≡ facts_of c n
unfolding facts_at
front_is c n = refl

abbrev flow_of : EntryKey → Part → Option TokenBucket
flow_of k part = Some part.flow

sum_flows : (a : ℕ) (es : List (EntryKey × Part)) → fold (λ n (e : EntryKey × TokenBucket). n + e.1.r) a (changed_rows flow_of es) ≡ fold (λ n (e : EntryKey × Part). n + part_charge e.1) a es
sum_flows a [] = refl
sum_flows a (e ∷ es) = sum_flows (a + e.1.flow.r) es

pub held_is : (f : Facts) (es : Entries) → IsBookOf f es → (i : ℕ) → charges es i ≡ held (book f i)
held_is f es of i = ap (λ (t : Table entry_keys TokenBucket). sum_by (λ e. e.1.r) t.rows) rows_are ∙ sum_flows 0 (book f i).rows
  where
    rows_are : under numbers entry_keys es i ≡ changed flow_of (book f i)
    rows_are = same_table entry_keys _ _ (λ key. get-under numbers entry_keys es i key ∙ of.at i key ∙ by (get (book f i) key) ∙ sym (get-changed entry_keys flow_of (book f i) key))
      where
        by : (w : Option Part) → flow_in w ≡ then_do w (λ part. Some part.flow)
        by None = refl
        by (Some part) = refl
