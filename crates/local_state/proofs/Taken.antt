-- Rows that are seen as a table, with one taken out.
use Rattle.std.specs.Prelude.{◌≡◌, ℕ, not, List, map as each}
use Rattle.std.proofs.Common.{sym, ap, ◌∙◌}
use Rattle.std.specs.List.{remove}
use Rattle.std.specs.Ordering.{eq_by_cmp}
use Rattle.std.specs.FinMap.Entries.{where_key}
use Rattle.rsvp_base.specs.Keys.{Keys}
use Rattle.rsvp_base.specs.Rows.{AreRows, HasRowAt, table_of}
use Rattle.rsvp_base.specs.Table.{Table, without}
use Rattle.rsvp_base.proofs.Rows.{rows_are}

module _ {A K X : Type 0} (o : Keys K) (row : A → K × X) (xs : List A) (up : AreRows o row xs) (m : Table o X) (is : table_of o row xs up ≡ m) where
  pub rows_taken : (k : K) (i : ℕ) → HasRowAt o row xs k i → each row (remove xs i) ≡ (without m k).rows
  rows_taken k i h = sym h.taken ∙ ap (where_key o.cmp (λ z. not (eq_by_cmp o.cmp k z))) (rows_are o row xs up m is)
