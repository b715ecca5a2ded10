-- A change of rows in order that may fail, and leaves them as they were where it does.
use Rattle.std.specs.Prelude.{◌≡◌, List, map as each, Result, Ok, Err, OnOk, OnErr}
use Rattle.std.proofs.Common.{sym, ap, ◌∙◌, subst}
use Rattle.rsvp_base.specs.Keys.{Keys}
use Rattle.rsvp_base.specs.Rows.{AreRows, table_of}
use Rattle.rsvp_base.specs.Table.{Table}
use Rattle.rsvp_base.proofs.Rows.{are_rows, table_is}

module _ {A K X E : Type 0} (o : Keys K) (row : A → K × X) (r : Result Unit E) (xs new : List A) (up : AreRows o row xs) (change : Table o X → Table o X) where
  -- the rows stand in order after it
  pub order_after : OnOk r (each row new ≡ (change (table_of o row xs up)).rows) → OnErr r (new ≡ xs) → AreRows o row new
  order_after ok err =
      elim r as (λ r. OnOk r (each row new ≡ (change (table_of o row xs up)).rows) → OnErr r (new ≡ xs) → AreRows o row new) [
        | Ok _ ↦ λ ok err. are_rows o row new (change (table_of o row xs up)) ok
        | Err _ ↦ λ ok err. subst (AreRows o row) (sym err) up
      ] ok err

  module _ (now : AreRows o row new) (m : Table o X) (is : table_of o row xs up ≡ m) where
    -- they are the changed table's, or those that they were
    pub table_after : OnOk r (each row new ≡ (change (table_of o row xs up)).rows) → OnOk r (table_of o row new now ≡ change m)
    table_after ok =
        elim r as (λ r. OnOk r (each row new ≡ (change (table_of o row xs up)).rows) → OnOk r (table_of o row new now ≡ change m)) [
          | Ok _ ↦ λ ok. table_is o row new now (change (table_of o row xs up)) ok ∙ ap change is
          | Err _ ↦ λ ok. tt
        ] ok

    pub table_kept : OnErr r (new ≡ xs) → OnErr r (table_of o row new now ≡ m)
    table_kept err =
        elim r as (λ r. OnErr r (new ≡ xs) → OnErr r (table_of o row new now ≡ m)) [
          | Ok _ ↦ λ err. tt
          | Err _ ↦ λ err. table_is o row new now (table_of o row xs up) (ap (each row) err) ∙ is
        ] err
