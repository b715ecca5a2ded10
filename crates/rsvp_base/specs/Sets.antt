-- Finite sets: tables of nothing.
use Rattle.std.specs.Prelude.{◌≡◌, Bool, true, List, map as each, ◌==◌}
use Rattle.std.specs.Coded.{Coded}
use base.Stored.{coded_unit}
use Rattle.rsvp_base.specs.Keys.{Keys}
use Rattle.rsvp_base.specs.Table.{Table, has, size, put_in, with_rows, kept, empty, table_code}

abbrev pub Set : {K : Type 0} → Keys K → Type 0
Set o = Table o (Unit {0})

abbrev pub set_code : {K : Type 0} (o : Keys K) → Coded K → Coded (Set o)
set_code o k = table_code o k coded_unit

-- keys as rows
abbrev pub listed : {K : Type 0} → List K → List (K × Unit {0})
listed ks = each (λ k. (k, tt)) ks

module _ {K : Type 0} {o : Keys K} where
  abbrev pub with_key : Set o → K → Set o
  with_key s k = put_in s k tt

  abbrev pub with_keys : Set o → List K → Set o
  with_keys s ks = with_rows s (listed ks)

  -- the set of the members of a list
  abbrev pub set_of : List K → Set o
  set_of ks = with_keys empty ks

  abbrev pub union : Set o → Set o → Set o
  union s t = with_rows s t.rows

  -- the members of both
  abbrev pub cut : Set o → Set o → Set o
  cut s t = kept (has t) s

  -- each member of the one is a member of the other
  abbrev pub IsWithin : Set o → Set o → Type 0
  IsWithin s t = (k : K) → has s k ≡ true → has t k ≡ true

  abbrev pub is_none : Set o → Bool
  is_none s = size s == 0
