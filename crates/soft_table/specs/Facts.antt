-- What a table of facts is seen as: the facts in the order of their keys, with what is left of each, and the dead that wait.
use Rattle.std.specs.Prelude.{◌-◌, ℕ, List, IsTrue, map as each, Option, Some, None, nat_le, cond}
use Rattle.std.specs.FinMap.Entries.{is_sorted, where_key}
use Rattle.std.specs.Ordering.{is_lt}
use Rattle.rsvp_base.specs.Keys.{Keys, pairs}
use Rattle.rsvp_base.specs.Orders.{sessions}
use Rattle.rsvp_base.specs.Sets.{Set, set_of}
use Rattle.rsvp_base.specs.declared.session.Session.{Session}

-- the facts in the order of their keys, with the milliseconds that are left of each; the dead in this order too; and how
-- many facts there is room for
pub record Kept (F : Type 0) : Type 0 where
  pub facts : List (F × ℕ)
  pub dead : List F
  pub room : ℕ

-- a key: a session, and the rest
abbrev pub fact_keys : {R : Type 0} → Keys R → Keys (Session × R)
fact_keys rests = pairs sessions rests

module _ {F R : Type 0} (key : F → Session × R) where
  -- facts under their keys
  abbrev pub facts_by : List (F × ℕ) → List ((Session × R) × (F × ℕ))
  facts_by fs = each (λ e. (key e.0, e)) fs

  abbrev pub dead_by : List F → List ((Session × R) × F)
  dead_by fs = each (λ f. (key f, f)) fs

-- the sessions that have facts
abbrev pub sessions_in : {F R : Type 0} → (F → Session × R) → List (F × ℕ) → Set sessions
sessions_in key fs = set_of (each (λ e. (key e.0).0) fs)

-- of rows by the rest of their keys, those behind a rest
abbrev pub rows_behind : {R X : Type 0} → Keys R → R → List (R × X) → List (R × X)
rows_behind rests r es = where_key rests.cmp (λ q. is_lt (rests.cmp r q)) es

abbrev pub IsInOrder : {F R : Type 0} → Keys R → (F → Session × R) → Kept F → Type 0
IsInOrder rests key t = IsTrue (is_sorted (fact_keys rests).cmp (facts_by key t.facts)) × IsTrue (is_sorted (fact_keys rests).cmp (dead_by key t.dead))

-- ---- time
-- a fact with more left than this time has so much less left
abbrev pub lives_on : {F : Type 0} → ℕ → F × ℕ → Option (F × ℕ)
lives_on ms e = cond (nat_le e.1 ms) None (Some (e.0, e.1 - ms))

-- one with at most so much left is dead
abbrev pub dies : {F : Type 0} → ℕ → F × ℕ → Option F
dies ms e = cond (nat_le e.1 ms) (Some e.0) None
