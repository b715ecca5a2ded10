-- Rows of sessions, and what stands for them in memory: the slots in the order of the rows' keys, the key of each slot, and a head for each session.
use Rattle.std.specs.Prelude.{◌≡◌, ◌<◌, ◌≤◌, ℕ, Bool, true, false, cond, not, nat_eq, List, map, length, Option, Some, None, slice_get, ◌⊎◌}
use Rattle.std.proofs.Common.{T}
use Rattle.std.specs.List.{filter_map}
use Rattle.std.specs.Option.{option_map}
use Rattle.std.specs.FinMap.Entries.{find, put, where_key, is_sorted}
use Rattle.std.specs.Ordering.{eq_by_cmp, is_lt, is_gt}
use Rattle.std.specs.declared.cmp.Ordering.TheVariants.{Less}
use Rattle.rsvp_base.specs.Keys.{Keys, pairs}
use Rattle.rsvp_base.specs.Orders.{sessions}
use Rattle.rsvp_base.specs.Rows.{AreRows, HasRowAt, LacksRowAt}
use Rattle.rsvp_base.specs.Sets.{Set, set_of}
use Rattle.rsvp_base.specs.Under.{rows_under}
use Rattle.rsvp_base.specs.declared.session.Session.{Session}
use Rattle.soft_table.specs.Ring.{Has}
use Rattle.soft_table.specs.declared.heads.Head.{Head}
use Rattle.soft_table.specs.declared.session_lists.Gap.{Gap}
use Rattle.soft_table.specs.declared.session_lists.Walked.{Walked}
use Rattle.soft_table.specs.declared.session_lists.Walked.TheVariants.{Row, Gap as GapAt, Far}

-- the rows in the order of their keys, each with its slot; and how many slots there are
pub record Rows (R : Type 0) : Type 0 where
  pub rows : List ((Session × R) × ℕ)
  pub room : ℕ

-- a key: a session, and the rest
abbrev pub row_keys : {R : Type 0} → Keys R → Keys (Session × R)
row_keys rests = pairs sessions rests

-- the slot of a row of a session
abbrev pub slot_of : {R : Type 0} → Option (R × ℕ) → Option ℕ
slot_of r = option_map (λ e. e.1) r

-- the slot of a session's first row
abbrev pub first_of : {R : Type 0} → Keys R → Session → List ((Session × R) × ℕ) → Option ℕ
first_of rests s rows = option_map (λ e. e.1) (slice_get (rows_under sessions rests s rows) 0)

-- of rows by the rest of their keys, those behind a rest
abbrev pub rows_behind : {R X : Type 0} → Keys R → R → List (R × X) → List (R × X)
rows_behind rests r es = where_key rests.cmp (λ q. is_lt (rests.cmp r q)) es

-- the slot of a row, where it is of this session
abbrev pub next_of : {R : Type 0} → Session → Option ((Session × R) × ℕ) → Option ℕ
next_of s None = None
next_of s (Some e) = cond (eq_by_cmp sessions.cmp s e.0.0) (Some e.1) None

-- the sessions that have rows
abbrev pub sessions_of : {R : Type 0} → List ((Session × R) × ℕ) → Set sessions
sessions_of rows = set_of (map (λ k. k.0) (map (λ e. e.0) rows))

-- ---- in memory
abbrev pub key_row : {K : Type 0} → ℕ → Option (Option K) → Option (K × ℕ)
key_row s None = None
key_row s (Some None) = None
key_row s (Some (Some k)) = Some (k, s)

abbrev pub rows_of : {K : Type 0} → List (Option K) → List ℕ → List (K × ℕ)
rows_of keys slots = filter_map (λ s. key_row s (slice_get keys s)) slots

abbrev pub head_row : Head → Session × ℕ
head_row h = (h.session, h.first)

-- each slot has its key, the rows are in order, and the head of a session leads to its first row
pub record AreLists {R : Type 0} (rests : Keys R) (keys : List (Option (Session × R))) (slots : List ℕ) (heads : List Head) : Type 0 where
  pub sorted : T (is_sorted (row_keys rests).cmp (rows_of keys slots))
  pub full : (i s : ℕ) → slice_get slots i ≡ Some s → (k : Session × R) × (slice_get keys s ≡ Some (Some k))
  pub rising : AreRows sessions head_row heads
  pub firsts : (s : Session) → find sessions.cmp s (map head_row heads) ≡ first_of rests s (rows_of keys slots)

-- a slot that has a key has a row
abbrev pub AreHeld : {K : Type 0} → List (Option K) → List ℕ → Type 0
AreHeld {K} keys slots = (s : ℕ) (k : K) → slice_get keys s ≡ Some (Some k) → Has slots s

-- ---- places
-- the rows below a place are before a key
abbrev pub AreBefore : {R : Type 0} → Keys R → List ((Session × R) × ℕ) → ℕ → Session × R → Type 0
AreBefore {R} rests rows i k = (j : ℕ) (e : (Session × R) × ℕ) → j < i → slice_get rows j ≡ Some e → (row_keys rests).cmp e.0 k ≡ Less

-- a slot, or none, from which a walk can begin: it passes no row that is not before the key
pub record IsStart {R : Type 0} (rests : Keys R) (keys : List (Option (Session × R))) (slots : List ℕ) (k : Session × R) (at : Option ℕ) : Type 0 where
  pub place : ℕ
  pub within : place ≤ length slots
  pub is : slice_get slots place ≡ at
  pub before : AreBefore rests (rows_of keys slots) place k

-- a slot with a key that is not behind another
abbrev pub IsUpTo : {R : Type 0} → Keys R → List (Option (Session × R)) → Session × R → ℕ → Type 0
IsUpTo {R} rests keys k s = (q : Session × R) × (slice_get keys s ≡ Some (Some q)) × (is_gt ((row_keys rests).cmp q k) ≡ false)

-- such a slot, or the one that a walk has come to
abbrev pub IsFrom : {R : Type 0} → Keys R → List (Option (Session × R)) → Session × R → ℕ → ℕ → Type 0
IsFrom rests keys k slot at = (at ≡ slot) ⊎ IsUpTo rests keys k at

-- the slot of the first row that is not before a key, or none
pub record IsPlace {R : Type 0} (rests : Keys R) (keys : List (Option (Session × R))) (slots : List ℕ) (k : Session × R) (at : Option ℕ) : Type 0 where
  pub start : IsStart rests keys slots k at
  pub here : (e : (Session × R) × ℕ) → slice_get (rows_of keys slots) start.place ≡ Some e → (row_keys rests).cmp e.0 k ≡ Less → ⊥

abbrev pub itself : {A : Type 0} → A → A
itself a = a

-- a slot whose row has the key
pub record IsRow {R : Type 0} (rests : Keys R) (keys : List (Option (Session × R))) (slots : List ℕ) (k : Session × R) (s : ℕ) : Type 0 where
  pub place : ℕ
  pub is : slice_get slots place ≡ Some s
  pub key : slice_get keys s ≡ Some (Some k)
  pub has : HasRowAt (row_keys rests) itself (rows_of keys slots) k place

-- a key without a row, and the slot before which its row would go
pub record IsGap {R : Type 0} (rests : Keys R) (keys : List (Option (Session × R))) (slots : List ℕ) (k : Session × R) (at : Option ℕ) : Type 0 where
  pub place : IsPlace rests keys slots k at
  pub lacks : LacksRowAt (row_keys rests) itself (rows_of keys slots) k place.start.place

-- where a walk of so many steps has come
abbrev pub IsWalked : {R : Type 0} → Keys R → List (Option (Session × R)) → List ℕ → Session × R → ℕ → Walked → Type 0
IsWalked rests keys slots k steps (Row s) = IsRow rests keys slots k s
IsWalked rests keys slots k steps (GapAt g) = IsGap rests keys slots k g.behind
IsWalked rests keys slots k steps (Far s) = (w : IsStart rests keys slots k (Some s)) × (steps ≤ w.place)

-- the same, as contracts see it
pub record IsGapIn {R : Type 0} (rests : Keys R) (rows : List ((Session × R) × ℕ)) (k : Session × R) (gap : Gap) : Type 0 where
  pub place : ℕ
  pub is : slot_of (slice_get rows place) ≡ gap.behind
  pub before : AreBefore rests rows place k
  pub here : (e : (Session × R) × ℕ) → slice_get rows place ≡ Some e → (row_keys rests).cmp e.0 k ≡ Less → ⊥
  pub lacks : LacksRowAt (row_keys rests) itself rows k place
  pub absent : find (row_keys rests).cmp k rows ≡ None

-- ---- heads
-- whether a row that is put in before this one, or behind all, is its session's first
abbrev pub leads : Option ℕ → Option ℕ → Bool
leads None behind = true
leads (Some f) None = false
leads (Some f) (Some b) = nat_eq f b

-- whether a row is its session's first
abbrev pub is_first : ℕ → Option ℕ → Bool
is_first slot None = false
is_first slot (Some f) = nat_eq f slot

-- a slot, where its row is of this session
abbrev pub key_of_session : {R : Type 0} → Session → ℕ → Option (Option (Session × R)) → Option ℕ
key_of_session s n None = None
key_of_session s n (Some None) = None
key_of_session s n (Some (Some k)) = cond (eq_by_cmp sessions.cmp s k.0) (Some n) None

abbrev pub of_session : {R : Type 0} → List (Option (Session × R)) → Session → Option ℕ → Option ℕ
of_session keys s None = None
of_session keys s (Some n) = key_of_session s n (slice_get keys n)

-- the heads where a session's first row is now this, or it has none
abbrev pub led : Session → Option ℕ → List (Session × ℕ) → List (Session × ℕ)
led s None heads = where_key sessions.cmp (λ q. not (eq_by_cmp sessions.cmp s q)) heads
led s (Some f) heads = put sessions.cmp s f heads
