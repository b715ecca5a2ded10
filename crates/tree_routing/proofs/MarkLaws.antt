-- Marks along edges: what a pass keeps, what it marks, and where none moves.
use Rattle.std.specs.Prelude.{◌≡◌, ◌⊎◌, ℕ, ◌+◌, ◌<◌, ◌≤◌, Bool, true, false, ◌&&◌, ◌||◌, List, [], ◌∷◌, length, Option, None, Some, slice_set, replicate, refl, if◌then◌else◌}
use Rattle.std.proofs.Common.{zero, suc, sym, ap, subst, ◌∙◌, inl, inr, ⊎_elim, arith}
use Rattle.rsvp_base.specs.Members.{In}
use Rattle.rsvp_base.proofs.SetLaws.{or_either, and_both}
use Rattle.rsvp_base.proofs.Tables.{either}
use Rattle.tree_model.specs.Chains.{last_of}
use Rattle.tree_routing.specs.declared.known.Known.{Known}
use Rattle.tree_routing.specs.Walks.{Steps, Walk, Edge, Leads}
use Rattle.tree_routing.specs.Marks.{marked, unmarked, moves_along, along, pass, moves, passes, off, bit, IsReach}

-- ---- a mark set
set_keeps : (ms : List Bool) (v w : ℕ) → marked ms w ≡ true → marked (slice_set ms v true) w ≡ true
set_keeps [] v w e = e
set_keeps (b ∷ bs) zero zero e = refl
set_keeps (b ∷ bs) zero (suc w) e = e
set_keeps (b ∷ bs) (suc v) zero e = e
set_keeps (b ∷ bs) (suc v) (suc w) e = set_keeps bs v w e

set_told : (ms : List Bool) (v w : ℕ) → marked (slice_set ms v true) w ≡ true → (marked ms w ≡ true) ⊎ (w ≡ v)
set_told [] v w e = inl e
set_told (b ∷ bs) zero zero e = inr refl
set_told (b ∷ bs) zero (suc w) e = inl e
set_told (b ∷ bs) (suc v) zero e = inl e
set_told (b ∷ bs) (suc v) (suc w) e = ⊎_elim (λ (h : marked bs w ≡ true). inl h) (λ (h : w ≡ v). inr (ap suc h)) (set_told bs v w e)

pub set_here : (ms : List Bool) (v : ℕ) → v < length ms → marked (slice_set ms v true) v ≡ true
set_here [] v lt = absurd (omega arith)
set_here (b ∷ bs) zero lt = refl
set_here (b ∷ bs) (suc v) lt = set_here bs v (omega arith)

off_set : (ms : List Bool) (v : ℕ) → unmarked ms v ≡ true → suc (off (slice_set ms v true)) ≡ off ms
off_set [] v e = cc
off_set (true ∷ bs) zero e = cc
off_set (false ∷ bs) zero e = refl
off_set (true ∷ bs) (suc v) e = off_set bs v e
off_set (false ∷ bs) (suc v) e = ap suc (off_set bs v e)

pub length_set : (ms : List Bool) (v : ℕ) → length (slice_set ms v true) ≡ length ms
length_set [] v = refl
length_set (b ∷ bs) zero = refl
length_set (b ∷ bs) (suc v) = ap suc (length_set bs v)

-- a vertex that is there is marked or not
marked_if : (ms : List Bool) (v : ℕ) → v < length ms → unmarked ms v ≡ false → marked ms v ≡ true
marked_if [] v lt e = absurd (omega arith)
marked_if (true ∷ bs) zero lt e = refl
marked_if (false ∷ bs) zero lt e = cc
marked_if (b ∷ bs) (suc v) lt e = marked_if bs v (omega arith) e

-- ---- along an edge
chosen : {X : Type 0} (b : Bool) (x y : X) → b ≡ true → (if b then x else y) ≡ x
chosen true x y e = refl
chosen false x y e = cc

other : {X : Type 0} (b : Bool) (x y : X) → b ≡ false → (if b then x else y) ≡ y
other true x y e = cc
other false x y e = refl

along_moved : (o : Option ℕ) (v : ℕ) (ms : List Bool) → moves_along o v ms ≡ true → along o v ms ≡ slice_set ms v true
along_moved o v ms e = chosen (moves_along o v ms) (slice_set ms v true) ms e

along_still : (o : Option ℕ) (v : ℕ) (ms : List Bool) → moves_along o v ms ≡ false → along o v ms ≡ ms
along_still o v ms e = other (moves_along o v ms) (slice_set ms v true) ms e

-- what an edge moves comes from a mark before it
moved_from : (o : Option ℕ) (v : ℕ) (ms : List Bool) → moves_along o v ms ≡ true → (a : ℕ) × (o ≡ Some a) × (marked ms a ≡ true) × (unmarked ms v ≡ true)
moved_from None v ms e = cc
moved_from (Some a) v ms e = let p = and_both (marked ms a) (unmarked ms v) e in (a, refl, p.0, p.1)

along_keeps : (o : Option ℕ) (v : ℕ) (ms : List Bool) (w : ℕ) → marked ms w ≡ true → marked (along o v ms) w ≡ true
along_keeps o v ms w e =
    either (moves_along o v ms) (λ t. ap (λ (x : List Bool). marked x w) (along_moved o v ms t) ∙ set_keeps ms v w e) (λ f. ap (λ (x : List Bool). marked x w) (along_still o v ms f) ∙ e)

along_told : (o : Option ℕ) (v : ℕ) (ms : List Bool) (w : ℕ) → marked (along o v ms) w ≡ true → (marked ms w ≡ true) ⊎ ((a : ℕ) × (o ≡ Some a) × (marked ms a ≡ true) × (w ≡ v))
along_told o v ms w e =
    either (moves_along o v ms)
    (λ t.
    ⊎_elim (λ (h : marked ms w ≡ true). inl h)
    (λ (h : w ≡ v). let m = moved_from o v ms t in inr (m.0, m.1, m.2, h))
    (set_told ms v w (ap (λ (x : List Bool). marked x w) (sym (along_moved o v ms t)) ∙ e)))
    (λ f. inl (ap (λ (x : List Bool). marked x w) (sym (along_still o v ms f)) ∙ e))

length_along : (o : Option ℕ) (v : ℕ) (ms : List Bool) → length (along o v ms) ≡ length ms
length_along o v ms =
    either (moves_along o v ms) (λ t. ap length (along_moved o v ms t) ∙ length_set ms v) (λ f. ap length (along_still o v ms f))

off_along : (o : Option ℕ) (v : ℕ) (ms : List Bool) → off (along o v ms) ≤ off ms
off_along o v ms =
    either (moves_along o v ms)
    (λ t. let m = moved_from o v ms t in let e = ap off (along_moved o v ms t) in let s = off_set ms v m.3 in omega arith)
    (λ f. let e = ap off (along_still o v ms f) in omega arith)

off_moved : (o : Option ℕ) (v : ℕ) (ms : List Bool) → moves_along o v ms ≡ true → off (along o v ms) < off ms
off_moved o v ms t = let m = moved_from o v ms t in let e = ap off (along_moved o v ms t) in let s = off_set ms v m.3 in omega arith

-- ---- along all of them
length_pass : (ks : List Known) (ms : List Bool) → length (pass ks ms) ≡ length ms
length_pass [] ms = refl
length_pass (k ∷ ks) ms = length_pass ks (along k.before k.vertex ms) ∙ length_along k.before k.vertex ms

pass_keeps : (ks : List Known) (ms : List Bool) (w : ℕ) → marked ms w ≡ true → marked (pass ks ms) w ≡ true
pass_keeps [] ms w e = e
pass_keeps (k ∷ ks) ms w e = pass_keeps ks (along k.before k.vertex ms) w (along_keeps k.before k.vertex ms w e)

or_parts : (a b : Bool) → (a || b) ≡ false → (a ≡ false) × (b ≡ false)
or_parts true b e = cc
or_parts false b e = (refl, e)

-- where none moves, a pass changes nothing
pub still : (ks : List Known) (ms : List Bool) → moves ks ms ≡ false → pass ks ms ≡ ms
still [] ms e = refl
still (k ∷ ks) ms e =
    let parts = or_parts (moves_along k.before k.vertex ms) (moves ks (along k.before k.vertex ms)) e in
    let same = along_still k.before k.vertex ms parts.0 in
    ap (pass ks) same ∙ still ks ms (ap (moves ks) (sym same) ∙ parts.1)

off_pass : (ks : List Known) (ms : List Bool) → off (pass ks ms) ≤ off ms
off_pass [] ms = omega arith
off_pass (k ∷ ks) ms = let a = off_pass ks (along k.before k.vertex ms) in let b = off_along k.before k.vertex ms in omega arith

-- where one moves, fewer are left
pub falls : (ks : List Known) (ms : List Bool) → moves ks ms ≡ true → off (pass ks ms) < off ms
falls [] ms e = cc
falls (k ∷ ks) ms e =
    let rest = falls ks (along k.before k.vertex ms) in
    ⊎_elim (λ (t : moves_along k.before k.vertex ms ≡ true). let a = off_pass ks (along k.before k.vertex ms) in let b = off_moved k.before k.vertex ms t in omega arith)
    (λ (t : moves ks (along k.before k.vertex ms) ≡ true). let a = rest t in let b = off_along k.before k.vertex ms in omega arith)
    (or_either (moves_along k.before k.vertex ms) (moves ks (along k.before k.vertex ms)) e)

-- ---- walks
pub walk_none : {A : Type 0} (S : A → A → Type 0) (a : A) → Walk S a a
walk_none S a = record { path = []; steps = tt; ends = refl }

pub walk_step : {A : Type 0} (S : A → A → Type 0) (a b c : A) → S a b → Walk S b c → Walk S a c
walk_step S a b c s w = record { path = b ∷ w.path; steps = (s, w.steps); ends = w.ends }

pub walk_on : {A : Type 0} (S : A → A → Type 0) (a b c : A) → Walk S a b → Walk S b c → Walk S a c
walk_on {A} S a b c v w = by a v.path v.steps v.ends
  where
    by : (x : A) (path : List A) → Steps S x path → last_of x path ≡ b → Walk S x c
    by x [] steps e = subst (λ (y : A). Walk S y c) (sym e) w
    by x (y ∷ ys) steps e = walk_step S x y c steps.0 (by y ys steps.1 e)

-- ---- what is marked
module _ (all : List Known) (from : ℕ) where
  pass_leads : (ks : List Known) (ms : List Bool) → ((k : Known) → In k ks → In k all) → ((w : ℕ) → marked ms w ≡ true → Leads all from w) → (w : ℕ) → marked (pass ks ms) w ≡ true → Leads all from w
  pass_leads [] ms sub leads w e = leads w e
  pass_leads (k ∷ ks) ms sub leads w e = pass_leads ks (along k.before k.vertex ms) (λ x i. sub x (inr i)) next w e
    where
      next : (w : ℕ) → marked (along k.before k.vertex ms) w ≡ true → Leads all from w
      next w e =
          ⊎_elim (λ (h : marked ms w ≡ true). leads w h)
          (λ (h : (a : ℕ) × (k.before ≡ Some a) × (marked ms a ≡ true) × (w ≡ k.vertex)).
          let edge : Edge all h.0 w = record { known = k; among = sub k (inl refl); before = h.1; vertex = sym h.3 } in
          walk_on (Edge all) from h.0 w (leads h.0 h.2) (walk_step (Edge all) h.0 w w edge (walk_none (Edge all) w)))
          (along_told k.before k.vertex ms w e)

  passes_leads : (n : ℕ) (ms : List Bool) → ((w : ℕ) → marked ms w ≡ true → Leads all from w) → (w : ℕ) → marked (passes n all ms) w ≡ true → Leads all from w
  passes_leads zero ms leads w e = leads w e
  passes_leads (suc n) ms leads w e = pass_leads all (passes n all ms) (λ k i. i) (passes_leads n ms leads) w e

passes_keeps : (ks : List Known) (n : ℕ) (ms : List Bool) (w : ℕ) → marked ms w ≡ true → marked (passes n ks ms) w ≡ true
passes_keeps ks zero ms w e = e
passes_keeps ks (suc n) ms w e = pass_keeps ks (passes n ks ms) w (passes_keeps ks n ms w e)

pub length_passes : (ks : List Known) (n : ℕ) (ms : List Bool) → length (passes n ks ms) ≡ length ms
length_passes ks zero ms = refl
length_passes ks (suc n) ms = length_pass ks (passes n ks ms) ∙ length_passes ks n ms

not_moved : (o : Option ℕ) (v a : ℕ) (ms : List Bool) → moves_along o v ms ≡ false → o ≡ Some a → marked ms a ≡ true → unmarked ms v ≡ false
not_moved o v a ms e is on = by (marked ms a) (unmarked ms v) on (ap (λ (p : Option ℕ). moves_along p v ms) (sym is) ∙ e)
  where
    by : (x y : Bool) → x ≡ true → (x && y) ≡ false → y ≡ false
    by true y on e = e
    by false y on e = cc

still_closed : (ks : List Known) (ms : List Bool) → moves ks ms ≡ false → (k : Known) → In k ks → (a : ℕ) → k.before ≡ Some a → k.vertex < length ms → marked ms a ≡ true → marked ms k.vertex ≡ true
still_closed [] ms e k i a is lt on = absurd i
still_closed (x ∷ xs) ms e k i a is lt on =
    let parts = or_parts (moves_along x.before x.vertex ms) (moves xs (along x.before x.vertex ms)) e in
    let same = along_still x.before x.vertex ms parts.0 in
    let rest = still_closed xs ms (ap (moves xs) (sym same) ∙ parts.1) k in
    ⊎_elim (λ (h : k ≡ x). marked_if ms k.vertex lt (not_moved k.before k.vertex a ms (ap (λ (y : Known). moves_along y.before y.vertex ms) h ∙ parts.0) is on))
    (λ (j : In k xs). rest j a is lt on) i

-- ---- the marks of a vertex, carried until none moves, are those of what it leads to
pub reach_is : (ks : List Known) (from n : ℕ) (start ms : List Bool) → (ms ≡ passes n ks start) → moves ks ms ≡ false → marked start from ≡ true → ((w : ℕ) → marked start w ≡ true → w ≡ from)
    → ((k : Known) → In k ks → k.vertex < length start) → IsReach ks from ms
reach_is ks from n start ms is none here only below =
    record {
      here = ap (λ (x : List Bool). marked x from) is ∙ passes_keeps ks n start from here;
      leads = λ w e. passes_leads ks from n start (λ w e. subst (λ (v : ℕ). Leads ks from v) (sym (only w e)) (walk_none (Edge ks) from)) w (ap (λ (x : List Bool). marked x w) (sym is) ∙ e);
      closed = λ a b edge on.
          let b_is = edge.vertex in
          let lt : edge.known.vertex < length ms = let l = below edge.known edge.among in let s = ap length is in let t = length_passes ks n start in omega arith in
          ap (marked ms) (sym b_is) ∙ still_closed ks ms none edge.known edge.among a edge.before lt on;
    }

pub reached : (ks : List Known) (from to : ℕ) (ms : List Bool) → IsReach ks from ms → Leads ks from to → marked ms to ≡ true
reached ks from to ms r w = by from w.path w.steps w.ends r.here
  where
    by : (a : ℕ) (path : List ℕ) → Steps (Edge ks) a path → last_of a path ≡ to → marked ms a ≡ true → marked ms to ≡ true
    by a [] steps e on = ap (marked ms) (sym e) ∙ on
    by a (b ∷ bs) steps e on = by b bs steps.1 e (r.closed a b steps.0 on)

-- a list of false marks has none, and where one is set it alone
pub set_only : (ms : List Bool) (v w : ℕ) → ((u : ℕ) → marked ms u ≡ false) → marked (slice_set ms v true) w ≡ true → w ≡ v
set_only ms v w none e =
    ⊎_elim (λ (h : marked ms w ≡ true). absurd (let f = none w in cc)) (λ (h : w ≡ v). h) (set_told ms v w e)

-- ---- the steps of the loop that carries marks
pub smaller : (ks : List Known) (ms new : List Bool) (moved before : Bool) → moved ≡ moves ks ms → new ≡ pass ks ms → before ≡ true → off new + bit moved < off ms + bit before
smaller ks ms new moved before r is was =
    let one : bit before ≡ 1 = ap bit was in
    let count : off new ≡ off (pass ks ms) = ap off is in
    either moved
    (λ t. let less = falls ks ms (sym r ∙ t) in let b : bit moved ≡ 1 = ap bit t in omega arith)
    (λ f. let less = off_pass ks ms in let b : bit moved ≡ 0 = ap bit f in omega arith)

pub carried_on : (ks : List Known) (start ms new : List Bool) → new ≡ pass ks ms → (n : ℕ) × (ms ≡ passes n ks start) → (n : ℕ) × (new ≡ passes n ks start)
carried_on ks start ms new is before = (suc before.0, is ∙ ap (pass ks) before.1)

pub at_rest : (ks : List Known) (ms new : List Bool) (moved : Bool) → moved ≡ moves ks ms → new ≡ pass ks ms → moved ≡ false → moves ks new ≡ false
at_rest ks ms new moved r is f =
    let none = sym r ∙ f in
    ap (moves ks) (is ∙ still ks ms none) ∙ none

pub none_marked : (n v : ℕ) → marked (replicate n false) v ≡ false
none_marked zero v = refl
none_marked (suc n) zero = refl
none_marked (suc n) (suc v) = none_marked n v
