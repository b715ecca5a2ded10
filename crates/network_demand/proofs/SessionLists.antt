-- Lists of sessions, each once.
use Rattle.std.specs.Prelude.{◌≡◌, ◌↔◌, ℕ, ◌+◌, ◌<◌, ◌≤◌, true, List, [], ◌∷◌, ◌++◌, map as each, length, Option, None, Some, is_some, refl, slice_index_or}
use Rattle.std.specs.List.{All}
use Rattle.std.proofs.Common.{sym, ap, subst, ◌∙◌, inl, inr, ⊎_elim, take, drop, arith}
use Rattle.std.proofs.Math.Seq.{take-length}
use Rattle.std.proofs.lemmas.List.{length-map, map-append, take-append-drop}
use Rattle.rsvp_base.specs.Members.{In}
use Rattle.rsvp_base.specs.Orders.{sessions}
use Rattle.rsvp_base.specs.Sets.{set_of}
use Rattle.rsvp_base.specs.Table.{get, keys, size}
use Rattle.rsvp_base.specs.declared.session.Session.{Session}
use Rattle.rsvp_base.proofs.Counts.{found_in, in_set_of, set_below, size-set_of}
use Rattle.rsvp_base.proofs.Members.{in_left, in_append, in_each, to_each}
use Rattle.tree_model.specs.Chains.{NoRepeats}
use Rattle.tree_model.proofs.Counts.{not_longer}
use Rattle.network_demand.proofs.AllowedLaws.{all_in, in_all}
use Rattle.network_demand.proofs.Inside.{index_in}
use Rattle.network_demand.proofs.Pools.{take_more}

pub among_already : {X : Type 0} (xs : List X) (y : X) → In y xs → (s : X) → In s xs ↔ In s (xs ++ y ∷ [])
among_already {X} xs y i s = (
  λ j. in_left s xs (y ∷ []) j,
  λ j. ⊎_elim (λ (k : In s xs). k)
      (λ (k : In s (y ∷ [])). ⊎_elim (λ (e : s ≡ y). subst (λ (x : X). In x xs) (sym e) i) (λ (n : ⊥). absurd n) k) (in_append s xs (y ∷ []) j),
)

pub once_push : {X : Type 0} (xs : List X) (y : X) → NoRepeats xs → (In y xs → ⊥) → NoRepeats (xs ++ y ∷ [])
once_push [] y once new = (λ i. i, tt)
once_push {X} (x ∷ xs) y once new =
    (λ i. ⊎_elim (λ (j : In x xs). once.0 j) (λ (j : In x (y ∷ [])). ⊎_elim (λ (e : x ≡ y). new (inl (sym e))) (λ (n : ⊥). n) j) (in_append x xs (y ∷ []) i), once_push xs y once.1 (λ j. new (inr j)))

pub one_more_of : {W X : Type 0} (f : W → X) (old new : List X) (ws : List W) (i : ℕ) (d w : W) → i < length ws → w ≡ slice_index_or ws i d → ((s : X) → In s old ↔ In s (each f (take i ws)))
    → ((s : X) → In s new ↔ In s (old ++ f w ∷ [])) → (s : X) → In s new ↔ In s (each f (take (i + 1) ws))
one_more_of {W} {X} f old new ws i d w lt is same more s = (
  λ j. subst (λ (xs : List X). In s xs) (sym list) (⊎_elim (λ (k : In s old). in_left s (each f (take i ws)) (f w ∷ []) ((same s).0 k)) (λ (k : In s (f w ∷ [])). at_end k)
      (in_append s old (f w ∷ []) ((more s).0 j))),
  λ j. (more s).1 (⊎_elim (λ (k : In s (each f (take i ws))). in_left s old (f w ∷ []) ((same s).1 k)) (λ (k : In s (f w ∷ [])). at_end_of k)
      (in_append s (each f (take i ws)) (f w ∷ []) (subst (λ (xs : List X). In s xs) list j))),
)
  where
    list : each f (take (i + 1) ws) ≡ each f (take i ws) ++ f w ∷ []
    list = ap (each f) (take_more ws i d w lt is) ∙ map-append f (take i ws) (w ∷ [])

    put_last : (xs : List X) → In s (f w ∷ []) → In s (xs ++ f w ∷ [])
    put_last [] k = k
    put_last (x ∷ xs) k = inr (put_last xs k)

    at_end : In s (f w ∷ []) → In s (each f (take i ws) ++ f w ∷ [])
    at_end k = put_last (each f (take i ws)) k

    at_end_of : In s (f w ∷ []) → In s (old ++ f w ∷ [])
    at_end_of k = put_last old k

pub all_more : {X : Type 0} (P : X → Type 0) (xs : List X) (i : ℕ) (d : X) → i < length xs → All P (take i xs) → P (slice_index_or xs i d) → All P (take (i + 1) xs)
all_more {X} P xs i d lt all p =
    in_all P (take (i + 1) xs)
    (λ x j. ⊎_elim (λ (k : In x (take i xs)). all_in P (take i xs) all x k) (λ (k : In x (slice_index_or xs i d ∷ [])). ⊎_elim (λ (e : x ≡ slice_index_or xs i d). subst P (sym e) p)
    (λ (n : ⊥). absurd n) k)
    (in_append x (take i xs) (slice_index_or xs i d ∷ []) (subst (λ (ys : List X). In x ys) (take_more xs i d (slice_index_or xs i d) lt (λ k. slice_index_or xs i d)) j)))

pub taken_all : {X : Type 0} (xs : List X) (i : ℕ) → length xs ≤ i → i ≤ length xs → take i xs ≡ xs
taken_all xs i a b = ap (λ k. take k xs) (let e : i ≡ length xs = omega arith in e) ∙ take-length xs

-- ---- the sessions of wants one by one
pub named_there : {W X : Type 0} (f : W → X) (ws : List W) (i : ℕ) (d w : W) (s : X) → i < length ws → w ≡ slice_index_or ws i d → s ≡ f w → In s (each f ws)
named_there {W} {X} f ws i d w s lt is e = subst (λ (x : X). In x (each f ws)) (sym (e ∙ ap f is)) (to_each f (slice_index_or ws i d) ws (index_in ws i d lt))

pub named_before : {W X : Type 0} (f : W → X) (ws : List W) (i : ℕ) (s : X) → In s (each f (take i ws)) → In s (each f ws)
named_before {W} {X} f ws i s j =
    let r = in_each f s (take i ws) j in
    subst (λ (x : X). In x (each f ws)) (sym r.2) (to_each f r.0 ws (subst (λ (ys : List W). In r.0 ys) (take-append-drop i ws) (in_left r.0 (take i ws) (drop i ws) r.1)))

-- ---- how many sessions there are
some_nothing : (w : Option (Unit {0})) → is_some w ≡ true → w ≡ Some tt
some_nothing None e = cc
some_nothing (Some u) e = refl

in_its_keys : (xs : List Session) (s : Session) → In s xs → In s (keys (set_of {o = sessions} xs))
in_its_keys xs s i =
    let m = set_of {o = sessions} xs in
    to_each (λ (e : Session × Unit {0}). e.0) (s, tt) m.rows (found_in sessions m s tt (some_nothing (get m s) (in_set_of sessions xs s i)))

-- all are among few
pub few_told : (xs found : List Session) → ((s : Session) → In s xs → In s found) → length found ≤ 32 → size (set_of {o = sessions} xs) ≤ 32
few_told xs found f few = let less = set_below sessions xs found f in let all = size-set_of sessions found in omega arith

-- 32 others and this one are among them
pub many_told : (xs found : List Session) (s : Session) → NoRepeats found → (In s found → ⊥) → In s xs → ((z : Session) → In z found → In z xs) → length found ≡ 32
    → size (set_of {o = sessions} xs) ≤ 32 → ⊥
many_told xs found s once new there sub full few =
    let m = set_of {o = sessions} xs in
    let less = not_longer (s ∷ found) (keys m) (new, once) (λ z i. in_its_keys xs z (⊎_elim (λ (e : z ≡ s). subst (λ (y : Session). In y xs) (sym e) there) (λ (j : In z found). sub z j) i)) in
    let all = length-map m.rows (λ e. e.0) in
    omega arith
