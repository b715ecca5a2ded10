-- Rooms in use and free: what is taken, what is given back, and what stays.
use Rattle.std.proofs.Common.{◌≡◌, ℕ, zero, suc, ◌+◌, ◌<◌, ◌≤◌, ◌==◌, nat_lt, List, [], ◌∷◌, ◌++◌, Bool, true, false, cond, length, get_or, set, refl, ap, ◌∙◌, arith, ltb-true}
use Rattle.std.specs.Prelude.{map as each}
use Rattle.std.specs.List.{filter, remove, sum_by}
use Rattle.std.proofs.lemmas.Bool.Decides.{nat_tests}
use Rattle.std.proofs.lemmas.Bool.{eq-eqb}
use Rattle.std.proofs.lemmas.List.{length-append, length-map, append-nil, map-append, get_or-set_other, get_or-set_same}
use Rattle.std.proofs.lemmas.List.Elements.{filter-append}
use Rattle.std.proofs.lemmas.List.Sums.{length-filter, sum_by-append, sum_by-cons, sum_by-remove}
use Rattle.rsvp_base.specs.declared.addr.Addr.{Addr}
use Rattle.network_flight.specs.Rooms.{AreApart, IsTaken, is_long, is_short, rooms_of, seen, times}
use Rattle.network_flight.specs.declared.flight.Parcel.{Parcel as Packed}

abbrev pub room_of : Packed → ℕ
room_of p = p.room

abbrev is : ℕ → ℕ → ℕ
is r x = cond (x == r) 1 0

times-push : (r x : ℕ) (xs : List ℕ) → times r (xs ++ x ∷ []) ≡ times r xs + is r x
times-push r x xs = let a = sum_by-append (is r) xs (x ∷ []) in let b = sum_by-cons (is r) x [] in omega (arith, a, b)

same : (r : ℕ) → is r r ≡ 1
same r = ap (λ b. cond b 1 0) (eq-eqb r r refl)

one_more : (k n : ℕ) → cond (nat_lt k n) 1 0 + is k n ≡ cond (nat_lt k (n + 1)) 1 0
one_more k n = by (nat_lt k n) refl (n == k) refl (nat_lt k (n + 1)) refl
  where
    by : (a : Bool) → nat_lt k n ≡ a → (b : Bool) → (n == k) ≡ b → (c : Bool) → nat_lt k (n + 1) ≡ c → cond (nat_lt k n) 1 0 + cond (n == k) 1 0 ≡ cond (nat_lt k (n + 1)) 1 0
    by a ea b eb c ec = grind (arith, nat_tests)

-- ---- a room is taken
pub a_free_one : (r : ℕ) (free : List ℕ) (rooms : List (List ℕ)) → IsTaken r (free ++ r ∷ []) free rooms rooms
a_free_one r free rooms = record {
  apart = λ used h. record {
    once = λ k. (let a = times-push k r used in let b = times-push k r free in let c = h.once k in omega (arith, a, b, c));
    all = (let a = length-append used (r ∷ []) in let b = length-append free (r ∷ []) in let c = h.all in omega (arith, a, b, c));
  };
  others = λ k other. refl;
}

-- behind the last room there are no bytes, as in a new one
behind : (rooms : List (List ℕ)) (k : ℕ) → get_or (rooms ++ [] ∷ []) k [] ≡ get_or rooms k []
behind [] zero = refl
behind [] (suc k) = refl
behind (x ∷ rooms) zero = refl
behind (x ∷ rooms) (suc k) = behind rooms k

pub a_new_one : (rooms : List (List ℕ)) → IsTaken (length rooms) [] [] rooms (rooms ++ [] ∷ [])
a_new_one rooms = record {
  apart = λ used h. (
      let long : length (rooms ++ [] ∷ []) ≡ length rooms + 1 = (let a = length-append rooms ([] ∷ []) in omega (arith, a)) in
      record {
        once = λ k. (
            let a = times-push k (length rooms) used in
            let b = h.once k in
            let c = one_more k (length rooms) in
            let d = ap {B = ℕ} (λ n. cond (nat_lt k n) 1 0) long in
            omega (arith, a, b, c, d));
        all = (let a = length-append used (length rooms ∷ []) in let b = h.all in omega (arith, a, b, long));
      });
  others = λ k other. behind rooms k;
}

pub new_taken : (r : ℕ) (free left : List ℕ) (rooms made : List (List ℕ)) (x : List ℕ) → r ≡ length rooms → free ≡ [] → left ≡ []
    → made ≡ rooms ++ x ∷ [] → x ≡ [] → IsTaken r free left rooms made
new_taken r free left rooms made x er ef el em ex = rw (er, ef, el, em, ex) (a_new_one rooms)

pub nothing : {A : Type 0} (xs : List A) → length xs ≡ 0 → xs ≡ []
nothing [] e = refl
nothing (x ∷ xs) e = absurd (omega (arith, e))

below : (r made : ℕ) (b : Bool) → nat_lt r made ≡ b → 1 ≤ cond b 1 0 → r < made
below r made true e le = ltb-true r made e
below r made false e le = absurd (omega (arith, le))

-- the room that is in use behind others is none of theirs, and was made
pub last_alone : (r : ℕ) (used free : List ℕ) (made : ℕ) → AreApart (used ++ r ∷ []) free made → (times r used ≡ 0) × (r < made)
last_alone r used free made h =
    let a = times-push r r used in
    let b = h.once r in
    let c = same r in
    (by (nat_lt r made) (omega (arith, a, b, c)), below r made (nat_lt r made) refl (omega (arith, a, b, c)))
  where
    by : (t : Bool) → suc (times r used) ≤ cond t 1 0 → times r used ≡ 0
    by true le = omega (arith, le)
    by false le = absurd (omega (arith, le))

-- a room that was taken is given back at once
pub put_back : (r : ℕ) (used free : List ℕ) (made : ℕ) → AreApart (used ++ r ∷ []) free made → AreApart used (free ++ r ∷ []) made
put_back r used free made h = record {
  once = λ k. (let a = times-push k r used in let b = times-push k r free in let c = h.once k in omega (arith, a, b, c));
  all = (let a = length-append used (r ∷ []) in let b = length-append free (r ∷ []) in let c = h.all in omega (arith, a, b, c));
}

-- ---- the rooms of one size
-- how often a room of the size is that of a datagram
abbrev pub weight : (Packed → Bool) → ℕ → Packed → ℕ
weight size r p = cond (size p) (is r p.room) 0

abbrev pub one : (Packed → Bool) → Packed → ℕ
one size p = cond (size p) 1 0

times-cons : (size : Packed → Bool) (r : ℕ) (p : Packed) (q : List Packed) → times r (rooms_of size (p ∷ q)) ≡ weight size r p + times r (rooms_of size q)
times-cons size r p q = by (size p) refl
  where
    by : (b : Bool) → size p ≡ b → times r (rooms_of size (p ∷ q)) ≡ weight size r p + times r (rooms_of size q)
    by true e = rw e (sum_by-cons (is r) p.room (rooms_of size q))
    by false e = (
        let none : times r (rooms_of size (p ∷ q)) ≡ times r (rooms_of size q) = rw e refl in
        let w : weight size r p ≡ 0 = rw e refl in
        omega (arith, none, w))

times-of : (size : Packed → Bool) (r : ℕ) (q : List Packed) → times r (rooms_of size q) ≡ sum_by (weight size r) q
times-of size r [] = refl
times-of size r (p ∷ q) = let a = times-cons size r p q in let b = times-of size r q in let c = sum_by-cons (weight size r) p q in omega (arith, a, b, c)

length-of : (size : Packed → Bool) (q : List Packed) → length (rooms_of size q) ≡ sum_by (one size) q
length-of size q = length-map (filter size q) room_of ∙ length-filter size q

few_of : (size : Packed → Bool) (q : List Packed) → length (rooms_of size q) ≤ length q
few_of size [] = omega arith
few_of size (p ∷ q) = by (size p) refl (few_of size q)
  where
    by : (b : Bool) → size p ≡ b → length (rooms_of size q) ≤ length q → length (rooms_of size (p ∷ q)) ≤ suc (length q)
    by true e h = rw e (omega (arith, h))
    by false e h = rw e (omega (arith, h))

-- there is a free room, or one may be made
pub is_spare : (size : Packed → Bool) (q : List Packed) (free : List ℕ) (made : ℕ) → AreApart (rooms_of size q) free made → length q < 8192 → made < 8192 + length free
is_spare size q free made h few = let a = few_of size q in let b = h.all in omega (arith, a, b, few)

pub put_in : (size : Packed → Bool) (q : List Packed) (p : Packed) → size p ≡ true → rooms_of size (q ++ p ∷ []) ≡ rooms_of size q ++ p.room ∷ []
put_in size q p e =
    let kept : filter size (p ∷ []) ≡ p ∷ [] = rw e refl in
    ap (each room_of) (filter-append size q (p ∷ []) ∙ ap (λ xs. filter size q ++ xs) kept) ∙ map-append room_of (filter size q) (p ∷ [])

pub put_elsewhere : (size : Packed → Bool) (q : List Packed) (p : Packed) → size p ≡ false → rooms_of size (q ++ p ∷ []) ≡ rooms_of size q
put_elsewhere size q p e =
    let kept : filter size (p ∷ []) ≡ [] = rw e refl in
    ap (each room_of) (filter-append size q (p ∷ []) ∙ ap (λ xs. filter size q ++ xs) kept ∙ append-nil (filter size q))

-- the room of a datagram was made
pub room_made : (size : Packed → Bool) (q : List Packed) (free : List ℕ) (made i : ℕ) (p : Packed)
    → AreApart (rooms_of size q) free made → i < length q → get_or q i p ≡ p → size p ≡ true → p.room < made
room_made size q free made i p h lt there its =
    let a = times-of size p.room q in
    let b = sum_by-remove (weight size p.room) q i p lt in
    let w : weight size p.room (get_or q i p) ≡ 1 = ap (weight size p.room) there ∙ (rw its (same p.room)) in
    let c = h.once p.room in
    below p.room made (nat_lt p.room made) refl (omega (arith, a, b, w, c))

-- while a datagram is in one, fewer are free than were made
pub few_left : (size : Packed → Bool) (q : List Packed) (free : List ℕ) (made i : ℕ) (p : Packed)
    → AreApart (rooms_of size q) free made → i < length q → get_or q i p ≡ p → size p ≡ true → length free < made
few_left size q free made i p h lt there its =
    let a = length-of size q in
    let b = sum_by-remove (one size) q i p lt in
    let w : one size (get_or q i p) ≡ 1 = ap (one size) there ∙ (rw its refl) in
    let c = h.all in
    omega (arith, a, b, w, c)

-- ---- a room is given back
module _ (size : Packed → Bool) (q : List Packed) (free : List ℕ) (made i : ℕ) (p : Packed) (h : AreApart (rooms_of size q) free made) (lt : i < length q) (there : get_or q i p ≡ p) where
  pub taken_out : size p ≡ true → AreApart (rooms_of size (remove q i)) (free ++ p.room ∷ []) made
  taken_out its = record {
    once = λ k. (
        let a = times-of size k q in
        let b = times-of size k (remove q i) in
        let c = sum_by-remove (weight size k) q i p lt in
        let w : weight size k (get_or q i p) ≡ is k p.room = ap (weight size k) there ∙ (rw its refl) in
        let d = times-push k p.room free in
        let e = h.once k in
        omega (arith, a, b, c, w, d, e));
    all = (
        let a = length-of size q in
        let b = length-of size (remove q i) in
        let c = sum_by-remove (one size) q i p lt in
        let w : one size (get_or q i p) ≡ 1 = ap (one size) there ∙ (rw its refl) in
        let d = length-append free (p.room ∷ []) in
        let e = h.all in
        omega (arith, a, b, c, w, d, e));
  }

  pub taken_elsewhere : size p ≡ false → AreApart (rooms_of size (remove q i)) free made
  taken_elsewhere other = record {
    once = λ k. (
        let a = times-of size k q in
        let b = times-of size k (remove q i) in
        let c = sum_by-remove (weight size k) q i p lt in
        let w : weight size k (get_or q i p) ≡ 0 = ap (weight size k) there ∙ (rw other refl) in
        let e = h.once k in
        omega (arith, a, b, c, w, e));
    all = (
        let a = length-of size q in
        let b = length-of size (remove q i) in
        let c = sum_by-remove (one size) q i p lt in
        let w : one size (get_or q i p) ≡ 0 = ap (one size) there ∙ (rw other refl) in
        let e = h.all in
        omega (arith, a, b, c, w, e));
  }

-- ---- what is seen of datagrams elsewhere stays
-- the bytes in each room in use stay where another is taken and written
pub kept : (r : ℕ) (used free left : List ℕ) (rooms made : List (List ℕ)) (bytes : List ℕ) → IsTaken r free left rooms made → AreApart used free (length rooms)
    → (k : ℕ) → 1 ≤ times k used → get_or (set made r bytes) k [] ≡ get_or rooms k []
kept r used free left rooms made bytes taken h k le =
    let alone = last_alone r used left (length made) (taken.apart used h) in
    let other : k ≡ r → ⊥ = (λ e. let z = ap {B = ℕ} (λ x. times x used) e in absurd (omega (arith, z, le, alone.0))) in
    get_or-set_other made r k bytes [] other ∙ taken.others k other

pub all_stay : (short short2 long long2 : List (List ℕ)) (q : List Packed) → ((k : ℕ) → 1 ≤ times k (rooms_of is_short q) → get_or short2 k [] ≡ get_or short k [])
    → ((k : ℕ) → 1 ≤ times k (rooms_of is_long q) → get_or long2 k [] ≡ get_or long k []) → each (seen short2 long2) q ≡ each (seen short long) q
all_stay short short2 long long2 [] shorts longs = refl
all_stay short short2 long long2 (p ∷ q) shorts longs =
    let here : seen short2 long2 p ≡ seen short long p = ap (λ bytes. record { end = p.end; dst = p.dst; bytes = bytes }) (by p.long refl) in
    let rest = all_stay short short2 long long2 q (λ k le. shorts k (let a = times-cons is_short k p q in omega (arith, a, le))) (λ k le. longs k (let a = times-cons is_long k p q in omega (arith, a, le))) in
    λ i. here i ∷ rest i
  where
    by : (b : Bool) → p.long ≡ b → get_or (cond p.long long2 short2) p.room [] ≡ get_or (cond p.long long short) p.room []
    by true e =
        let a = times-cons is_long p.room p q in
        let w : weight is_long p.room p ≡ 1 = rw e (same p.room) in
        rw e (longs p.room (omega (arith, a, w)))
    by false e =
        let a = times-cons is_short p.room p q in
        let w : weight is_short p.room p ≡ 1 = rw e (same p.room) in
        rw e (shorts p.room (omega (arith, a, w)))

-- a datagram that is put behind the others, with its bytes in the room that was taken
pub put_behind_short : (q : List Packed) (end : ℕ) (dst : Addr) (r : ℕ) (rooms made long : List (List ℕ)) (free left : List ℕ) (bytes : List ℕ) → IsTaken r free left rooms made
    → AreApart (rooms_of is_short q) free (length rooms)
    → each (seen (set made r bytes) long) (q ++ record { end = end; dst = dst; room = r; long = false } ∷ []) ≡ each (seen rooms long) q ++ record { end = end; dst = dst; bytes = bytes } ∷ []
put_behind_short q end dst r rooms made long free left bytes taken h =
    let alone = last_alone r (rooms_of is_short q) left (length made) (taken.apart (rooms_of is_short q) h) in
    let others = all_stay rooms (set made r bytes) long long q (kept r (rooms_of is_short q) free left rooms made bytes taken h) (λ k le. refl) in
    let here = get_or-set_same made r bytes [] alone.1 in
    map-append (seen (set made r bytes) long) q (record { end = end; dst = dst; room = r; long = false } ∷ [])
    ∙ (λ i. others i ++ record { end = end; dst = dst; bytes = here i } ∷ [])

pub put_behind_long : (q : List Packed) (end : ℕ) (dst : Addr) (r : ℕ) (rooms made short : List (List ℕ)) (free left : List ℕ) (bytes : List ℕ) → IsTaken r free left rooms made
    → AreApart (rooms_of is_long q) free (length rooms)
    → each (seen short (set made r bytes)) (q ++ record { end = end; dst = dst; room = r; long = true } ∷ []) ≡ each (seen short rooms) q ++ record { end = end; dst = dst; bytes = bytes } ∷ []
put_behind_long q end dst r rooms made short free left bytes taken h =
    let alone = last_alone r (rooms_of is_long q) left (length made) (taken.apart (rooms_of is_long q) h) in
    let others = all_stay short short rooms (set made r bytes) q (λ k le. refl) (kept r (rooms_of is_long q) free left rooms made bytes taken h) in
    let here = get_or-set_same made r bytes [] alone.1 in
    map-append (seen short (set made r bytes)) q (record { end = end; dst = dst; room = r; long = true } ∷ [])
    ∙ (λ i. others i ++ record { end = end; dst = dst; bytes = here i } ∷ [])

-- the room of a datagram was made, whatever its size
pub made_of : (q : List Packed) (short long : List (List ℕ)) (free_short free_long : List ℕ) (i : ℕ) (p : Packed)
    → AreApart (rooms_of is_short q) free_short (length short) → AreApart (rooms_of is_long q) free_long (length long)
    → i < length q → get_or q i p ≡ p → p.room < length (cond p.long long short)
made_of q short long free_short free_long i p hs hl lt there = by p.long refl
  where
    by : (b : Bool) → p.long ≡ b → p.room < length (cond p.long long short)
    by true e = rw e (room_made is_long q free_long (length long) i p hl lt there e)
    by false e = (let s : is_short p ≡ true = rw e refl in rw e (room_made is_short q free_short (length short) i p hs lt there s))
