-- The links after a slot was put into an order, and taken out of it.
use Rattle.std.proofs.Common.{◌≡◌, ◌<◌, ◌≤◌, ◌+◌, ◌-◌, ℕ, zero, suc, cond, Option, Some, List, [], ◌∷◌, length, set, get_or, drop, map as each, refl, sym, ap, ◌∙◌, subst, arith, inl, inr}
use Rattle.std.specs.Prelude.{nat_eq, nat_le, slice_get}
use Rattle.std.specs.List.{insert, remove}
use Rattle.std.proofs.lemmas.Bool.{cases_lt, cases_eq, eq-eqb, ne_eqb, le-leb, lt-leb}
use Rattle.std.proofs.lemmas.List.{get_or_default, get_or-set_same, get_or-set_other, length-set, length-map}
use Rattle.std.proofs.lemmas.List.Edits.{length-insert, get_or-insert_below, get_or-insert_at, get_or-insert_above, length-remove, get_or-remove_below, get_or-remove_above}
use Rattle.std.proofs.lemmas.Option.{slice_get_within}
use Rattle.soft_table.specs.Ring.{IsRing, IsOrder, Has, at, numbers, walked, slot_of, number_of}

here : (xs : List ℕ) (i j a : ℕ) → i < length xs → j ≡ i → at (set xs i a) j ≡ a
here xs i j a lt e = subst (λ j. at (set xs i a) j ≡ a) (sym e) (get_or-set_same xs i a 0 lt)

other : (xs : List ℕ) (i j a : ℕ) → (j ≡ i → ⊥) → at (set xs i a) j ≡ at xs j
other xs i j a ne = get_or-set_other xs i j a 0 ne

-- nothing stands at the end
past : (xs : List ℕ) (i : ℕ) → length xs ≤ i → at xs i ≡ 0
past [] i le = refl
past (x ∷ xs) zero le = absurd (omega (arith, le))
past (x ∷ xs) (suc i) le = past xs i (omega (arith, le))

-- below a place, at it, or behind it
by_place : (P : Type 0) (j i : ℕ) → (j < i → P) → (j ≡ i → P) → (i < j → P) → P
by_place P j i below same above = elim (cases_lt j i) [
  | inl lt ↦ below lt
  | inr le ↦ elim (cases_eq j i) [
    | inl e ↦ same e
    | inr ne ↦ above (omega (arith, le, ne))
  ]
]

module _ (zs next prev : List ℕ) (r : IsRing zs next prev) where
  -- numbers at two places differ
  apart : (a b : ℕ) → a < length zs → b < length zs → (a ≡ b → ⊥) → at zs a ≡ at zs b → ⊥
  apart a b la lb ne e = ne (sym (r.places a la) ∙ ap r.place e ∙ r.places b lb)

  -- also where the number 0 is taken to stand behind the last, and not before the first
  apart_behind : (a b : ℕ) → 1 ≤ a → a ≤ length zs → 1 ≤ b → b ≤ length zs → (a ≡ b → ⊥) → at zs a ≡ at zs b → ⊥
  apart_behind a b sa la sb lb ne e = elim (cases_lt a (length zs)) [
    | inl in_a ↦ elim (cases_lt b (length zs)) [
      | inl in_b ↦ apart a b in_a in_b ne e
      | inr out_b ↦ apart a 0 in_a r.some (λ z. omega (arith, z, sa)) (e ∙ past zs b out_b ∙ sym r.first)
    ]
    | inr out_a ↦ elim (cases_lt b (length zs)) [
      | inl in_b ↦ apart b 0 in_b r.some (λ z. omega (arith, z, sb)) (sym e ∙ past zs a out_a ∙ sym r.first)
      | inr out_b ↦ ne (omega (arith, la, lb, out_a, out_b))
    ]
  ]

  -- what holds of each number holds of the one at the end
  at_end : (P : ℕ → Type 0) → ((j : ℕ) → j < length zs → P (at zs j)) → (a : ℕ) → a ≤ length zs → P (at zs a)
  at_end P each_one a le = elim (cases_lt a (length zs)) [
    | inl lt ↦ each_one a lt
    | inr out ↦ subst P (r.first ∙ sym (past zs a out)) (each_one 0 r.some)
  ]

  prev_at : (a : ℕ) → 1 ≤ a → a ≤ length zs → at prev (at zs a) ≡ at zs (a - 1)
  prev_at a sa la = let e : a ≡ a - 1 + 1 = omega (arith, sa) in ap (λ k. at prev (at zs k)) e ∙ r.prevs (a - 1) (omega (arith, sa, la))

  -- one more number between that at a place and the next
  pub inserted : (i x p q : ℕ) → i < length zs → x < length next → x < length prev → ((j : ℕ) → j < length zs → at zs j ≡ x → ⊥) → p ≡ at zs i → q ≡ at zs (i + 1)
      → IsRing (insert zs (i + 1) x) (set (set next p x) x q) (set (set prev q x) x p)
  inserted i x p q lt x_next x_prev fresh p_is q_is =
      let ws : List ℕ = insert zs (i + 1) x in
      let le : i + 1 ≤ length zs = omega (arith, lt) in
      let size : length ws ≡ length zs + 1 = length-insert zs (i + 1) x le in
      let below : (j : ℕ) → j ≤ i → at ws j ≡ at zs j = λ j l. get_or-insert_below zs (i + 1) x 0 j (omega (arith, l)) le in
      let mid : (j : ℕ) → j ≡ i + 1 → at ws j ≡ x = λ j e. ap (at ws) e ∙ get_or-insert_at zs (i + 1) x 0 le in
      let above : (j k : ℕ) → j ≡ k + 1 → i + 1 ≤ k → at ws j ≡ at zs k = λ j k e l. ap (at ws) e ∙ get_or-insert_above zs (i + 1) x 0 k l le in
      let not_x : (j : ℕ) → j ≤ length zs → at zs j ≡ x → ⊥ = λ j l. at_end (λ y. y ≡ x → ⊥) fresh j l in
      let p_next : p < length next = omega (arith, p_is, r.in_next i lt) in
      let q_prev : q < length prev = let z = at_end (λ y. y < length prev) r.in_prev (i + 1) le in omega (arith, q_is, z) in
      let x_next2 : x < length (set next p x) = omega (arith, x_next, length-set next p x) in
      let x_prev2 : x < length (set prev q x) = omega (arith, x_prev, length-set prev q x) in
      let q_x : q ≡ x → ⊥ = λ e. not_x (i + 1) le (sym q_is ∙ e) in
      let p_x : p ≡ x → ⊥ = λ e. not_x i (omega (arith, lt)) (sym p_is ∙ e) in
      let next_same : (y : ℕ) → (y ≡ x → ⊥) → (y ≡ p → ⊥) → at (set (set next p x) x q) y ≡ at next y = λ y nx np. other (set next p x) x y q nx ∙ other next p y x np in
      let prev_same : (y : ℕ) → (y ≡ x → ⊥) → (y ≡ q → ⊥) → at (set (set prev q x) x p) y ≡ at prev y = λ y nx nq. other (set prev q x) x y p nx ∙ other prev q y x nq in
      let up : ℕ → ℕ = λ y. cond (nat_eq y x) (i + 1) (cond (nat_le (r.place y) i) (r.place y) (r.place y + 1)) in
      let up_old : (y : ℕ) → (y ≡ x → ⊥) → up y ≡ cond (nat_le (r.place y) i) (r.place y) (r.place y + 1) =
      λ y ne. ap (λ b. cond b (i + 1) (cond (nat_le (r.place y) i) (r.place y) (r.place y + 1))) (ne_eqb y x ne) in
      let up_low : (y : ℕ) → r.place y ≤ i → (y ≡ x → ⊥) → up y ≡ r.place y = λ y l ne. up_old y ne ∙ ap (λ b. cond b (r.place y) (r.place y + 1)) (le-leb (r.place y) i l) in
      let up_high : (y : ℕ) → i < r.place y → (y ≡ x → ⊥) → up y ≡ r.place y + 1 = λ y l ne. up_old y ne ∙ ap (λ b. cond b (r.place y) (r.place y + 1)) (lt-leb (r.place y) i l) in
      record {
        some = omega (arith, size);
        first = below 0 (omega arith) ∙ r.first;
        nexts = λ j less. by_place (at (set (set next p x) x q) (at ws j) ≡ at ws (j + 1)) j (i + 1)
            (λ low. by_place (at (set (set next p x) x q) (at ws j) ≡ at ws (j + 1)) j i
            (λ lower. let y = below j (omega (arith, low)) in
            ap (at (set (set next p x) x q)) y ∙ next_same (at zs j) (fresh j (omega (arith, lower, lt))) (λ e. apart j i (omega (arith, lower, lt)) lt (λ e. omega (arith, e, lower)) (e ∙ p_is))
            ∙ r.nexts j (omega (arith, lower, lt)) ∙ sym (below (j + 1) (omega (arith, lower))))
            (λ e. let y : at ws j ≡ p = below j (omega (arith, low)) ∙ ap (at zs) e ∙ sym p_is in
            ap (at (set (set next p x) x q)) y ∙ other (set next p x) x p q p_x ∙ here next p p x p_next refl ∙ sym (mid (j + 1) (omega (arith, e))))
            (λ high. absurd (omega (arith, high, low))))
            (λ e. ap (at (set (set next p x) x q)) (mid j e) ∙ here (set next p x) x x q x_next2 refl ∙ q_is ∙ sym (above (j + 1) (i + 1) (omega (arith, e)) (omega arith)))
            (λ high. let k : ℕ = j - 1 in let is : j ≡ k + 1 = omega (arith, high) in let in_ : k < length zs = omega (arith, less, size, high) in
            ap (at (set (set next p x) x q)) (above j k is (omega (arith, high))) ∙ next_same (at zs k) (fresh k in_) (λ e. apart k i in_ lt (λ e. omega (arith, e, high)) (e ∙ p_is)) ∙ r.nexts k in_
            ∙ sym (above (j + 1) (k + 1) (omega (arith, is)) (omega (arith, high))));
        prevs = λ j less. by_place (at (set (set prev q x) x p) (at ws (j + 1)) ≡ at ws j) j (i + 1)
            (λ low. by_place (at (set (set prev q x) x p) (at ws (j + 1)) ≡ at ws j) j i
            (λ lower. let in_ : j < length zs = omega (arith, lower, lt) in
            ap (at (set (set prev q x) x p)) (below (j + 1) (omega (arith, lower))) ∙ prev_same (at zs (j + 1)) (not_x (j + 1) (omega (arith, in_)))
            (λ e. apart_behind (j + 1) (i + 1) (omega arith) (omega (arith, in_)) (omega arith) le (λ e. omega (arith, e, lower)) (e ∙ q_is)) ∙ r.prevs j in_
            ∙ sym (below j (omega (arith, lower))))
            (λ e. ap (at (set (set prev q x) x p)) (mid (j + 1) (omega (arith, e))) ∙ here (set prev q x) x x p x_prev2 refl ∙ p_is ∙ ap (at zs) (sym e) ∙ sym (below j (omega (arith, e))))
            (λ high. absurd (omega (arith, high, low))))
            (λ e. let y : at ws (j + 1) ≡ q = above (j + 1) (i + 1) (omega (arith, e)) (omega arith) ∙ sym q_is in
            ap (at (set (set prev q x) x p)) y ∙ other (set prev q x) x q p q_x ∙ here prev q q x q_prev refl ∙ sym (mid j e))
            (λ high. let k : ℕ = j - 1 in let is : j ≡ k + 1 = omega (arith, high) in let in_ : k < length zs = omega (arith, less, size, high) in
            ap (at (set (set prev q x) x p)) (above (j + 1) (k + 1) (omega (arith, is)) (omega (arith, high)))
            ∙ prev_same (at zs (k + 1)) (not_x (k + 1) (omega (arith, in_))) (λ e. apart_behind (k + 1) (i + 1) (omega arith) (omega (arith, in_)) (omega arith) le (λ e. omega (arith, e, is, high))
            (e ∙ q_is)) ∙ r.prevs k in_ ∙ sym (above j k is (omega (arith, high))));
        place = up;
        places = λ j less. by_place (up (at ws j) ≡ j) j (i + 1)
            (λ low. let in_ : j < length zs = omega (arith, low, lt) in let pl = r.places j in_ in ap up (below j (omega (arith, low))) ∙ up_low (at zs j) (omega (arith, pl, low)) (fresh j in_) ∙ pl)
            (λ e. ap up (mid j e) ∙ ap (λ b. cond b (i + 1) (cond (nat_le (r.place x) i) (r.place x) (r.place x + 1))) (eq-eqb x x refl) ∙ sym e)
            (λ high. let k : ℕ = j - 1 in let is : j ≡ k + 1 = omega (arith, high) in let in_ : k < length zs = omega (arith, less, size, high) in let pl = r.places k in_ in
            ap up (above j k is (omega (arith, high))) ∙ up_high (at zs k) (omega (arith, pl, high)) (fresh k in_) ∙ omega (arith, pl, is));
        in_next = λ j less. let len : length (set (set next p x) x q) ≡ length next = length-set (set next p x) x q ∙ length-set next p x in
            by_place (at ws j < length (set (set next p x) x q)) j (i + 1)
            (λ low. omega (arith, len, below j (omega (arith, low)), r.in_next j (omega (arith, low, lt))))
            (λ e. omega (arith, len, mid j e, x_next))
            (λ high. let k : ℕ = j - 1 in omega (arith, len, above j k (omega (arith, high)) (omega (arith, high)), r.in_next k (omega (arith, less, size, high))));
        in_prev = λ j less. let len : length (set (set prev q x) x p) ≡ length prev = length-set (set prev q x) x p ∙ length-set prev q x in
            by_place (at ws j < length (set (set prev q x) x p)) j (i + 1)
            (λ low. omega (arith, len, below j (omega (arith, low)), r.in_prev j (omega (arith, low, lt))))
            (λ e. omega (arith, len, mid j e, x_prev))
            (λ high. let k : ℕ = j - 1 in omega (arith, len, above j k (omega (arith, high)) (omega (arith, high)), r.in_prev k (omega (arith, less, size, high))));
      }

  -- the number behind a place taken out
  pub removed : (i p q : ℕ) → i + 1 < length zs → p ≡ at zs i → q ≡ at zs (i + 2) → IsRing (remove zs (i + 1)) (set next p q) (set prev q p)
  removed i p q lt p_is q_is =
      let ws : List ℕ = remove zs (i + 1) in
      let size : length ws + 1 ≡ length zs = length-remove zs (i + 1) lt in
      let i_in : i < length zs = omega (arith, lt) in
      let below : (j : ℕ) → j ≤ i → at ws j ≡ at zs j = λ j l. get_or-remove_below zs (i + 1) 0 j (omega (arith, l)) lt in
      let above : (j : ℕ) → i < j → at ws j ≡ at zs (j + 1) = λ j l. get_or-remove_above zs (i + 1) 0 j (omega (arith, l)) lt in
      let q_end : i + 2 ≤ length zs = omega (arith, lt) in
      let p_next : p < length next = omega (arith, p_is, r.in_next i i_in) in
      let q_prev : q < length prev = let z = at_end (λ y. y < length prev) r.in_prev (i + 2) q_end in omega (arith, q_is, z) in
      let down : ℕ → ℕ = λ y. cond (nat_le (r.place y) i) (r.place y) (r.place y - 1) in
      let down_low : (y : ℕ) → r.place y ≤ i → down y ≡ r.place y = λ y l. ap (λ b. cond b (r.place y) (r.place y - 1)) (le-leb (r.place y) i l) in
      let down_high : (y : ℕ) → i < r.place y → down y ≡ r.place y - 1 = λ y l. ap (λ b. cond b (r.place y) (r.place y - 1)) (lt-leb (r.place y) i l) in
      record {
        some = omega (arith, size, lt);
        first = below 0 (omega arith) ∙ r.first;
        nexts = λ j less. by_place (at (set next p q) (at ws j) ≡ at ws (j + 1)) j i
            (λ low. ap (at (set next p q)) (below j (omega (arith, low))) ∙ other next p (at zs j) q (λ e. apart j i (omega (arith, low, lt)) i_in (λ e. omega (arith, e, low)) (e ∙ p_is))
            ∙ r.nexts j (omega (arith, low, lt)) ∙ sym (below (j + 1) (omega (arith, low))))
            (λ e. ap (at (set next p q)) (below j (omega (arith, e)) ∙ ap (at zs) e ∙ sym p_is) ∙ here next p p q p_next refl ∙ q_is ∙ ap (at zs) (omega (arith, e))
            ∙ sym (above (j + 1) (omega (arith, e))))
            (λ high. let in_ : j + 1 < length zs = omega (arith, less, size) in
            ap (at (set next p q)) (above j high) ∙ other next p (at zs (j + 1)) q (λ e. apart (j + 1) i in_ i_in (λ e. omega (arith, e, high)) (e ∙ p_is)) ∙ r.nexts (j + 1) in_
            ∙ sym (above (j + 1) (omega (arith, high))));
        prevs = λ j less. by_place (at (set prev q p) (at ws (j + 1)) ≡ at ws j) j i
            (λ low. let in_ : j < length zs = omega (arith, low, lt) in
            ap (at (set prev q p)) (below (j + 1) (omega (arith, low))) ∙ other prev q (at zs (j + 1)) p
            (λ e. apart_behind (j + 1) (i + 2) (omega arith) (omega (arith, in_)) (omega arith) q_end (λ e. omega (arith, e, low)) (e ∙ q_is)) ∙ r.prevs j in_ ∙ sym (below j (omega (arith, low))))
            (λ e. ap (at (set prev q p)) (above (j + 1) (omega (arith, e)) ∙ ap (at zs) (omega (arith, e)) ∙ sym q_is) ∙ here prev q q p q_prev refl ∙ p_is ∙ ap (at zs) (sym e)
            ∙ sym (below j (omega (arith, e))))
            (λ high. let in_ : j + 1 < length zs = omega (arith, less, size) in
            ap (at (set prev q p)) (above (j + 1) (omega (arith, high))) ∙ other prev q (at zs (j + 1 + 1)) p
            (λ e. apart_behind (j + 1 + 1) (i + 2) (omega arith) (omega (arith, in_)) (omega arith) q_end (λ e. omega (arith, e, high)) (e ∙ q_is)) ∙ r.prevs (j + 1) in_ ∙ sym (above j high));
        place = down;
        places = λ j less. elim (cases_lt i j) [
          | inl high ↦ let pl = r.places (j + 1) (omega (arith, less, size)) in ap down (above j high) ∙ down_high (at zs (j + 1)) (omega (arith, pl, high)) ∙ omega (arith, pl)
          | inr low ↦ let pl = r.places j (omega (arith, less, size)) in ap down (below j low) ∙ down_low (at zs j) (omega (arith, pl, low)) ∙ pl
        ];
        in_next = λ j less. let len : length (set next p q) ≡ length next = length-set next p q in elim (cases_lt i j) [
          | inl high ↦ omega (arith, len, above j high, r.in_next (j + 1) (omega (arith, less, size)))
          | inr low ↦ omega (arith, len, below j low, r.in_next j (omega (arith, less, size)))
        ];
        in_prev = λ j less. let len : length (set prev q p) ≡ length prev = length-set prev q p in elim (cases_lt i j) [
          | inl high ↦ omega (arith, len, above j high, r.in_prev (j + 1) (omega (arith, less, size)))
          | inr low ↦ omega (arith, len, below j low, r.in_prev j (omega (arith, less, size)))
        ];
      }

-- ---- slots and their numbers
slot_in : (ys : List ℕ) (j : ℕ) → slot_of (at (each (λ s. suc s) ys) j) ≡ slice_get ys j
slot_in [] j = refl
slot_in (y ∷ ys) zero = refl
slot_in (y ∷ ys) (suc j) = slot_in ys j

pub slot_at : (ys : List ℕ) (j : ℕ) → slot_of (at (numbers ys) (j + 1)) ≡ slice_get ys j
slot_at ys j = let e : j + 1 ≡ suc j = omega arith in ap (λ k. slot_of (at (numbers ys) k)) e ∙ slot_in ys j

number_back : (n : ℕ) → number_of (slot_of n) ≡ n
number_back zero = refl
number_back (suc s) = refl

pub number_at : (ys : List ℕ) (j : ℕ) (b : Option ℕ) → slice_get ys j ≡ b → number_of b ≡ at (numbers ys) (j + 1)
number_at ys j b is = ap number_of (sym is ∙ sym (slot_at ys j)) ∙ number_back (at (numbers ys) (j + 1))

each_inserted : (ys : List ℕ) (i s : ℕ) → each (λ s. suc s) (insert ys i s) ≡ insert (each (λ s. suc s) ys) i (suc s)
each_inserted [] zero s = refl
each_inserted [] (suc i) s = refl
each_inserted (y ∷ ys) zero s = refl
each_inserted (y ∷ ys) (suc i) s = ap (λ zs. suc y ∷ zs) (each_inserted ys i s)

numbers_inserted : (ys : List ℕ) (i s : ℕ) → numbers (insert ys i s) ≡ insert (numbers ys) (i + 1) (suc s)
numbers_inserted ys i s = let e : suc i ≡ i + 1 = omega arith in ap (λ zs. 0 ∷ zs) (each_inserted ys i s) ∙ ap (λ k. insert (numbers ys) k (suc s)) e

each_removed : (ys : List ℕ) (i : ℕ) → each (λ s. suc s) (remove ys i) ≡ remove (each (λ s. suc s) ys) i
each_removed [] zero = refl
each_removed [] (suc i) = refl
each_removed (y ∷ ys) zero = refl
each_removed (y ∷ ys) (suc i) = ap (λ zs. suc y ∷ zs) (each_removed ys i)

numbers_removed : (ys : List ℕ) (i : ℕ) → numbers (remove ys i) ≡ remove (numbers ys) (i + 1)
numbers_removed ys i = let e : suc i ≡ i + 1 = omega arith in ap (λ zs. 0 ∷ zs) (each_removed ys i) ∙ ap (λ k. remove (numbers ys) k) e

size_numbers : (ys : List ℕ) → length (numbers ys) ≡ length ys + 1
size_numbers ys = omega (arith, length-map ys (λ s. suc s))

-- a slot that is not put in has a number of its own
fresh_number : (ys : List ℕ) (s : ℕ) → (Has ys s → ⊥) → (j : ℕ) → j < length (numbers ys) → at (numbers ys) j ≡ suc s → ⊥
fresh_number ys s none zero lt e = omega (arith, e)
fresh_number ys s none (suc j) lt e = none (j, sym (slot_in ys j) ∙ ap slot_of e)

-- ---- the slots that are walked along
pub length_walked : (next : List ℕ) (n i : ℕ) → length (walked next n i) ≡ n
length_walked next zero i = refl
length_walked next (suc n) i = ap suc (length_walked next n (at next i))

dropped : (ys : List ℕ) (j : ℕ) → j < length ys → drop j ys ≡ (at (numbers ys) (suc j) - 1) ∷ drop (suc j) ys
dropped [] j lt = absurd (omega (arith, lt))
dropped (y ∷ ys) zero lt = let e : suc y - 1 ≡ y = omega arith in ap (λ z. z ∷ ys) (sym e)
dropped (y ∷ ys) (suc j) lt = dropped ys j (omega (arith, lt))

dropped_all : (ys : List ℕ) (j : ℕ) → length ys ≤ j → drop j ys ≡ []
dropped_all [] zero le = refl
dropped_all [] (suc j) le = refl
dropped_all (y ∷ ys) zero le = absurd (omega (arith, le))
dropped_all (y ∷ ys) (suc j) le = dropped_all ys j (omega (arith, le))

walked_from : (ys next prev : List ℕ) → IsRing (numbers ys) next prev → (n j : ℕ) → j + n ≡ length ys → walked next n (at (numbers ys) j) ≡ drop j ys
walked_from ys next prev r zero j e = sym (dropped_all ys j (omega (arith, e)))
walked_from ys next prev r (suc n) j e =
    let on : at next (at (numbers ys) j) ≡ at (numbers ys) (suc j) = let k : j + 1 ≡ suc j = omega arith in r.nexts j (omega (arith, e, size_numbers ys)) ∙ ap (at (numbers ys)) k in
    ap (λ i. (i - 1) ∷ walked next n i) on ∙ ap (λ zs. (at (numbers ys) (suc j) - 1) ∷ zs) (walked_from ys next prev r n (suc j) (omega (arith, e))) ∙ sym (dropped ys j (omega (arith, e)))

pub walked_is : (ys next prev : List ℕ) (n : ℕ) → IsRing (numbers ys) next prev → n ≡ length ys → walked next n 0 ≡ ys
walked_is ys next prev n r e = walked_from ys next prev r n 0 (omega (arith, e))

-- ---- links made
pub walked_same : (next more : List ℕ) → ((j : ℕ) → at more j ≡ at next j) → (n i : ℕ) → walked more n i ≡ walked next n i
walked_same next more same zero i = refl
walked_same next more same (suc n) i = ap (λ j. (j - 1) ∷ walked more n j) (same i) ∙ ap (λ zs. (at next i - 1) ∷ zs) (walked_same next more same n (at next i))

grown : (zs next prev next2 prev2 : List ℕ) → ((j : ℕ) → at next2 j ≡ at next j) → ((j : ℕ) → at prev2 j ≡ at prev j) → length next ≤ length next2 → length prev ≤ length prev2 → IsRing zs next prev
    → IsRing zs next2 prev2
grown zs next prev next2 prev2 same same2 more more2 r =
    record {
      some = r.some;
      first = r.first;
      nexts = λ j lt. same (at zs j) ∙ r.nexts j lt;
      prevs = λ j lt. same2 (at zs (j + 1)) ∙ r.prevs j lt;
      place = r.place;
      places = r.places;
      in_next = λ j lt. omega (arith, r.in_next j lt, more);
      in_prev = λ j lt. omega (arith, r.in_prev j lt, more2);
    }

-- an order of these slots
as_order : (ys next prev : List ℕ) (n room : ℕ) → IsRing (numbers ys) next prev → n ≡ length ys → n ≤ room → room ≤ 65536 → IsOrder next prev n room
as_order ys next prev n room r e few most = record { few = few; most = most; ring = subst (λ zs. IsRing (numbers zs) next prev) (sym (walked_is ys next prev n r e)) r }

-- what was read
pub read : (xs : List ℕ) (i x : ℕ) → i < length xs → x ≡ get_or xs i x → x ≡ at xs i
read xs i x lt e = e ∙ get_or_default xs i x 0 lt

-- ---- an order after a slot was put in, and taken out
module _ (next prev : List ℕ) (len room : ℕ) (o : IsOrder next prev len room) where
  abbrev ys : List ℕ
  ys = walked next len 0

  -- where a slot is to go: before another, or behind all
  pub spot_in : (i k : ℕ) (b : Option ℕ) → i ≤ length (walked next len 0) → slice_get (walked next len 0) i ≡ b → k ≡ number_of b → k < length prev
  spot_in i k b le is k_is =
      let z = at_end (numbers ys) next prev o.ring (λ y. y < length prev) o.ring.in_prev (i + 1) (omega (arith, le, size_numbers ys)) in
      omega (arith, k_is, number_at ys i b is, z)

  pub spot_before : (i k p : ℕ) (b : Option ℕ) → i ≤ length (walked next len 0) → slice_get (walked next len 0) i ≡ b → k ≡ number_of b → p ≡ at prev k → p ≡ at (numbers (walked next len 0)) i
  spot_before i k p b le is k_is p_is = p_is ∙ ap (at prev) (k_is ∙ number_at ys i b is) ∙ o.ring.prevs i (omega (arith, le, size_numbers ys))

  pub spot_before_in : (i p : ℕ) → i ≤ length (walked next len 0) → p ≡ at (numbers (walked next len 0)) i → p < length next
  spot_before_in i p le p_is = omega (arith, p_is, o.ring.in_next i (omega (arith, le, size_numbers ys)))

  pub spot_behind : (i p q : ℕ) → i ≤ length (walked next len 0) → p ≡ at (numbers (walked next len 0)) i → q ≡ at next p → (q ≡ at (numbers (walked next len 0)) (i + 1)) × (q < length prev)
  spot_behind i p q le p_is q_is =
      let is : q ≡ at (numbers ys) (i + 1) = q_is ∙ ap (at next) p_is ∙ o.ring.nexts i (omega (arith, le, size_numbers ys)) in
      let z = at_end (numbers ys) next prev o.ring (λ y. y < length prev) o.ring.in_prev (i + 1) (omega (arith, le, size_numbers ys)) in
      (is, omega (arith, is, z))

  -- the numbers before and behind it
  pub spot : (i k p q : ℕ) (b : Option ℕ) → i ≤ length (walked next len 0) → slice_get (walked next len 0) i ≡ b → k ≡ number_of b → p ≡ get_or prev k p → q ≡ get_or next p q
      → (p ≡ at (numbers (walked next len 0)) i) × (q ≡ at (numbers (walked next len 0)) (i + 1)) × (p < length next) × (q < length prev)
  spot i k p q b le is k_is p_read q_read =
      let p_at = spot_before i k p b le is k_is (read prev k p (spot_in i k b le is k_is) p_read) in
      let p_in = spot_before_in i p le p_at in
      let q_at = spot_behind i p q le p_at (read next p q p_in q_read) in
      (p_at, q_at.0, p_in, q_at.1)

  pub put_in : (i s p q : ℕ) (next2 prev2 : List ℕ) → i ≤ length (walked next len 0) → len < room → (Has (walked next len 0) s → ⊥) → ((j : ℕ) → at next2 j ≡ at next j)
      → ((j : ℕ) → at prev2 j ≡ at prev j)
      → length next ≤ length next2 → length prev ≤ length prev2 → s + 1 < length next2 → s + 1 < length prev2 → p ≡ at (numbers (walked next len 0)) i → q ≡ at (numbers (walked next len 0)) (i + 1)
      → IsOrder (set (set next2 p (s + 1)) (s + 1) q) (set (set prev2 q (s + 1)) (s + 1) p) (len + 1) room × (walked (set (set next2 p (s + 1)) (s + 1) q) (len + 1) 0 ≡ insert (walked next len 0) i s)
  put_in i s p q next2 prev2 le left none same same2 more more2 in_ in_2 p_is q_is =
      let x : s + 1 ≡ suc s = omega arith in
      let next3 : List ℕ = set (set next2 p (s + 1)) (s + 1) q in
      let prev3 : List ℕ = set (set prev2 q (s + 1)) (s + 1) p in
      let r = inserted (numbers ys) next2 prev2 (grown (numbers ys) next prev next2 prev2 same same2 more more2 o.ring) i (s + 1) p q (omega (arith, le, size_numbers ys)) in_ in_2
      (λ j lt e. fresh_number ys s none j lt (e ∙ x)) p_is q_is in
      let ring : IsRing (numbers (insert ys i s)) next3 prev3 = subst (λ zs. IsRing zs next3 prev3) (ap (insert (numbers ys) (i + 1)) x ∙ sym (numbers_inserted ys i s)) r in
      let size : len + 1 ≡ length (insert ys i s) = omega (arith, length-insert ys i s le, length_walked next len 0) in
      (as_order (insert ys i s) next3 prev3 (len + 1) room ring size (omega (arith, left)) o.most, walked_is (insert ys i s) next3 prev3 (len + 1) ring size)

  -- the number of a slot that is put in
  pub number_has : (i s : ℕ) → slice_get (walked next len 0) i ≡ Some s → (s + 1 ≡ at (numbers (walked next len 0)) (i + 1)) × (s + 1 < length next) × (s + 1 < length prev)
      × (i < length (walked next len 0))
  number_has i s is =
      let lt : i < length ys = slice_get_within ys i s is in
      let e : s + 1 ≡ at (numbers ys) (i + 1) = let x : s + 1 ≡ suc s = omega arith in x ∙ number_at ys i (Some s) is in
      let in_ : i + 1 < length (numbers ys) = omega (arith, lt, size_numbers ys) in
      (e, omega (arith, e, o.ring.in_next (i + 1) in_), omega (arith, e, o.ring.in_prev (i + 1) in_), lt)

  pub slot_behind : (i s n : ℕ) → slice_get (walked next len 0) i ≡ Some s → n ≡ at next (s + 1) → slot_of n ≡ slice_get (walked next len 0) (i + 1)
  slot_behind i s n is n_is =
      let h = number_has i s is in
      ap slot_of (n_is ∙ ap (at next) h.0 ∙ o.ring.nexts (i + 1) (omega (arith, h.3, size_numbers ys))) ∙ slot_at ys (i + 1)

  pub both_sides : (i s p q : ℕ) → slice_get (walked next len 0) i ≡ Some s → p ≡ at prev (s + 1) → q ≡ at next (s + 1)
      → (p ≡ at (numbers (walked next len 0)) i) × (q ≡ at (numbers (walked next len 0)) (i + 2)) × (p < length next) × (q < length prev)
  both_sides i s p q is p_is q_is =
      let h = number_has i s is in
      let some : i + 2 ≤ length (numbers ys) = omega (arith, h.3, size_numbers ys) in
      let p_at : p ≡ at (numbers ys) i = p_is ∙ ap (at prev) h.0 ∙ o.ring.prevs i (omega (arith, some)) in
      let e : i + 1 + 1 ≡ i + 2 = omega arith in
      let q_at : q ≡ at (numbers ys) (i + 2) = q_is ∙ ap (at next) h.0 ∙ o.ring.nexts (i + 1) (omega (arith, some)) ∙ ap (at (numbers ys)) e in
      let z = at_end (numbers ys) next prev o.ring (λ y. y < length prev) o.ring.in_prev (i + 2) some in
      (p_at, q_at, omega (arith, p_at, o.ring.in_next i (omega (arith, some))), omega (arith, q_at, z))

  pub taken_out : (i s p q : ℕ) → slice_get (walked next len 0) i ≡ Some s → p ≡ at prev (s + 1) → q ≡ at next (s + 1)
      → IsOrder (set next p q) (set prev q p) (len - 1) room × (walked (set next p q) (len - 1) 0 ≡ remove (walked next len 0) i)
  taken_out i s p q is p_is q_is =
      let h = number_has i s is in
      let b = both_sides i s p q is p_is q_is in
      let r = removed (numbers ys) next prev o.ring i p q (omega (arith, h.3, size_numbers ys)) b.0 b.1 in
      let ring : IsRing (numbers (remove ys i)) (set next p q) (set prev q p) = subst (λ zs. IsRing zs (set next p q) (set prev q p)) (sym (numbers_removed ys i)) r in
      let size : len - 1 ≡ length (remove ys i) = omega (arith, length-remove ys i h.3, length_walked next len 0) in
      (as_order (remove ys i) (set next p q) (set prev q p) (len - 1) room ring size (omega (arith, o.few)) o.most, walked_is (remove ys i) (set next p q) (set prev q p) (len - 1) ring size)

-- no slot is put in
pub opened : (room : ℕ) → room ≤ 65536 → IsOrder (0 ∷ []) (0 ∷ []) 0 room
opened room most =
    record {
      few = omega arith;
      most = most;
      ring = record {
        some = omega arith;
        first = refl;
        nexts = λ j lt. let e : j ≡ 0 = omega (arith, lt) in ap (λ j. at (0 ∷ []) (at (0 ∷ []) j)) e ∙ ap (λ j. at (0 ∷ []) (j + 1)) (sym e);
        prevs = λ j lt. let e : j ≡ 0 = omega (arith, lt) in ap (λ j. at (0 ∷ []) (at (0 ∷ []) (j + 1))) e ∙ ap (at (0 ∷ [])) (sym e);
        place = λ _. 0;
        places = λ j lt. omega (arith, lt);
        in_next = λ j lt. let e : j ≡ 0 = omega (arith, lt) in omega (arith, ap (at (0 ∷ [])) e);
        in_prev = λ j lt. let e : j ≡ 0 = omega (arith, lt) in omega (arith, ap (at (0 ∷ [])) e);
      };
    }
