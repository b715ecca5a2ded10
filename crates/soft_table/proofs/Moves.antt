-- The links after a slot was taken out of a list, put into one, moved, and made.
use Rattle.std.proofs.Common.{◌≡◌, ◌<◌, ◌≤◌, ◌+◌, ◌-◌, ◌++◌, ℕ, zero, suc, cond, List, [], ◌∷◌, length, set, get_or, refl, sym, ap, ◌∙◌, subst, arith, inl, inr}
use Rattle.std.specs.Prelude.{nat_eq}
use Rattle.std.proofs.lemmas.Bool.{cases_lt, cases_eq, eq-eqb, ne_eqb}
use Rattle.std.proofs.lemmas.List.{get_or-set_same, get_or-set_other, length-set, length-append, get_or_default, get_or_append_left, get_or-append_right, get_or_at, set-append_left}
use Rattle.std.proofs.lemmas.List.{set-append_right, set-set, append_assoc}
use Rattle.soft_table.specs.Links.{IsLinked, AreLists, at}

pub here : (xs : List ℕ) (i j a : ℕ) → i < length xs → j ≡ i → at (set xs i a) j ≡ a
here xs i j a lt e = subst (λ j. at (set xs i a) j ≡ a) (sym e) (get_or-set_same xs i a 0 lt)

pub other : (xs : List ℕ) (i j a : ℕ) → (j ≡ i → ⊥) → at (set xs i a) j ≡ at xs j
other xs i j a ne = get_or-set_other xs i j a 0 ne

pub at_set : (P : ℕ → Type 0) (xs : List ℕ) (i a j : ℕ) → i < length xs → (j ≡ i → P a) → ((j ≡ i → ⊥) → P (at xs j)) → P (at (set xs i a) j)
at_set P xs i a j lt same ne =
    elim (cases_eq j i) [
      | inl e ↦ subst P (sym (here xs i j a lt e)) (same e)
      | inr e ↦ subst P (sym (other xs i j a e)) (ne e)
    ]

-- a slot's rank after one was raised
abbrev pub raised : (ℕ → ℕ) → ℕ → ℕ → ℕ → ℕ
raised rank i r j = cond (nat_eq j i) r (rank j)

raised_here : (rank : ℕ → ℕ) (i r j : ℕ) → j ≡ i → raised rank i r j ≡ r
raised_here rank i r j e = ap (λ b. cond b r (rank j)) (eq-eqb j i e)

raised_other : (rank : ℕ → ℕ) (i r j : ℕ) → (j ≡ i → ⊥) → raised rank i r j ≡ rank j
raised_other rank i r j ne = ap (λ b. cond b r (rank j)) (ne_eqb j i ne)

module _ (n : ℕ) (next prev home : List ℕ) (rank : ℕ → ℕ) (r : IsLinked n next prev home rank) where
  -- an empty list has no slot
  pub none_in : (m i k : ℕ) → rank i < m → k < 259 → 259 ≤ i → i < n → at home i ≡ k → at next k ≡ k → ⊥
  none_in zero i k below few slot lt is empty = omega (arith, below)
  none_in (suc m) i k below few slot lt is empty =
      let in_ : at home i < 259 = omega (arith, is, few) in
      elim (cases_lt (at prev i) 259) [
        | inl head ↦
            let p_is : at prev i ≡ k = sym (r.heads (at prev i) head) ∙ r.prev_home i lt in_ ∙ is in
            let back : k ≡ i = sym empty ∙ ap (at next) (sym p_is) ∙ r.prev_back i lt in_ in
            omega (arith, back, few, slot)
        | inr past ↦ none_in m (at prev i) k (omega (arith, below, r.ranks i slot lt in_)) few past (r.prev_in i lt in_) (r.prev_home i lt in_ ∙ is) empty
      ]

  -- a head that leads to no slot leads to itself
  pub none_first : (i k f : ℕ) → f ≡ at next k → f < 259 → k < 259 → 259 ≤ i → i < n → at home i ≡ k → ⊥
  none_first i k f f_is low few slot lt is =
      let all : k < n = omega (arith, few, r.all) in
      let head : at home k ≡ k = r.heads k few in
      let in_ : at home k < 259 = omega (arith, head, few) in
      let itself : at next k ≡ k = sym (r.heads (at next k) (omega (arith, f_is, low))) ∙ r.next_home k all in_ ∙ head in
      none_in (suc (rank i)) i k (omega arith) few slot lt is itself

  -- a slot taken out
  pub unlinked : (i p q : ℕ) → 259 ≤ i → i < n → at home i < 259 → p ≡ at prev i → q ≡ at next i → IsLinked n (set next p q) (set prev q p) (set home i 259) rank
  unlinked i p q slot lt in_ p_is q_is =
      let p_in : p < length next = omega (arith, p_is, r.prev_in i lt in_, r.nexts) in
      let q_in : q < length prev = omega (arith, q_is, r.next_in i lt in_, r.prevs) in
      let i_in : i < length home = omega (arith, lt, r.homes) in
      let back_q : at prev q ≡ i = ap (at prev) q_is ∙ r.next_back i lt in_ in
      let p_i : p ≡ i → ⊥ = λ e. let same : at prev i ≡ i = sym p_is ∙ e in omega (arith, r.ranks i slot lt in_, ap rank same) in
      let q_i : q ≡ i → ⊥ = λ e. p_i (p_is ∙ ap (at prev) (sym e) ∙ back_q) in
      let apart : (j : ℕ) → at (set home i 259) j < 259 → j ≡ i → ⊥ = λ j l e. omega (arith, l, here home i j 259 i_in e) in
      let was : (j : ℕ) → (j ≡ i → ⊥) → at (set home i 259) j ≡ at home j = λ j ne. other home i j 259 ne in
      let listed : (j : ℕ) → at (set home i 259) j < 259 → at home j < 259 = λ j l. omega (arith, l, was j (apart j l)) in
      record {
        nexts = length-set next p q ∙ r.nexts;
        prevs = length-set prev q p ∙ r.prevs;
        homes = length-set home i 259 ∙ r.homes;
        all = r.all;
        heads = λ k less. was k (λ e. omega (arith, e, less, slot)) ∙ r.heads k less;
        next_in = λ j less l. at_set (λ x. x < n) next p q j p_in (λ _. omega (arith, q_in, r.prevs)) (λ _. r.next_in j less (listed j l));
        next_home = λ j less l. at_set (λ x. at (set home i 259) x ≡ at (set home i 259) j) next p q j p_in
            (λ e. was q q_i ∙ ap (at home) q_is ∙ r.next_home i lt in_ ∙ sym (r.prev_home i lt in_) ∙ ap (at home) (sym p_is ∙ sym e) ∙ sym (was j (apart j l)))
            (λ ne. was (at next j) (λ e. ne (sym (r.next_back j less (listed j l)) ∙ ap (at prev) e ∙ sym p_is)) ∙ r.next_home j less (listed j l) ∙ sym (was j (apart j l)));
        next_back = λ j less l. at_set (λ x. at (set prev q p) x ≡ j) next p q j p_in
            (λ e. here prev q q p q_in refl ∙ sym e)
            (λ ne. other prev q (at next j) p (λ e. apart j l (sym (r.next_back j less (listed j l)) ∙ ap (at prev) e ∙ back_q)) ∙ r.next_back j less (listed j l));
        prev_in = λ j less l. at_set (λ x. x < n) prev q p j q_in (λ _. omega (arith, p_in, r.nexts)) (λ _. r.prev_in j less (listed j l));
        prev_home = λ j less l. at_set (λ x. at (set home i 259) x ≡ at (set home i 259) j) prev q p j q_in
            (λ e. was p p_i ∙ ap (at home) p_is ∙ r.prev_home i lt in_ ∙ sym (r.next_home i lt in_) ∙ ap (at home) (sym q_is ∙ sym e) ∙ sym (was j (apart j l)))
            (λ ne. was (at prev j) (λ e. ne (sym (r.prev_back j less (listed j l)) ∙ ap (at next) e ∙ sym q_is)) ∙ r.prev_home j less (listed j l) ∙ sym (was j (apart j l)));
        prev_back = λ j less l. let back_p : at next p ≡ i = ap (at next) p_is ∙ r.prev_back i lt in_ in at_set (λ x. at (set next p q) x ≡ j) prev q p j q_in
            (λ e. here next p p q p_in refl ∙ sym e)
            (λ ne. other next p (at prev j) q (λ e. apart j l (sym (r.prev_back j less (listed j l)) ∙ ap (at next) e ∙ back_p)) ∙ r.prev_back j less (listed j l));
        ranks = λ j past less l. at_set (λ x. rank x < rank j) prev q p j q_in
            (λ e. let up : rank (at prev j) < rank j = r.ranks j past less (listed j l) in omega (arith, up, ap rank (ap (at prev) e ∙ back_q), r.ranks i slot lt in_, ap rank p_is))
            (λ _. r.ranks j past less (listed j l));
      }

  -- a slot that is in no list put behind all of one
  pub appended : (i k t : ℕ) → 259 ≤ i → i < n → at home i ≡ 259 → k < 259 → t ≡ at prev k
      → IsLinked n (set (set next t i) i k) (set (set prev k i) i t) (set home i k) (raised rank i (suc (rank t)))
  appended i k t slot lt out few t_is =
      let k_all : k < n = omega (arith, few, r.all) in
      let k_home : at home k ≡ k = r.heads k few in
      let k_in : at home k < 259 = omega (arith, k_home, few) in
      let t_all : t < n = omega (arith, t_is, r.prev_in k k_all k_in) in
      let t_home : at home t ≡ k = ap (at home) t_is ∙ r.prev_home k k_all k_in ∙ k_home in
      let t_next : at next t ≡ k = ap (at next) t_is ∙ r.prev_back k k_all k_in in
      let no_home : (j : ℕ) → at home j < 259 → j ≡ i → ⊥ = λ j l e. omega (arith, l, ap (at home) e ∙ out) in
      let k_i : k ≡ i → ⊥ = no_home k k_in in
      let t_i : t ≡ i → ⊥ = no_home t (omega (arith, t_home, few)) in
      let i_next : i < length next = omega (arith, lt, r.nexts) in
      let i_prev : i < length prev = omega (arith, lt, r.prevs) in
      let t_in : t < length next = omega (arith, t_all, r.nexts) in
      let k_len : k < length prev = omega (arith, k_all, r.prevs) in
      let i_next2 : i < length (set next t i) = omega (arith, i_next, length-set next t i) in
      let i_prev2 : i < length (set prev k i) = omega (arith, i_prev, length-set prev k i) in
      let i_home : i < length home = omega (arith, lt, r.homes) in
      let up : ℕ → ℕ = raised rank i (suc (rank t)) in
      let unraised : (j : ℕ) → (j ≡ i → ⊥) → up j ≡ rank j = raised_other rank i (suc (rank t)) in
      let now : at (set home i k) i ≡ k = here home i i k i_home refl in
      let was : (j : ℕ) → (j ≡ i → ⊥) → at (set home i k) j ≡ at home j = λ j ne. other home i j k ne in
      let listed : (j : ℕ) → (j ≡ i → ⊥) → at (set home i k) j < 259 → at home j < 259 = λ j ne l. omega (arith, l, was j ne) in
      record {
        nexts = length-set (set next t i) i k ∙ length-set next t i ∙ r.nexts;
        prevs = length-set (set prev k i) i t ∙ length-set prev k i ∙ r.prevs;
        homes = length-set home i k ∙ r.homes;
        all = r.all;
        heads = λ m less. was m (λ e. omega (arith, e, less, slot)) ∙ r.heads m less;
        next_in = λ j less l. at_set (λ x. x < n) (set next t i) i k j i_next2 (λ _. k_all) (λ ne. at_set (λ x. x < n) next t i j t_in (λ _. lt) (λ _. r.next_in j less (listed j ne l)));
        next_home = λ j less l. at_set (λ x. at (set home i k) x ≡ at (set home i k) j) (set next t i) i k j i_next2
            (λ e. was k k_i ∙ k_home ∙ sym now ∙ ap (at (set home i k)) (sym e))
            (λ ne. at_set (λ x. at (set home i k) x ≡ at (set home i k) j) next t i j t_in
            (λ e. now ∙ sym t_home ∙ sym (was t t_i) ∙ ap (at (set home i k)) (sym e))
            (λ _. let h = r.next_home j less (listed j ne l) in was (at next j) (no_home (at next j) (omega (arith, h, listed j ne l))) ∙ h ∙ sym (was j ne)));
        next_back = λ j less l. at_set (λ x. at (set (set prev k i) i t) x ≡ j) (set next t i) i k j i_next2
            (λ e. other (set prev k i) i k t k_i ∙ here prev k k i k_len refl ∙ sym e)
            (λ ne. at_set (λ x. at (set (set prev k i) i t) x ≡ j) next t i j t_in
            (λ e. here (set prev k i) i i t i_prev2 refl ∙ sym e)
            (λ nt. let h = r.next_home j less (listed j ne l) in let b = r.next_back j less (listed j ne l) in
            other (set prev k i) i (at next j) t (no_home (at next j) (omega (arith, h, listed j ne l))) ∙ other prev k (at next j) i (λ e. nt (sym b ∙ ap (at prev) e ∙ sym t_is)) ∙ b));
        prev_in = λ j less l. at_set (λ x. x < n) (set prev k i) i t j i_prev2 (λ _. t_all) (λ ne. at_set (λ x. x < n) prev k i j k_len (λ _. lt) (λ _. r.prev_in j less (listed j ne l)));
        prev_home = λ j less l. at_set (λ x. at (set home i k) x ≡ at (set home i k) j) (set prev k i) i t j i_prev2
            (λ e. was t t_i ∙ t_home ∙ sym now ∙ ap (at (set home i k)) (sym e))
            (λ ne. at_set (λ x. at (set home i k) x ≡ at (set home i k) j) prev k i j k_len
            (λ e. now ∙ sym k_home ∙ sym (was k k_i) ∙ ap (at (set home i k)) (sym e))
            (λ _. let h = r.prev_home j less (listed j ne l) in was (at prev j) (no_home (at prev j) (omega (arith, h, listed j ne l))) ∙ h ∙ sym (was j ne)));
        prev_back = λ j less l. at_set (λ x. at (set (set next t i) i k) x ≡ j) (set prev k i) i t j i_prev2
            (λ e. other (set next t i) i t k t_i ∙ here next t t i t_in refl ∙ sym e)
            (λ ne. at_set (λ x. at (set (set next t i) i k) x ≡ j) prev k i j k_len
            (λ e. here (set next t i) i i k i_next2 refl ∙ sym e)
            (λ ns. let h = r.prev_home j less (listed j ne l) in let b = r.prev_back j less (listed j ne l) in
            other (set next t i) i (at prev j) k (no_home (at prev j) (omega (arith, h, listed j ne l))) ∙ other next t (at prev j) i (λ e. ns (sym b ∙ ap (at next) e ∙ t_next)) ∙ b));
        ranks = λ j past less l. at_set (λ x. up x < up j) (set prev k i) i t j i_prev2
            (λ e. omega (arith, unraised t t_i, raised_here rank i (suc (rank t)) j e))
            (λ ne. at_set (λ x. up x < up j) prev k i j k_len
            (λ e. absurd (omega (arith, e, few, past)))
            (λ _. let h = r.prev_home j less (listed j ne l) in omega (
              arith,
              r.ranks j past less (listed j ne l),
              unraised j ne,
              unraised (at prev j) (no_home (at prev j) (omega (arith, h, listed j ne l))),
            )));
      }

  -- one more number, which is in no list
  pub unlisted : (x y : ℕ) → IsLinked (n + 1) (next ++ x ∷ []) (prev ++ y ∷ []) (home ++ 259 ∷ []) rank
  unlisted x y =
      let last : at (home ++ 259 ∷ []) n ≡ 259 = get_or_at home 259 [] 0 n r.homes in
      let home_is : (j : ℕ) → j < n → at (home ++ 259 ∷ []) j ≡ at home j = λ j lt. get_or_append_left home (259 ∷ []) 0 j (omega (arith, lt, r.homes)) in
      let next_is : (j : ℕ) → j < n → at (next ++ x ∷ []) j ≡ at next j = λ j lt. get_or_append_left next (x ∷ []) 0 j (omega (arith, lt, r.nexts)) in
      let prev_is : (j : ℕ) → j < n → at (prev ++ y ∷ []) j ≡ at prev j = λ j lt. get_or_append_left prev (y ∷ []) 0 j (omega (arith, lt, r.prevs)) in
      let below : (j : ℕ) → j < n + 1 → at (home ++ 259 ∷ []) j < 259 → j < n = λ j lt l. elim (cases_eq j n) [
        | inl e ↦ absurd (omega (arith, l, ap (at (home ++ 259 ∷ [])) e, last))
        | inr ne ↦ omega (arith, lt, ne)
      ] in
      let listed : (j : ℕ) → j < n → at (home ++ 259 ∷ []) j < 259 → at home j < 259 = λ j lt l. omega (arith, l, home_is j lt) in
      record {
        nexts = omega (arith, length-append next (x ∷ []), r.nexts);
        prevs = omega (arith, length-append prev (y ∷ []), r.prevs);
        homes = omega (arith, length-append home (259 ∷ []), r.homes);
        all = omega (arith, r.all);
        heads = λ k less. home_is k (omega (arith, less, r.all)) ∙ r.heads k less;
        next_in = λ j less l. let lt = below j less l in omega (arith, next_is j lt, r.next_in j lt (listed j lt l));
        next_home = λ j less l. let lt = below j less l in let in_ = listed j lt l in
            ap (at (home ++ 259 ∷ [])) (next_is j lt) ∙ home_is (at next j) (r.next_in j lt in_) ∙ r.next_home j lt in_ ∙ sym (home_is j lt);
        next_back = λ j less l. let lt = below j less l in let in_ = listed j lt l in
            ap (at (prev ++ y ∷ [])) (next_is j lt) ∙ prev_is (at next j) (r.next_in j lt in_) ∙ r.next_back j lt in_;
        prev_in = λ j less l. let lt = below j less l in omega (arith, prev_is j lt, r.prev_in j lt (listed j lt l));
        prev_home = λ j less l. let lt = below j less l in let in_ = listed j lt l in
            ap (at (home ++ 259 ∷ [])) (prev_is j lt) ∙ home_is (at prev j) (r.prev_in j lt in_) ∙ r.prev_home j lt in_ ∙ sym (home_is j lt);
        prev_back = λ j less l. let lt = below j less l in let in_ = listed j lt l in
            ap (at (next ++ x ∷ [])) (prev_is j lt) ∙ next_is (at prev j) (r.prev_in j lt in_) ∙ r.prev_back j lt in_;
        ranks = λ j past less l. let lt = below j less l in omega (arith, ap rank (prev_is j lt), r.ranks j past lt (listed j lt l));
      }

-- what was read
pub read : (xs : List ℕ) (i x : ℕ) → i < length xs → x ≡ get_or xs i x → x ≡ at xs i
read xs i x lt e = e ∙ get_or_default xs i x 0 lt

set_last : (xs : List ℕ) (n a b : ℕ) → length xs ≡ n → set (xs ++ a ∷ []) n b ≡ xs ++ b ∷ []
set_last xs n a b len =
    let none : n - n ≡ 0 = omega arith in
    set-append_right xs (a ∷ []) n n b len (omega arith) ∙ ap (λ m. xs ++ set (a ∷ []) m b) none

module _ (next prev home : List ℕ) (room : ℕ) (a : AreLists next prev home room) where
  n : ℕ
  n = 259 + length home

  pub next_len : length next ≡ 259 + length home
  next_len = a.linked.nexts

  pub prev_len : length prev ≡ 259 + length home
  prev_len = a.linked.prevs

  -- the list of a slot
  pub home_at : (s : ℕ) → at (a.heads ++ home) (259 + s) ≡ at home s
  home_at s =
      let off : 259 + s - 259 ≡ s = omega arith in
      get_or-append_right a.heads home 259 (259 + s) 0 a.are_heads.0 (omega arith) ∙ ap (at home) off

  home_set : (s k : ℕ) → set (a.heads ++ home) (259 + s) k ≡ a.heads ++ set home s k
  home_set s k =
      let off : 259 + s - 259 ≡ s = omega arith in
      set-append_right a.heads home 259 (259 + s) k a.are_heads.0 (omega arith) ∙ ap (λ i. a.heads ++ set home i k) off

  -- a slot taken out of its list
  pub taken : (s i p q : ℕ) → s < length home → i ≡ 259 + s → p ≡ at prev i → q ≡ at next i → IsLinked (259 + length home) (set next p q) (set prev q p) (set (a.heads ++ home) i 259) a.rank
  taken s i p q lt i_is p_is q_is =
      let is : at (a.heads ++ home) i ≡ at home s = ap (at (a.heads ++ home)) i_is ∙ home_at s in
      unlinked (259 + length home) next prev (a.heads ++ home) a.rank a.linked i p q (omega (arith, i_is)) (omega (arith, i_is, lt)) (omega (arith, is, a.listed s lt)) p_is q_is

  -- the last number of a list then
  pub last_in : (s i k p q t : ℕ) → s < length home → i ≡ 259 + s → k < 259 → p ≡ at prev i → q ≡ at next i → t ≡ at (set prev q p) k → t < 259 + length home
  last_in s i k p q t lt i_is few p_is q_is t_is =
      let out = taken s i p q lt i_is p_is q_is in
      omega (arith, t_is, out.prev_in k (omega (arith, few)) (omega (arith, out.heads k few, few)))

  -- a slot moved from its list to the end of one
  pub moved : (s i k p q t : ℕ) → s < length home → i ≡ 259 + s → k < 259 → p ≡ at prev i → q ≡ at next i → t ≡ at (set prev q p) k
      → AreLists (set (set (set next p q) t i) i k) (set (set (set prev q p) k i) i t) (set home s k) room
  moved s i k p q t lt i_is few p_is q_is t_is =
      let all : List ℕ = a.heads ++ home in
      let slot : 259 ≤ i = omega (arith, i_is) in
      let less : i < 259 + length home = omega (arith, i_is, lt) in
      let out = taken s i p q lt i_is p_is q_is in
      let none : at (set all i 259) i ≡ 259 = here all i i 259 (omega (arith, less, a.linked.homes)) refl in
      let into = appended (259 + length home) (set next p q) (set prev q p) (set all i 259) a.rank out i k t slot less none few t_is in
      let homes : set (set all i 259) i k ≡ a.heads ++ set home s k = set-set all i 259 k ∙ ap (λ j. set all j k) i_is ∙ home_set s k in
      let size : length (set home s k) ≡ length home = length-set home s k in
      record {
        few = omega (arith, size, a.few);
        most = a.most;
        listed = λ j less. at_set (λ x. x < 259) home s k j lt (λ _. few) (λ _. a.listed j (omega (arith, less, size)));
        heads = a.heads;
        are_heads = a.are_heads;
        rank = raised a.rank i (suc (a.rank t));
        linked = rw (size, ← homes) into;
      }

  -- a slot made at the end of a list
  pub made : (i k t : ℕ) → length home < room → i ≡ 259 + length home → k < 259 → t ≡ at prev k
      → AreLists (set next t i ++ k ∷ []) (set prev k i ++ t ∷ []) (home ++ k ∷ []) room
  made i k t lt i_is few t_is =
      let all : List ℕ = a.heads ++ home in
      let m : ℕ = 259 + length home in
      let k_in : at all k < 259 = omega (arith, a.linked.heads k few, few) in
      let k_all : k < 259 + length home = omega (arith, few) in
      let t_all : t < 259 + length home = omega (arith, t_is, a.linked.prev_in k k_all k_in) in
      let t_in : t < length next = omega (arith, t_all, next_len) in
      let k_len : k < length prev = omega (arith, k_all, prev_len) in
      let out = unlisted (259 + length home) next prev all a.rank a.linked 0 0 in
      let i_all : i ≡ length all = omega (arith, i_is, a.linked.homes) in
      let last : at (all ++ 259 ∷ []) i ≡ 259 = get_or_at all 259 [] 0 i (sym i_all) in
      let t_now : t ≡ at (prev ++ 0 ∷ []) k = t_is ∙ sym (get_or_append_left prev (0 ∷ []) 0 k k_len) in
      let into = appended (259 + length home + 1) (next ++ 0 ∷ []) (prev ++ 0 ∷ []) (all ++ 259 ∷ []) a.rank out i k t (omega (arith, i_is)) (omega (arith, i_is)) last few t_now in
      let nexts : set (set (next ++ 0 ∷ []) t i) i k ≡ set next t i ++ k ∷ [] =
      ap (λ xs. set xs i k) (set-append_left next (0 ∷ []) t i t_in) ∙ set_last (set next t i) i 0 k (omega (arith, length-set next t i, next_len, i_is)) in
      let prevs : set (set (prev ++ 0 ∷ []) k i) i t ≡ set prev k i ++ t ∷ [] =
      ap (λ xs. set xs i t) (set-append_left prev (0 ∷ []) k i k_len) ∙ set_last (set prev k i) i 0 t (omega (arith, length-set prev k i, prev_len, i_is)) in
      let homes : set (all ++ 259 ∷ []) i k ≡ a.heads ++ (home ++ k ∷ []) = set_last all i 259 k (sym i_all) ∙ append_assoc a.heads home (k ∷ []) in
      let size : 259 + length (home ++ k ∷ []) ≡ 259 + length home + 1 = omega (arith, length-append home (k ∷ [])) in
      record {
        few = omega (arith, size, lt);
        most = a.most;
        listed = λ j less. elim (cases_lt j (length home)) [
          | inl old ↦ omega (arith, get_or_append_left home (k ∷ []) 0 j old, a.listed j old)
          | inr past ↦ let e : length home ≡ j = omega (arith, past, less, size) in omega (arith, get_or_at home k [] 0 j e, few)
        ];
        heads = a.heads;
        are_heads = a.are_heads;
        rank = raised a.rank i (suc (a.rank t));
        linked = rw (size, ← nexts, ← prevs, ← homes) into;
      }
