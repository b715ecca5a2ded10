-- Where no chain is closed, a hop stands higher than each that follows it.
use Rattle.std.proofs.Common.{◌≡◌, ℕ, zero, suc, ◌+◌, ◌-◌, ◌∙◌, ◌≤◌, ◌<◌, List, [], ◌∷◌, length, map, max, ◌⊎◌, inl, inr, ⊎_elim, arith, sym, refl, ap, subst}
use Rattle.rsvp_base.specs.Members.{In}
use Rattle.tree_model.specs.Chains.{last_of, largest, NoRepeats, Chain, HasNoLoop, height}
use Rattle.tree_model.proofs.Counts.{not_longer}

-- each value is at most the largest
pub below_largest : {A : Type 0} (f : A → ℕ) (x : A) (xs : List A) → In x xs → f x ≤ largest (map f xs)
below_largest f x [] i = absurd i
below_largest f x (y ∷ ys) i =
    ⊎_elim (λ (e : x ≡ y). let h : f x ≡ f y = ap f e in omega arith)
    (λ (j : In x ys). let h = below_largest f x ys j in omega arith) i

-- the largest is one of them
pub largest_is : {A : Type 0} (f : A → ℕ) (xs : List A) → (xs ≡ []) ⊎ ((x : A) × In x xs × (f x ≡ largest (map f xs)))
largest_is f [] = inl refl
largest_is {A} f (y ∷ ys) = inr (by_rest (largest_is f ys))
  where
    by_order : (z : A) → In z ys → f z ≡ largest (map f ys) → (f y ≤ f z) ⊎ (f z ≤ f y) → (x : A) × In x (y ∷ ys) × (f x ≡ max (f y) (largest (map f ys)))
    by_order z i e (inl le) = (z, inr i, omega arith)
    by_order z i e (inr le) = (y, inl refl, omega arith)

    by_rest : (ys ≡ []) ⊎ ((x : A) × In x ys × (f x ≡ largest (map f ys))) → (x : A) × In x (y ∷ ys) × (f x ≡ max (f y) (largest (map f ys)))
    by_rest (inl e) = let g : largest (map f ys) ≡ 0 = rw e in (y, inl refl, omega arith)
    by_rest (inr h) = by_order h.0 h.1 h.2 (grind arith)

largest_same : {A : Type 0} (f g : A → ℕ) (xs : List A) → ((x : A) → In x xs → f x ≡ g x) → largest (map f xs) ≡ largest (map g xs)
largest_same f g [] h = refl
largest_same f g (x ∷ xs) h = let a = h x (inl refl) in let b = largest_same f g xs (λ y i. h y (inr i)) in omega arith

module _ {A : Type 0} (follow : A → List A) (all : List A) where
  -- a chain to a member begins with a chain to what stands before it
  chain_to : (h x : A) (c : List A) → Chain follow all (h ∷ c) → In x c → (d : List A) × Chain follow all (h ∷ d) × In x (follow (last_of h d))
  chain_to h x [] chain i = absurd i
  chain_to h x (y ∷ ys) chain i =
      ⊎_elim (λ (e : x ≡ y). ([], chain.0, subst (λ (a : A). In a (follow h)) (sym e) chain.1))
      (λ (j : In x ys). let t = chain_to y x ys chain.2 j in (y ∷ t.0, (chain.0, chain.1, t.1), t.2)) i

  chain_once : HasNoLoop follow all → (c : List A) → Chain follow all c → NoRepeats c
  chain_once free [] chain = tt
  chain_once free (h ∷ []) chain = ((λ i. i), tt)
  chain_once free (h ∷ y ∷ ys) chain =
      ((λ i. let t = chain_to h h (y ∷ ys) chain i in free h t.0 (t.1, t.2)), chain_once free (y ∷ ys) chain.2)

  chain_in : (c : List A) → Chain follow all c → (x : A) → In x c → In x all
  chain_in [] chain x i = absurd i
  chain_in (h ∷ []) chain x i = ⊎_elim (λ (e : x ≡ h). subst (λ (a : A). In a all) (sym e) chain) (λ (j : ⊥). absurd j) i
  chain_in (h ∷ y ∷ ys) chain x i = ⊎_elim (λ (e : x ≡ h). subst (λ (a : A). In a all) (sym e) chain.0) (λ (j : In x (y ∷ ys)). chain_in (y ∷ ys) chain.2 x j) i

  module _ (among : (h h' : A) → In h' (follow h) → In h' all) (free : HasNoLoop follow all) where
    -- a chain as long as the height
    chain_of : (n : ℕ) (h : A) → In h all → (c : List A) × Chain follow all (h ∷ c) × (height follow (suc n) h ≤ suc (length c))
    chain_of zero h i = by_next (largest_is (λ h'. height follow zero h') (follow h))
      where
        by_next : (follow h ≡ []) ⊎ ((x : A) × In x (follow h) × (height follow zero x ≡ largest (map (λ h'. height follow zero h') (follow h))))
            → (c : List A) × Chain follow all (h ∷ c) × (height follow 1 h ≤ suc (length c))
        by_next (inl e) = let g : largest (map (λ h'. height follow zero h') (follow h)) ≡ 0 = rw e in ([], i, omega arith)
        by_next (inr t) = let g = t.2 in ([], i, omega arith)
    chain_of (suc n) h i = by_next (λ x j. chain_of n x (among h x j)) (largest_is (λ h'. height follow (suc n) h') (follow h))
      where
        by_next : ((x : A) → In x (follow h) → (c : List A) × Chain follow all (x ∷ c) × (height follow (suc n) x ≤ suc (length c)))
            → (follow h ≡ []) ⊎ ((x : A) × In x (follow h) × (height follow (suc n) x ≡ largest (map (λ h'. height follow (suc n) h') (follow h))))
            → (c : List A) × Chain follow all (h ∷ c) × (height follow (suc (suc n)) h ≤ suc (length c))
        by_next rec (inl e) = let g : largest (map (λ h'. height follow (suc n) h') (follow h)) ≡ 0 = rw e in ([], i, omega arith)
        by_next rec (inr t) = let s = rec t.0 t.1 in (t.0 ∷ s.0, (i, t.1, s.1), omega (arith, t.2, s.2))

    pub height_le : (n : ℕ) (h : A) → In h all → height follow n h ≤ length all
    height_le zero h i = omega arith
    height_le (suc n) h i =
        let c = chain_of n h i in
        omega (arith, c.2, not_longer (h ∷ c.0) all (chain_once free (h ∷ c.0) c.1) (chain_in (h ∷ c.0) c.1))

    stable : (n : ℕ) (h : A) → height follow (suc n) h ≤ n → height follow (suc n) h ≡ height follow n h
    stable zero h le = absurd (omega arith)
    stable (suc n) h le =
        ap suc (largest_same (λ h'. height follow (suc n) h') (λ h'. height follow n h') (follow h)
        (λ x i. stable n x (let b = below_largest (λ h'. height follow (suc n) h') x (follow h) i in omega arith)))

    -- TR1
    pub falls : (h h' : A) → In h all → In h' (follow h) → height follow (length all) h' < height follow (length all) h
    falls h h' i j =
        let b = below_largest (λ x. height follow (length all) x) h' (follow h) j in
        let e = stable (length all) h (height_le (suc (length all)) h i) in
        omega arith

    pub height_some : (h : A) → In h all → 1 ≤ height follow (length all) h
    height_some h i = some all i
      where
        some : (xs : List A) → In h xs → 1 ≤ height follow (length xs) h
        some [] j = absurd j
        some (x ∷ xs) j = omega arith

    -- a chain from a hop is no longer than the hop is high
    chain_below : (h : A) (c : List A) (n : ℕ) → Chain follow all (h ∷ c) → suc (length c) ≤ n → suc (length c) ≤ height follow n h
    chain_below h c zero chain le = absurd (omega arith)
    chain_below h [] (suc n) chain le = omega arith
    chain_below h (y ∷ ys) (suc n) chain le =
        let rest = chain_below y ys n chain.2 (omega arith) in
        let top = below_largest (λ x. height follow n x) y (follow h) chain.1 in
        omega arith

    pub chain_within : (h : A) (c : List A) → Chain follow all (h ∷ c) → suc (length c) ≤ height follow (length all) h
    chain_within h c chain = chain_below h c (length all) chain (not_longer (h ∷ c) all (chain_once free (h ∷ c) chain) (chain_in (h ∷ c) chain))

    -- and one is as long
    pub chain_met : (h : A) → In h all → (c : List A) × Chain follow all (h ∷ c) × (suc (length c) ≡ height follow (length all) h)
    chain_met h i = met (length all) refl
      where
        met : (n : ℕ) → n ≡ length all → (c : List A) × Chain follow all (h ∷ c) × (suc (length c) ≡ height follow (length all) h)
        met zero e = absurd (let some = height_some h i in let none = height_le zero h i in nothing e)
          where
            nothing : zero ≡ length all → ⊥
            nothing e = none_in all i e
              where
                none_in : (xs : List A) → In h xs → zero ≡ length xs → ⊥
                none_in [] j e = j
                none_in (x ∷ xs) j e = omega arith
        met (suc n) e =
            let c = chain_of n h i in
            let up = chain_within h c.0 c.1 in
            (c.0, c.1, let le : height follow (length all) h ≤ suc (length c.0) = subst (λ m. height follow m h ≤ suc (length c.0)) e c.2 in omega arith)

    -- more fuel than there are hops changes nothing
    enough_by : (d : ℕ) (h : A) → In h all → height follow (d + length all) h ≡ height follow (length all) h
    enough_by zero h i = let e : 0 + length all ≡ length all = omega arith in ap (λ (n : ℕ). height follow n h) e
    enough_by (suc d) h i =
        let e : suc d + length all ≡ suc (d + length all) = omega arith in
        let le = height_le (suc (d + length all)) h i in
        ap (λ (n : ℕ). height follow n h) e ∙ stable (d + length all) h (omega arith) ∙ enough_by d h i

    pub height_enough : (n : ℕ) (h : A) → In h all → length all ≤ n → height follow n h ≡ height follow (length all) h
    height_enough n h i le =
        let e : n ≡ (n - length all) + length all = omega arith in
        ap (λ (m : ℕ). height follow m h) e ∙ enough_by (n - length all) h i
