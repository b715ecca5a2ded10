-- A slot that has a key has a row: after a row was put in, and after one was taken out.
use Rattle.std.proofs.Common.{◌≡◌, ◌≤◌, ℕ, zero, suc, T, List, [], ◌∷◌, length, Option, Some, None, refl, sym, ap, subst, ◌∙◌, arith, inl, inr}
use Rattle.std.specs.Prelude.{slice_get}
use Rattle.std.specs.List.{insert, remove}
use Rattle.std.specs.Ordering.{is_eq}
use Rattle.std.specs.declared.cmp.Ordering.TheVariants.{Less}
use Rattle.std.specs.FinMap.Entries.{is_sorted}
use Rattle.std.proofs.lemmas.Bool.{cases_lt, cases_eq, both_ways}
use Rattle.rsvp_base.specs.Keys.{Keys}
use Rattle.rsvp_base.specs.declared.session.Session.{Session}
use Rattle.rsvp_base.proofs.Tables.{tied_self}
use Rattle.soft_table.specs.Ring.{Has}
use Rattle.soft_table.specs.declared.heads.Head.{Head}
use Rattle.soft_table.specs.Lists.{AreLists, AreHeld, IsRow, row_keys, first_of, key_row, rows_of}
use Rattle.soft_table.proofs.Held.{row_at, rows_same}
use Rattle.soft_table.proofs.Under.{in_order}

pub has_new : (ys : List ℕ) (i s : ℕ) → i ≤ length ys → Has (insert ys i s) s
has_new [] zero s le = (0, refl)
has_new [] (suc i) s le = absurd (omega (arith, le))
has_new (y ∷ ys) zero s le = (0, refl)
has_new (y ∷ ys) (suc i) s le = let rest = has_new ys i s (omega (arith, le)) in (suc rest.0, rest.1)

has_still : (ys : List ℕ) (i s t j : ℕ) → i ≤ length ys → slice_get ys j ≡ Some t → Has (insert ys i s) t
has_still [] i s t j le at = cc
has_still (y ∷ ys) zero s t j le at = (suc j, at)
has_still (y ∷ ys) (suc i) s t zero le at = (0, at)
has_still (y ∷ ys) (suc i) s t (suc j) le at = let rest = has_still ys i s t j (omega (arith, le)) at in (suc rest.0, rest.1)

has_left : (ys : List ℕ) (i s t j : ℕ) → slice_get ys i ≡ Some s → (t ≡ s → ⊥) → slice_get ys j ≡ Some t → Has (remove ys i) t
has_left [] i s t j is ne at = cc
has_left (y ∷ ys) zero s t zero is ne at = let same : t ≡ s = cc in absurd (ne same)
has_left (y ∷ ys) zero s t (suc j) is ne at = (j, at)
has_left (y ∷ ys) (suc i) s t zero is ne at = (0, at)
has_left (y ∷ ys) (suc i) s t (suc j) is ne at = let rest = has_left ys i s t j is ne at in (suc rest.0, rest.1)

-- what is left stood at another place
was_at : (ys : List ℕ) (i j t : ℕ) → slice_get (remove ys i) j ≡ Some t → (m : ℕ) × (m ≡ i → ⊥) × (slice_get ys m ≡ Some t)
was_at [] zero j t at = cc
was_at [] (suc i) j t at = cc
was_at (y ∷ ys) zero j t at = (suc j, λ e. omega (arith, e), at)
was_at (y ∷ ys) (suc i) zero t at = (0, λ e. omega (arith, e), at)
was_at (y ∷ ys) (suc i) (suc j) t at = let rest = was_at ys i j t at in (suc rest.0, λ e. rest.1 (omega (arith, e)), rest.2)

key_back : {K : Type 0} (t : ℕ) (k : K) (o w : Option (Option K)) → o ≡ Some (Some k) → key_row t o ≡ key_row t w → (q : K) × (w ≡ Some (Some q))
key_back t k o None is same = let z : Some (k, t) ≡ None = ap (key_row t) (sym is) ∙ same in cc
key_back t k o (Some None) is same = let z : Some (k, t) ≡ None = ap (key_row t) (sym is) ∙ same in cc
key_back t k o (Some (Some q)) is same = (q, refl)

pub held_put : {K : Type 0} (keys keys2 : List (Option K)) (slots : List ℕ) (i slot : ℕ) → i ≤ length slots → ((t : ℕ) → (t ≡ slot → ⊥) → key_row t (slice_get keys2 t) ≡ key_row t (slice_get keys t))
    → AreHeld keys slots → AreHeld keys2 (insert slots i slot)
held_put {K} keys keys2 slots i slot le same held = λ t k is.
    elim (cases_eq t slot) [
      | inl e ↦ subst (Has (insert slots i slot)) (sym e) (has_new slots i slot le)
      | inr ne ↦ let was = key_back t k (slice_get keys2 t) (slice_get keys t) is (same t ne) in let there = held t was.0 was.1 in has_still slots i slot t there.0 le there.1
    ]

module _ {R : Type 0} (rests : Keys R) (keys : List (Option (Session × R))) (slots : List ℕ) (heads : List Head) (a : AreLists rests keys slots heads) (k : Session × R) (slot : ℕ)
    (w : IsRow rests keys slots k slot) where
  -- a slot stands at one place
  alone : (j t : ℕ) → slice_get (remove slots w.place) j ≡ Some t → t ≡ slot → ⊥
  alone j t at e =
      let o = row_keys rests in
      let was = was_at slots w.place j t at in
      let here = row_at keys slots w.place slot k a.full w.is w.key in
      let there = row_at keys slots was.0 slot k a.full (was.2 ∙ ap Some e) w.key in
      let never : o.cmp k k ≡ Less → ⊥ = λ lt. both_ways _ (ap is_eq lt) (tied_self o k) in
      elim (cases_lt was.0 w.place) [
        | inl lt ↦ never (in_order o (rows_of keys slots) was.0 w.place (k, slot) (k, slot) a.sorted lt there here)
        | inr ge ↦ never (in_order o (rows_of keys slots) w.place was.0 (k, slot) (k, slot) a.sorted (omega (arith, ge, was.1)) here there)
      ]

  module _ (keys2 : List (Option (Session × R))) (here : slice_get keys2 slot ≡ Some None) (same : (t : ℕ) → (t ≡ slot → ⊥) → slice_get keys2 t ≡ slice_get keys t) where
    pub rows_unset : rows_of keys2 (remove slots w.place) ≡ rows_of keys (remove slots w.place)
    rows_unset = rows_same keys keys2 (remove slots w.place) (λ j t at. ap (key_row t) (same t (alone j t at)))

    pub lists_unset : (heads2 : List Head) → AreLists rests keys (remove slots w.place) heads2 → AreLists rests keys2 (remove slots w.place) heads2
    lists_unset heads2 b = record {
      sorted = subst (λ es. T (is_sorted (row_keys rests).cmp es)) (sym rows_unset) b.sorted;
      full = λ j t at. let q = b.full j t at in (q.0, same t (alone j t at) ∙ q.1);
      rising = b.rising;
      firsts = λ s. b.firsts s ∙ ap (first_of rests s) (sym rows_unset);
    }

    pub held_unset : AreHeld keys slots → AreHeld keys2 (remove slots w.place)
    held_unset held = λ t q is.
        elim (cases_eq t slot) [
          | inl e ↦ let z : Some None ≡ Some (Some q) = sym here ∙ ap (slice_get keys2) (sym e) ∙ is in cc
          | inr ne ↦ let there = held t q (sym (same t ne) ∙ is) in has_left slots w.place slot t there.0 w.is ne there.1
        ]
