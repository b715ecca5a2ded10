-- A list of the wheel is gone through: its slots whose moment has come are due, and the rest is set aside and put into the lists of their moments.
use Rattle.std.proofs.Common.{◌≡◌, ◌<◌, ◌≤◌, ◌+◌, ◌⊎◌, ℕ, zero, suc, cond, List, [], ◌∷◌, length, set, Option, Some, refl, sym, ap, ◌∙◌, subst, arith, inl, inr}
use Rattle.std.specs.Prelude.{slice_get, nat_eq}
use Rattle.std.proofs.lemmas.Bool.{cases_eq, cases_lt, eq-eqb, ne_eqb}
use Rattle.std.proofs.lemmas.List.{length-set}
use Rattle.soft_table.specs.declared.entry.Entry.{Entry}
use Rattle.soft_table.specs.Wheel.{wheel_list}
use Rattle.soft_table.proofs.PoolSlots.{within, set_read, set_elsewhere}

-- how many slots a list has
abbrev pub count : ℕ → List ℕ → ℕ
count k [] = 0
count k (x ∷ xs) = cond (nat_eq x k) 1 0 + count k xs

pub count_less : (k a : ℕ) (xs : List ℕ) (i : ℕ) → slice_get xs i ≡ Some k → (a ≡ k → ⊥) → count k (set xs i a) < count k xs
count_less k a [] i is ne = cc
count_less k a (x ∷ xs) zero is ne = let e : x ≡ k = cc in omega (arith, ap {B = ℕ} (λ b. cond b 1 0) (eq-eqb x k e), ap {B = ℕ} (λ b. cond b 1 0) (ne_eqb a k ne))
count_less k a (x ∷ xs) (suc i) is ne = omega (arith, count_less k a xs i is ne)

other_list : (o : Option ℕ) (h k : ℕ) → o ≡ Some h → o ≡ Some k → h ≡ k
other_list o h k a b = let e : Some h ≡ Some k = sym a ∙ b in cc

-- the list of a slot with this moment, while its list is gone through
abbrev Stands : (list now moment : ℕ) → Option ℕ → Type 0
Stands list now moment o = (o ≡ Some list) ⊎ ((moment ≤ now) × (o ≡ Some 1)) ⊎ ((now < moment) × (o ≡ Some 2))

-- and while those set aside are put back
abbrev Settles : (now moment : ℕ) → Option ℕ → Type 0
Settles now moment o = ((moment ≤ now) × (o ≡ Some 1)) ⊎ ((now < moment) × ((o ≡ Some 2) ⊎ (o ≡ Some (wheel_list moment))))

module _ {T : Type 0} (list now : ℕ) (es : List (Entry T)) (old : List ℕ) where
  pub record IsSorting (lists : List ℕ) : Type 0 where
    pub size : length lists ≡ length old
    pub others : (i h : ℕ) → slice_get old i ≡ Some h → (h ≡ list → ⊥) → slice_get lists i ≡ Some h
    pub stands : (i : ℕ) (e : Entry T) → slice_get es i ≡ Some e → slice_get old i ≡ Some list → Stands list now e.moment (slice_get lists i)

  pub record IsPuttingBack (lists : List ℕ) : Type 0 where
    pub size : length lists ≡ length old
    pub others : (i h : ℕ) → slice_get old i ≡ Some h → (h ≡ list → ⊥) → slice_get lists i ≡ Some h
    pub settles : (i : ℕ) (e : Entry T) → slice_get es i ≡ Some e → slice_get old i ≡ Some list → Settles now e.moment (slice_get lists i)

  pub sorting : IsSorting old
  sorting = record { size = refl; others = λ i h is _. is; stands = λ i e _ is. inl is }

  -- one more looked at
  pub sorted_more : (lists : List ℕ) (s to : ℕ) (e : Entry T) → IsSorting lists → slice_get es s ≡ Some e → slice_get lists s ≡ Some list → (e.moment ≤ now → to ≡ 1) → (now < e.moment → to ≡ 2)
      → IsSorting (set lists s to)
  sorted_more lists s to e o is at due later =
      let lt = within lists s list at in
      let read = set_read lists s to lt in
      record {
        size = length-set lists s to ∙ o.size;
        others = λ i h was ne. elim (cases_eq i s) [
          | inl same ↦ absurd (ne (other_list (slice_get lists s) h list (ap (slice_get lists) (sym same) ∙ o.others i h was ne) at))
          | inr apart ↦ set_elsewhere lists s i to apart ∙ o.others i h was ne
        ];
        stands = λ i f f_is was. elim (cases_eq i s) [
          | inl same ↦
              let both : Some e ≡ Some f = sym is ∙ ap (slice_get es) (sym same) ∙ f_is in
              let eq : e ≡ f = cc in
              let here : slice_get (set lists s to) i ≡ Some to = ap (slice_get (set lists s to)) same ∙ read in
              subst (λ (f : Entry T). Stands list now f.moment (slice_get (set lists s to) i)) eq (elim (cases_lt now e.moment) [
                | inl less ↦ inr (inr (less, here ∙ ap Some (later less)))
                | inr le ↦ inr (inl (le, here ∙ ap Some (due le)))
              ])
          | inr apart ↦ subst (Stands list now f.moment) (sym (set_elsewhere lists s i to apart)) (o.stands i f f_is was)
        ];
      }

  -- all looked at
  pub all_sorted : (lists : List ℕ) → IsSorting lists → ((i : ℕ) → slice_get lists i ≡ Some list → ⊥) → IsPuttingBack lists
  all_sorted lists o none =
      record {
        size = o.size;
        others = o.others;
        settles = λ i e is was. elim (o.stands i e is was) [
          | inl left ↦ absurd (none i left)
          | inr looked ↦ elim looked [ inl due ↦ inl due | inr later ↦ inr (later.0, inl later.1) ]
        ];
      }

  -- one put back
  pub put_back : (lists : List ℕ) (s to : ℕ) (e : Entry T) → IsPuttingBack lists → slice_get es s ≡ Some e → to ≡ wheel_list e.moment → slice_get lists s ≡ Some 2
      → ((i : ℕ) → slice_get old i ≡ Some 2 → ⊥) → IsPuttingBack (set lists s to)
  put_back lists s to e o is to_is at none =
      let lt = within lists s 2 at in
      let read = set_read lists s to lt in
      record {
        size = length-set lists s to ∙ o.size;
        others = λ i h was ne. elim (cases_eq i s) [
          | inl same ↦ absurd (none i (was ∙ ap Some (other_list (slice_get lists s) h 2 (ap (slice_get lists) (sym same) ∙ o.others i h was ne) at)))
          | inr apart ↦ set_elsewhere lists s i to apart ∙ o.others i h was ne
        ];
        settles = λ i f f_is was. elim (cases_eq i s) [
          | inl same ↦
              let both : Some e ≡ Some f = sym is ∙ ap (slice_get es) (sym same) ∙ f_is in
              let eq : e ≡ f = cc in
              let here : slice_get (set lists s to) i ≡ Some (wheel_list f.moment) = ap (slice_get (set lists s to)) same ∙ read ∙ ap Some to_is
              ∙ ap (λ (e : Entry T). Some (wheel_list e.moment)) eq in
              elim (o.settles i f f_is was) [
                | inl due ↦ absurd (omega (arith, other_list (slice_get lists s) 1 2 (ap (slice_get lists) (sym same) ∙ due.1) at))
                | inr later ↦ inr (later.0, inr here)
              ]
          | inr apart ↦ subst (Settles now f.moment) (sym (set_elsewhere lists s i to apart)) (o.settles i f f_is was)
        ];
      }

  -- all put back
  pub due_now : (lists : List ℕ) → IsPuttingBack lists → (i : ℕ) (e : Entry T) → slice_get es i ≡ Some e → slice_get old i ≡ Some list → e.moment ≤ now → slice_get lists i ≡ Some 1
  due_now lists o i e is was le = elim (o.settles i e is was) [ inl due ↦ due.1 | inr later ↦ absurd (omega (arith, le, later.0)) ]

  pub still_later : (lists : List ℕ) → IsPuttingBack lists → ((i : ℕ) → slice_get lists i ≡ Some 2 → ⊥) → (i : ℕ) (e : Entry T) → slice_get es i ≡ Some e → slice_get old i ≡ Some list
      → now < e.moment → slice_get lists i ≡ Some (wheel_list e.moment)
  still_later lists o none i e is was lt =
      elim (o.settles i e is was) [
        | inl due ↦ absurd (omega (arith, lt, due.0))
        | inr later ↦ elim later.1 [ inl aside ↦ absurd (none i aside) | inr back ↦ back ]
      ]
