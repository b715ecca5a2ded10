-- What is read is an ADSPEC that can be written.
use Rattle.std.proofs.Common.{◌≡◌, ℕ, zero, suc, ◌/◌, ◌%◌, ◌^◌, ◌<◌, ◌≤◌, Bool, true, false, List, [], ◌∷◌, length, drop, Option, Some, None, refl, sym, ap, subst, ◌∙◌, inl, inr}
use Rattle.std.specs.Prelude.{not, nat_le, ◌&&◌, ◌==◌, if◌then◌else◌}
use Rattle.std.specs.List.{AllByRecursion}
use Rattle.std.proofs.lemmas.Bool.{eqb-true, leb-true}
use Rattle.rsvp_objects.specs.Fields.{word_at, AreBytes}
use Rattle.rsvp_objects.specs.RateFields.{peak_at}
use Rattle.rsvp_objects.proofs.Choices.{chosen}
use Rattle.rsvp_objects.proofs.ReadRates.{some_said, peak_proper, gave}
use Rattle.rsvp_objects.proofs.Small.{bytes_behind, word_small}
use Rattle.rsvp_objects.specs.declared.adspec.Adspec.{Adspec}
use Rattle.rsvp_objects.specs.Fragment.{is_general, is_load, is_broken, counted, heads, missing, others, loads, load_in, all_other, none_general, is_one_load, are_fragments, behind_in, IsFragments}
use Rattle.rsvp_objects.specs.Form.{words_in, has_general_part, values_in, adspec_in}
use Rattle.rsvp_objects.specs.AdspecLaws.{IsAdspec, WhatIsReadCanBeWritten}
use Rattle.rsvp_objects.proofs.AdspecAgain.{both}

-- ---- words of bytes

abbrev AreWords : List ℕ → Type 0
AreWords ws = AllByRecursion (λ w. w < 2 ^ 32) ws

words_small : (xs : List ℕ) → AreBytes xs → AreWords (words_in xs)
unfolding words_in
words_small [] h = tt
words_small (a ∷ []) h = tt
words_small (a ∷ b ∷ []) h = tt
words_small (a ∷ b ∷ c ∷ []) h = tt
words_small (a ∷ b ∷ c ∷ d ∷ rest) h = (word_small 0 (a ∷ b ∷ c ∷ d ∷ []) (h.0, (h.1.0, (h.1.1.0, (h.1.1.1.0, tt)))), words_small rest h.1.1.1.1)

either_small : (b : Bool) (xs ys : List ℕ) → AreWords xs → AreWords ys → AreWords (if b then xs else ys)
either_small true xs ys p q = p
either_small false xs ys p q = q

others_small : (due : ℕ) (ws : List ℕ) → AreWords ws → AreWords (others due ws)
others_small due [] h = tt
others_small zero (w ∷ ws) h = let rest = others_small (counted w) ws h.1 in either_small (is_load w) (others (counted w) ws) (w ∷ others (counted w) ws) rest (h.0, rest)
others_small (suc due) (w ∷ ws) h = (h.0, others_small due ws h.1)

-- ---- without controlled load, which no words follow, fragments are whole where they were

abbrev IsEmpty : List ℕ → Type 0
IsEmpty ws = AllByRecursion (λ w. counted w ≡ 0) ws

one_empty : (ws : List ℕ) → is_one_load ws ≡ true → IsEmpty ws
one_empty [] e = tt
one_empty (w ∷ []) e = (eqb-true (counted w) 0 e, tt)
one_empty (w ∷ v ∷ ws) e = absurd cc

first_empty : (w : ℕ) (hs : List ℕ) → is_load w ≡ true → IsEmpty (loads (w ∷ hs)) → (counted w ≡ 0) × IsEmpty (loads hs)
first_empty w hs e h = let is : loads (w ∷ hs) ≡ w ∷ loads hs = rw e refl in subst IsEmpty is h

rest_empty : (w : ℕ) (hs : List ℕ) → is_load w ≡ false → IsEmpty (loads (w ∷ hs)) → IsEmpty (loads hs)
rest_empty w hs e h = let is : loads (w ∷ hs) ≡ loads hs = rw e refl in subst IsEmpty is h

without : (w : ℕ) (ws : List ℕ) → is_load w ≡ true → others 0 (w ∷ ws) ≡ others (counted w) ws
without w ws e = rw e refl

within : (w : ℕ) (ws : List ℕ) → is_load w ≡ false → others 0 (w ∷ ws) ≡ w ∷ others (counted w) ws
within w ws e = rw e refl

still_missing : (due : ℕ) (ws : List ℕ) → IsEmpty (loads (heads due ws)) → missing due (others due ws) ≡ missing due ws
still_missing due [] h = refl
still_missing zero (w ∷ ws) h = by_load (λ (rest : IsEmpty (loads (heads (counted w) ws))). still_missing (counted w) ws rest) (is_load w) refl
  where
    by_load : (IsEmpty (loads (heads (counted w) ws)) → missing (counted w) (others (counted w) ws) ≡ missing (counted w) ws) → (b : Bool) → is_load w ≡ b
        → missing 0 (others 0 (w ∷ ws)) ≡ missing (counted w) ws
    by_load more true e =
        let p = first_empty w (heads (counted w) ws) e h in
        ap (missing 0) (without w ws e) ∙ ap (λ (n : ℕ). missing n (others (counted w) ws)) (sym p.0) ∙ more p.1
    by_load more false e = ap (missing 0) (within w ws e) ∙ more (rest_empty w (heads (counted w) ws) e h)
still_missing (suc due) (w ∷ ws) h = still_missing due ws h

still_other : (due : ℕ) (ws : List ℕ) → none_general (heads due ws) ≡ true → IsEmpty (loads (heads due ws)) → all_other (heads due (others due ws)) ≡ true
still_other due [] g h = refl
still_other zero (w ∷ ws) g h =
    by_load (λ (g : none_general (heads (counted w) ws) ≡ true) (h : IsEmpty (loads (heads (counted w) ws))). still_other (counted w) ws g h) (is_load w) refl
  where
    first : (not (is_general w) ≡ true) × (none_general (heads (counted w) ws) ≡ true)
    first = both (not (is_general w)) (none_general (heads (counted w) ws)) g

    by_load : (none_general (heads (counted w) ws) ≡ true → IsEmpty (loads (heads (counted w) ws)) → all_other (heads (counted w) (others (counted w) ws)) ≡ true) → (b : Bool) → is_load w ≡ b
        → all_other (heads 0 (others 0 (w ∷ ws))) ≡ true
    by_load more true e =
        let p = first_empty w (heads (counted w) ws) e h in
        ap (λ (t : List ℕ). all_other (heads 0 t)) (without w ws e) ∙ ap (λ (n : ℕ). all_other (heads n (others (counted w) ws))) (sym p.0) ∙ more first.1 p.1
    by_load more false e =
        let rest = more first.1 (rest_empty w (heads (counted w) ws) e h) in
        ap (λ (t : List ℕ). all_other (heads 0 t)) (within w ws e) ∙ rw (first.0, e, rest) refl
still_other (suc due) (w ∷ ws) g h = still_other due ws g h

abbrev AreKept : List ℕ → Type 0
AreKept ws = IsFragments ws × AreWords ws

fragments_read : (ws : List ℕ) (q : Option Bool × List ℕ) → AreWords ws → behind_in ws ≡ Some q → AreKept q.1
unfolding behind_in
fragments_read ws q h e =
    elim (chosen (are_fragments ws) _ _ _ e) [
      | inl p ↦
          let few = both (missing 0 ws == 0 && none_general (heads 0 ws) && is_one_load (loads (heads 0 ws))) (nat_le (length (others 0 ws)) 24) p.0 in
          let one = both (missing 0 ws == 0 && none_general (heads 0 ws)) (is_one_load (loads (heads 0 ws))) few.0 in
          let whole = both (missing 0 ws == 0) (none_general (heads 0 ws)) one.0 in
          let empty = one_empty (loads (heads 0 ws)) one.1 in
          let is : IsFragments (others 0 ws) =
          record { few = leb-true (length (others 0 ws)) 24 few.1; whole = still_missing 0 ws empty ∙ eqb-true (missing 0 ws) 0 whole.0; other = still_other 0 ws whole.1 empty } in
          subst AreKept (ap (λ (r : Option Bool × List ℕ). r.1) (some_said p.1)) (is, others_small 0 ws h)
      | inr p ↦ absurd (let z = p.1 in cc)
    ]

-- ---- the whole

values_read : (body : List ℕ) (a : Adspec) → AreBytes body → values_in body ≡ Some a → IsAdspec a
unfolding values_in
values_read body a h e =
    let rate = gave _ (peak_at 20 body) a e in
    let behind = gave _ (behind_in (words_in (drop 40 body))) a rate.rest in
    let kept = fragments_read (words_in (drop 40 body)) behind.value (words_small (drop 40 body) (bytes_behind 40 body h)) behind.was in
    subst IsAdspec (some_said behind.rest)
    (record { hops = word_small 12 body h; rate = peak_proper 20 body rate.value rate.was; latency = word_small 28 body h; mtu = word_small 36 body h; others = kept.0; words = kept.1 })

pub what_is_read_can_be_written : WhatIsReadCanBeWritten
unfolding adspec_in
what_is_read_can_be_written body a h e =
    elim (chosen (nat_le 40 (length body) && has_general_part body) _ _ _ e) [ inl p ↦ values_read body a h p.1 | inr p ↦ absurd (let z = p.1 in cc) ]
