-- What is put behind what is in flight, part by part.
use Rattle.std.proofs.Common.{◌≡◌, ℕ, ◌<◌, ◌≤◌, List, [], ◌∷◌, ◌++◌, Bool, true, false, length, take, refl, sym, ap, ap₂, subst, ◌∙◌, arith, append-nil, append_assoc, length-append}
use Rattle.std.proofs.Common.{ltb-true, ltb-false}
use Rattle.std.specs.Prelude.{fold, nat_lt, ◌||◌, ◌&&◌, ◌↔◌, Option, None, Some, IfSome, Result, Ok, Err, IsErr, OnOk, OnErr, is_err}
use Rattle.std.proofs.lemmas.List.{take_all, take-append-le, length-take-le}
use Rattle.message_codec.specs.Written.{is_in_range}
use Rattle.router_rules.specs.Inputs.{Send}
use Rattle.network_flight.specs.Parcels.{Parcel}
use Rattle.network_replay.specs.Posting.{Post, put_behind, parcels_of, all_parcels, with_post}

over : (n : ℕ) → 8192 < n → nat_lt 8192 n ≡ true
over n lt = by (nat_lt 8192 n) refl
  where
    by : (b : Bool) → nat_lt 8192 n ≡ b → nat_lt 8192 n ≡ true
    by true t = t
    by false t = absurd (omega (arith, lt, ltb-false 8192 n t))

within : (n : ℕ) → n ≤ 8192 → nat_lt 8192 n ≡ false
within n le = by (nat_lt 8192 n) refl
  where
    by : (b : Bool) → nat_lt 8192 n ≡ b → nat_lt 8192 n ≡ false
    by true t = absurd (omega (arith, le, ltb-true 8192 n t))
    by false t = t

or_false : (b : Bool) → (b || false) ≡ b
or_false true = refl
or_false false = refl

or_true : (b c : Bool) → c ≡ true → (b || c) ≡ true
or_true true c e = refl
or_true false c e = e

pub none_behind : (m : Post) → length m.flight ≤ 8192 → put_behind [] m ≡ m
none_behind m le =
    let same : m.flight ++ [] ≡ m.flight = append-nil m.flight in
    ap₂ (λ (f : List Parcel) (b : Bool). record m { flight = f; full = b }) (ap (take 8192) same ∙ take_all 8192 m.flight le)
    (ap (λ (f : List Parcel). m.full || nat_lt 8192 (length f)) same ∙ ap (λ b. m.full || b) (within (length m.flight) le) ∙ or_false m.full)

module _ (ps qs : List Parcel) (m : Post) where
  abbrev all : List Parcel
  all = m.flight ++ ps

  same_all : m.flight ++ (ps ++ qs) ≡ all ++ qs
  same_all = sym (append_assoc m.flight ps qs)

  few_behind : length all ≤ 8192 → put_behind qs (put_behind ps m) ≡ put_behind (ps ++ qs) m
  few_behind le =
      let cut : take 8192 all ≡ all = take_all 8192 all le in
      let whole : take 8192 all ++ qs ≡ m.flight ++ (ps ++ qs) = ap (λ (l : List Parcel). l ++ qs) cut ∙ sym same_all in
      ap₂ (λ (f : List Parcel) (b : Bool). record m { flight = f; full = b }) (ap (take 8192) whole)
      (ap₂ (λ (b : Bool) (l : List Parcel). b || nat_lt 8192 (length l)) (ap (λ b. m.full || b) (within (length all) le) ∙ or_false m.full) whole)

  many_behind : 8192 < length all → put_behind qs (put_behind ps m) ≡ put_behind (ps ++ qs) m
  many_behind lt =
      let cut : length (take 8192 all) ≡ 8192 = length-take-le 8192 all (omega arith) in
      let first : take 8192 (take 8192 all ++ qs) ≡ take 8192 all = take-append-le 8192 (take 8192 all) qs (omega (arith, cut)) ∙ take_all 8192 (take 8192 all) (omega (arith, cut)) in
      let second : take 8192 (m.flight ++ (ps ++ qs)) ≡ take 8192 all = ap (take 8192) same_all ∙ take-append-le 8192 all qs (omega arith) in
      let wide : 8192 < length (m.flight ++ (ps ++ qs)) = omega (arith, lt, ap (λ (l : List Parcel). length l) same_all, length-append all qs) in
      let one : (m.full || nat_lt 8192 (length all)) ≡ true = or_true m.full (nat_lt 8192 (length all)) (over (length all) lt) in
      let both : ((m.full || nat_lt 8192 (length all)) || nat_lt 8192 (length (take 8192 all ++ qs))) ≡ true = ap (λ b. b || nat_lt 8192 (length (take 8192 all ++ qs))) one in
      ap₂ (λ (f : List Parcel) (b : Bool). record m { flight = f; full = b }) (first ∙ sym second)
      (both ∙ sym (or_true m.full (nat_lt 8192 (length (m.flight ++ (ps ++ qs)))) (over (length (m.flight ++ (ps ++ qs))) wide)))

  pub then_behind : put_behind qs (put_behind ps m) ≡ put_behind (ps ++ qs) m
  then_behind = by (nat_lt 8192 (length all)) refl
    where
      by : (b : Bool) → nat_lt 8192 (length all) ≡ b → put_behind qs (put_behind ps m) ≡ put_behind (ps ++ qs) m
      by true t = many_behind (ltb-true 8192 (length all) t)
      by false t = few_behind (ltb-false 8192 (length all) t)

pub few_put : (ps : List Parcel) (m : Post) → length (put_behind ps m).flight ≤ 8192
few_put ps m = let l = m.flight ++ ps in by (nat_lt 8192 (length l)) refl
  where
    by : (b : Bool) → nat_lt 8192 (length (m.flight ++ ps)) ≡ b → length (take 8192 (m.flight ++ ps)) ≤ 8192
    by true t = omega (arith, length-take-le 8192 (m.flight ++ ps) (omega (arith, ltb-true 8192 (length (m.flight ++ ps)) t)))
    by false t = let le = ltb-false 8192 (length (m.flight ++ ps)) t in omega (arith, le, ap (λ (l : List Parcel). length l) (take_all 8192 (m.flight ++ ps) le))

-- what a node posts is put behind what was there
abbrev pub range_after : Bool → List Send → Bool
range_after b [] = b
range_after b (s ∷ ss) = range_after (b && is_in_range s.message) ss

pub all_posted : (ss : List Send) (m : Post) → length m.flight ≤ 8192 → fold with_post m ss ≡ record (put_behind (all_parcels m.net m.from ss) m) { in_range = range_after m.in_range ss }
all_posted [] m le = sym (none_behind m le)
all_posted (s ∷ ss) m le =
    all_posted ss (with_post m s) (few_put (parcels_of m.net m.from s) m)
    ∙ ap (λ (x : Post). record x { in_range = range_after (m.in_range && is_in_range s.message) ss }) (then_behind (parcels_of m.net m.from s) (all_parcels m.net m.from ss) m)

-- ---- what code tests
pub told : (b : Bool) (n : ℕ) → (b ≡ true) ↔ (8192 < n) → b ≡ nat_lt 8192 n
told true n iff = sym (over n (iff.0 refl))
told false n iff = by (nat_lt 8192 n) refl
  where
    by : (t : Bool) → nat_lt 8192 n ≡ t → false ≡ nat_lt 8192 n
    by true t = sym (absurd (let z : false ≡ true = iff.1 (ltb-true 8192 n t) in cc))
    by false t = sym t

pub some_inside : (o : Option ℕ) (P : ℕ → Type 0) → IfSome o P → (e : ℕ) → o ≡ Some e → P e
some_inside None P h e is = absurd (cc)
some_inside (Some x) P h e is = let same : x ≡ e = cc in subst P same h

-- one datagram was put, or there was no room for it
pub one_put : {E : Type 0} (r : Result (Unit {0}) E) (old new : List Parcel) (p : Parcel) → OnOk r (new ≡ old ++ p ∷ []) → length new ≤ 8192 → IsErr r ↔ (8192 ≤ length old) → OnErr r (new ≡ old)
    → (new ≡ take 8192 (old ++ p ∷ [])) × (is_err r ≡ nat_lt 8192 (length (old ++ p ∷ [])))
one_put (Ok _) old new p done most full not =
    let few : length (old ++ p ∷ []) ≤ 8192 = subst (λ (l : List Parcel). length l ≤ 8192) done most in
    (done ∙ sym (take_all 8192 (old ++ p ∷ []) few), sym (within (length (old ++ p ∷ [])) few))
one_put (Err _) old new p done most full not =
    let many : 8192 ≤ length old = full.0 refl in
    let few : length old ≤ 8192 = subst (λ (l : List Parcel). length l ≤ 8192) not most in
    (not ∙ sym (take-append-le 8192 old (p ∷ []) many ∙ take_all 8192 old few), sym (over (length (old ++ p ∷ [])) (omega (arith, many, length-append old (p ∷ [])))))
