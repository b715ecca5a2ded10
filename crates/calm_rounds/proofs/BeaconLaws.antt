-- The beacon meets the premises of the laws.
use Rattle.std.proofs.Common.{◌≡◌, ℕ, zero, suc, ◌+◌, ◌≤◌, ◌<◌, List, [], ◌∷◌, Bool, true, false, cond, Option, None, Some, ◌⊎◌, inl, inr, ⊎_elim, arith, sym, refl, ◌∙◌, ap}
use Rattle.std.specs.Prelude.{nat_lt}
use Rattle.std.proofs.lemmas.Bool.{ltb-true, lt-ltb}
use Rattle.rsvp_base.specs.Members.{In}
use Rattle.calm_rounds.specs.Machine.{items_of, IsClocked, IsStamped, run}
use Rattle.calm_rounds.specs.Rounds.{Calm, Rounds}
use Rattle.calm_rounds.specs.Hold.{Hold}
use Rattle.calm_rounds.specs.SoftStates.{KeepLaws, DueLaws, SaysOnly, KeepsOnly, Good, Moves}
use Rattle.calm_rounds.specs.Beacon.{Signal, BeaconWorld, BeaconStep, Flash, Arrive, told, flash, first_of, rest_of, living, taken, after, beacon, IsSane, place, first_world, a_round}
use Rattle.calm_rounds.specs.Beacon.{some_rounds, MeetsThePremises, after_mute, mute, kept_world, told_world, a_mute_round, mute_rounds, TakesTheRounds}
use Rattle.calm_rounds.proofs.Holding.{hold_map, hold_both, hold_always, hold_end}

first_in : (x : Signal) (xs : List Signal) → first_of xs ≡ Some x → In x xs
first_in x [] e = absurd (cc)
first_in x (y ∷ xs) e = let same : y ≡ x = cc in inl (sym same)

in_rest : (x : Signal) (xs : List Signal) → In x (rest_of xs) → In x xs
in_rest x [] i = i
in_rest x (y ∷ xs) i = inr i

clocked : IsClocked beacon
clocked = record { clock = λ s u q. by_step s u }
  where
    by_step : (s : BeaconStep) (u : BeaconWorld) → (after s u).clock ≡ u.clock + beacon.ms s
    by_step Flash u = refl
    by_step Arrive u = omega arith

stamped : IsStamped beacon
stamped = record {
  made = λ s u. made s u;
  appended = λ s u x q i. appended s u x i;
  arrived = λ s u x e. arrived s u x e;
}
  where
    made : (s : BeaconStep) (u : BeaconWorld) → u.made ≤ (after s u).made
    made Flash u = omega arith
    made Arrive u = omega arith

    appended : (s : BeaconStep) (u : BeaconWorld) (x : Signal) → In x ((after s u).flight) → In x u.flight ⊎ (u.made ≤ x.born)
    appended Flash u x i =
        ⊎_elim (λ (e : x ≡ flash u). let b : x.born ≡ u.made = ap (λ (z : Signal). z.born) e in inr (omega arith)) (λ (old : In x u.flight). inl old) i
    appended Arrive u x i = inl (in_rest x u.flight i)

    arrived : (s : BeaconStep) (u : BeaconWorld) (x : Signal) → beacon.arrived s u ≡ Some x → In x u.flight
    arrived Flash u x e = absurd (cc)
    arrived Arrive u x e = first_in x u.flight e

-- what lives was there, and dies later
lives : (c : ℕ) (o : Option (ℕ × ℕ)) (v d : ℕ) → living c o ≡ Some (v, d) → (o ≡ Some (v, d)) × (c < d)
lives c None v d e = absurd (cc)
lives c (Some k) v d e = by_test (nat_lt c k.1) refl e
  where
    by_test : (b : Bool) → nat_lt c k.1 ≡ b → cond b (Some k) None ≡ Some (v, d) → (Some k ≡ Some (v, d)) × (c < d)
    by_test true t e = let s : ◌≡◌ {A = ℕ × ℕ} k (v, d) = cc in let f : k.1 ≡ d = ap (λ (z : ℕ × ℕ). z.1) s in (e, omega (arith, ltb-true c k.1 t))
    by_test false t e = absurd (cc)

lives_on : (c v d : ℕ) → c < d → living c (Some (v, d)) ≡ Some (v, d)
lives_on c v d lt = ap (λ (b : Bool). cond b (Some (v, d)) None) (lt-ltb c d lt)

-- what is set by a signal dies after 21 milliseconds
set_by : (c : ℕ) (x : Signal) (v d : ℕ) → ◌≡◌ {A = Option (ℕ × ℕ)} (Some (x.number, c + 21)) (Some (v, d)) → (v ≡ x.number) × (d ≡ c + 21)
set_by c x v d e =
    let s : ◌≡◌ {A = ℕ × ℕ} (x.number, c + 21) (v, d) = cc in (sym (ap (λ (z : ℕ × ℕ). z.0) s), sym (ap (λ (z : ℕ × ℕ). z.1) s))

sane_step : (s : BeaconStep) (u : BeaconWorld) → IsSane u → IsSane (after s u)
sane_step Flash u h v d e =
    let k = lives (u.clock + 6) u.kept v d e in let r = h v d k.0 in (k.1, omega (arith, r.1))
sane_step Arrive u h v d e = by_signal (first_of u.flight) e
  where
    by_signal : (o : Option Signal) → taken u.clock o u.kept ≡ Some (v, d) → (u.clock < d) × (d ≤ u.clock + 21)
    by_signal None f = h v d f
    by_signal (Some x) f = let n = set_by u.clock x v d f in (omega (arith, n.1), omega (arith, n.1))

keeps : KeepLaws beacon place
keeps = record { set = λ s u v d q h h' e. set s u v d e; room = λ u v d h e. h v d e }
  where
    set : (s : BeaconStep) (u : BeaconWorld) (v d : ℕ) → (after s u).kept ≡ Some (v, d)
        → ((v0 : ℕ) × (u.kept ≡ Some (v0, d)) × (v ≡ v0)) ⊎ ((x : Signal) × (v0 : ℕ) × (beacon.arrived s u ≡ Some x) × (v0 ≡ x.number) × (v ≡ v0))
    set Flash u v d e = inl (v, (lives (u.clock + 6) u.kept v d e).0, refl)
    set Arrive u v d e = by_signal (first_of u.flight) refl e
      where
        by_signal : (o : Option Signal) → first_of u.flight ≡ o → taken u.clock o u.kept ≡ Some (v, d)
            → ((v0 : ℕ) × (u.kept ≡ Some (v0, d)) × (v ≡ v0)) ⊎ ((x : Signal) × (v0 : ℕ) × (first_of u.flight ≡ Some x) × (v0 ≡ x.number) × (v ≡ v0))
        by_signal None t f = inl (v, f, refl)
        by_signal (Some x) t f = inr (x, x.number, t, refl, (set_by u.clock x v d f).0)

same_moment : (a b : ℕ) → ◌≡◌ {A = Option ℕ} (Some a) (Some b) → a ≡ b
same_moment a b e = cc

falls_due : DueLaws beacon place
falls_due = record { moved = λ s u t t' q h h' e f. moved s u t t' e f; due_room = λ u t h e. let n = same_moment (u.clock + 6) t e in (omega (arith, n), omega (arith, n)) }
  where
    moved : (s : BeaconStep) (u : BeaconWorld) (t t' : ℕ) → place.due u ≡ Some t → place.due (after s u) ≡ Some t' → (t' ≡ t) ⊎ (s ≡ Flash)
    moved Flash u t t' e f = inr refl
    moved Arrive u t t' e f = inl (sym (same_moment (u.clock + 6) t' f) ∙ same_moment (u.clock + 6) t e)

moves : (n : ℕ) → Moves beacon place told n
moves n = record { rests = λ s u d q g g' none e lt. rests s u d none e lt; calls = λ s u q g g' f. calls s u f; tracks = λ s u x q g g' i e. refl }
  where
    rests : (s : BeaconStep) (u : BeaconWorld) (d : ℕ) → ((x : Signal) → beacon.arrived s u ≡ Some x → true ≡ false) → u.kept ≡ Some (told, d) → (after s u).clock < d
        → (after s u).kept ≡ Some (told, d)
    rests Flash u d none e lt = ap (λ (o : Option (ℕ × ℕ)). living (u.clock + 6) o) e ∙ lives_on (u.clock + 6) told d lt
    rests Arrive u d none e lt = by_signal (first_of u.flight) refl
      where
        by_signal : (o : Option Signal) → first_of u.flight ≡ o → taken u.clock o u.kept ≡ Some (told, d)
        by_signal None t = e
        by_signal (Some x) t = let no : true ≡ false = none x t in absurd (cc)

    calls : (s : BeaconStep) (u : BeaconWorld) → s ≡ Flash → (x : Signal) × In (x, true) (beacon.sent s u) × (◌≡◌ {A = Option (Unit {0})} (Some tt) (Some tt))
    calls Flash u f = (flash u, inl refl, refl)
    calls Arrive u f = absurd (cc)

-- what is in flight is what is sent, as far as it is not old
says_step : (n : ℕ) (s : BeaconStep) (u : BeaconWorld) → SaysOnly beacon place (λ v. v ≡ told) n u → SaysOnly beacon place (λ v. v ≡ told) n (after s u)
says_step n Flash u h x v i le e =
    ⊎_elim (λ (f : x ≡ flash u). e ∙ ap (λ (z : Signal). z.number) f) (λ (old : In x u.flight). h x v old le e) i
says_step n Arrive u h x v i le e = h x v (in_rest x u.flight i) le e

good : (n : ℕ) (u : BeaconWorld) → IsSane u → SaysOnly beacon place (λ v. v ≡ told) n u → Good beacon place told n u
good n u h says = record {
  sane = h;
  letters = λ x i le t. (sym (says x x.number i le refl), refl);
  takes = λ s x q a e l. takes s x a e;
  counts = (u.clock + 6, refl);
  serves = (tt, refl, refl);
}
  where
    takes : (s : BeaconStep) (x : Signal) → beacon.arrived s u ≡ Some x → told ≡ x.number → (after s u).kept ≡ Some (told, u.clock + 21)
    takes Flash x a e = absurd (cc)
    takes Arrive x a e = ap (λ (o : Option Signal). taken u.clock o u.kept) a ∙ ap (λ (k : ℕ). Some (k, u.clock + 21)) (sym e)

-- a world with at most one signal in flight
abbrev world_of : ℕ → ℕ → Option (ℕ × ℕ) → Option Signal → BeaconWorld
world_of c n k o = record { clock = c; made = n; flight = items_of o; kept = k }

calm_from : (c n : ℕ) (k : Option (ℕ × ℕ)) (o : Option Signal) → Calm beacon a_round (world_of c n k o)
calm_from c n k None = record {
  silent = (refl, (refl, (refl, tt)));
  long = omega arith;
  short = omega arith;
  flushed = λ x i. absurd i;
  crossed = λ x t i e on. (record { number = told; born = n }, inl refl, refl, inl refl);
}
calm_from c n k (Some y) = record {
  silent = (refl, (refl, (refl, tt)));
  long = omega arith;
  short = omega arith;
  flushed = λ x i. absurd i;
  crossed = λ x t i e on. (record { number = told; born = n }, inl refl, refl, inl refl);
}

rounds_from : (r : ℕ) (c n : ℕ) (k : Option (ℕ × ℕ)) (o : Option Signal) → Rounds beacon (some_rounds r) (world_of c n k o)
rounds_from zero c n k o = tt
rounds_from (suc r) c n k None = (calm_from c n k None, rounds_from r (c + 6) (suc (suc (suc n))) (Some (told, (c + 6) + 21)) None)
rounds_from (suc r) c n k (Some y) = (calm_from c n k (Some y), rounds_from r (c + 6) (suc (suc (suc n))) (Some (y.number, (c + 6) + 21)) None)

first_rounds : (r : ℕ) → Rounds beacon (some_rounds r) first_world
first_rounds r = rounds_from r 0 1 (Some (7, 21)) (Some (record { number = 7; born = 0 }))

later_rounds : (r : ℕ) → Rounds beacon (some_rounds r) (run beacon a_round first_world)
later_rounds r = rounds_from r 6 4 (Some (7, 27)) None

sane_first : IsSane first_world
sane_first v d e = let s : ◌≡◌ {A = ℕ × ℕ} (7, 21) (v, d) = cc in let f : 21 ≡ d = ap (λ (z : ℕ × ℕ). z.1) s in (omega (arith, f), omega (arith, f))

says_first : SaysOnly beacon place (λ v. v ≡ told) 1 first_world
says_first x v i le e =
    ⊎_elim (λ (f : x ≡ record { number = 7; born = 0 }). let b : x.born ≡ 0 = ap (λ (z : Signal). z.born) f in absurd (omega arith)) (λ (none : ⊥). absurd none) i

sane_always : (r : ℕ) → Hold beacon 0 (some_rounds r) first_world IsSane
sane_always r = hold_always beacon IsSane (λ s u q h. sane_step s u h) (some_rounds r) first_world (first_rounds r) sane_first

says_always : (r : ℕ) → Hold beacon 0 (some_rounds r) first_world (SaysOnly beacon place (λ v. v ≡ told) 1)
says_always r = hold_always beacon (SaysOnly beacon place (λ v. v ≡ told) 1) (λ s u q h. says_step 1 s u h) (some_rounds r) first_world (first_rounds r) says_first

pub meets_the_premises : MeetsThePremises
meets_the_premises = record {
  clocked = clocked;
  stamped = stamped;
  keeps = keeps;
  falls_due = falls_due;
  moves = moves;
  closed = λ v v0 e p. e ∙ p;
  quarter = omega arith;
  rounds = first_rounds;
  sane = sane_always;
  says = says_always;
  says_later = λ r. hold_always beacon (SaysOnly beacon place (λ v. v ≡ told) 0) (λ s u q h. says_step 0 s u h) (some_rounds r) (run beacon a_round first_world) (later_rounds r)
      (λ x v i le e. absurd i);
  good = λ r. hold_map beacon (λ u. IsSane u × SaysOnly beacon place (λ v. v ≡ told) 1 u) (Good beacon place told 1) (λ u h. good 1 u h.0 h.1) 0 (some_rounds r) first_world
      (hold_both beacon IsSane (SaysOnly beacon place (λ v. v ≡ told) 1) 0 (some_rounds r) first_world (sane_always r) (says_always r));
  not_yet = λ h. let no : 7 ≡ told = h 7 21 refl in absurd (omega (arith, no));
  not_in_one = λ h. let e : ◌≡◌ {A = Option (ℕ × ℕ)} (Some (7, 27)) (Some (told, h.0)) = h.1 in
      let s : ◌≡◌ {A = ℕ × ℕ} (7, 27) (told, h.0) = cc in let no : 7 ≡ told = ap (λ (z : ℕ × ℕ). z.0) s in absurd (omega (arith, no));
}

-- ---- the mute beacon
mute_clocked : IsClocked mute
mute_clocked = record { clock = λ s u q. by_step s u }
  where
    by_step : (s : BeaconStep) (u : BeaconWorld) → (after_mute s u).clock ≡ u.clock + mute.ms s
    by_step Flash u = refl
    by_step Arrive u = omega arith

mute_stays : (s : BeaconStep) (u : BeaconWorld) (x : Signal) → In x ((after_mute s u).flight) → In x u.flight
mute_stays Flash u x i = i
mute_stays Arrive u x i = in_rest x u.flight i

mute_stamped : IsStamped mute
mute_stamped = record {
  made = λ s u. made s u;
  appended = λ s u x q i. inl (mute_stays s u x i);
  arrived = λ s u x e. stamped.arrived s u x e;
}
  where
    made : (s : BeaconStep) (u : BeaconWorld) → u.made ≤ (after_mute s u).made
    made Flash u = omega arith
    made Arrive u = omega arith

mute_sane_step : (s : BeaconStep) (u : BeaconWorld) → IsSane u → IsSane (after_mute s u)
mute_sane_step Flash u h = sane_step Flash u h
mute_sane_step Arrive u h = sane_step Arrive u h

mute_keeps : KeepLaws mute place
mute_keeps = record { set = λ s u v d q h h' e. set s u v d h e; room = λ u v d h e. h v d e }
  where
    set : (s : BeaconStep) (u : BeaconWorld) (v d : ℕ) → IsSane u → (after_mute s u).kept ≡ Some (v, d)
        → ((v0 : ℕ) × (u.kept ≡ Some (v0, d)) × (v ≡ v0)) ⊎ ((x : Signal) × (v0 : ℕ) × (mute.arrived s u ≡ Some x) × (v0 ≡ x.number) × (v ≡ v0))
    set Flash u v d h e = inl (v, (lives (u.clock + 6) u.kept v d e).0, refl)
    set Arrive u v d h e = keeps.set Arrive u v d refl h (sane_step Arrive u h) e

mute_calm : (c n : ℕ) (k : Option (ℕ × ℕ)) (o : Option Signal) → Calm mute a_mute_round (world_of c n k o)
mute_calm c n k None = record { silent = (refl, (refl, tt)); long = omega arith; short = omega arith; flushed = λ x i. absurd i; crossed = λ x t i. absurd i }
mute_calm c n k (Some y) = record { silent = (refl, (refl, tt)); long = omega arith; short = omega arith; flushed = λ x i. absurd i; crossed = λ x t i. absurd i }

mute_from : (r : ℕ) (c n : ℕ) (k : Option (ℕ × ℕ)) (o : Option Signal) → Rounds mute (mute_rounds r) (world_of c n k o)
mute_from zero c n k o = tt
mute_from (suc r) c n k None = (mute_calm c n k None, mute_from r (c + 6) (suc (suc n)) (living (c + 6) k) None)
mute_from (suc r) c n k (Some y) = (mute_calm c n k (Some y), mute_from r (c + 6) (suc (suc n)) (Some (y.number, (c + 6) + 21)) None)

mute_kept : (r : ℕ) → Rounds mute (mute_rounds r) kept_world
mute_kept r = mute_from r 0 1 (Some (7, 21)) None

mute_told : (r : ℕ) → Rounds mute (mute_rounds r) told_world
mute_told r = mute_from r 0 1 None (Some (record { number = 7; born = 0 }))

pub takes_the_rounds : TakesTheRounds
takes_the_rounds = record {
  clocked = mute_clocked;
  stamped = mute_stamped;
  keeps = mute_keeps;
  closed = λ v v0 e p. p;
  rounds = λ r. (mute_kept r, mute_told r);
  sane = λ r. (
    hold_always mute IsSane (λ s u q h. mute_sane_step s u h) (mute_rounds r) kept_world (mute_kept r) sane_first,
    hold_always mute IsSane (λ s u q h. mute_sane_step s u h) (mute_rounds r) told_world (mute_told r) (λ v d e. absurd (cc)),
  );
  says_nothing = λ r. hold_always mute (SaysOnly mute place (λ _. ⊥) 0) (λ s u q h x v i le e. h x v (mute_stays s u x i) le e) (mute_rounds r) kept_world (mute_kept r)
      (λ x v i le e. absurd i);
  not_in_three = λ h. hold_end mute (KeepsOnly mute place (λ _. ⊥)) 3 (mute_rounds 3) kept_world (omega arith) h 7 21 refl;
  says_nothing_new = λ r. hold_always mute (SaysOnly mute place (λ _. ⊥) 1) (λ s u q h x v i le e. h x v (mute_stays s u x i) le e) (mute_rounds r) told_world (mute_told r)
      (λ x v i le e. ⊎_elim (λ (f : x ≡ record { number = 7; born = 0 }). let b : x.born ≡ 0 = ap (λ (z : Signal). z.born) f in absurd (omega arith)) (λ (none : ⊥). absurd none) i);
  not_in_four = λ h. hold_end mute (KeepsOnly mute place (λ _. ⊥)) 4 (mute_rounds 4) told_world (omega arith) h 7 27 refl;
}
