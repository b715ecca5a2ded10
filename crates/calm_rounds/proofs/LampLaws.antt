-- The lamp meets the premises of the laws; and where more is lost, what it keeps dies.
use Rattle.std.proofs.Common.{◌≡◌, ℕ, ◌+◌, ◌≤◌, ◌<◌, List, [], ◌∷◌, Bool, true, false, cond, Option, None, Some, ◌⊎◌, inl, inr, ⊎_elim, arith, sym, refl, ◌∙◌, ap, subst, leb}
use Rattle.std.specs.Prelude.{nat_le}
use Rattle.std.proofs.lemmas.Bool.{lt-ltb}
use Rattle.std.proofs.lemmas.Bool.Decides.{leb_tells}
use Rattle.rsvp_base.specs.Members.{In}
use Rattle.calm_rounds.specs.Beacon.{Signal, told, first_of, rest_of, living, taken}
use Rattle.calm_rounds.specs.Hold.{Visited}
use Rattle.calm_rounds.specs.Machine.{IsClocked, IsStamped, run}
use Rattle.calm_rounds.specs.Rounds.{AreQuiet}
use Rattle.calm_rounds.specs.SoftStates.{DueLaws, SaysOnly, Stands, Good, Moves}
use Rattle.calm_rounds.proofs.Holding.{visited_map, visited_keep}
use Rattle.calm_rounds.specs.Loss.{IsInTime, IsRefreshed}
use Rattle.calm_rounds.specs.Pace.{PaceLaws}
use Rattle.calm_rounds.specs.Lamp.{LampWorld, LampStep, Pass, Arrive, Lose, flash, comes_due, after, lamp}
use Rattle.calm_rounds.specs.Lamp.{place, IsSane, Flashes, lit_world, two_lost, three_lost, one_late, IsRun, MeetsThePremises, LossCanKill}
use Rattle.calm_rounds.proofs.Renewed.{visited_any, never_dies}

first_in : (x : Signal) (xs : List Signal) → first_of xs ≡ Some x → In x xs
first_in x [] e = absurd (cc)
first_in x (y ∷ xs) e = let same : y ≡ x = cc in inl (sym same)

in_rest : (x : Signal) (xs : List Signal) → In x (rest_of xs) → In x xs
in_rest x [] i = i
in_rest x (y ∷ xs) i = inr i

clocked : IsClocked lamp
clocked = record { clock = λ s u q. by_step s u }
  where
    by_step : (s : LampStep) (u : LampWorld) → (after s u).clock ≡ u.clock + lamp.ms s
    by_step (Pass ms) u = refl
    by_step Arrive u = omega arith
    by_step Lose u = omega arith

-- what is in flight after a wait was in flight, or is sent by it
in_flight : (b : Bool) (f x : Signal) (xs : List Signal) → In x (cond b (f ∷ xs) xs) → In x xs ⊎ (x ≡ f)
in_flight true f x xs i = ⊎_elim (λ (e : x ≡ f). inr e) (λ (old : In x xs). inl old) i
in_flight false f x xs i = inl i

stamped : IsStamped lamp
stamped = record {
  made = λ s u. made s u;
  appended = λ s u x q i. appended s u x i;
  arrived = λ s u x e. arrived s u x e;
}
  where
    made : (s : LampStep) (u : LampWorld) → u.made ≤ (after s u).made
    made (Pass ms) u = omega arith
    made Arrive u = omega arith
    made Lose u = omega arith

    appended : (s : LampStep) (u : LampWorld) (x : Signal) → In x ((after s u).flight) → In x u.flight ⊎ (u.made ≤ x.born)
    appended (Pass ms) u x i =
        ⊎_elim (λ (old : In x u.flight). inl old) (λ (e : x ≡ flash u). let b : x.born ≡ u.made = ap (λ (z : Signal). z.born) e in inr (omega (arith, b)))
        (in_flight (comes_due ms u) (flash u) x u.flight i)
    appended Arrive u x i = inl (in_rest x u.flight i)
    appended Lose u x i = inl (in_rest x u.flight i)

    arrived : (s : LampStep) (u : LampWorld) (x : Signal) → lamp.arrived s u ≡ Some x → In x u.flight
    arrived (Pass ms) u x e = absurd (cc)
    arrived Arrive u x e = first_in x u.flight e
    arrived Lose u x e = absurd (cc)

-- a signal comes due by a wait, or none does
due_or_not : (ms : ℕ) (u : LampWorld) → ((comes_due ms u ≡ true) × (u.due ≤ u.clock + ms)) ⊎ ((comes_due ms u ≡ false) × (u.clock + ms < u.due))
due_or_not ms u = leb_tells u.due (u.clock + ms)

due_by : (ms : ℕ) (u : LampWorld) (b : Bool) → comes_due ms u ≡ b → (after (Pass ms) u).due ≡ cond b (u.due + 6) u.due
due_by ms u b e = ap (λ z. cond z (u.due + 6) u.due) e

short_wait : (ms : ℕ) → nat_le ms 6 ≡ true → ms ≤ 6
short_wait ms e = ⊎_elim (λ (t : (leb ms 6 ≡ true) × (ms ≤ 6)). t.1) (λ (f : (leb ms 6 ≡ false) × (6 < ms)). let bad : true ≡ false = sym e ∙ f.0 in absurd (cc)) (leb_tells ms 6)

pub sane_step : (s : LampStep) (u : LampWorld) → lamp.quiet s ≡ true → IsSane u → IsSane (after s u)
sane_step (Pass ms) u q a =
    let le = short_wait ms q in
    ⊎_elim
    (λ (t : (comes_due ms u ≡ true) × (u.due ≤ u.clock + ms)).
    let d = due_by ms u true t.0 in record { later = omega (arith, d, le, a.later); soon = omega (arith, d, t.1) })
    (λ (f : (comes_due ms u ≡ false) × (u.clock + ms < u.due)).
    let d = due_by ms u false f.0 in record { later = omega (arith, d, f.1); soon = omega (arith, d, a.soon) })
    (due_or_not ms u)
sane_step Arrive u q a = record { later = a.later; soon = a.soon }
sane_step Lose u q a = record { later = a.later; soon = a.soon }

same_moment : (a b : ℕ) → ◌≡◌ {A = Option ℕ} (Some a) (Some b) → a ≡ b
same_moment a b e = cc

pace : (s : LampStep) (u : LampWorld) (t t' : ℕ) → place.due u ≡ Some t → place.due (after s u) ≡ Some t' → (t' ≡ t) ⊎ (Flashes s u × (t ≤ (after s u).clock) × (t' ≤ t + 6))
pace (Pass ms) u t t' e e' =
    let a = same_moment u.due t e in
    let a' = same_moment ((after (Pass ms) u).due) t' e' in
    ⊎_elim
    (λ (y : (comes_due ms u ≡ true) × (u.due ≤ u.clock + ms)).
    let d = due_by ms u true y.0 in inr (y.0, omega (arith, a, y.1), omega (arith, a, a', d)))
    (λ (n : (comes_due ms u ≡ false) × (u.clock + ms < u.due)).
    let d = due_by ms u false n.0 in inl (omega (arith, a, a', d)))
    (due_or_not ms u)
pace Arrive u t t' e e' = inl (sym (same_moment u.due t' e') ∙ same_moment u.due t e)
pace Lose u t t' e e' = inl (sym (same_moment u.due t' e') ∙ same_moment u.due t e)

paced : PaceLaws lamp place
paced = record { pace = λ s u t t' q a a' e e'. pace s u t t' e e' }

falls_due : DueLaws lamp place
falls_due = record {
  moved = λ s u t t' q a a' e e'. ⊎_elim (λ (same : t' ≡ t). inl same) (λ (f : Flashes s u × (t ≤ (after s u).clock) × (t' ≤ t + 6)). inr f.0) (pace s u t t' e e');
  due_room = λ u t a e. let n = same_moment u.due t e in (omega (arith, n, a.later), omega (arith, n, a.soon));
}

lives_on : (c v d : ℕ) → c < d → living c (Some (v, d)) ≡ Some (v, d)
lives_on c v d lt = ap (λ (b : Bool). cond b (Some (v, d)) None) (lt-ltb c d lt)

pub moves : (n : ℕ) → Moves lamp place told n
moves n = record { rests = λ s u d q g g' none e lt. rests s u d none e lt; calls = λ s u q g g' f. calls s u f; tracks = λ s u x q g g' i e. refl }
  where
    by_signal : (u : LampWorld) (d : ℕ) → ((x : Signal) → first_of u.flight ≡ Some x → true ≡ false) → u.kept ≡ Some (told, d)
        → (o : Option Signal) → first_of u.flight ≡ o → taken u.clock o u.kept ≡ Some (told, d)
    by_signal u d none e None t = e
    by_signal u d none e (Some x) t = let no : true ≡ false = none x t in absurd (cc)

    rests : (s : LampStep) (u : LampWorld) (d : ℕ) → ((x : Signal) → lamp.arrived s u ≡ Some x → true ≡ false) → u.kept ≡ Some (told, d) → (after s u).clock < d
        → (after s u).kept ≡ Some (told, d)
    rests (Pass ms) u d none e lt = ap (λ (o : Option (ℕ × ℕ)). living (u.clock + ms) o) e ∙ lives_on (u.clock + ms) told d lt
    rests Arrive u d none e lt = by_signal u d none e (first_of u.flight) refl
    rests Lose u d none e lt = e

    calls : (s : LampStep) (u : LampWorld) → Flashes s u → (x : Signal) × In (x, true) (lamp.sent s u) × (◌≡◌ {A = Option (Unit {0})} (Some tt) (Some tt))
    calls (Pass ms) u f = (flash u, subst (λ (b : Bool). In {A = Signal × Bool} (flash u, true) (cond b ((flash u, true) ∷ []) [])) (sym f) (inl refl), refl)
    calls Arrive u f = absurd f
    calls Lose u f = absurd f

-- ---- each world that is visited is good
pub says_step : (n : ℕ) (s : LampStep) (u : LampWorld) → SaysOnly lamp place (λ v. v ≡ told) n u → SaysOnly lamp place (λ v. v ≡ told) n (after s u)
says_step n (Pass ms) u h x v i le e =
    ⊎_elim (λ (old : In x u.flight). h x v old le e) (λ (f : x ≡ flash u). e ∙ ap (λ (z : Signal). z.number) f) (in_flight (comes_due ms u) (flash u) x u.flight i)
says_step n Arrive u h x v i le e = h x v (in_rest x u.flight i) le e
says_step n Lose u h x v i le e = h x v (in_rest x u.flight i) le e

abbrev pub Clean : ℕ → LampWorld → Type 0
Clean n u = IsSane u × SaysOnly lamp place (λ v. v ≡ told) n u

pub good : (n : ℕ) (u : LampWorld) → Clean n u → Good lamp place told n u
good n u h = record {
  sane = h.0;
  letters = λ x i le t. (sym (h.1 x x.number i le refl), refl);
  takes = λ s x q a e l. takes s x a e;
  counts = (u.due, refl);
  serves = (tt, refl, refl);
}
  where
    takes : (s : LampStep) (x : Signal) → lamp.arrived s u ≡ Some x → told ≡ x.number → (after s u).kept ≡ Some (told, u.clock + 21)
    takes (Pass ms) x a e = absurd (cc)
    takes Arrive x a e = ap (λ (o : Option Signal). taken u.clock o u.kept) a ∙ ap (λ (k : ℕ). Some (k, u.clock + 21)) (sym e)
    takes Lose x a e = absurd (cc)

is_run : (ss : List LampStep) → AreQuiet lamp ss → IsRun ss
is_run ss quiet = record {
  quiet = quiet;
  fresh = λ x i. absurd i;
  good = visited_map lamp (Clean 0) (Good lamp place told 0) (good 0) ss lit_world
      (visited_keep lamp (λ _. Unit {0}) (Clean 0) (λ s u q _ _ h. (sane_step s u q h.0, says_step 0 s u h.1)) ss lit_world quiet (visited_any lamp ss lit_world)
      (record { later = omega arith; soon = omega arith }, λ x v i le e. absurd i));
  lasts = record { dies = 21; kept = refl; moment = 6; due = refl; long = omega arith };
}

-- ---- which signals arrive in time
two_in_time : IsInTime lamp place.due place.track 3 (Pass 6) (Pass 2 ∷ Arrive ∷ Pass 4 ∷ []) (run lamp (Pass 6 ∷ Lose ∷ Pass 6 ∷ Lose ∷ []) lit_world)
two_in_time = record { item = record { number = told; born = 5 }; refresh = record { sent = inl refl; goes = refl }; moment = 18; reached = refl; arrives = inr (inl (refl, omega arith)) }

three_in_time : IsInTime lamp place.due place.track 3 (Pass 3) (Arrive ∷ []) (run lamp (Pass 6 ∷ Lose ∷ Pass 6 ∷ Lose ∷ Pass 6 ∷ Lose ∷ Pass 3 ∷ []) lit_world)
three_in_time = record { item = record { number = told; born = 8 }; refresh = record { sent = inl refl; goes = refl }; moment = 24; reached = refl; arrives = inl (refl, omega arith) }

late_in_time : IsInTime lamp place.due place.track 4 (Pass 6) (Pass 3 ∷ Arrive ∷ []) (run lamp (Pass 6 ∷ Lose ∷ Pass 6 ∷ Lose ∷ []) lit_world)
late_in_time = record { item = record { number = told; born = 5 }; refresh = record { sent = inl refl; goes = refl }; moment = 18; reached = refl; arrives = inr (inl (refl, omega arith)) }

never_dark : (ss : List LampStep) → IsRun ss → IsRefreshed lamp place.due place.track ss lit_world → Visited lamp (Stands lamp place told) ss lit_world
never_dark ss r h =
    never_dies lamp clocked stamped place falls_due paced told 0 (moves 0) 3 2 (omega arith) ss lit_world r.quiet h (omega arith) r.fresh r.good 21 refl 6 refl (omega arith)

run_of_three : IsRun three_lost
run_of_three = is_run three_lost (refl, (refl, (refl, (refl, (refl, (refl, (refl, (refl, (refl, tt)))))))))

run_of_late : IsRun one_late
run_of_late = is_run one_late (refl, (refl, (refl, (refl, (refl, (refl, (refl, tt)))))))

dark : (u : LampWorld) → u.kept ≡ None → Stands lamp place told u → ⊥
dark u none h = let no : ◌≡◌ {A = Option (ℕ × ℕ)} None (Some (told, h.0)) = sym none ∙ h.1 in absurd (cc)

pub meets_the_premises : MeetsThePremises
meets_the_premises = record {
  clocked = clocked;
  stamped = stamped;
  falls_due = falls_due;
  paced = paced;
  moves = moves 0;
  begun = is_run two_lost (refl, (refl, (refl, (refl, (refl, (refl, (refl, (refl, tt))))))));
  refreshed = (
    inr (inr (inl ((λ x r. absurd r.sent), inr (inr (inl ((λ x r. absurd r.sent), inr (inl two_in_time))))))),
    (
      inl ((λ x r. absurd r.sent), inr (inr (inl ((λ x r. absurd r.sent), inr (inl two_in_time))))),
      (
        inr (inr (inl ((λ x r. absurd r.sent), inr (inl two_in_time)))),
        (
          inl ((λ x r. absurd r.sent), inr (inl two_in_time)),
          (inr (inl two_in_time), (inl ((λ x r. absurd r.sent), inl ((λ x r. absurd r.sent), inr (inr tt))), (inl ((λ x r. absurd r.sent), inr (inr tt)), (inr (inr tt), tt)))),
        ),
      ),
    ),
  );
  nearly = refl;
}

pub loss_can_kill : LossCanKill
loss_can_kill = record {
  run_of_four = run_of_three;
  one_of_four = (
    inr (inr (inl ((λ x r. absurd r.sent), inr (inr (inl ((λ x r. absurd r.sent), inr (inr (inl ((λ x r. absurd r.sent), inl ((λ x r. absurd r.sent), inr (inl three_in_time))))))))))),
    (
      inl ((λ x r. absurd r.sent), inr (inr (inl ((λ x r. absurd r.sent), inr (inr (inl ((λ x r. absurd r.sent), inl ((λ x r. absurd r.sent), inr (inl three_in_time))))))))),
      (
        inr (inr (inl ((λ x r. absurd r.sent), inr (inr (inl ((λ x r. absurd r.sent), inl ((λ x r. absurd r.sent), inr (inl three_in_time)))))))),
        (
          inl ((λ x r. absurd r.sent), inr (inr (inl ((λ x r. absurd r.sent), inl ((λ x r. absurd r.sent), inr (inl three_in_time)))))),
          (
            inr (inr (inl ((λ x r. absurd r.sent), inl ((λ x r. absurd r.sent), inr (inl three_in_time))))),
            (
              inl ((λ x r. absurd r.sent), inl ((λ x r. absurd r.sent), inr (inl three_in_time))),
              (inl ((λ x r. absurd r.sent), inr (inl three_in_time)), (inr (inl three_in_time), (inl ((λ x r. absurd r.sent), tt), tt))),
            ),
          ),
        ),
      ),
    ),
  );
  gone_of_four = refl;
  run_of_late = run_of_late;
  one_of_late = (
    inr (inr (inl ((λ x r. absurd r.sent), inr (inr (inl ((λ x r. absurd r.sent), inr (inl late_in_time))))))),
    (
      inl ((λ x r. absurd r.sent), inr (inr (inl ((λ x r. absurd r.sent), inr (inl late_in_time))))),
      (
        inr (inr (inl ((λ x r. absurd r.sent), inr (inl late_in_time)))),
        (
          inl ((λ x r. absurd r.sent), inr (inl late_in_time)),
          (inr (inl late_in_time), (inl ((λ x r. absurd r.sent), inl ((λ x r. absurd r.sent), tt)), (inl ((λ x r. absurd r.sent), tt), tt))),
        ),
      ),
    ),
  );
  gone_of_late = refl;
  too_few = λ h. dark (run lamp (Pass 6 ∷ Lose ∷ Pass 6 ∷ Lose ∷ Pass 6 ∷ Lose ∷ Pass 3 ∷ []) lit_world) refl (never_dark three_lost run_of_three h).1.1.1.1.1.1.1.0;
  too_late = λ h. dark (run lamp (Pass 6 ∷ Lose ∷ Pass 6 ∷ Lose ∷ Pass 6 ∷ Pass 3 ∷ []) lit_world) refl (never_dark one_late run_of_late h).1.1.1.1.1.1.0;
}
