-- The lamp settles in two windows with four of six signals lost, and the mute beacon takes its windows.
use Rattle.std.proofs.Common.{◌≡◌, ℕ, ◌+◌, ◌≤◌, ◌<◌, [], ◌∷◌, Option, None, Some, inl, inr, ⊎_elim, arith, refl, ap}
use Rattle.rsvp_base.specs.Members.{In}
use Rattle.calm_rounds.specs.Beacon.{Signal, told, mute, kept_world, told_world, IsSane as IsSaneBeacon}
use Rattle.calm_rounds.specs.Hold.{Hold}
use Rattle.calm_rounds.specs.Machine.{run}
use Rattle.calm_rounds.specs.SoftStates.{Good, Stands}
use Rattle.calm_rounds.proofs.BeaconLaws.{takes_the_rounds}
use Rattle.calm_rounds.proofs.Holding.{hold_map}
use Rattle.calm_rounds.specs.Lamp.{Pass, Arrive, Lose, lamp, place}
use Rattle.calm_rounds.specs.LampWindows.{other_world, first_window, two_windows, mute_windows, SettlesInWindows, TakesTheWindows}
use Rattle.calm_rounds.specs.Loss.{IsInTime}
use Rattle.calm_rounds.specs.Windows.{Windows}
use Rattle.calm_rounds.proofs.LampLaws.{Clean, sane_step, says_step, good, moves}
use Rattle.calm_rounds.proofs.Windows.{windows_always}

-- ---- the lamp: the signals that arrive
arrives_4 : IsInTime lamp place.due place.track 3 (Pass 6)
    (Arrive ∷ Pass 6 ∷ Lose ∷ Pass 6 ∷ Lose ∷ Pass 6 ∷ Arrive ∷ Arrive ∷ Pass 6 ∷ Lose ∷ Pass 6 ∷ Lose ∷ Pass 6 ∷ Arrive ∷ Pass 6 ∷ Lose ∷ Pass 6 ∷ Lose ∷ Pass 6 ∷ Arrive ∷ [])
    (run lamp (Pass 6 ∷ Lose ∷ Pass 6 ∷ Lose ∷ []) other_world)
arrives_4 = record { item = record { number = told; born = 5 }; refresh = record { sent = inl refl; goes = refl }; moment = 18; reached = refl; arrives = inl (refl, omega arith) }

arrives_10 : IsInTime lamp place.due place.track 3 (Pass 6)
    (Arrive ∷ Arrive ∷ Pass 6 ∷ Lose ∷ Pass 6 ∷ Lose ∷ Pass 6 ∷ Arrive ∷ Pass 6 ∷ Lose ∷ Pass 6 ∷ Lose ∷ Pass 6 ∷ Arrive ∷ [])
    (run lamp (Pass 6 ∷ Lose ∷ Pass 6 ∷ Lose ∷ Pass 6 ∷ Arrive ∷ Pass 6 ∷ Lose ∷ Pass 6 ∷ Lose ∷ []) other_world)
arrives_10 = record { item = record { number = told; born = 11 }; refresh = record { sent = inl refl; goes = refl }; moment = 36; reached = refl; arrives = inl (refl, omega arith) }

arrives_17 : IsInTime lamp place.due place.track 3 (Pass 6)
    (Arrive ∷ Pass 6 ∷ Lose ∷ Pass 6 ∷ Lose ∷ Pass 6 ∷ Arrive ∷ [])
    (run lamp (Pass 6 ∷ Lose ∷ Pass 6 ∷ Lose ∷ Pass 6 ∷ Arrive ∷ Pass 6 ∷ Lose ∷ Pass 6 ∷ Lose ∷ Pass 6 ∷ Arrive ∷ Arrive ∷ Pass 6 ∷ Lose ∷ Pass 6 ∷ Lose ∷ []) other_world)
arrives_17 = record { item = record { number = told; born = 18 }; refresh = record { sent = inl refl; goes = refl }; moment = 54; reached = refl; arrives = inl (refl, omega arith) }

arrives_23 : IsInTime lamp place.due place.track 3 (Pass 6)
    (Arrive ∷ [])
    (run lamp (Pass 6 ∷ Lose ∷ Pass 6 ∷ Lose ∷ Pass 6 ∷ Arrive ∷ Pass 6 ∷ Lose ∷ Pass 6 ∷ Lose ∷ []) (run lamp first_window other_world))
arrives_23 = record { item = record { number = told; born = 24 }; refresh = record { sent = inl refl; goes = refl }; moment = 72; reached = refl; arrives = inl (refl, omega arith) }

lamp_windows : Windows lamp two_windows other_world
lamp_windows = (
  record { silent = (refl, (refl, (refl, (refl, (refl, (refl, (refl, (refl, (refl, (refl, (refl, (refl, (refl, tt))))))))))))); long = omega arith; flushed = λ x i. absurd i },
  (
    record { silent = (refl, (refl, (refl, (refl, (refl, (refl, (refl, (refl, (refl, (refl, (refl, (refl, tt)))))))))))); long = omega arith; flushed = λ x i. absurd i },
    tt,
  ),
)

pub settles_in_windows : SettlesInWindows
settles_in_windows = record {
  windows = lamp_windows;
  refreshed = (
    inr (inr (inl ((λ x r. absurd r.sent), inr (inr (inl ((λ x r. absurd r.sent), inr (inl arrives_4))))))),
    (
      inl ((λ x r. absurd r.sent), inr (inr (inl ((λ x r. absurd r.sent), inr (inl arrives_4))))),
      (
        inr (inr (inl ((λ x r. absurd r.sent), inr (inl arrives_4)))),
        (
          inl ((λ x r. absurd r.sent), inr (inl arrives_4)),
          (
            inr (inl arrives_4),
            (
              inl ((λ x r. absurd r.sent), inr (inr (inl ((λ x r. absurd r.sent), inr (inr (inl ((λ x r. absurd r.sent), inr (inl arrives_10)))))))),
              (
                inr (inr (inl ((λ x r. absurd r.sent), inr (inr (inl ((λ x r. absurd r.sent), inr (inl arrives_10))))))),
                (
                  inl ((λ x r. absurd r.sent), inr (inr (inl ((λ x r. absurd r.sent), inr (inl arrives_10))))),
                  (
                    inr (inr (inl ((λ x r. absurd r.sent), inr (inl arrives_10)))),
                    (
                      inl ((λ x r. absurd r.sent), inr (inl arrives_10)),
                      (
                        inr (inl arrives_10),
                        (
                          inl (
                            (λ x r. absurd r.sent),
                            inl ((λ x r. absurd r.sent), inr (inr (inl ((λ x r. absurd r.sent), inr (inr (inl ((λ x r. absurd r.sent), inr (inl arrives_17)))))))),
                          ),
                          (
                            inl ((λ x r. absurd r.sent), inr (inr (inl ((λ x r. absurd r.sent), inr (inr (inl ((λ x r. absurd r.sent), inr (inl arrives_17)))))))),
                            (
                              inr (inr (inl ((λ x r. absurd r.sent), inr (inr (inl ((λ x r. absurd r.sent), inr (inl arrives_17))))))),
                              (
                                inl ((λ x r. absurd r.sent), inr (inr (inl ((λ x r. absurd r.sent), inr (inl arrives_17))))),
                                (
                                  inr (inr (inl ((λ x r. absurd r.sent), inr (inl arrives_17)))),
                                  (
                                    inl ((λ x r. absurd r.sent), inr (inl arrives_17)),
                                    (
                                      inr (inl arrives_17),
                                      (
                                        inl ((λ x r. absurd r.sent), inr (inr (inl ((λ x r. absurd r.sent), inr (inr (inl ((λ x r. absurd r.sent), inr (inl arrives_23)))))))),
                                        (
                                          inr (inr (inl ((λ x r. absurd r.sent), inr (inr (inl ((λ x r. absurd r.sent), inr (inl arrives_23))))))),
                                          (
                                            inl ((λ x r. absurd r.sent), inr (inr (inl ((λ x r. absurd r.sent), inr (inl arrives_23))))),
                                            (
                                              inr (inr (inl ((λ x r. absurd r.sent), inr (inl arrives_23)))),
                                              (inl ((λ x r. absurd r.sent), inr (inl arrives_23)), (inr (inl arrives_23), (inl ((λ x r. absurd r.sent), tt), tt))),
                                            ),
                                          ),
                                        ),
                                      ),
                                    ),
                                  ),
                                ),
                              ),
                            ),
                          ),
                        ),
                      ),
                    ),
                  ),
                ),
              ),
            ),
          ),
        ),
      ),
    ),
  );
  moves = moves 1;
  good = hold_map lamp (Clean 1) (Good lamp place told 1) (λ u h. good 1 u h) 0 two_windows other_world
      (windows_always lamp (Clean 1) (λ s u q h. (sane_step s u q h.0, says_step 1 s u h.1)) two_windows other_world lamp_windows (
        record { later = omega arith; soon = omega arith },
        λ x v i le e.
            ⊎_elim (λ (f : x ≡ record { number = 7; born = 0 }). let b : x.born ≡ 0 = ap (λ (z : Signal). z.born) f in absurd (omega (arith, b, le))) (λ (none : ⊥). absurd none) i,
      ));
  not_in_one = λ h. other h.0.0;
}
  where
    other : Stands lamp place told (run lamp (Pass 6 ∷ Lose ∷ Pass 6 ∷ Lose ∷ Pass 6 ∷ Arrive ∷ Pass 6 ∷ Lose ∷ Pass 6 ∷ Lose ∷ Pass 6 ∷ Arrive ∷ Arrive ∷ []) other_world) → ⊥
    other h = let e : ◌≡◌ {A = Option (ℕ × ℕ)} (Some (7, 57)) (Some (told, h.0)) = h.1 in
        let s : ◌≡◌ {A = ℕ × ℕ} (7, 57) (told, h.0) = cc in let no : 7 ≡ told = ap (λ (z : ℕ × ℕ). z.0) s in absurd (omega (arith, no))

-- ---- the mute beacon
sane_some : (c v d : ℕ) → c < d → d ≤ c + 21 → (v' d' : ℕ) → ◌≡◌ {A = Option (ℕ × ℕ)} (Some (v, d)) (Some (v', d')) → (c < d') × (d' ≤ c + 21)
sane_some c v d lt le v' d' e =
    let s : ◌≡◌ {A = ℕ × ℕ} (v, d) (v', d') = cc in let f : d ≡ d' = ap (λ (z : ℕ × ℕ). z.1) s in (omega (arith, lt, f), omega (arith, le, f))

old : (x : Signal) (v : ℕ) → In x (record { number = 7; born = 0 } ∷ []) → 1 ≤ x.born → v ≡ x.number → ⊥
old x v i le e = ⊎_elim (λ (f : x ≡ record { number = 7; born = 0 }). let b : x.born ≡ 0 = ap (λ (z : Signal). z.born) f in absurd (omega (arith, b, le))) (λ (none : ⊥). absurd none) i

-- what is kept at the moment c, until d
abbrev Lives : ℕ → ℕ → Type 0
Lives c d = (v' d' : ℕ) → ◌≡◌ {A = Option (ℕ × ℕ)} (Some (7, d)) (Some (v', d')) → (c < d') × (d' ≤ c + 21)

sane_0_21 : Lives 0 21
sane_0_21 = sane_some 0 7 21 (omega arith) (omega arith)

sane_6_21 : Lives 6 21
sane_6_21 = sane_some 6 7 21 (omega arith) (omega arith)

sane_12_21 : Lives 12 21
sane_12_21 = sane_some 12 7 21 (omega arith) (omega arith)

sane_18_21 : Lives 18 21
sane_18_21 = sane_some 18 7 21 (omega arith) (omega arith)

sane_24_45 : Lives 24 45
sane_24_45 = sane_some 24 7 45 (omega arith) (omega arith)

sane_30_45 : Lives 30 45
sane_30_45 = sane_some 30 7 45 (omega arith) (omega arith)

sane_36_45 : Lives 36 45
sane_36_45 = sane_some 36 7 45 (omega arith) (omega arith)

sane_42_45 : Lives 42 45
sane_42_45 = sane_some 42 7 45 (omega arith) (omega arith)

unkept : (c v d : ℕ) → ◌≡◌ {A = Option (ℕ × ℕ)} None (Some (v, d)) → (c < d) × (d ≤ c + 21)
unkept c v d e = absurd (cc)

nothing : (n : ℕ) (x : Signal) (v : ℕ) → ⊥ → n ≤ x.born → v ≡ x.number → ⊥
nothing n x v i le e = absurd i

kept_sane : Hold mute 0 mute_windows kept_world IsSaneBeacon
kept_sane = (
  (sane_0_21, (sane_6_21, (sane_12_21, (sane_18_21, (unkept 24, unkept 24))))),
  ((unkept 24, (unkept 30, (unkept 36, (unkept 42, (unkept 48, unkept 48))))), unkept 48),
)

told_sane : Hold mute 0 mute_windows told_world IsSaneBeacon
told_sane = (
  (unkept 0, (unkept 6, (unkept 12, (unkept 18, (unkept 24, sane_24_45))))),
  ((sane_24_45, (sane_30_45, (sane_36_45, (sane_42_45, (unkept 48, unkept 48))))), unkept 48),
)

pub takes_the_windows : TakesTheWindows
takes_the_windows = record {
  clocked = takes_the_rounds.clocked;
  stamped = takes_the_rounds.stamped;
  keeps = takes_the_rounds.keeps;
  closed = takes_the_rounds.closed;
  windows = (
    (
      record { silent = (refl, (refl, (refl, (refl, (refl, tt))))); long = omega arith; flushed = λ x i. absurd i },
      (record { silent = (refl, (refl, (refl, (refl, (refl, tt))))); long = omega arith; flushed = λ x i. absurd i }, tt),
    ),
    (
      record { silent = (refl, (refl, (refl, (refl, (refl, tt))))); long = omega arith; flushed = λ x i. absurd i },
      (record { silent = (refl, (refl, (refl, (refl, (refl, tt))))); long = omega arith; flushed = λ x i. absurd i }, tt),
    ),
  );
  sane = (kept_sane, told_sane);
  says_nothing = (
    (nothing 0, (nothing 0, (nothing 0, (nothing 0, (nothing 0, nothing 0))))),
    ((nothing 0, (nothing 0, (nothing 0, (nothing 0, (nothing 0, nothing 0))))), nothing 0),
  );
  not_at_once = λ h. h.0.0 7 21 refl;
  says_nothing_new = (
    (old, (old, (old, (old, (old, nothing 1))))),
    ((nothing 1, (nothing 1, (nothing 1, (nothing 1, (nothing 1, nothing 1))))), nothing 1),
  );
  not_in_one = λ h. h.0.0 7 45 refl;
}
