-- The overheads of two small networks, by computing, a script that meets the premises, and networks in which one is not met.
use Rattle.std.proofs.Common.{◌≡◌, ℕ, List, [], ◌∷◌, length, Bool, true, false, cond, arith, refl, ap, ◌∙◌}
use Rattle.std.specs.Prelude.{◌&&◌, ◌==◌}
use Rattle.calm_rounds.specs.Machine.{run}
use Rattle.router_rules.specs.Inputs.{SendAs}
use Rattle.router_rules.specs.Rule.{facts_with}
use Rattle.rsvp_base.specs.Members.{In}
use Rattle.rsvp_base.proofs.SetLaws.{and_both}
use Rattle.tree_model.specs.Wants.{want}
use Rattle.tree_model.proofs.Following.{same_number}
use Rattle.network_model.specs.Bounds.{IsSettled, all_of}
use Rattle.network_model.specs.Events.{Rounds, all_steps, rounds}
use Rattle.network_model.specs.Locals.{locals_of}
use Rattle.network_model.specs.Rows.{shared_link}
use Rattle.network_model.specs.Runs.{first_world, is_crowded, is_crowded_run, steps_of_run}
use Rattle.network_model.specs.Steps.{At, Piece, Step, machine, step}
use Rattle.network_model.specs.ThreeRouters.{first, session, usual}
use Rattle.network_model.specs.Worlds.{World}
use Rattle.laws_network.specs.Rounds.{rounds_of}
use Rattle.laws_network.specs.Runs.{AreFitSenders, IsFitRun}
use Rattle.laws_network.proofs.Calming.{calm_rounds, rounds_is_calm}
use Rattle.settle_network.specs.RunExample.{begun}
use Rattle.settle_network.proofs.RunExample.{a_run_meets_the_premises}
use Rattle.network_demand.specs.Overhead.{overhead}
use Rattle.settle_refreshes.specs.WorkedRoom.{APairIsRoomy, ARefusalComesBack, ConfirmationsMultiply, OverheadsAreSo, WhatIsLeftOverIsRefreshed, ended, greedy_plan, plan, refused, two_ask}
use Rattle.settle_refreshes.proofs.RoomyRuns.{append_none, stays}

asked : overhead (shared_link []).net two_ask ≡ 5
unfolding want
asked = refl

alone : overhead (shared_link []).net (record two_ask { wants = [] }) ≡ 3
unfolding want
alone = refl

pub overheads_are_so : OverheadsAreSo
overheads_are_so = record { asked = asked; alone = alone }

-- ---- the pair
fit_run : IsFitRun plan
fit_run =
    let of = a_run_meets_the_premises.fit_run.plan in
    record { plan = record { period = of.period; net = of.net; hosts = of.hosts; stale = of.stale }; events = (a_run_meets_the_premises.fit_run.events.0, (tt, tt)) }

senders : AreFitSenders plan
senders = (a_run_meets_the_premises.senders.0, (a_run_meets_the_premises.senders.1.0, a_run_meets_the_premises.senders.1.1.0))

steps_are : (n : ℕ) (w : World) → all_steps 7500 (Rounds n ∷ []) w ≡ all_of (rounds_of 7500 n w)
steps_are n w = append_none (rounds 7500 n w) ∙ (rounds_is_calm 7500 n w).steps

settled : IsSettled 7500 (first_world plan) (steps_of_run plan)
settled = record {
  before = At 0 (SendAs session first usual) ∷ [];
  rounds = rounds_of 7500 28 begun;
  parts = ap (λ (z : List Step). At 0 (SendAs session first usual) ∷ z) (steps_are 28 begun);
  calm = calm_rounds 7500 28 begun;
  enough = let n = (rounds_is_calm 7500 28 begun).number in omega arith;
}

uncrowded : is_crowded_run plan ≡ false
unfolding facts_with
uncrowded = refl

-- nothing is in flight in the end, and one datagram half a period later; each world is looked at on the way, so that none is computed twice
abbrev is_met : World → Bool
is_met w = (length w.flight == 0) && (length (step 7500 (Piece 15000) w).flight == 1)

abbrev ends_so : (World → Bool) → List Step → World → Bool
ends_so is [] w = is w
ends_so is (s ∷ ss) w = cond (is_crowded (step 7500 s w)) false (ends_so is ss (step 7500 s w))

ended_so : (is : World → Bool) (ss : List Step) (w : World) → ends_so is ss w ≡ true → is (run (machine 7500) ss w) ≡ true
ended_so is [] w e = e
ended_so is (s ∷ ss) w e = by (is_crowded (step 7500 s w)) (ended_so is ss (step 7500 s w)) e
  where
    by : (b : Bool) → (ends_so is ss (step 7500 s w) ≡ true → is (run (machine 7500) ss (step 7500 s w)) ≡ true) → cond b false (ends_so is ss (step 7500 s w)) ≡ true
        → is (run (machine 7500) ss (step 7500 s w)) ≡ true
    by true rest t = absurd (cc)
    by false rest t = rest t

met_there : ends_so is_met (steps_of_run plan) (first_world plan) ≡ true
unfolding facts_with
met_there = refl

both : (length ended.flight ≡ 0) × (length (step 7500 (Piece 15000) ended).flight ≡ 1)
both =
    let r = and_both (length ended.flight == 0) (length (step 7500 (Piece 15000) ended).flight == 1) (ended_so is_met (steps_of_run plan) (first_world plan) met_there) in
    (same_number (length ended.flight) 0 r.0, same_number (length (step 7500 (Piece 15000) ended).flight) 1 r.1)

one_path : overhead begun.net (locals_of begun) ≡ 1
unfolding facts_with want
one_path = refl

nothing : {A : Type 0} (xs : List A) (x : A) → length xs ≡ 0 → In x xs → ⊥
nothing [] x e i = i
nothing (y ∷ ys) x e i = omega (arith, e)

small : overhead ended.net (locals_of ended) ≡ 1
unfolding settled
small = let same = stays plan fit_run senders settled in (λ j. overhead (same.net j) (same.locals j)) ∙ one_path

pub a_pair_is_roomy : APairIsRoomy
unfolding settled
a_pair_is_roomy = record {
  fit_run = fit_run;
  senders = senders;
  uncrowded = uncrowded;
  settled = settled;
  fit = a_run_meets_the_premises.fit;
  none = both.0;
  only = λ y i. absurd (nothing ended.flight y both.0 i);
  small = small;
  met = both.1;
}

-- ---- where a premise is not met
abbrev is_refused : World → Bool
is_refused w = (length w.flight == 0) && (length (run (machine 7500) (rounds 7500 1 w) w).flight == 1)

refused_there : ends_so is_refused (steps_of_run greedy_plan) (first_world greedy_plan) ≡ true
unfolding facts_with
refused_there = refl

pub a_refusal_comes_back : ARefusalComesBack
a_refusal_comes_back =
    let r = and_both (length refused.flight == 0) (length (run (machine 7500) (rounds 7500 1 refused) refused).flight == 1)
    (ended_so is_refused (steps_of_run greedy_plan) (first_world greedy_plan) refused_there) in
    record { none = same_number (length refused.flight) 0 r.0; more = same_number (length (run (machine 7500) (rounds 7500 1 refused) refused).flight) 1 r.1 }

pub what_is_left_over_is_refreshed : WhatIsLeftOverIsRefreshed
unfolding facts_with want
what_is_left_over_is_refreshed = record { none = refl; small = refl; more = refl }

pub confirmations_multiply : ConfirmationsMultiply
unfolding facts_with want
confirmations_multiply = record { small = refl; few = refl; many = refl }
