-- In a run, an `adverts` line behind enough calm rounds writes the advertisements that are demanded.
use Rattle.std.proofs.Common.{◌≡◌, ℕ, ◌+◌, ◌*◌, List, ◌∷◌, ◌++◌, ap, arith, subst, sym, ◌∙◌}
use Rattle.calm_rounds.specs.Hold.{Visited}
use Rattle.calm_rounds.specs.Machine.{run}
use Rattle.calm_rounds.proofs.Holding.{hold_end}
use Rattle.tree_model.specs.Ranks.{longest}
use Rattle.network_model.specs.Bounds.{AreBounds, AreHosts, all_of}
use Rattle.network_model.specs.Runs.{Plan, first_world, steps_of_run, text_of}
use Rattle.network_model.specs.Steps.{Adverts, Step, machine, step}
use Rattle.network_model.specs.Worlds.{World}
use Rattle.laws_network.specs.Runs.{AreFitSenders, IsFitRun}
use Rattle.laws_network.proofs.Hosts.{each_world_of_a_run_keeps_the_locals}
use Rattle.laws_network.proofs.Keeping.{calm_rounds_keep_bounds}
use Rattle.settle_adverts.specs.Demanded.{HasSettledAdverts}
use Rattle.settle_adverts.proofs.Demanded.{settled_adverts_are_demanded}
use Rattle.settle_adverts.proofs.Settling.{all_adverts_settle}
use Rattle.settle_network.proofs.RunsSettle.{joined, visited_at}
use Rattle.settle_network.proofs.Settled.{run_all, run_then}
use Rattle.script_theorem.specs.AdvertReports.{ASettledAdvertsLineIsDemanded, AreAdvertsSettled, to_advertise}
use Rattle.script_theorem.specs.Demands.{moment}
use Rattle.script_theorem.proofs.Demands.{all_made, text_then}
use Rattle.script_theorem.proofs.Writing.{a_moment_stays_calm}

adverts_of_a_run_settle : (p : Plan) → IsFitRun p → AreFitSenders p → (ss ts : List Step) → steps_of_run p ≡ ss ++ ts → AreAdvertsSettled p.quarter (first_world p) ss
    → HasSettledAdverts p.quarter (moment p ss)
adverts_of_a_run_settle p fit senders ss ts front is =
    let q : ℕ = p.quarter in
    let w : World = first_world p in
    let o : World = run (machine q) is.before w in
    let parts : steps_of_run p ≡ is.before ++ (all_of is.rounds ++ ts) = front ∙ ap (λ (z : List Step). z ++ ts) is.parts ∙ joined is.before (all_of is.rounds) ts in
    let kept : AreBounds q o × AreHosts o =
    visited_at q (λ u. AreBounds q u × AreHosts u) is.before (all_of is.rounds ++ ts) w
    (subst (λ (z : List Step). Visited (machine q) (λ u. AreBounds q u × AreHosts u) z w) parts (each_world_of_a_run_keeps_the_locals p fit senders)) in
    let settled =
    hold_end (machine q) (HasSettledAdverts q) (4 + 7 * longest o.net) is.rounds o is.enough
    (all_adverts_settle q o is.rounds is.calm kept.1 (calm_rounds_keep_bounds q o is.rounds is.calm kept.0)) in
    subst (HasSettledAdverts q) (sym (ap (λ (z : List Step). run (machine q) z w) is.parts ∙ run_then q is.before (all_of is.rounds) w ∙ run_all q is.rounds o)) settled

pub a_settled_adverts_line_is_demanded : ASettledAdvertsLineIsDemanded
a_settled_adverts_line_is_demanded p fit senders uncrowded_run ss still ts parts is writes =
    let q : ℕ = p.quarter in
    let w : World = first_world p in
    let u : World = moment p (ss ++ still) in
    let settled =
    adverts_of_a_run_settle p fit senders (ss ++ still) (Adverts ∷ ts) parts (a_moment_stays_calm to_advertise (λ long. omega arith) q w ss still writes is) in
    ap (λ (z : List Step). text_of q p.names z w) (all_made q p.names (steps_of_run p) w uncrowded_run ∙ parts)
    ∙ text_then q p.names (ss ++ still) (Adverts ∷ ts) w
    ∙ ap (λ (z : List ℕ). text_of q p.names (ss ++ still) w ++ (z ++ text_of q p.names ts (step q Adverts u))) (settled_adverts_are_demanded q u settled p.names)
