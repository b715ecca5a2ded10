-- The run of a fit script settles: where its steps so far end in enough calm rounds, and the demands fit when these begin.
use Rattle.std.proofs.Common.{◌≡◌, ℕ, List, [], ◌∷◌, refl, subst, ap, ◌∙◌}
use Rattle.std.specs.Prelude.{◌++◌}
use Rattle.rsvp_base.specs.declared.session.Session.{Session}
use Rattle.calm_rounds.specs.Hold.{Visited}
use Rattle.calm_rounds.specs.Machine.{run}
use Rattle.tree_model.specs.Goals.{DemandsFit}
use Rattle.network_model.specs.Bounds.{AreBounds, AreHosts, IsSettled, all_of}
use Rattle.network_model.specs.Locals.{locals_of}
use Rattle.network_model.specs.Runs.{Plan, first_world, steps_of_run}
use Rattle.network_model.specs.Steps.{Step, machine, step}
use Rattle.network_model.specs.Worlds.{World}
use Rattle.laws_network.specs.Runs.{AreFitSenders, IsFitRun}
use Rattle.laws_network.proofs.Hosts.{each_world_of_a_run_keeps_the_locals}
use Rattle.settle_resvs.specs.Sessions.{SessionFits}
use Rattle.settle_network.specs.Flags.{HasSettledFlags}
use Rattle.settle_network.specs.Sessions.{HasSettledFor}
use Rattle.settle_network.specs.Settled.{HasSettled}
use Rattle.settle_network.proofs.Flags.{flags_settle}
use Rattle.settle_network.proofs.Settled.{a_settled_moment, a_settled_moment_of}

-- what holds of each world that is visited holds of the world after a front of the steps
pub visited_at : (q : ℕ) (P : World → Type 0) (ss ts : List Step) (w : World) → Visited (machine q) P (ss ++ ts) w → P (run (machine q) ss w)
visited_at q P [] [] w v = v
visited_at q P [] (t ∷ ts) w v = v.0
visited_at q P (s ∷ ss) ts w v = visited_at q P ss ts (step q s w) v.1

pub joined : (xs ys zs : List Step) → (xs ++ ys) ++ zs ≡ xs ++ (ys ++ zs)
joined [] ys zs = refl
joined (x ∷ xs) ys zs = λ i. x ∷ joined xs ys zs i

-- in a run each world where rounds begin is within bounds, with hosts
kept_at : (p : Plan) → IsFitRun p → AreFitSenders p → (ss ts : List Step) → steps_of_run p ≡ ss ++ ts → (is : IsSettled p.quarter (first_world p) ss)
    → AreBounds p.quarter (run (machine p.quarter) is.before (first_world p)) × AreHosts (run (machine p.quarter) is.before (first_world p))
kept_at p run_fit senders ss ts front is =
    let parts : steps_of_run p ≡ is.before ++ (all_of is.rounds ++ ts) = front ∙ ap (λ (z : List Step). z ++ ts) is.parts ∙ joined is.before (all_of is.rounds) ts in
    visited_at p.quarter (λ u. AreBounds p.quarter u × AreHosts u) is.before (all_of is.rounds ++ ts) (first_world p)
    (subst (λ (z : List Step). Visited (machine p.quarter) (λ u. AreBounds p.quarter u × AreHosts u) z (first_world p)) parts (each_world_of_a_run_keeps_the_locals p run_fit senders))

pub a_run_settles : (p : Plan) → IsFitRun p → AreFitSenders p → (ss ts : List Step) → steps_of_run p ≡ ss ++ ts → (is : IsSettled p.quarter (first_world p) ss)
    → DemandsFit (run (machine p.quarter) is.before (first_world p)).net (locals_of (run (machine p.quarter) is.before (first_world p)))
    → HasSettled p.quarter (run (machine p.quarter) ss (first_world p))
a_run_settles p run_fit senders ss ts front is fit =
    let kept = kept_at p run_fit senders ss ts front is in
    a_settled_moment p.quarter (first_world p) ss is (record { bounds = kept.0; locals = kept.1; fit = fit })

pub a_session_of_a_run_settles : (p : Plan) → IsFitRun p → AreFitSenders p → (ss ts : List Step) → steps_of_run p ≡ ss ++ ts → (is : IsSettled p.quarter (first_world p) ss) → (s : Session)
    → SessionFits (run (machine p.quarter) is.before (first_world p)).net (locals_of (run (machine p.quarter) is.before (first_world p))) s
    → HasSettledFor p.quarter s (run (machine p.quarter) ss (first_world p))
a_session_of_a_run_settles p run_fit senders ss ts front is s fit =
    let kept = kept_at p run_fit senders ss ts front is in
    a_settled_moment_of p.quarter s (first_world p) ss is kept.0 kept.1 fit

pub flags_of_a_run_settle : (p : Plan) → IsFitRun p → AreFitSenders p → (ss ts : List Step) → steps_of_run p ≡ ss ++ ts → (is : IsSettled p.quarter (first_world p) ss)
    → DemandsFit (run (machine p.quarter) is.before (first_world p)).net (locals_of (run (machine p.quarter) is.before (first_world p)))
    → HasSettledFlags p.quarter (run (machine p.quarter) ss (first_world p))
flags_of_a_run_settle p run_fit senders ss ts front is fit =
    let kept = kept_at p run_fit senders ss ts front is in
    flags_settle p.quarter (first_world p) ss is (record { bounds = kept.0; locals = kept.1; fit = fit })
