-- In a run, a settled `flags` line writes the flags that are demanded.
use Rattle.std.proofs.Common.{ℕ, List, ◌∷◌, ◌++◌, ap, arith, refl, subst, sym, ◌∙◌}
use Rattle.network_model.specs.Bounds.{IsSettled, to_settle}
use Rattle.network_model.specs.Runs.{Plan, first_world, steps_of_run, text_of}
use Rattle.network_model.specs.Steps.{Flags, Step, step}
use Rattle.network_model.specs.Worlds.{World}
use Rattle.laws_network.specs.Runs.{AreFitSenders, IsFitRun}
use Rattle.settle_network.specs.Flags.{HasSettledFlags}
use Rattle.settle_network.proofs.DemandedFlags.{settled_flags_are_demanded}
use Rattle.settle_network.proofs.Flags.{flags_are_a_function}
use Rattle.settle_network.proofs.RunsSettle.{flags_of_a_run_settle}
use Rattle.script_theorem.specs.Demands.{moment}
use Rattle.script_theorem.specs.FlagReports.{IsFlagged, SettledFlagsAreAFunction, ASettledFlagsLineIsDemanded}
use Rattle.script_theorem.proofs.Demands.{all_made, fit_at_first, text_then}
use Rattle.script_theorem.proofs.Writing.{a_moment_stays_calm}

flagged : (p : Plan) → IsFitRun p → AreFitSenders p → (ss : List Step) → IsFlagged p ss → HasSettledFlags p.quarter (moment p ss)
flagged p fit senders ss is =
    let settled : IsSettled p.quarter (first_world p) ss =
    subst (λ (z : List Step). IsSettled p.quarter (first_world p) z) (sym is.parts)
    (a_moment_stays_calm to_settle (λ long. omega arith) p.quarter (first_world p) is.rounds is.still is.writes is.settled) in
    flags_of_a_run_settle p fit senders ss is.ahead is.front settled (fit_at_first p fit ss is.ahead is.front settled is.fit)

pub settled_flags_are_a_function : SettledFlagsAreAFunction
settled_flags_are_a_function p fit senders ss ts one other alike =
    flags_are_a_function p.quarter (moment p ss) (moment p ts) (flagged p fit senders ss one) (flagged p fit senders ts other) alike p.names

pub a_settled_flags_line_is_demanded : ASettledFlagsLineIsDemanded
a_settled_flags_line_is_demanded p fit senders uncrowded_run ss still ts parts is writes d =
    let q : ℕ = p.quarter in
    let w : World = first_world p in
    let u : World = moment p (ss ++ still) in
    let settled = flagged p fit senders (ss ++ still) (record { rounds = ss; still = still; ahead = Flags ∷ ts; parts = refl; front = parts; settled = is; writes = writes; fit = d }) in
    ap (λ (z : List Step). text_of q p.names z w) (all_made q p.names (steps_of_run p) w uncrowded_run ∙ parts)
    ∙ text_then q p.names (ss ++ still) (Flags ∷ ts) w
    ∙ ap (λ (z : List ℕ). text_of q p.names (ss ++ still) w ++ (z ++ text_of q p.names ts (step q Flags u))) (settled_flags_are_demanded q u settled p.names)
