use Rattle.std.proofs.Common.{◌≡◌, ◌∙◌, ℕ, ◌*◌, ◌/◌, ◌%◌, ◌∷◌, ◌++◌, [], List, refl, ap, subst, arith}
use Rattle.std.specs.Prelude.{Result, Err}
use Rattle.std.specs.List.{repeat}
use Rattle.std.proofs.lemmas.Nat.{mod_below}
use Rattle.std.proofs.lemmas.Result.{err_from_is_err_and}
use Rattle.calm_rounds.specs.Machine.{run}
use Rattle.network_flight.specs.Events.{last_piece}
use Rattle.network_flight.specs.Steps.{Piece, Step, machine}
use Rattle.network_replay.specs.Running.{Ran}
use Rattle.network_replay.specs.Sights.{ShowsRun, sights}
use Rattle.network_replay.specs.declared.world_err.WorldErr.{WorldErr}
use Rattle.network_replay.proofs.Shown.{steps_not, steps_then}
use Rattle.network_replay.proofs.Runnings.{ran_then, ran_not}
use Rattle.network_replay.proofs.world.World.wait.Goals as goal

pub last_piece-requires-clause-short : goal.last_piece-requires-clause-short
last_piece-requires-clause-short g c =
    let below = mod_below c.args.ms c.half_ms-half.result c.half_ms-half.ensures.some in
    omega (arith, below, c.half_ms-half.ensures.half, c.half_periods.ensures.same.quarter)

pub returns-clause-made : goal.returns-clause-made
returns-clause-made g c = λ t q w agrees.
    let see = g.R.Router.seen in
    let names = c.args.self.now.names in
    let h = c.half_ms-half.result in
    let ss : List Step = repeat (c.args.ms / h) (Piece (2 * q) ∷ []) in
    let ts : List Step = last_piece q (c.args.ms % h) in
    let same : h ≡ 2 * q = c.half_ms-half.ensures.half ∙ ap (λ n. 2 * n) agrees.quarter in
    let first = c.in_ok-half_periods.ensures.made t q w agrees in
    let after = run (machine q) ss w in
    let then = subst (λ (ns : List (List ℕ)). Ran see q ns c.last_piece.result t t c.last_piece.new.self ts after) c.half_periods.ensures.same.names (c.last_piece.ensures.made t q after first.1) in
    subst (λ n. Ran see q names c.last_piece.result t t c.last_piece.new.self (repeat (c.args.ms / n) (Piece (2 * q) ∷ []) ++ last_piece q (c.args.ms % n)) w) same
    (ran_then q names see c.last_piece.result t t t c.last_piece.new.self ss ts w first.0 first.2 then)

pub returns-in_err-half_periods-clause-made : goal.returns-in_err-half_periods-clause-made
returns-in_err-half_periods-clause-made g c = λ t q w agrees.
    let see = g.R.Router.seen in
    let names = c.args.self.now.names in
    let h = c.half_ms-half.result in
    let ss : List Step = repeat (c.args.ms / h) (Piece (2 * q) ∷ []) in
    let ts : List Step = last_piece q (c.args.ms % h) in
    let same : h ≡ 2 * q = c.half_ms-half.ensures.half ∙ ap (λ n. 2 * n) agrees.quarter in
    let given = err_from_is_err_and c.from_residual.result c.from_residual.ensures.1 in
    let r : Result (Unit {0}) WorldErr = Err c.in_err-half_periods.field-0.0 in
    rw (given.1, given.2)
    (subst (λ n. Ran see q names r t t c.half_periods.new.self (repeat (c.args.ms / n) (Piece (2 * q) ∷ []) ++ last_piece q (c.args.ms % n)) w) same
    (ran_not q names see r t t c.half_periods.new.self c.half_periods.new.self ss ts w refl (c.in_err-half_periods.ensures.made t q w agrees)))

pub returns-in_err-half_periods-clause-crowded : goal.returns-in_err-half_periods-clause-crowded
returns-in_err-half_periods-clause-crowded g c =
    let given = err_from_is_err_and c.from_residual.result c.from_residual.ensures.1 in
    rw (given.1, given.2) (c.in_err-half_periods.ensures.crowded)

pub returns-clause-told : goal.returns-clause-told
returns-clause-told g c = λ q w agrees.
    let saw = g.W.Watch.saw in
    let h = c.half_ms-half.result in
    let ss : List Step = repeat (c.args.ms / h) (Piece (2 * q) ∷ []) in
    let ts : List Step = last_piece q (c.args.ms % h) in
    let same : h ≡ 2 * q = c.half_ms-half.ensures.half ∙ ap (λ n. 2 * n) agrees.quarter in
    let r = c.last_piece.result in
    let a = c.args.watch.now in
    let b = c.last_piece.new.watch in
    subst (λ n. ShowsRun saw r a b (sights q (repeat (c.args.ms / n) (Piece (2 * q) ∷ []) ++ last_piece q (c.args.ms % n)) w)) same
    (steps_then saw g.R.Router.seen q r a c.half_periods.new.watch b ss ts w (c.in_ok-half_periods.ensures.told q w agrees)
    (c.last_piece.ensures.told q (run (machine q) ss w) (c.in_ok-half_periods.ensures.made [] q w agrees).1))

pub returns-in_err-half_periods-clause-told : goal.returns-in_err-half_periods-clause-told
returns-in_err-half_periods-clause-told g c = λ q w agrees.
    let saw = g.W.Watch.saw in
    let h = c.half_ms-half.result in
    let ss : List Step = repeat (c.args.ms / h) (Piece (2 * q) ∷ []) in
    let ts : List Step = last_piece q (c.args.ms % h) in
    let same : h ≡ 2 * q = c.half_ms-half.ensures.half ∙ ap (λ n. 2 * n) agrees.quarter in
    let a = c.args.watch.now in
    let b = c.half_periods.new.watch in
    let given = err_from_is_err_and c.from_residual.result c.from_residual.ensures.1 in
    let r : Result (Unit {0}) WorldErr = Err c.in_err-half_periods.field-0.0 in
    rw given.1
    (subst (λ n. ShowsRun saw r a b (sights q (repeat (c.args.ms / n) (Piece (2 * q) ∷ []) ++ last_piece q (c.args.ms % n)) w)) same
    (steps_not saw g.R.Router.seen q r a b ss ts w refl (c.in_err-half_periods.ensures.told q w agrees)))
