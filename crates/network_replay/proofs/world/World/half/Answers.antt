use Rattle.std.proofs.Common.{ℕ, ◌*◌, ◌∷◌, [], ◌∙◌, List, refl, subst, sym}
use Rattle.std.specs.Prelude.{Result, Err}
use Rattle.std.proofs.lemmas.Result.{err_from_is_err_and}
use Rattle.network_flight.specs.Events.{pass}
use Rattle.network_flight.specs.Steps.{Piece, step}
use Rattle.network_replay.specs.Running.{Ran}
use Rattle.network_replay.specs.declared.world_err.WorldErr.{WorldErr}
use Rattle.network_replay.proofs.Shown.{steps_not, steps_then}
use Rattle.network_replay.proofs.Runnings.{not_memory, ran_then, ran_not}
use Rattle.network_replay.proofs.world.World.half.Goals as goal

pub returns-clause-made : goal.returns-clause-made
returns-clause-made g c = λ q w agrees.
    let see = g.R.Router.seen in
    let o = c.args.out.now.items in
    let first = c.in_ok-half_period.ensures.made o q w agrees in
    let after = step q (Piece (2 * q)) w in
    ran_then q c.args.self.now.names see c.pass.result o o c.pass.new.out.items c.pass.new.self (Piece (2 * q) ∷ []) (pass q after) w first.0 first.2
    (subst (λ (ns : List (List ℕ)). Ran see q ns c.pass.result o c.pass.new.out.items c.pass.new.self (pass q after) after) c.half_period.ensures.same.names (c.pass.ensures.made q after first.1))

pub returns-in_err-half_period-clause-made : goal.returns-in_err-half_period-clause-made
returns-in_err-half_period-clause-made g c = λ q w agrees.
    let see = g.R.Router.seen in
    let o = c.args.out.now.items in
    let after = step q (Piece (2 * q)) w in
    let given = err_from_is_err_and c.from_residual.result c.from_residual.ensures.1 in
    let r : Result (Unit {0}) WorldErr = Err c.in_err-half_period.field-0.0 in
    rw (given.1, given.2) (ran_not q c.args.self.now.names see r o o c.half_period.new.self c.half_period.new.self (Piece (2 * q) ∷ []) (pass q after) w refl
    (c.in_err-half_period.ensures.made o q w agrees))

pub returns-in_err-half_period-clause-only : goal.returns-in_err-half_period-clause-only
returns-in_err-half_period-clause-only g c =
    let given = err_from_is_err_and c.from_residual.result c.from_residual.ensures.1 in
    not_memory c.from_residual.result (rw (given.1, given.2) (c.in_err-half_period.ensures.crowded)) c.args.self.now.trace

pub returns-clause-only : goal.returns-clause-only
returns-clause-only g c = λ e. sym c.half_period.ensures.same.trace ∙ c.pass.ensures.only e

pub returns-clause-told : goal.returns-clause-told
returns-clause-told g c = λ q w agrees.
    let after = step q (Piece (2 * q)) w in
    steps_then g.W.Watch.saw g.R.Router.seen q c.pass.result c.args.watch.now c.half_period.new.watch c.pass.new.watch (Piece (2 * q) ∷ []) (pass q after) w
    (c.in_ok-half_period.ensures.told q w agrees) (c.pass.ensures.told q after (c.in_ok-half_period.ensures.made [] q w agrees).1)

pub returns-in_err-half_period-clause-told : goal.returns-in_err-half_period-clause-told
returns-in_err-half_period-clause-told g c = λ q w agrees.
    let after = step q (Piece (2 * q)) w in
    let given = err_from_is_err_and c.from_residual.result c.from_residual.ensures.1 in
    let r : Result (Unit {0}) WorldErr = Err c.in_err-half_period.field-0.0 in
    rw given.1 (steps_not g.W.Watch.saw g.R.Router.seen q r c.args.watch.now c.half_period.new.watch (Piece (2 * q) ∷ []) (pass q after) w refl
    (c.in_err-half_period.ensures.told q w agrees))
