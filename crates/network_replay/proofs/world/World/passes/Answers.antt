use Rattle.std.proofs.Common.{◌≡◌, ℕ, ◌+◌, ◌-◌, List, suc, refl, arith, subst}
use Rattle.std.specs.Prelude.{Result, Err}
use Rattle.std.proofs.lemmas.Result.{err_from_is_err_and}
use Rattle.network_flight.specs.Events.{pass, passes}
use Rattle.network_replay.specs.Running.{Ran}
use Rattle.network_replay.specs.declared.world_err.WorldErr.{WorldErr}
use Rattle.network_replay.proofs.Runnings.{only_then, well, goes_on, goes_not, goes_end, same_then}
use Rattle.network_replay.proofs.Shown.{turn_not, turn_shown, turns_end}
use Rattle.network_replay.proofs.world.World.passes.Goals as goal

pub loop-preserved : goal.loop-preserved
loop-preserved g c =
    let see = g.R.Router.seen in
    let inv = c.loop.invariant in
    record {
      going = c.in_ok-pass.ensures.refused;
      same = same_then c.args.self.now c.loop.self c.pass.new.self inv.same c.pass.ensures.same;
      goes = λ q left e.
          goes_on q c.args.self.now.names see (pass q) (passes q) (λ v. refl)
          (λ n v. refl) c.args.self.now c.loop.self c.pass.new.self c.args.out.now.items c.loop.out.items c.pass.new.out.items c.args.times left (inv.goes q (suc left) (omega (arith, e)))
          (λ v are. subst (λ (ns : List (List ℕ)). Ran see q ns well c.loop.out.items c.pass.new.out.items c.pass.new.self ((pass q) v) v) inv.same.names (c.in_ok-pass.ensures.made q v are));
      told = λ q left e.
          turn_shown g.W.Watch.saw see q (pass q) (passes q) (λ v. refl)
          (λ n v. refl) c.args.self.now c.loop.self c.pass.new.self c.args.watch.now c.loop.watch c.pass.new.watch c.args.times left (inv.told q (suc left) (omega (arith, e)))
          (λ v are. (c.in_ok-pass.ensures.made q v are).1) (λ v are. c.in_ok-pass.ensures.told q v are);
    }

pub returns-in_err-pass-clause-made : goal.returns-in_err-pass-clause-made
returns-in_err-pass-clause-made g c = λ q w agrees.
    let see = g.R.Router.seen in
    let inv = c.loop.invariant in
    let n = c.args.times in
    let left : ℕ = n - suc c.loop.counter in
    let e : c.loop.counter + suc left ≡ n = omega (arith, c.loop-test.true) in
    let given = err_from_is_err_and c.from_residual.result c.from_residual.ensures.1 in
    let r : Result (Unit {0}) WorldErr = Err c.in_err-pass.field-0.0 in
    let stop =
    goes_not q c.args.self.now.names see (pass q) (passes q) (λ v. refl)
    (λ m v. refl) c.args.self.now c.loop.self r c.pass.new.self c.pass.new.self c.args.out.now.items c.loop.out.items c.pass.new.out.items n left (inv.goes q (suc left) e) refl
    (λ v are. subst (λ (ns : List (List ℕ)). Ran see q ns r c.loop.out.items c.pass.new.out.items c.pass.new.self ((pass q) v) v) inv.same.names (c.in_err-pass.ensures.made q v are)) w agrees in
    rw (given.1, given.2) (stop)

pub returns-clause-made : goal.returns-clause-made
returns-clause-made g c = λ q w agrees.
    let see = g.R.Router.seen in
    let inv = c.loop.invariant in
    let n = c.args.times in
    let e : c.loop.counter + 0 ≡ n = omega (arith, c.loop-test.false, c.loop.auto.counter-end) in
    goes_end q c.args.self.now.names see (pass q) (passes q) (λ v. refl) (λ m v. refl) c.args.self.now c.loop.self c.args.out.now.items c.loop.out.items n (inv.goes q 0 e) w agrees

pub returns-in_err-pass-clause-only : goal.returns-in_err-pass-clause-only
returns-in_err-pass-clause-only g c =
    let given = err_from_is_err_and c.from_residual.result c.from_residual.ensures.1 in
    only_then c.from_residual.result given.0 c.in_err-pass.field-0.0 given.1 given.2 c.args.self.now.trace c.loop.self.trace c.loop.invariant.same.trace c.in_err-pass.ensures.only

pub returns-in_err-pass-clause-told : goal.returns-in_err-pass-clause-told
returns-in_err-pass-clause-told g c = λ q w agrees.
    let saw = g.W.Watch.saw in
    let see = g.R.Router.seen in
    let inv = c.loop.invariant in
    let n = c.args.times in
    let left : ℕ = n - suc c.loop.counter in
    let e : c.loop.counter + suc left ≡ n = omega (arith, c.loop-test.true) in
    let given = err_from_is_err_and c.from_residual.result c.from_residual.ensures.1 in
    let r : Result (Unit {0}) WorldErr = Err c.in_err-pass.field-0.0 in
    let stop =
    turn_not saw see q (pass q) (passes q) (λ v. refl)
    (λ m v. refl) c.args.self.now c.loop.self r c.args.watch.now c.loop.watch c.pass.new.watch n left (inv.told q (suc left) e) refl
    (λ v are. c.in_err-pass.ensures.told q v are) w agrees in
    rw given.1 (stop)

pub returns-clause-told : goal.returns-clause-told
returns-clause-told g c = λ q w agrees.
    let saw = g.W.Watch.saw in
    let see = g.R.Router.seen in
    let inv = c.loop.invariant in
    let n = c.args.times in
    let e : c.loop.counter + 0 ≡ n = omega (arith, c.loop-test.false, c.loop.auto.counter-end) in
    turns_end saw see q (pass q) (passes q) (λ v. refl) (λ m v. refl) c.args.self.now c.loop.self c.args.watch.now c.loop.watch n (inv.told q 0 e) w agrees
