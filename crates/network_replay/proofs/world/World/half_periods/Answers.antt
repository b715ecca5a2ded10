use Rattle.std.proofs.Common.{◌≡◌, ℕ, ◌+◌, ◌*◌, ◌-◌, ◌∷◌, [], List, suc, refl, arith, subst}
use Rattle.std.specs.Prelude.{Result, Err}
use Rattle.std.specs.List.{repeat}
use Rattle.std.proofs.lemmas.Result.{err_from_is_err_and}
use Rattle.network_flight.specs.Steps.{Piece}
use Rattle.network_replay.specs.Running.{Ran}
use Rattle.network_replay.specs.declared.world_err.WorldErr.{WorldErr}
use Rattle.network_replay.proofs.Runnings.{well, goes_on, goes_not, goes_end, same_then}
use Rattle.network_replay.proofs.Shown.{turn_not, turn_shown, turns_end}
use Rattle.network_replay.proofs.world.World.half_periods.Goals as goal

pub loop-preserved : goal.loop-preserved
loop-preserved g c =
    let see = g.R.Router.seen in
    let inv = c.loop.invariant in
    record {
      going = c.in_ok-half_period.ensures.refused;
      same = same_then c.args.self.now c.loop.self c.half_period.new.self inv.same c.half_period.ensures.same;
      goes = λ t q left e.
          goes_on q c.args.self.now.names see (λ u. Piece (2 * q) ∷ []) (λ m u. repeat m (Piece (2 * q) ∷ [])) (λ v. refl)
          (λ n v. refl) c.args.self.now c.loop.self c.half_period.new.self t t t c.args.times left (inv.goes t q (suc left) (omega (arith, e)))
          (λ v are. subst (λ (ns : List (List ℕ)). Ran see q ns well t t c.half_period.new.self (Piece (2 * q) ∷ []) v) inv.same.names (c.in_ok-half_period.ensures.made t q v are));
      told = λ q left e.
          turn_shown g.W.Watch.saw see q (λ u. Piece (2 * q) ∷ []) (λ m u. repeat m (Piece (2 * q) ∷ [])) (λ v. refl)
          (λ n v. refl) c.args.self.now c.loop.self c.half_period.new.self c.args.watch.now c.loop.watch c.half_period.new.watch c.args.times left (inv.told q (suc left) (omega (arith, e)))
          (λ v are. (c.in_ok-half_period.ensures.made [] q v are).1) (λ v are. c.in_ok-half_period.ensures.told q v are);
    }

pub returns-in_err-half_period-clause-made : goal.returns-in_err-half_period-clause-made
returns-in_err-half_period-clause-made g c = λ t q w agrees.
    let see = g.R.Router.seen in
    let inv = c.loop.invariant in
    let n = c.args.times in
    let left : ℕ = n - suc c.loop.counter in
    let e : c.loop.counter + suc left ≡ n = omega (arith, c.loop-test.true) in
    let given = err_from_is_err_and c.from_residual.result c.from_residual.ensures.1 in
    let r : Result (Unit {0}) WorldErr = Err c.in_err-half_period.field-0.0 in
    let stop =
    goes_not q c.args.self.now.names see (λ u. Piece (2 * q) ∷ []) (λ m u. repeat m (Piece (2 * q) ∷ [])) (λ v. refl)
    (λ m v. refl) c.args.self.now c.loop.self r c.half_period.new.self c.half_period.new.self t t t n left (inv.goes t q (suc left) e) refl
    (λ v are. subst (λ (ns : List (List ℕ)). Ran see q ns r t t c.half_period.new.self (Piece (2 * q) ∷ []) v) inv.same.names (c.in_err-half_period.ensures.made t q v are)) w agrees in
    rw (given.1, given.2) stop

pub returns-clause-made : goal.returns-clause-made
returns-clause-made g c = λ t q w agrees.
    let see = g.R.Router.seen in
    let inv = c.loop.invariant in
    let n = c.args.times in
    let e : c.loop.counter + 0 ≡ n = omega (arith, c.loop-test.false, c.loop.auto.counter-end) in
    goes_end q c.args.self.now.names see (λ u. Piece (2 * q) ∷ []) (λ m u. repeat m (Piece (2 * q) ∷ [])) (λ v. refl) (λ m v. refl) c.args.self.now c.loop.self t t n (inv.goes t q 0 e) w agrees

pub returns-in_err-half_period-clause-crowded : goal.returns-in_err-half_period-clause-crowded
returns-in_err-half_period-clause-crowded g c =
    let given = err_from_is_err_and c.from_residual.result c.from_residual.ensures.1 in
    rw (given.1, given.2) (c.in_err-half_period.ensures.crowded)

pub returns-in_err-half_period-clause-told : goal.returns-in_err-half_period-clause-told
returns-in_err-half_period-clause-told g c = λ q w agrees.
    let saw = g.W.Watch.saw in
    let see = g.R.Router.seen in
    let inv = c.loop.invariant in
    let n = c.args.times in
    let left : ℕ = n - suc c.loop.counter in
    let e : c.loop.counter + suc left ≡ n = omega (arith, c.loop-test.true) in
    let given = err_from_is_err_and c.from_residual.result c.from_residual.ensures.1 in
    let r : Result (Unit {0}) WorldErr = Err c.in_err-half_period.field-0.0 in
    let stop =
    turn_not saw see q (λ u. Piece (2 * q) ∷ []) (λ m u. repeat m (Piece (2 * q) ∷ [])) (λ v. refl)
    (λ m v. refl) c.args.self.now c.loop.self r c.args.watch.now c.loop.watch c.half_period.new.watch n left (inv.told q (suc left) e) refl
    (λ v are. c.in_err-half_period.ensures.told q v are) w agrees in
    rw given.1 (stop)

pub returns-clause-told : goal.returns-clause-told
returns-clause-told g c = λ q w agrees.
    let saw = g.W.Watch.saw in
    let see = g.R.Router.seen in
    let inv = c.loop.invariant in
    let n = c.args.times in
    let e : c.loop.counter + 0 ≡ n = omega (arith, c.loop-test.false, c.loop.auto.counter-end) in
    turns_end saw see q (λ u. Piece (2 * q) ∷ []) (λ m u. repeat m (Piece (2 * q) ∷ [])) (λ v. refl) (λ m v. refl) c.args.self.now c.loop.self c.args.watch.now c.loop.watch n (inv.told q 0 e) w agrees
