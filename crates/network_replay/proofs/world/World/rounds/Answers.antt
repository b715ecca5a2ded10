use Rattle.std.proofs.Common.{◌≡◌, ℕ, ◌+◌, ◌-◌, List, [], ◌∷◌, suc, refl, arith, subst}
use Rattle.std.specs.Prelude.{Result, Err}
use Rattle.std.proofs.lemmas.Result.{err_from_is_err_and}
use Rattle.calm_rounds.specs.Machine.{run}
use Rattle.network_flight.specs.Events.{a_round, rounds}
use Rattle.network_flight.specs.Steps.{machine}
use Rattle.network_replay.specs.Running.{Ran}
use Rattle.network_replay.specs.declared.world_err.WorldErr.{WorldErr}
use Rattle.network_replay.specs.Sights.{RoundOver, Shows, round_sights, rounds_sights, sights}
use Rattle.network_replay.proofs.Runnings.{only_then, well, goes_on, goes_not, goes_end, same_then}
use Rattle.network_replay.proofs.Shown.{shown_end, shown_not, shown_on, shows_then}
use Rattle.network_replay.proofs.world.World.rounds.Goals as goal

pub loop-done-preserved : goal.loop-done-preserved
loop-done-preserved g c =
    let see = g.R.Router.seen in
    let inv = c.loop-done.invariant in
    record {
      going = c.in_ok-round.ensures.refused;
      same = same_then c.args.self.now c.loop-done.self c.round.new.self inv.same c.round.ensures.same;
      goes = λ q left e.
          goes_on q c.args.self.now.names see (a_round q) (rounds q) (λ v. refl)
          (λ n v. refl) c.args.self.now c.loop-done.self c.round.new.self c.args.out.now.items c.loop-done.out.items c.round.new.out.items c.args.times left
          (inv.goes q (suc left) (omega (arith, e)))
          (λ v are. subst (λ (ns : List (List ℕ)). Ran see q ns well c.loop-done.out.items c.round.new.out.items c.round.new.self ((a_round q) v) v) inv.same.names
          (c.in_ok-round.ensures.made q v are));
      told = λ q left e.
          let n = c.args.times in
          shown_on g.W.Watch.saw see q (λ w. run (machine q) (a_round q w) w) (λ m w. round_sights q n m w (run (machine q) (a_round q w) w)) (rounds_sights q n) (λ v. refl)
          (λ m v. refl) c.args.self.now c.loop-done.self c.round.new.self c.args.watch.now c.loop-done.watch c.round_over.new.self n left (inv.told q (suc left) (omega (arith, e)))
          (λ v are. (c.in_ok-round.ensures.made q v are).1)
          (λ v are. (let u = run (machine q) (a_round q v) v in
          let number : c.loop-done.done + 1 ≡ n - left = omega (arith, e) in
          shows_then g.W.Watch.saw c.loop-done.watch c.round.new.watch c.round_over.new.self (sights q (a_round q v) v) (RoundOver u (n - left) n ∷ []) (c.in_ok-round.ensures.told q v are)
          (subst (λ d. Shows g.W.Watch.saw c.round.new.watch c.round_over.new.self (RoundOver u d n ∷ [])) number (c.round_over.ensures q u (c.in_ok-round.ensures.made q v are).1))));
    }

pub returns-in_err-round-clause-made : goal.returns-in_err-round-clause-made
returns-in_err-round-clause-made g c = λ q w agrees.
    let see = g.R.Router.seen in
    let inv = c.loop-done.invariant in
    let n = c.args.times in
    let left : ℕ = n - suc c.loop-done.done in
    let e : c.loop-done.done + suc left ≡ n = omega (arith, c.loop-done-test.true) in
    let given = err_from_is_err_and c.from_residual.result c.from_residual.ensures.1 in
    let r : Result (Unit {0}) WorldErr = Err c.in_err-round.field-0.0 in
    let stop =
    goes_not q c.args.self.now.names see (a_round q) (rounds q) (λ v. refl)
    (λ m v. refl) c.args.self.now c.loop-done.self r c.round.new.self c.round.new.self c.args.out.now.items c.loop-done.out.items c.round.new.out.items n left (inv.goes q (suc left) e) refl
    (λ v are. subst (λ (ns : List (List ℕ)). Ran see q ns r c.loop-done.out.items c.round.new.out.items c.round.new.self ((a_round q) v) v) inv.same.names
    (c.in_err-round.ensures.made q v are)) w agrees in
    rw (given.1, given.2) (stop)

pub returns-clause-made : goal.returns-clause-made
returns-clause-made g c = λ q w agrees.
    let see = g.R.Router.seen in
    let inv = c.loop-done.invariant in
    let n = c.args.times in
    let e : c.loop-done.done + 0 ≡ n = omega (arith, c.loop-done-test.false, c.loop-done.auto.done-end) in
    goes_end q c.args.self.now.names see (a_round q) (rounds q) (λ v. refl) (λ m v. refl) c.args.self.now c.loop-done.self c.args.out.now.items c.loop-done.out.items n (inv.goes q 0 e) w agrees

pub returns-in_err-round-clause-only : goal.returns-in_err-round-clause-only
returns-in_err-round-clause-only g c =
    let given = err_from_is_err_and c.from_residual.result c.from_residual.ensures.1 in
    only_then c.from_residual.result given.0 c.in_err-round.field-0.0 given.1 given.2 c.args.self.now.trace c.loop-done.self.trace c.loop-done.invariant.same.trace c.in_err-round.ensures.only

pub returns-in_err-round-clause-told : goal.returns-in_err-round-clause-told
returns-in_err-round-clause-told g c = λ q w agrees.
    let saw = g.W.Watch.saw in
    let see = g.R.Router.seen in
    let inv = c.loop-done.invariant in
    let n = c.args.times in
    let left : ℕ = n - suc c.loop-done.done in
    let e : c.loop-done.done + suc left ≡ n = omega (arith, c.loop-done-test.true) in
    let given = err_from_is_err_and c.from_residual.result c.from_residual.ensures.1 in
    let r : Result (Unit {0}) WorldErr = Err c.in_err-round.field-0.0 in
    let stop =
    shown_not saw see q (λ w. run (machine q) (a_round q w) w) (λ m w. round_sights q n m w (run (machine q) (a_round q w) w)) (rounds_sights q n) (λ v. refl)
    (λ m v. refl) c.args.self.now c.loop-done.self r c.args.watch.now c.loop-done.watch c.round.new.watch n left (inv.told q (suc left) e) refl
    (λ v are. (sights q (a_round q v) v, RoundOver (run (machine q) (a_round q v) v) (n - left) n ∷ [], refl, c.in_err-round.ensures.told q v are)) w agrees in
    rw given.1 (stop)

pub returns-clause-told : goal.returns-clause-told
returns-clause-told g c = λ q w agrees.
    let saw = g.W.Watch.saw in
    let see = g.R.Router.seen in
    let inv = c.loop-done.invariant in
    let n = c.args.times in
    let e : c.loop-done.done + 0 ≡ n = omega (arith, c.loop-done-test.false, c.loop-done.auto.done-end) in
    shown_end saw see q (λ w. run (machine q) (a_round q w) w) (λ m w. round_sights q n m w (run (machine q) (a_round q w) w)) (rounds_sights q n) (λ v. refl)
    (λ m v. refl) c.args.self.now c.loop-done.self c.args.watch.now c.loop-done.watch n (inv.told q 0 e) w agrees
