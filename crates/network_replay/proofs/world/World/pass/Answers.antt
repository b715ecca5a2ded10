use Rattle.std.proofs.Common.{◌≡◌, ◌∙◌, ℕ, ◌+◌, ◌-◌, List, suc, refl, arith, subst, ◌∷◌, []}
use Rattle.std.specs.Prelude.{length, Result, Err}
use Rattle.network_replay.specs.Agreeing.{IsItem}
use Rattle.network_replay.proofs.Zips.{all_zip_length}
use Rattle.std.proofs.lemmas.Result.{err_from_is_err_and}
use Rattle.std.specs.List.{repeat}
use Rattle.network_flight.specs.Steps.{Deliver}
use Rattle.network_replay.specs.Running.{Ran}
use Rattle.network_replay.specs.declared.world_err.WorldErr.{WorldErr}
use Rattle.network_replay.proofs.Runnings.{only_then, well, goes_on, goes_not, goes_end, same_then}
use Rattle.network_replay.specs.Sights.{ShowsRun, sights}
use Rattle.network_replay.proofs.Shown.{turn_not, turn_shown, turns_end}
use Rattle.network_replay.proofs.world.World.pass.Goals as goal

pub loop-preserved : goal.loop-preserved
loop-preserved g c =
    let see = g.R.Router.seen in
    let inv = c.loop.invariant in
    record {
      going = c.in_ok-deliver.ensures.refused;
      same = same_then c.args.self.now c.loop.self c.deliver.new.self inv.same c.deliver.ensures.same;
      goes = λ q left e.
          goes_on q c.args.self.now.names see (λ w. Deliver 0 ∷ []) (λ n w. repeat n (Deliver 0 ∷ [])) (λ v. refl)
          (λ n v. refl) c.args.self.now c.loop.self c.deliver.new.self c.args.out.now.items c.loop.out.items c.deliver.new.out.items c.in_flight-count.result left
          (inv.goes q (suc left) (omega (arith, e)))
          (λ v are. subst (λ (ns : List (List ℕ)). Ran see q ns well c.loop.out.items c.deliver.new.out.items c.deliver.new.self (Deliver 0 ∷ []) v) inv.same.names
          (c.in_ok-deliver.ensures.made q v are));
      told = λ q left e.
          turn_shown g.W.Watch.saw see q (λ w. Deliver 0 ∷ []) (λ n w. repeat n (Deliver 0 ∷ [])) (λ v. refl)
          (λ n v. refl) c.args.self.now c.loop.self c.deliver.new.self c.args.watch.now c.loop.watch c.deliver.new.watch c.in_flight-count.result left (inv.told q (suc left) (omega (arith, e)))
          (λ v are. (c.in_ok-deliver.ensures.made q v are).1) (λ v are. c.in_ok-deliver.ensures.told q v are);
    }

pub returns-in_err-deliver-clause-made : goal.returns-in_err-deliver-clause-made
returns-in_err-deliver-clause-made g c = λ q w agrees.
    let see = g.R.Router.seen in
    let inv = c.loop.invariant in
    let n = c.in_flight-count.result in
    let left : ℕ = n - suc c.loop.counter in
    let e : c.loop.counter + suc left ≡ n = omega (arith, c.loop-test.true) in
    let same : n ≡ length w.flight = c.in_flight-count.ensures ∙ all_zip_length IsItem c.args.self.now.post.flight w.flight agrees.flight in
    let given = err_from_is_err_and c.from_residual.result c.from_residual.ensures.1 in
    let r : Result (Unit {0}) WorldErr = Err c.in_err-deliver.field-0.0 in
    let stop =
    goes_not q c.args.self.now.names see (λ w. Deliver 0 ∷ []) (λ n w. repeat n (Deliver 0 ∷ [])) (λ v. refl)
    (λ m v. refl) c.args.self.now c.loop.self r c.deliver.new.self c.deliver.new.self c.args.out.now.items c.loop.out.items c.deliver.new.out.items n left (inv.goes q (suc left) e) refl
    (λ v are. subst (λ (ns : List (List ℕ)). Ran see q ns r c.loop.out.items c.deliver.new.out.items c.deliver.new.self (Deliver 0 ∷ []) v) inv.same.names
    (c.in_err-deliver.ensures.made q v are)) w agrees in
    rw (given.1, given.2) (subst (λ m. Ran see q c.args.self.now.names r c.args.out.now.items c.deliver.new.out.items c.deliver.new.self (repeat m (Deliver 0 ∷ [])) w) same
    (stop))

pub returns-clause-made : goal.returns-clause-made
returns-clause-made g c = λ q w agrees.
    let see = g.R.Router.seen in
    let inv = c.loop.invariant in
    let n = c.in_flight-count.result in
    let e : c.loop.counter + 0 ≡ n = omega (arith, c.loop-test.false, c.loop.auto.counter-end) in
    let same : n ≡ length w.flight = c.in_flight-count.ensures ∙ all_zip_length IsItem c.args.self.now.post.flight w.flight agrees.flight in
    subst (λ m. Ran see q c.args.self.now.names well c.args.out.now.items c.loop.out.items c.loop.self (repeat m (Deliver 0 ∷ [])) w) same
    (goes_end q c.args.self.now.names see (λ w. Deliver 0 ∷ []) (λ n w. repeat n (Deliver 0 ∷ [])) (λ v. refl) (λ m v. refl) c.args.self.now c.loop.self c.args.out.now.items c.loop.out.items n
    (inv.goes q 0 e) w agrees)

pub returns-in_err-deliver-clause-only : goal.returns-in_err-deliver-clause-only
returns-in_err-deliver-clause-only g c =
    let given = err_from_is_err_and c.from_residual.result c.from_residual.ensures.1 in
    only_then c.from_residual.result given.0 c.in_err-deliver.field-0.0 given.1 given.2 c.args.self.now.trace c.loop.self.trace c.loop.invariant.same.trace c.in_err-deliver.ensures.only

pub returns-in_err-deliver-clause-told : goal.returns-in_err-deliver-clause-told
returns-in_err-deliver-clause-told g c = λ q w agrees.
    let saw = g.W.Watch.saw in
    let see = g.R.Router.seen in
    let inv = c.loop.invariant in
    let n = c.in_flight-count.result in
    let left : ℕ = n - suc c.loop.counter in
    let e : c.loop.counter + suc left ≡ n = omega (arith, c.loop-test.true) in
    let same : n ≡ length w.flight = c.in_flight-count.ensures ∙ all_zip_length IsItem c.args.self.now.post.flight w.flight agrees.flight in
    let given = err_from_is_err_and c.from_residual.result c.from_residual.ensures.1 in
    let r : Result (Unit {0}) WorldErr = Err c.in_err-deliver.field-0.0 in
    let stop =
    turn_not saw see q (λ w. Deliver 0 ∷ []) (λ n w. repeat n (Deliver 0 ∷ [])) (λ v. refl)
    (λ m v. refl) c.args.self.now c.loop.self r c.args.watch.now c.loop.watch c.deliver.new.watch n left (inv.told q (suc left) e) refl
    (λ v are. c.in_err-deliver.ensures.told q v are) w agrees in
    rw given.1 (subst (λ m. ShowsRun saw r c.args.watch.now c.deliver.new.watch (sights q (repeat m (Deliver 0 ∷ [])) w)) same stop)

pub returns-clause-told : goal.returns-clause-told
returns-clause-told g c = λ q w agrees.
    let saw = g.W.Watch.saw in
    let see = g.R.Router.seen in
    let inv = c.loop.invariant in
    let n = c.in_flight-count.result in
    let e : c.loop.counter + 0 ≡ n = omega (arith, c.loop-test.false, c.loop.auto.counter-end) in
    let same : n ≡ length w.flight = c.in_flight-count.ensures ∙ all_zip_length IsItem c.args.self.now.post.flight w.flight agrees.flight in
    subst (λ m. ShowsRun saw well c.args.watch.now c.loop.watch (sights q (repeat m (Deliver 0 ∷ [])) w)) same
    (turns_end saw see q (λ w. Deliver 0 ∷ []) (λ n w. repeat n (Deliver 0 ∷ [])) (λ v. refl) (λ m v. refl) c.args.self.now c.loop.self c.args.watch.now c.loop.watch n (inv.told q 0 e) w agrees)
