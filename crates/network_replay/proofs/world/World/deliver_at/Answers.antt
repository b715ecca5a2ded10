use Rattle.std.proofs.Common.{◌≡◌, ℕ, ◌-◌, suc, ap, sym, subst, arith}
use Rattle.network_flight.specs.Events.{at_place}
use Rattle.network_flight.specs.Steps.{Deliver}
use Rattle.network_replay.specs.Sights.{ShowsRun, sights}
use Rattle.network_replay.proofs.Shown.{run_no_more}
use Rattle.network_replay.proofs.Runnings.{well, at_none, at_one, ran_none}
use Rattle.network_replay.proofs.world.World.deliver_at.Goals as goal

pub returns-then-place-eq0-clause-made : goal.returns-then-place-eq0-clause-made
returns-then-place-eq0-clause-made g c = λ q w agrees.
    let see = g.R.Router.seen in
    let names = c.args.self.now.names in
    at_none q names see well c.args.out.now.items c.args.out.now.items c.args.self.now (λ x. Deliver x) c.args.place w c.if-place-eq0.true
    (ran_none q names see c.args.out.now.items c.args.self.now w agrees)

pub returns-clause-made : goal.returns-clause-made
returns-clause-made g c = λ q w agrees.
    let j : ℕ = c.args.place - 1 in
    let e : c.args.place ≡ suc j = omega (arith, c.if-place-eq0.false) in
    at_one q c.args.self.now.names g.R.Router.seen c.deliver.result c.args.out.now.items c.deliver.new.out.items c.deliver.new.self (λ x. Deliver x) c.args.place j w e
    (c.deliver.ensures.made q w agrees)

pub returns-then-place-eq0-clause-told : goal.returns-then-place-eq0-clause-told
returns-then-place-eq0-clause-told g c = λ q w agrees.
    run_no_more g.W.Watch.saw well c.args.watch.now (sights q (at_place Deliver c.args.place) w) (ap (λ n. sights q (at_place Deliver n) w) c.if-place-eq0.true)

pub returns-clause-told : goal.returns-clause-told
returns-clause-told g c = λ q w agrees.
    let j : ℕ = c.args.place - 1 in
    let e : c.args.place ≡ suc j = omega (arith, c.if-place-eq0.false) in
    subst (λ n. ShowsRun g.W.Watch.saw c.deliver.result c.args.watch.now c.deliver.new.watch (sights q (at_place Deliver n) w)) (sym e) (c.deliver.ensures.told q w agrees)
