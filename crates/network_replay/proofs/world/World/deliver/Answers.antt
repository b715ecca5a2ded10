use Rattle.std.proofs.Common.{List, [], ◌∷◌, subst}
use Rattle.network_flight.specs.Steps.{Deliver, step}
use Rattle.network_replay.specs.Sights.{Sight, ShowsRun}
use Rattle.network_replay.proofs.Shown.{one_delivery, then_agrees}
use Rattle.network_replay.proofs.world.World.deliver.Goals as goal

pub returns-clause-told : goal.returns-clause-told
returns-clause-told g c = λ q w agrees.
    let see = g.R.Router.seen in
    let k = c.args.place in
    let r = c.hand_on-ran.result in
    let are =
    then_agrees see q c.args.self.now.names r c.args.out.now.items c.hand_on-ran.new.out.items c.hand_on-ran.new.self (Deliver k ∷ []) w (c.hand_on-ran.ensures.made q w agrees) in
    subst (λ (x : List Sight). ShowsRun g.W.Watch.saw r c.args.watch.now c.show_delivered.new.watch x) (one_delivery q k w c.hand_on-ran.new.seen (c.hand_on-ran.ensures.seen q w agrees))
    (c.show_delivered.ensures q (step q (Deliver k) w) are)
