use Rattle.std.proofs.Common.{◌≡◌, ℕ, ◌-◌, suc, arith}
use Rattle.network_flight.specs.Steps.{Lose}
use Rattle.network_replay.proofs.Runnings.{well, at_none, at_one, ran_none}
use Rattle.network_replay.proofs.world.World.lose_at.Goals as goal

pub returns-then-place-eq0-clause-made : goal.returns-then-place-eq0-clause-made
returns-then-place-eq0-clause-made g c = λ t q w agrees.
    let see = g.R.Router.seen in
    let names = c.args.self.now.names in
    at_none q names see well t t c.args.self.now (λ x. Lose x) c.args.place w c.if-place-eq0.true (ran_none q names see t c.args.self.now w agrees)

pub returns-clause-made : goal.returns-clause-made
returns-clause-made g c = λ t q w agrees.
    let j : ℕ = c.args.place - 1 in
    let e : c.args.place ≡ suc j = omega (arith, c.if-place-eq0.false) in
    at_one q c.args.self.now.names g.R.Router.seen c.lose.result t t c.lose.new.self (λ x. Lose x) c.args.place j w e (c.lose.ensures.made t q w agrees)
