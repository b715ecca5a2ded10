use Rattle.std.proofs.Common.{ℕ}
use Rattle.rsvp_base.specs.Orders.{senders}
use Rattle.rsvp_base.proofs.SessionCounts.{room_over}
use Rattle.path_state.specs.declared.fact.PathFact.{PathFact}
use Rattle.path_state.specs.Paths.{path_key}
use Rattle.path_state.proofs.table.PathTable.renew.Goals as goal

pub keep-requires-clause-room : goal.keep-requires-clause-room
keep-requires-clause-room c =
    let k = path_key c.args.fact in
    let e : PathFact × ℕ = (c.args.fact, c.args.left) in
    room_over senders c.args.self.now.facts c.limits.ensures.within k.0 k.1 e c.requires.stands
