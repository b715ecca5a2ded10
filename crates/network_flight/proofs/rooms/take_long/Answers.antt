use Rattle.std.proofs.Common.{arith}
use Rattle.network_flight.proofs.InUse.{new_taken, nothing}
use Rattle.network_flight.proofs.rooms.take_long.Goals as goal

pub returns-clause-taken : goal.returns-clause-taken
returns-clause-taken c =
    let none = c.in_default.ensures.cases in
    new_taken c.len-room.result c.args.free.now.items c.pop.new.self.items c.args.rooms.now.items c.push_reserved.new.self.items c.new.result
    (omega (arith, c.len-room.ensures, c.args.rooms.now.ok.0))
    (nothing c.args.free.now.items (omega (arith, none.0, c.args.free.now.ok.0)))
    (nothing c.pop.new.self.items (omega (arith, none.1, c.pop.new.self.ok.0)))
    c.push_reserved.ensures.items c.new.ensures
