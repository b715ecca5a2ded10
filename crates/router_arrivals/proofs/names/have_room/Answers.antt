use Rattle.router_arrivals.specs.Asked.{fixed_want}
use Rattle.router_arrivals.proofs.Wanting.{room_is}
use Rattle.router_arrivals.proofs.names.have_room.Goals as goal

pub returns-clause-room : goal.returns-clause-room
returns-clause-room c = λ flow confirm.
    room_is c.args.session (fixed_want flow confirm) c.args.names.now c.args.wants.now c.of-mine.result.now c.as_slice.result.now c.count_new.result c.of-mine.ensures.rows c.as_slice.ensures.senders
    c.count_new.ensures c.of-mine.ensures.few
