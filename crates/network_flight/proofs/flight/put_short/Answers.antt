use Rattle.std.proofs.Common.{◌≡◌, true, length, subst, arith}
use Rattle.std.specs.Prelude.{is_ok}
use Rattle.std.proofs.lemmas.List.{length-append}
use Rattle.network_flight.specs.Rooms.{AreApart, is_short, rooms_of}
use Rattle.network_flight.proofs.InUse.{is_spare, last_alone, put_behind_short}
use Rattle.network_flight.proofs.flight.put_short.Goals as goal

pub take_short-room-requires-clause-spare : goal.take_short-room-requires-clause-spare
take_short-room-requires-clause-spare c = is_spare is_short c.args.queue.now.items c.args.free.now.items c.args.short.now.len c.requires.apart c.requires.few

pub index_mut-requires : goal.index_mut-requires
index_mut-requires c =
    let used = rooms_of is_short c.args.queue.now.items in
    let h : AreApart used c.args.free.now.items (length c.args.short.now.items) = subst (AreApart used c.args.free.now.items) c.args.short.now.ok.0 c.requires.apart in
    let alone = last_alone c.take_short-room.result used c.take_short-room.new.free.items (length c.take_short-room.new.rooms.items) (c.take_short-room.ensures.taken.apart used h) in
    omega (arith, alone.1, c.from.ensures, c.take_short-room.new.rooms.ok.0)

pub returns-clause-put : goal.returns-clause-put
returns-clause-put c long =
    let q = c.args.queue.now.items in
    let used = rooms_of is_short q in
    let r = c.take_short-room.result in
    let h : AreApart used c.args.free.now.items (length c.args.short.now.items) = subst (AreApart used c.args.free.now.items) c.args.short.now.ok.0 c.requires.apart in
    let ok : is_ok c.push_back.result ≡ true = c.push_back.ensures.succeeds (omega (arith, c.requires.few, c.args.queue.now.ok.0, c.requires.place)) in
    let put = put_behind_short q c.args.end c.args.dst r c.args.short.now.items
    c.take_short-room.new.rooms.items long c.args.free.now.items c.take_short-room.new.free.items c.fill.new.self c.take_short-room.ensures.taken h in
    rw (c.push_back.ensures.items, ok, c.from.ensures, ← c.fill.ensures) put

pub returns-clause-len : goal.returns-clause-len
returns-clause-len c =
    let q = c.args.queue.now.items in
    let ok : is_ok c.push_back.result ≡ true = c.push_back.ensures.succeeds (omega (arith, c.requires.few, c.args.queue.now.ok.0, c.requires.place)) in
    rw (c.push_back.ensures.items, ok) (length-append q _)
