use Rattle.std.proofs.Common.{◌≡◌, true, ◌<◌, length, refl, sym, subst, ◌++◌, ◌∷◌, [], arith}
use Rattle.std.specs.Prelude.{is_ok}
use Rattle.std.proofs.lemmas.List.{length-append}
use Rattle.network_flight.specs.Rooms.{AreApart, is_long, is_short, rooms_of}
use Rattle.network_flight.specs.declared.flight.Parcel.{Parcel as Packed}
use Rattle.network_flight.proofs.InUse.{is_spare, last_alone, put_behind_long, put_elsewhere, put_in}
use Rattle.network_flight.proofs.flight.Flight.put.Goals as goal

pub put_short-requires-clause-few : goal.put_short-requires-clause-few
put_short-requires-clause-few c = omega (arith, c.if-len-eq-MOST_PARCELS.false, c.len.ensures, c.self.inside.queue.ok.0, c.self.invariant.9)

pub take_long-room-requires-clause-spare : goal.take_long-room-requires-clause-spare
take_long-room-requires-clause-spare c =
    let i = c.self.inside in
    is_spare is_long i.queue.items i.free_long.items i.long.len c.self.invariant.1 (omega (arith, c.if-len-eq-MOST_PARCELS.false, c.len.ensures, i.queue.ok.0, c.self.invariant.9))

pub index_mut-requires : goal.index_mut-requires
index_mut-requires c =
    let i = c.self.inside in
    let used = rooms_of is_long i.queue.items in
    let h : AreApart used i.free_long.items (length i.long.items) = subst (AreApart used i.free_long.items) i.long.ok.0 c.self.invariant.1 in
    let alone = last_alone c.take_long-room.result used c.take_long-room.new.free.items (length c.take_long-room.new.rooms.items) (c.take_long-room.ensures.taken.apart used h) in
    omega (arith, alone.1, c.from.ensures, c.take_long-room.new.rooms.ok.0)

pub invariant_of-self-else-bytes-le-MOST_SHORT : goal.invariant_of-self-else-bytes-le-MOST_SHORT
invariant_of-self-else-bytes-le-MOST_SHORT c =
    let i = c.self.inside in
    let q = i.queue.items in
    let p : Packed = record { end = c.args.end; dst = c.args.dst; room = c.take_long-room.result; long = true } in
    let used = rooms_of is_long q in
    let few : length q < 8192 = omega (arith, c.if-len-eq-MOST_PARCELS.false, c.len.ensures, i.queue.ok.0, c.self.invariant.9) in
    let ok : is_ok c.push_back.result ≡ true = c.push_back.ensures.succeeds (omega (arith, few, i.queue.ok.0, c.self.invariant.8)) in
    let h : AreApart used i.free_long.items (length i.long.items) = subst (AreApart used i.free_long.items) i.long.ok.0 c.self.invariant.1 in
    let taken = subst (AreApart (used ++ c.take_long-room.result ∷ []) c.take_long-room.new.free.items) (sym c.take_long-room.new.rooms.ok.0) (c.take_long-room.ensures.taken.apart used h) in (
      rw (c.push_back.ensures.items, ok, put_elsewhere is_short q p refl) c.self.invariant.0,
      rw (c.push_back.ensures.items, ok, put_in is_long q p refl) taken,
      c.self.invariant.2,
      c.self.invariant.3,
      c.self.invariant.4,
      c.take_long-room.ensures.made,
      omega (arith, c.take_long-room.ensures.rooms, c.self.invariant.6),
      omega (arith, c.take_long-room.ensures.free, c.self.invariant.7),
      omega (arith, c.push_back.ensures.capacity, c.self.invariant.8),
      rw (c.push_back.ensures.items, ok) (let a = length-append q (p ∷ []) in omega (arith, a, few)),
    )

pub returns-else-bytes-le-MOST_SHORT-clause-ok : goal.returns-else-bytes-le-MOST_SHORT-clause-ok
returns-else-bytes-le-MOST_SHORT-clause-ok c =
    let i = c.self.inside in
    let q = i.queue.items in
    let used = rooms_of is_long q in
    let few : length q < 8192 = omega (arith, c.if-len-eq-MOST_PARCELS.false, c.len.ensures, i.queue.ok.0, c.self.invariant.9) in
    let ok : is_ok c.push_back.result ≡ true = c.push_back.ensures.succeeds (omega (arith, few, i.queue.ok.0, c.self.invariant.8)) in
    let h : AreApart used i.free_long.items (length i.long.items) = subst (AreApart used i.free_long.items) i.long.ok.0 c.self.invariant.1 in
    let put = put_behind_long q c.args.end c.args.dst c.take_long-room.result i.long.items
    c.take_long-room.new.rooms.items i.short.items i.free_long.items c.take_long-room.new.free.items c.fill.new.packet
    c.take_long-room.ensures.taken h in
    rw (c.push_back.ensures.items, ok, c.from.ensures, ← c.fill.ensures, ← c.self.view_is) put
