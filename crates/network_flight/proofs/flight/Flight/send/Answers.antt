use Rattle.std.proofs.Common.{◌≡◌, true, set, ◌<◌, length, refl, sym, subst, ◌++◌, ◌∷◌, [], ◌∙◌, arith}
use Rattle.std.specs.Prelude.{is_ok, map as each}
use Rattle.std.proofs.lemmas.List.{length-append, get_or-set_same}
use Rattle.message_codec.specs.Encoding.{encoding}
use Rattle.network_flight.specs.Rooms.{AreApart, is_long, is_short, rooms_of, seen}
use Rattle.network_flight.specs.declared.flight.Parcel.{Parcel as Packed}
use Rattle.network_flight.proofs.InUse.{all_stay, is_spare, kept, last_alone, put_back, put_behind_long, put_elsewhere, put_in}
use Rattle.network_flight.proofs.flight.Flight.send.Goals as goal

pub take_long-room-requires-clause-spare : goal.take_long-room-requires-clause-spare
take_long-room-requires-clause-spare c =
    let i = c.self.inside in
    is_spare is_long i.queue.items i.free_long.items i.long.len c.self.invariant.1 (omega (arith, c.if-len-eq-MOST_PARCELS.false, c.len.ensures, i.queue.ok.0, c.self.invariant.9))

pub index_mut-requires : goal.index_mut-requires
index_mut-requires c =
    let i = c.self.inside in
    let used = rooms_of is_long i.queue.items in
    let h : AreApart used i.free_long.items (length i.long.items) = subst (AreApart used i.free_long.items) i.long.ok.0 c.self.invariant.1 in
    let alone = last_alone c.take_long-room.result used c.take_long-room.new.free.items (length c.take_long-room.new.rooms.items) (c.take_long-room.ensures.taken.apart used h) in
    omega (arith, alone.1, c.from.ensures, c.take_long-room.new.rooms.ok.0)

pub index-requires : goal.index-requires
index-requires c =
    let i = c.self.inside in
    let used = rooms_of is_long i.queue.items in
    let h : AreApart used i.free_long.items (length i.long.items) = subst (AreApart used i.free_long.items) i.long.ok.0 c.self.invariant.1 in
    let alone = last_alone c.take_long-room.result used c.take_long-room.new.free.items (length c.take_long-room.new.rooms.items) (c.take_long-room.ensures.taken.apart used h) in
    omega (arith, alone.1, c.from.ensures, c.take_long-room.new.rooms.ok.0)

pub put_short-requires-clause-few : goal.put_short-requires-clause-few
put_short-requires-clause-few c = omega (arith, c.if-len-eq-MOST_PARCELS.false, c.len.ensures, c.self.inside.queue.ok.0, c.self.invariant.9)

pub invariant_of-self-else-bytes-le-MOST_SHORT : goal.invariant_of-self-else-bytes-le-MOST_SHORT
invariant_of-self-else-bytes-le-MOST_SHORT c =
    let i = c.self.inside in
    let q = i.queue.items in
    let p : Packed = record { end = c.args.end; dst = c.args.dst; room = c.take_long-room.result; long = true } in
    let used = rooms_of is_long q in
    let few : length q < 8192 = omega (arith, c.if-len-eq-MOST_PARCELS.false, c.len.ensures, i.queue.ok.0, c.self.invariant.9) in
    let ok : is_ok c.push_back.result ≡ true = c.push_back.ensures.succeeds (omega (arith, few, i.queue.ok.0, c.self.invariant.8)) in
    let h : AreApart used i.free_long.items (length i.long.items) = subst (AreApart used i.free_long.items) i.long.ok.0 c.self.invariant.1 in
    let taken = subst (AreApart (used ++ c.take_long-room.result ∷ []) c.take_long-room.new.free.items) (sym c.take_long-room.new.rooms.ok.0) (c.take_long-room.ensures.taken.apart used h) in (
      rw (c.push_back.ensures.items, ok, put_elsewhere is_short q p refl) c.self.invariant.0,
      rw (c.push_back.ensures.items, ok, put_in is_long q p refl) taken,
      c.self.invariant.2,
      c.self.invariant.3,
      c.self.invariant.4,
      c.take_long-room.ensures.made,
      omega (arith, c.take_long-room.ensures.rooms, c.self.invariant.6),
      omega (arith, c.take_long-room.ensures.free, c.self.invariant.7),
      omega (arith, c.push_back.ensures.capacity, c.self.invariant.8),
      rw (c.push_back.ensures.items, ok) (let a = length-append q (p ∷ []) in omega (arith, a, few)),
    )

pub returns-else-bytes-le-MOST_SHORT-clause-ok : goal.returns-else-bytes-le-MOST_SHORT-clause-ok
returns-else-bytes-le-MOST_SHORT-clause-ok c =
    let i = c.self.inside in
    let q = i.queue.items in
    let used = rooms_of is_long q in
    let few : length q < 8192 = omega (arith, c.if-len-eq-MOST_PARCELS.false, c.len.ensures, i.queue.ok.0, c.self.invariant.9) in
    let ok : is_ok c.push_back.result ≡ true = c.push_back.ensures.succeeds (omega (arith, few, i.queue.ok.0, c.self.invariant.8)) in
    let h : AreApart used i.free_long.items (length i.long.items) = subst (AreApart used i.free_long.items) i.long.ok.0 c.self.invariant.1 in
    let put = put_behind_long q c.args.end c.args.dst c.take_long-room.result i.long.items
    c.take_long-room.new.rooms.items i.short.items i.free_long.items c.take_long-room.new.free.items c.encode_into.new.packet
    c.take_long-room.ensures.taken h in
    rw (c.push_back.ensures.items, ok, c.from.ensures, ← c.encode_into.ensures.text, ← c.self.view_is) put

pub invariant_of-self : goal.invariant_of-self
invariant_of-self c =
    let i = c.self.inside in
    let q = i.queue.items in
    let used = rooms_of is_long q in
    let few : length q < 8192 = omega (arith, c.if-len-eq-MOST_PARCELS.false, c.len.ensures, i.queue.ok.0, c.self.invariant.9) in
    let h : AreApart used i.free_long.items (length i.long.items) = subst (AreApart used i.free_long.items) i.long.ok.0 c.self.invariant.1 in
    let back = put_back c.take_long-room.result used c.take_long-room.new.free.items (length c.take_long-room.new.rooms.items) (c.take_long-room.ensures.taken.apart used h) in
    let apart = subst (AreApart used (c.take_long-room.new.free.items ++ c.take_long-room.result ∷ [])) (sym c.take_long-room.new.rooms.ok.0) back in (
      c.put_short.ensures.apart,
      rw (c.put_short.ensures.long, c.push_reserved.ensures.items) apart,
      c.put_short.ensures.most,
      omega (arith, c.put_short.ensures.room, c.self.invariant.3),
      omega (arith, c.put_short.ensures.free, c.self.invariant.4),
      c.take_long-room.ensures.made,
      omega (arith, c.take_long-room.ensures.rooms, c.self.invariant.6),
      omega (arith, c.push_reserved.ensures.capacity, c.take_long-room.ensures.free, c.self.invariant.7),
      c.put_short.ensures.place,
      omega (arith, c.put_short.ensures.len, few),
    )

pub returns-then-bytes-le-MOST_SHORT-clause-ok : goal.returns-then-bytes-le-MOST_SHORT-clause-ok
returns-then-bytes-le-MOST_SHORT-clause-ok c =
    let i = c.self.inside in
    let q = i.queue.items in
    let used = rooms_of is_long q in
    let r = c.take_long-room.result in
    let made = c.take_long-room.new.rooms.items in
    let text = c.encode_into.new.packet in
    let h : AreApart used i.free_long.items (length i.long.items) = subst (AreApart used i.free_long.items) i.long.ok.0 c.self.invariant.1 in
    let alone = last_alone r used c.take_long-room.new.free.items (length made) (c.take_long-room.ensures.taken.apart used h) in
    let bytes : c.bytes-bytes.result.now ≡ encoding c.args.message.now =
    c.bytes-bytes.ensures.bytes ∙ c.index.ensures ∙ (rw (c.from-2.ensures, c.from.ensures) (get_or-set_same made r text _ alone.1)) ∙ c.encode_into.ensures.text in
    let stay = all_stay i.short.items i.short.items i.long.items (set made r text) q (λ k le. refl)
    (kept r used i.free_long.items c.take_long-room.new.free.items i.long.items made text c.take_long-room.ensures.taken h) in
    let put = c.put_short.ensures.put (set made r text) in
    let all : each (seen c.put_short.new.short.items (set made r text)) c.put_short.new.queue.items
    ≡ each (seen i.short.items i.long.items) q ++ (record { end = c.args.end; dst = c.args.dst; bytes = encoding c.args.message.now } ∷ []) =
    put ∙ (λ j. stay j ++ record { end = c.args.end; dst = c.args.dst; bytes = bytes j } ∷ []) in
    rw (c.from.ensures, ← c.self.view_is) all

pub push_reserved-requires : goal.push_reserved-requires
push_reserved-requires c =
    let i = c.self.inside in
    let used = rooms_of is_long i.queue.items in
    let r = c.take_long-room.result in
    let h : AreApart used i.free_long.items (length i.long.items) = subst (AreApart used i.free_long.items) i.long.ok.0 c.self.invariant.1 in
    let all = (c.take_long-room.ensures.taken.apart used h).all in
    let a = length-append used (r ∷ []) in
    omega (arith, all, a, c.take_long-room.new.rooms.ok.0, c.take_long-room.ensures.made, c.take_long-room.new.free.ok.0, c.take_long-room.ensures.free, c.self.invariant.7)
