use Rattle.std.proofs.Common.{◌≡◌, ◌<◌, List, [], Some, cond, get_or, subst, refl, sym, ◌∙◌, arith, length}
use Rattle.std.specs.Prelude.{slice_get}
use Rattle.std.proofs.lemmas.Option.{slice_get_read}
use Rattle.network_flight.specs.Parcels.{Parcel}
use Rattle.network_flight.specs.Rooms.{AreApart, is_long, is_short, rooms_of, seen}
use Rattle.network_flight.proofs.InUse.{made_of}
use Rattle.network_flight.proofs.MadeTables.{read_each}
use Rattle.network_flight.proofs.flight.Flight.look.Goals as goal

pub bytes_of-requires : goal.bytes_of-requires
bytes_of-requires c =
    let i = c.self.inside in
    let p = c.in-Some.parcel.now in
    let lt : c.args.place < length i.queue.items = (let h = c.in-Some.ensures.variant.0 refl in omega (arith, h, i.queue.ok.0)) in
    let made = made_of i.queue.items i.short.items i.long.items i.free_short.items i.free_long.items c.args.place p
    (subst (AreApart (rooms_of is_short i.queue.items) i.free_short.items) i.short.ok.0 c.self.invariant.0)
    (subst (AreApart (rooms_of is_long i.queue.items) i.free_long.items) i.long.ok.0 c.self.invariant.1)
    lt (sym c.in-Some.ensures.lookup) in
    record { made = rw (c.deref-2.ensures.value, c.deref.ensures.value) made }

pub returns-clause-some : goal.returns-clause-some
returns-clause-some c =
    let i = c.self.inside in
    let p = c.in-Some.parcel.now in
    let lt : c.args.place < length i.queue.items = (let h = c.in-Some.ensures.variant.0 refl in omega (arith, h, i.queue.ok.0)) in
    let there : slice_get i.queue.items c.args.place ≡ Some p = slice_get_read i.queue.items _ c.args.place p refl lt c.in-Some.ensures.lookup in
    let bytes : get_or (cond p.long i.long.items i.short.items) p.room [] ≡ c.fill.new.packet =
    sym (c.fill.ensures ∙ c.bytes_of.ensures.bytes ∙ (rw (c.deref-2.ensures.value, c.deref.ensures.value) refl)) in
    subst (λ (f : List Parcel). slice_get f c.args.place ≡ Some (record { end = p.end; dst = p.dst; bytes = c.fill.new.packet })) c.self.view_is
    (read_each (seen i.short.items i.long.items) i.queue.items c.args.place p there ∙ (λ j. Some (record { end = p.end; dst = p.dst; bytes = bytes j })))
