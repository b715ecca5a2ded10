use Rattle.std.proofs.Common.{◌≡◌, ◌<◌, ◌≤◌, List, [], Some, None, cond, get_or, subst, refl, sym, ◌∙◌, arith, length}
use Rattle.std.specs.Prelude.{slice_get, map as each}
use Rattle.std.proofs.lemmas.Bool.{false≢true}
use Rattle.std.proofs.lemmas.List.{length-map}
use Rattle.std.proofs.lemmas.Option.{slice_get_read, slice_get_past}
use Rattle.network_flight.specs.Parcels.{Parcel}
use Rattle.network_flight.specs.Rooms.{AreApart, is_long, is_short, rooms_of, seen}
use Rattle.network_flight.proofs.InUse.{made_of}
use Rattle.network_flight.proofs.Lists.{not_below}
use Rattle.network_flight.proofs.MadeTables.{read_each}
use Rattle.network_flight.proofs.flight.Flight.packet.Goals as goal

pub bytes_of-requires : goal.bytes_of-requires
bytes_of-requires c =
    let i = c.self.inside in
    let p = c.in-Some.parcel.now in
    let lt : c.args.place < length i.queue.items = (let h = c.in-Some.ensures.variant.0 refl in omega (arith, h, i.queue.ok.0)) in
    let made = made_of i.queue.items i.short.items i.long.items i.free_short.items i.free_long.items c.args.place p
    (subst (AreApart (rooms_of is_short i.queue.items) i.free_short.items) i.short.ok.0 c.self.invariant.0)
    (subst (AreApart (rooms_of is_long i.queue.items) i.free_long.items) i.long.ok.0 c.self.invariant.1)
    lt (sym c.in-Some.ensures.lookup) in
    record { made = rw (c.deref-in-Some.ensures.value, c.deref.ensures.value) made }

pub returns-in-Some : goal.returns-in-Some
returns-in-Some c =
    let i = c.self.inside in
    let p = c.in-Some.parcel.now in
    let lt : c.args.place < length i.queue.items = (let h = c.in-Some.ensures.variant.0 refl in omega (arith, h, i.queue.ok.0)) in
    let there : slice_get i.queue.items c.args.place ≡ Some p = slice_get_read i.queue.items _ c.args.place p refl lt c.in-Some.ensures.lookup in
    let bytes : get_or (cond p.long i.long.items i.short.items) p.room [] ≡ c.bytes_of.result.now =
    sym (c.bytes_of.ensures.bytes ∙ (rw (c.deref-in-Some.ensures.value, c.deref.ensures.value) refl)) in
    let as_seen = seen i.short.items i.long.items in
    (as_seen p, subst (λ (f : List Parcel). slice_get f c.args.place ≡ Some (as_seen p)) c.self.view_is (read_each as_seen i.queue.items c.args.place p there), bytes)

pub returns-in-None : goal.returns-in-None
returns-in-None c =
    let i = c.self.inside in
    let none = c.in-None.ensures.variant in
    let as_seen = seen i.short.items i.long.items in
    let past : length (each as_seen i.queue.items) ≤ c.args.place =
    (let h = not_below c.args.place _ (λ lt. false≢true (none.1 lt)) in omega (arith, h, i.queue.ok.0, length-map i.queue.items as_seen)) in
    subst (λ (f : List Parcel). slice_get f c.args.place ≡ None) c.self.view_is (slice_get_past (each as_seen i.queue.items) c.args.place past)
