use Rattle.std.proofs.Common.{◌≡◌, ◌<◌, ◌≤◌, true, false, List, [], Some, cond, get_or, subst, refl, sym, ◌∙◌, length, arith}
use Rattle.std.specs.Prelude.{slice_get, map as each}
use Rattle.std.proofs.lemmas.Bool.{false≢true}
use Rattle.std.proofs.lemmas.List.{length-map}
use Rattle.std.proofs.lemmas.List.Edits.{length-remove}
use Rattle.std.proofs.lemmas.Option.{slice_get_read}
use Rattle.network_flight.specs.Parcels.{Parcel}
use Rattle.network_flight.specs.Rooms.{AreApart, is_long, is_short, rooms_of, seen}
use Rattle.network_flight.proofs.InUse.{few_left, made_of, taken_out, taken_elsewhere}
use Rattle.network_flight.proofs.Lists.{each_remove, not_below, removed_past}
use Rattle.network_flight.proofs.MadeTables.{read_each}
use Rattle.network_flight.proofs.flight.Flight.take.Goals as goal
use Rattle.network_flight.proofs.flight.Flight.take.Goals.{then-parcel, else-parcel}

pub bytes_of-requires : goal.bytes_of-requires
bytes_of-requires c =
    let i = c.self.inside in
    let p = c.in-Some.parcel in
    let lt : c.args.place < length i.queue.items = (let h = c.in-Some.ensures.variant.0 refl in omega (arith, h, i.queue.ok.0)) in
    let made = made_of i.queue.items i.short.items i.long.items i.free_short.items i.free_long.items c.args.place p
    (subst (AreApart (rooms_of is_short i.queue.items) i.free_short.items) i.short.ok.0 c.self.invariant.0)
    (subst (AreApart (rooms_of is_long i.queue.items) i.free_long.items) i.long.ok.0 c.self.invariant.1)
    lt (sym c.in-Some.ensures.value) in
    record { made = rw (c.deref-2.ensures.value, c.deref.ensures.value) made }

pub push_reserved-requires : goal.push_reserved-requires
push_reserved-requires c =
    let i = c.self.inside in
    let p = c.in-Some.parcel in
    let lt : c.args.place < length i.queue.items = (let h = c.in-Some.ensures.variant.0 refl in omega (arith, h, i.queue.ok.0)) in
    let few = few_left is_long i.queue.items i.free_long.items i.long.len c.args.place p c.self.invariant.1 lt (sym c.in-Some.ensures.value) c.if-parcel.true in
    omega (arith, few, i.free_long.ok.0, c.self.invariant.5, c.self.invariant.7)

pub push_reserved-requires-else-parcel : goal.push_reserved-requires-else-parcel
push_reserved-requires-else-parcel c =
    let i = c.self.inside in
    let p = c.in-Some.parcel in
    let lt : c.args.place < length i.queue.items = (let h = c.in-Some.ensures.variant.0 refl in omega (arith, h, i.queue.ok.0)) in
    let short : is_short p ≡ true = rw c.if-parcel.false refl in
    let few = few_left is_short i.queue.items i.free_short.items i.short.len c.args.place p c.self.invariant.0 lt (sym c.in-Some.ensures.value) short in
    omega (arith, few, i.free_short.ok.0, c.self.invariant.2, c.self.invariant.4)

pub invariant_of-self-then-parcel : goal.invariant_of-self-then-parcel
invariant_of-self-then-parcel c =
    let i = c.self.inside in
    let p = c.in-Some.parcel in
    let lt : c.args.place < length i.queue.items = (let h = c.in-Some.ensures.variant.0 refl in omega (arith, h, i.queue.ok.0)) in
    let there = sym c.in-Some.ensures.value in
    let other : is_short p ≡ false = rw c.if-parcel.true refl in (
      rw c.in-Some.ensures.items (taken_elsewhere is_short i.queue.items i.free_short.items i.short.len c.args.place p c.self.invariant.0 lt there other),
      rw (c.in-Some.ensures.items, c.push_reserved.ensures.items) (taken_out is_long i.queue.items i.free_long.items i.long.len c.args.place p c.self.invariant.1 lt there c.if-parcel.true),
      c.self.invariant.2,
      c.self.invariant.3,
      c.self.invariant.4,
      c.self.invariant.5,
      c.self.invariant.6,
      omega (arith, c.push_reserved.ensures.capacity, c.self.invariant.7),
      omega (arith, c.in-Some.ensures.capacity, c.self.invariant.8),
      rw c.in-Some.ensures.items (let a = length-remove i.queue.items c.args.place lt in let b = c.self.invariant.9 in omega (arith, a, b)),
    )

pub invariant_of-self-else-parcel : goal.invariant_of-self-else-parcel
invariant_of-self-else-parcel c =
    let i = c.self.inside in
    let p = c.in-Some.parcel in
    let lt : c.args.place < length i.queue.items = (let h = c.in-Some.ensures.variant.0 refl in omega (arith, h, i.queue.ok.0)) in
    let there = sym c.in-Some.ensures.value in
    let its : is_short p ≡ true = rw c.if-parcel.false refl in (
      rw (c.in-Some.ensures.items, c.push_reserved-else-parcel.ensures.items) (taken_out is_short i.queue.items i.free_short.items i.short.len c.args.place p c.self.invariant.0 lt there its),
      rw c.in-Some.ensures.items (taken_elsewhere is_long i.queue.items i.free_long.items i.long.len c.args.place p c.self.invariant.1 lt there c.if-parcel.false),
      c.self.invariant.2,
      c.self.invariant.3,
      omega (arith, c.push_reserved-else-parcel.ensures.capacity, c.self.invariant.4),
      c.self.invariant.5,
      c.self.invariant.6,
      c.self.invariant.7,
      omega (arith, c.in-Some.ensures.capacity, c.self.invariant.8),
      rw c.in-Some.ensures.items (let a = length-remove i.queue.items c.args.place lt in let b = c.self.invariant.9 in omega (arith, a, b)),
    )

pub returns-clause-some : goal.returns-clause-some
returns-clause-some c =
    let i = c.self.inside in
    let p = c.in-Some.parcel in
    let lt : c.args.place < length i.queue.items = (let h = c.in-Some.ensures.variant.0 refl in omega (arith, h, i.queue.ok.0)) in
    let there : slice_get i.queue.items c.args.place ≡ Some p = slice_get_read i.queue.items _ c.args.place p refl lt c.in-Some.ensures.value in
    let bytes : get_or (cond p.long i.long.items i.short.items) p.room [] ≡ c.fill.new.packet =
    sym (c.fill.ensures ∙ c.bytes_of.ensures.bytes ∙ (rw (c.deref-2.ensures.value, c.deref.ensures.value) refl)) in
    subst (λ (f : List Parcel). slice_get f c.args.place ≡ Some (record { end = p.end; dst = p.dst; bytes = c.fill.new.packet })) c.self.view_is
    (read_each (seen i.short.items i.long.items) i.queue.items c.args.place p there ∙ (λ j. Some (record { end = p.end; dst = p.dst; bytes = bytes j })))

pub returns-clause-rest : goal.returns-clause-rest
returns-clause-rest c = elim c.if-parcel.branch [
  | then-parcel w ↦ rw (w.self-is, c.in-Some.ensures.items, ← c.self.view_is) (each_remove _ c.self.inside.queue.items c.args.place)
  | else-parcel w ↦ rw (w.self-is, c.in-Some.ensures.items, ← c.self.view_is) (each_remove _ c.self.inside.queue.items c.args.place)
]

pub returns-in_default-clause-rest : goal.returns-in_default-clause-rest
returns-in_default-clause-rest c =
    let i = c.self.inside in
    let none = c.in_default.ensures.variant in
    let as_seen = seen i.short.items i.long.items in
    let past : length i.queue.items ≤ c.args.place = (let h = not_below c.args.place _ (λ lt. false≢true (none.1 lt)) in omega (arith, h, i.queue.ok.0)) in
    rw (c.in_default.ensures.unchanged, ← c.self.view_is) (sym (removed_past (each as_seen i.queue.items) c.args.place (omega (arith, past, length-map i.queue.items as_seen))))
