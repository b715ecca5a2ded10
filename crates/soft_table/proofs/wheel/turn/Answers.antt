use Rattle.std.proofs.Common.{◌≡◌, ◌<◌, ◌∙◌, ap, sym, subst, refl, arith, length, Some, inl, inr}
use Rattle.std.proofs.lemmas.Bool.{cases_lt}
use Rattle.std.specs.Prelude.{slice_get}
use Rattle.std.proofs.lemmas.Option.{slice_get_read}
use Rattle.soft_table.specs.declared.entry.Entry.{Entry}
use Rattle.soft_table.specs.Wheel.{wheel_list}
use Rattle.soft_table.proofs.PoolSlots.{within}
use Rattle.soft_table.proofs.Turns.{count, count_less, sorted_more, put_back, due_now}
use Rattle.soft_table.proofs.wheel.turn.Goals as goal

pub loop-slot-smaller : goal.loop-slot-smaller
loop-slot-smaller g c =
    let list = c.args.list in
    let to = c.sorted-to.result in
    let moved : to ≡ list → ⊥ = λ e. elim (cases_lt c.args.now c.index-entries-slot.result.moment) [
      | inl lt ↦ omega (arith, e, c.sorted-to.ensures.later lt, c.requires.list.0)
      | inr le ↦ omega (arith, e, c.sorted-to.ensures.due le, c.requires.list.0)
    ] in
    subst (λ v. count list v.homes < count list c.loop-slot.lists.homes) (sym c.shift.ensures) (count_less list to c.loop-slot.lists.homes c.in-Some.slot c.in-Some.ensures.some moved)

pub loop-slot-preserved : goal.loop-slot-preserved
loop-slot-preserved g c =
    let es = c.args.entries.now in
    let s = c.in-Some.slot in
    let e = c.index-entries-slot.result in
    let o = c.loop-slot.invariant.0 in
    let lt : s < length es = omega (arith, within c.loop-slot.lists.homes s c.args.list c.in-Some.ensures.some, o.size, c.requires.size) in
    let is : slice_get es s ≡ Some e = slice_get_read es (length es) s e refl lt c.index-entries-slot.is in
    rw c.shift.ensures (
      sorted_more c.args.list c.args.now es c.args.lists.now.homes c.loop-slot.lists.homes s c.sorted-to.result e o is c.in-Some.ensures.some c.sorted-to.ensures.due
          c.sorted-to.ensures.later,
      c.loop-slot.invariant.1,
    )

pub shift-requires-in-Some-first-clause-here : goal.shift-requires-in-Some-first-clause-here
shift-requires-in-Some-first-clause-here g c = within c.loop-slot-2.lists.homes c.in-Some-first.slot 2 c.in-Some-first.ensures.some

pub loop-slot-2-smaller : goal.loop-slot-2-smaller
loop-slot-2-smaller g c =
    let lists = c.loop-slot-2.lists.homes in
    subst (λ v. count 2 v.homes < count 2 lists) (sym c.shift-in-Some-first.ensures) (count_less 2 c.wheel_at.result lists c.in-Some-first.slot c.in-Some-first.ensures.some
    (λ e. omega (arith, e, c.wheel_at.ensures)))

pub loop-slot-2-preserved : goal.loop-slot-2-preserved
loop-slot-2-preserved g c =
    let es = c.args.entries.now in
    let s = c.in-Some-first.slot in
    let e = c.index-entries-slot-in-Some-first.result in
    let o = c.loop-slot-2.invariant.0 in
    let lt : s < length es = omega (arith, within c.loop-slot-2.lists.homes s 2 c.in-Some-first.ensures.some, o.size, c.requires.size) in
    let is : slice_get es s ≡ Some e = slice_get_read es (length es) s e refl lt c.index-entries-slot-in-Some-first.is in
    let own = c.wheel_at.ensures ∙ ap (λ (e : Entry _). wheel_list e.moment) (sym c.index-entries-slot-in-Some-first.is) in
    rw c.shift-in-Some-first.ensures (
      put_back c.args.list c.args.now es c.args.lists.now.homes c.loop-slot-2.lists.homes s c.wheel_at.result e o is own c.in-Some-first.ensures.some c.requires.aside,
      c.loop-slot-2.invariant.1,
    )

pub returns-clause-due : goal.returns-clause-due
returns-clause-due g c = due_now c.args.list c.args.now c.args.entries.now c.args.lists.now.homes c.loop-slot-2.lists.homes c.loop-slot-2.invariant.0
