use Rattle.std.specs.Prelude.{nat_le, Err, Ok, OnErr, Result}
use Rattle.std.proofs.Common.{◌≡◌, refl, sym, ap, subst, ◌∙◌}
use Rattle.std.proofs.lemmas.Bool.{both_ways}
use Rattle.std.proofs.lemmas.List.{take_all}
use Rattle.rsvp_base.specs.Orders.{sessions, units}
use Rattle.rsvp_base.specs.SessionLimits.{IsWithinSessionLimits, has_room_at}
use Rattle.rsvp_base.specs.Table.{keys, put_in, size}
use Rattle.rsvp_base.specs.Under.{under}
use Rattle.rsvp_base.specs.declared.style.Unit.TheVariants.{Of}
use Rattle.rsvp_base.proofs.SessionCounts.{within_put}
use Rattle.rsvp_base.proofs.SessionRoom.{room_tested}
use Rattle.router_rules.specs.Facts.{Want, WantKey, Wants}
use Rattle.local_state.specs.Wants.{want_of}
use Rattle.router_arrivals.specs.Asked.{fixed_want}
use Rattle.router_arrivals.proofs.Putting.{had_room, no_room, one_put, only_first, over_many, put_all}
use Rattle.router_arrivals.proofs.names.put_each.Goals as goal

on_err : {E : Type 0} (r : Result (Unit {0}) E) {P : Type 0} → P → OnErr r P
on_err (Ok u) p = tt
on_err (Err e) p = p

pub returns-then-not-have_room-clause-full : goal.returns-then-not-have_room-clause-full
returns-then-not-have_room-clause-full c =
    let h = fixed_want c.args.flow c.args.confirm in
    let all = put_all units c.args.session Of h c.args.wants.now (keys c.args.names.now) in
    (λ e. over_many units c.args.session Of h all (sym (c.have_room.ensures.room c.args.flow c.args.confirm) ∙ c.if-not-have_room.true), λ e. refl)

pub loop-name-preserved : goal.loop-name-preserved
loop-name-preserved c =
    let now = c.loop-name.wants in
    let want = c.fixed_want.result in
    let is = c.fixed_want.ensures in
    record {
      put = c.in_ok-put.ensures.ok ∙ (λ k. put_in now (is k).0 (is k).1)
          ∙ one_put units c.args.session Of
          (fixed_want c.args.flow c.args.confirm) c.as_slice-list.result.now c.loop-name.name-index _ c.args.wants.now now c.loop-name.invariant.put c.loop-name-test.true;
      within = subst (λ (t : Wants). IsWithinSessionLimits units t) (sym c.in_ok-put.ensures.ok)
          (within_put units now c.loop-name.invariant.within want.session want.unit (want_of want) (had_room _ c.in_ok-put.ensures.full.1));
    }

pub returns-in_err-put-clause-full : goal.returns-in_err-put-clause-full
returns-in_err-put-clause-full c =
    let s = c.args.session in
    let h = fixed_want c.args.flow c.args.confirm in
    let m = c.args.wants.now in
    let now = c.loop-name.wants in
    let none = ap (λ (e : WantKey × Want). has_room_at units (put_in now e.0 e.1) e.0.0) (sym c.fixed_want.ensures) ∙ c.in_err-put.ensures.full.0 refl in (
      λ e. ap (λ xs. has_room_at units (put_all units s Of h m xs) s) (sym c.as_slice-list.ensures.senders)
          ∙ no_room units s Of h c.as_slice-list.result.now c.loop-name.name-index _ m now c.loop-name.invariant.put c.loop-name-test.true c.have_room.ensures.within none,
      λ e. c.from_residual.ensures.0,
    )

pub returns-in_err-put-clause-err : goal.returns-in_err-put-clause-err
returns-in_err-put-clause-err c =
    let s = c.args.session in
    let h = fixed_want c.args.flow c.args.confirm in
    let m = c.args.wants.now in
    let now = c.loop-name.wants in
    let none = ap (λ (e : WantKey × Want). has_room_at units (put_in now e.0 e.1) e.0.0) (sym c.fixed_want.ensures) ∙ c.in_err-put.ensures.full.0 refl in
    let few = ap (λ xs. nat_le (size (under sessions units (put_all units s Of h m xs) s)) 16) c.as_slice-list.ensures.senders ∙ sym (c.have_room.ensures.room c.args.flow c.args.confirm)
    ∙ c.if-not-have_room.false in
    on_err c.from_residual.result
    (c.in_err-put.ensures.err ∙ only_first units s Of h c.as_slice-list.result.now c.loop-name.name-index _ m now c.loop-name.invariant.put c.loop-name-test.true c.have_room.ensures.within
    c.loop-name.invariant.within few none)

pub returns-clause-full : goal.returns-clause-full
returns-clause-full c =
    let s = c.args.session in
    let h = fixed_want c.args.flow c.args.confirm in
    let m = c.args.wants.now in
    let all : c.loop-name.wants ≡ put_all units s Of h m (keys c.args.names.now) =
    c.loop-name.invariant.put ∙ ap (put_all units s Of h m) (take_all c.loop-name.name-index c.as_slice-list.result.now c.loop-name-test.false ∙ c.as_slice-list.ensures.senders) in (
      λ e. cc,
      λ over. absurd (both_ways _ over (ap (λ (t : Wants). has_room_at units t s) (sym all) ∙ room_tested units c.loop-name.wants s c.loop-name.invariant.within)),
    )
