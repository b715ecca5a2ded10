use Rattle.std.proofs.Common.{map as each, take, sym, ap, ◌∙◌, arith}
use Rattle.std.proofs.lemmas.List.{take_all}
use Rattle.rsvp_base.specs.Orders.{sessions, units}
use Rattle.rsvp_base.specs.Sets.{with_key}
use Rattle.rsvp_base.specs.Table.{keys, size}
use Rattle.rsvp_base.specs.Under.{under}
use Rattle.local_state.specs.Wants.{asked_row}
use Rattle.resv_sends.specs.Taking.{is_marked_in, requests_of}
use Rattle.resv_sends.specs.Units.{UnitSet}
use Rattle.resv_sends.proofs.Marked.{asked_more, marks_more, marks_same, so_far}
use Rattle.resv_sends.proofs.Sets.{keys_passed, size_one_more}
use Rattle.resv_sends.proofs.marks.marked_among.Goals as goal
use Rattle.resv_sends.proofs.marks.marked_among.Goals.{then-is_marked, else-is_marked}

pub add-requires : goal.add-requires
add-requires c = let more = size_one_more units c.loop-i.marked c.index-wants-i.result.unit in omega (arith, more, c.loop-i.invariant.few, c.loop-i-test.true, c.of-wants.ensures.few)

pub loop-i-preserved : goal.loop-i-preserved
loop-i-preserved c =
    let test = is_marked_in c.args.style (requests_of c.args.style c.args.tables.now c.args.session c.args.up.now c.args.own.now) c.args.up.now c.args.own.now in
    let ws = c.of-wants.result.now in
    let i = c.loop-i.i in
    let x = c.index-wants-i.result in
    let es = each asked_row (take i ws) in
    let more = asked_more ws i x c.loop-i-test.true c.index-wants-i.is in
    elim c.if-is_marked.branch [
      | then-is_marked w ↦
          let one = size_one_more units c.loop-i.marked x.unit in
          let is = w.marked-is ∙ w.add.ensures in
          record {
            marked = is ∙ ap (λ (z : UnitSet). with_key z x.unit) c.loop-i.invariant.marked ∙ marks_more test es (asked_row x) (sym c.is_marked.ensures ∙ w.if-is_marked.true)
                ∙ ap (so_far test) (sym more);
            few = omega (arith, one, c.loop-i.invariant.few, ap (λ (z : UnitSet). size z) is);
          }
      | else-is_marked w ↦
          record {
            marked = w.marked-is ∙ c.loop-i.invariant.marked ∙ marks_same test es (asked_row x) (sym c.is_marked.ensures ∙ w.if-is_marked.false) ∙ ap (so_far test) (sym more);
            few = omega (arith, c.loop-i.invariant.few, ap (λ (z : UnitSet). size z) w.marked-is);
          }
    ]

pub returns : goal.returns
returns c =
    let test = is_marked_in c.args.style (requests_of c.args.style c.args.tables.now c.args.session c.args.up.now c.args.own.now) c.args.up.now c.args.own.now in
    let ws = c.of-wants.result.now in
    ap (λ (z : UnitSet). keys z) c.loop-i.invariant.marked ∙ ap (λ es. keys (so_far test es)) (ap (each asked_row) (take_all c.loop-i.i ws c.loop-i-test.false) ∙ c.of-wants.ensures.rows)
    ∙ keys_passed units test (under sessions units c.args.tables.now.wants c.args.session)
