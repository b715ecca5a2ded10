use Rattle.std.proofs.Common.{ap, ◌∙◌}
use Rattle.rsvp_base.specs.Table.{changed, changed_rows, same_rows, without}
use Rattle.sent_state.specs.Lanes.{LaneMap, LanePlace, lane_at, lanes_in, parts_of}
use Rattle.sent_state.proofs.Told.{facts, few_less, fewer}
use Rattle.sent_state.proofs.table.LaneTable.forget.Goals as goal

pub invariant_of-self-inside : goal.invariant_of-self-inside
invariant_of-self-inside c =
    let k : LanePlace = (c.args.session, (c.args.style, c.args.hop)) in (
      c.remove.ensures.order.0,
      (
        few_less c.self.inside.table.facts c.self.inside.facts k c.remove.new.self.facts c.remove.ensures.gone c.self.inside.few,
        (c.remove.ensures.dead ∙ c.self.inside.pulled, (c.remove.ensures.room ∙ c.self.inside.room, tt)),
      ),
    )

pub returns : goal.returns
returns c =
    let k : LanePlace = (c.args.session, (c.args.style, c.args.hop)) in
    let t = facts c.self.inside.table.facts c.self.inside.facts in
    ap lanes_in (same_rows _ (changed parts_of (without t k)) (ap (changed_rows parts_of) c.remove.ensures.gone)) ∙ fewer c.self.inside.table.facts c.self.inside.facts k
    ∙ ap (λ (m : LaneMap). without m (lane_at k)) c.self.view_is
