use Rattle.std.proofs.Common.{sym, ap, ◌∙◌}
use Rattle.std.specs.Option.{option_map, option_copied}
use Rattle.rsvp_base.specs.Table.{get}
use Rattle.sent_state.specs.declared.lane.Sent.{Sent}
use Rattle.sent_state.specs.Lanes.{LaneMap, LanePlace, lane_at}
use Rattle.sent_state.proofs.Told.{found_parts, got}
use Rattle.sent_state.proofs.table.LaneTable.find.Goals as goal

pub returns-in-Some : goal.returns-in-Some
returns-in-Some c =
    let k : LanePlace = (c.args.session, (c.args.style, c.args.hop)) in
    let is = found_parts _ _ c.find.ensures ∙ sym (got c.self.inside.table.facts c.self.inside.facts k) ∙ ap (λ (m : LaneMap). get m (lane_at k)) c.self.view_is in
    ap (λ r. option_map (λ (f : Sent). f.parts) (option_copied r)) (sym c.in-Some.is) ∙ is

pub returns-in-None : goal.returns-in-None
returns-in-None c =
    let k : LanePlace = (c.args.session, (c.args.style, c.args.hop)) in
    let is = found_parts _ _ c.find.ensures ∙ sym (got c.self.inside.table.facts c.self.inside.facts k) ∙ ap (λ (m : LaneMap). get m (lane_at k)) c.self.view_is in
    ap (λ r. option_map (λ (f : Sent). f.parts) (option_copied r)) (sym c.in-None.is) ∙ is
