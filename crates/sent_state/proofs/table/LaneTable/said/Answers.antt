use Rattle.std.proofs.Common.{sym, ap, ◌∙◌}
use Rattle.std.specs.Option.{option_map, option_copied, unwrap_or}
use Rattle.rsvp_base.specs.Table.{empty, get}
use Rattle.sent_state.specs.declared.lane.Sent.{Sent}
use Rattle.sent_state.specs.Lanes.{LaneMap, LanePlace, lane_at}
use Rattle.sent_state.proofs.Told.{found_parts, got}
use Rattle.sent_state.proofs.table.LaneTable.said.Goals as goal

pub returns-in-Some : goal.returns-in-Some
returns-in-Some c =
    let k : LanePlace = (c.args.session, (c.args.style, c.args.hop)) in
    let is = found_parts _ _ c.find.ensures ∙ sym (got c.self.inside.table.facts c.self.inside.facts k) ∙ ap (λ (m : LaneMap). get m (lane_at k)) c.self.view_is in
    c.copy.ensures ∙ ap (λ r. unwrap_or (option_map (λ (f : Sent). f.parts) (option_copied r)) empty) (sym c.in-Some.is) ∙ ap (λ w. unwrap_or w empty) is

pub returns-in-None : goal.returns-in-None
returns-in-None c =
    let k : LanePlace = (c.args.session, (c.args.style, c.args.hop)) in
    let is = found_parts _ _ c.find.ensures ∙ sym (got c.self.inside.table.facts c.self.inside.facts k) ∙ ap (λ (m : LaneMap). get m (lane_at k)) c.self.view_is in
    c.new.ensures ∙ ap (λ r. unwrap_or (option_map (λ (f : Sent). f.parts) (option_copied r)) empty) (sym c.in-None.is) ∙ ap (λ w. unwrap_or w empty) is
