use Rattle.std.proofs.Common.{◌≡◌, sym, ap, subst, ◌∙◌}
use Rattle.std.specs.Prelude.{IsTrue, ◌↔◌}
use Rattle.std.specs.Option.{option_map, option_copied, unwrap_or}
use Rattle.rsvp_base.specs.Table.{empty, get, size}
use Rattle.style_rules.specs.Merge.{PartTable}
use Rattle.sent_state.specs.declared.lane.Sent.{Sent}
use Rattle.sent_state.specs.Lanes.{LaneMap, LanePlace, lane_at, said_at}
use Rattle.sent_state.proofs.Told.{found_parts, got, none_is_empty}
use Rattle.sent_state.proofs.table.LaneTable.is_said.Goals as goal

pub returns-in-Some : goal.returns-in-Some
returns-in-Some c =
    let k : LanePlace = (c.args.session, (c.args.style, c.args.hop)) in
    let is = found_parts _ _ c.find.ensures ∙ sym (got c.self.inside.table.facts c.self.inside.facts k) ∙ ap (λ (m : LaneMap). get m (lane_at k)) c.self.view_is in
    let at : c.in-Some.sent.now.parts ≡ said_at c.args.self.now (lane_at k) = ap (λ r. unwrap_or (option_map (λ (f : Sent). f.parts) (option_copied r)) empty) (sym c.in-Some.is)
    ∙ ap (λ w. unwrap_or w empty) is in
    subst (λ (ps : PartTable). IsTrue c.is_same.result ↔ (ps ≡ c.args.parts.now)) at c.is_same.ensures

pub returns-in-None : goal.returns-in-None
returns-in-None c =
    let k : LanePlace = (c.args.session, (c.args.style, c.args.hop)) in
    let none : PartTable = empty in
    let is = found_parts _ _ c.find.ensures ∙ sym (got c.self.inside.table.facts c.self.inside.facts k) ∙ ap (λ (m : LaneMap). get m (lane_at k)) c.self.view_is in
    let at : none ≡ said_at c.args.self.now (lane_at k) = ap (λ r. unwrap_or (option_map (λ (f : Sent). f.parts) (option_copied r)) empty) (sym c.in-None.is) ∙ ap (λ w. unwrap_or w empty) is in
    subst (λ (ps : PartTable). IsTrue c.is_empty.result ↔ (ps ≡ c.args.parts.now)) at
    (λ t. none_is_empty c.args.parts.now (c.is_empty.ensures.0 t), λ e. c.is_empty.ensures.1 (sym (ap size e)))
