use Rattle.std.proofs.Common.{◌≡◌, ◌<◌, None, length, refl, sym, ap, ◌∙◌, arith}
use Rattle.std.specs.Prelude.{is_some}
use Rattle.std.proofs.lemmas.Bool.{both_ways}
use Rattle.rsvp_base.specs.Table.{changed, changed_rows, get, put_in, same_rows, size}
use Rattle.soft_table.specs.Facts.{Kept}
use Rattle.sent_state.specs.declared.lane.Sent.{Sent}
use Rattle.sent_state.specs.Lanes.{LaneMap, LanePlace, lane_at, lanes_in, parts_of}
use Rattle.sent_state.proofs.Told.{facts, few_put, got, many, more, none_found, on_err, told_none, told_some}
use Rattle.sent_state.proofs.table.LaneTable.tell.Goals as goal
use Rattle.sent_state.proofs.table.LaneTable.tell.Goals.{After-put}

pub returns-then-is_empty : goal.returns-then-is_empty
returns-then-is_empty c =
    let k : LanePlace = (c.args.session, (c.args.style, c.args.hop)) in
    c.forget.ensures ∙ sym (told_none c.args.self.now (lane_at k) c.args.parts (c.is_empty.ensures.0 c.if-is_empty.true))

-- where the lane is new there is room
room : (c : After-put) → get (facts c.self.inside.table.facts c.self.inside.facts) (c.args.session, (c.args.style, c.args.hop)) ≡ None → length c.self.inside.table.facts < 1536
room c none =
    let k : LanePlace = (c.args.session, (c.args.style, c.args.hop)) in
    let new = sym (ap (λ (m : LaneMap). is_some (get m (lane_at k))) c.self.view_is) ∙ ap is_some (got c.self.inside.table.facts c.self.inside.facts k) ∙ none_found _ none in
    let lt = c.requires new in
    omega (arith, lt, many c.self.inside.table.facts c.self.inside.facts, ap size c.self.view_is)

pub invariant_of-self-inside : goal.invariant_of-self-inside
invariant_of-self-inside c =
    let sent : Sent = record { session = c.args.session; style = c.args.style; hop = c.args.hop; parts = c.args.parts } in
    let k : LanePlace = (c.args.session, (c.args.style, c.args.hop)) in
    let d = (goal.at.invariant_of-self-inside c).After-put in
    let few = few_put c.self.inside.table.facts c.self.inside.facts c.put.result k (sent, 1) c.put.new.self.facts c.self.inside.few (room d) c.put.ensures.ok
    (on_err c.put.result (ap (λ (t : Kept Sent). t.facts)) c.put.ensures.err) in
    (c.put.ensures.order.0, (few, (c.put.ensures.dead ∙ c.self.inside.pulled, (c.put.ensures.room ∙ c.self.inside.room, tt))))

pub unreachable-requires : goal.unreachable-requires
unreachable-requires c =
    let d = (goal.at.unreachable-requires c).After-put in
    let why = c.in_default.ensures.full.0 refl in
    let lt = room d why.0 in
    omega (arith, lt, why.1, c.self.inside.room)

pub returns : goal.returns
returns c =
    let sent : Sent = record { session = c.args.session; style = c.args.style; hop = c.args.hop; parts = c.args.parts } in
    let k : LanePlace = (c.args.session, (c.args.style, c.args.hop)) in
    let t = facts c.self.inside.table.facts c.self.inside.facts in
    ap lanes_in (same_rows _ (changed parts_of (put_in t k (sent, 1))) (ap (changed_rows parts_of) c.in-Ok.ensures.ok)) ∙ more c.self.inside.table.facts c.self.inside.facts k (sent, 1)
    ∙ ap (λ (m : LaneMap). put_in m (lane_at k) c.args.parts) c.self.view_is
    ∙ sym (told_some c.args.self.now (lane_at k) c.args.parts (λ none. both_ways _ c.if-is_empty.false (c.is_empty.ensures.1 none)))
