use Rattle.std.proofs.Common.{subst, sym, ◌∙◌}
use Rattle.rsvp_base.specs.Sets.{union}
use Rattle.rsvp_base.specs.Table.{empty}
use Rattle.router_state.specs.Whole.{state_of}
use Rattle.resv_sends.specs.Wishes.{AreWanted}
use Rattle.resv_sends.proofs.Used.{used_more, used_same, wanted_both, wanted_marks, wanted_room}
use Rattle.resv_sends.proofs.lane_marks.use_lane.Goals as goal
use Rattle.resv_sends.proofs.lane_marks.use_lane.Goals.{After-marked_units-marked}

both : (c : After-marked_units-marked) → AreWanted c.args.tables.now c.args.session (union c.args.used.now c.marked_units-marked.result)
both c =
    wanted_both c.args.tables.now c.args.session c.args.used.now c.marked_units-marked.result c.requires
    (wanted_marks c.args.tables.now c.args.session 0 empty c.args.style c.args.hop c.marked_units-marked.result (c.marked_units-marked.ensures 0 empty))

pub add_all-requires : goal.add_all-requires
add_all-requires c = wanted_room c.args.tables.now c.args.session c.of-known.ensures.within (union c.args.used.now c.marked_units-marked.result)
    (both ((goal.at.add_all-requires c).After-marked_units-marked))

pub returns-then-is_new-clause-used : goal.returns-then-is_new-clause-used
returns-then-is_new-clause-used c = λ clock any es so_far.
    c.add_all.ensures
    ∙ used_more clock (state_of c.args.tables.now any) c.args.session c.args.said.now es (c.args.style, c.args.hop) c.args.used.now so_far
    (sym c.if-is_new.true ∙ c.is_new.ensures clock any) c.marked_units-marked.result (c.marked_units-marked.ensures clock any)

pub returns-then-is_new-clause-wanted : goal.returns-then-is_new-clause-wanted
returns-then-is_new-clause-wanted c = subst (AreWanted c.args.tables.now c.args.session) (sym c.add_all.ensures) (both ((goal.at.returns-then-is_new-clause-wanted c).After-marked_units-marked))

pub returns-else-is_new-clause-used : goal.returns-else-is_new-clause-used
returns-else-is_new-clause-used c = λ clock any es so_far.
    used_same clock (state_of c.args.tables.now any) c.args.session c.args.said.now es (c.args.style, c.args.hop) c.args.used.now so_far (sym c.if-is_new.false ∙ c.is_new.ensures clock any)
