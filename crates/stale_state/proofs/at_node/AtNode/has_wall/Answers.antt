use Rattle.std.proofs.Common.{is_some, sym, ap, ◌∙◌}
use Rattle.std.specs.Prelude.{Option}
use Rattle.blockade_state.specs.Blockades.{WallMap}
use Rattle.rsvp_base.specs.Table.{has}
use Rattle.stale_state.specs.Tables.{walls_of}
use Rattle.stale_state.proofs.Looking.{wall_seen}
use Rattle.stale_state.proofs.at_node.AtNode.has_wall.Goals as goal

pub returns-in-Some : goal.returns-in-Some
returns-in-Some c =
    c.is_some.ensures ∙ ap is_some c.of.ensures.wall ∙ wall_seen c.in-Some.walls (c.args.session, c.args.target)
    ∙ ap (λ (o : Option WallMap). has (walls_of o) (c.args.session, c.args.target)) (sym c.in-Some.is)
