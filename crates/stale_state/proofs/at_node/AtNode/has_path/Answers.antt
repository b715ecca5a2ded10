use Rattle.std.proofs.Common.{is_some, sym, ap, ◌∙◌}
use Rattle.std.specs.Prelude.{Option}
use Rattle.path_state.specs.Paths.{PathMap}
use Rattle.rsvp_base.specs.Table.{has}
use Rattle.stale_state.specs.Tables.{paths_of}
use Rattle.stale_state.proofs.Looking.{copied_there, path_seen}
use Rattle.stale_state.proofs.at_node.AtNode.has_path.Goals as goal

pub returns-in-Some : goal.returns-in-Some
returns-in-Some c =
    c.is_some.ensures ∙ sym (copied_there c.find.result) ∙ ap is_some c.find.ensures.fact ∙ path_seen c.in-Some.paths (c.args.session, c.args.sender)
    ∙ ap (λ (o : Option PathMap). has (paths_of o) (c.args.session, c.args.sender)) (sym c.in-Some.is)
