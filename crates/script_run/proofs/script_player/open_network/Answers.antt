use Rattle.script_grammar.specs.Draft.{plan_of}
use Rattle.script_run.proofs.Ran.{fit_start}
use Rattle.script_run.proofs.script_player.open_network.Goals as goal

pub open_all-requires-clause-fit : goal.open_all-requires-clause-fit
open_all-requires-clause-fit g c =
    let s = c.in_ok-start.start in
    let p = plan_of (g.C.LinesBefore.lines c.args.checker.now) in
    fit_start p s.quarter s.seed s.routing s.names.items c.left.result.now c.in_ok-start.ensures.opened c.left.ensures.fit
