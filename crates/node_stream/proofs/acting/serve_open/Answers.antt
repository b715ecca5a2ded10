use Rattle.std.proofs.Common.{Some, refl}
use Rattle.node_stream.proofs.Opening.{served_open}
use Rattle.node_stream.proofs.acting.serve_open.Goals as goal

pub returns-in-Ok-act-clause-served : goal.returns-in-Ok-act-clause-served
returns-in-Ok-act-clause-served g c = λ t within.
    let a = c.in-Ok-act.ensures in
    served_open g.R.Router.seen c.args.router.now c.act.new.router c.args.limits c.args.kind c.args.contents.now c.act.new.out c.in-Ok.said c.in-Ok.ensures.reads c.in-Ok.ensures.in_turn a.in_range c.act.ensures.place
    c.requires.limits t (a.answered t within)

pub returns-in-Err-clause-stopped : goal.returns-in-Err-clause-stopped
returns-in-Err-clause-stopped g c = λ t. c.in-Err.ensures.blamed (Some (g.R.Router.seen.place c.args.router.now)) refl
