use Rattle.std.proofs.Common.{List, sym, ap}
use Rattle.std.specs.Prelude.{fold}
use Rattle.router_rules.specs.Inputs.{Clear, Send}
use Rattle.node_stream.specs.Posting.{with_post}
use Rattle.node_stream.proofs.Doing.{has_done}
use Rattle.node_stream.proofs.acting.clear.Goals as goal

pub returns-clause-done : goal.returns-clause-done
returns-clause-done g c = λ t within.
    let out = c.args.out.now in
    has_done g.R.Router.seen c.args.router.now c.clear.new.self c.args.limits Clear out out c.requires.limits c.clear.ensures.place tt tt c.requires.empty t (c.clear.ensures.facts t)
    (sym (ap (λ (ss : List Send). fold with_post out ss) (c.clear.ensures.silent t))) within
