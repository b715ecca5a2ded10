use Rattle.std.proofs.Common.{◌∙◌, subst, sym, refl}
use Rattle.network_flight.specs.Steps.{At}
use Rattle.network_replay.specs.Routed.{trees_in}
use Rattle.network_replay.specs.Agreeing.{NetworkState, Agrees}
use Rattle.network_model.specs.Happenings.{call_of}
use Rattle.network_replay.proofs.Runnings.{ran_silent, one_crowded}
use Rattle.network_replay.proofs.Stepped.{step_crowds, step_made, counted_none}
use Rattle.network_replay.proofs.world.World.call.Goals as goal

pub returns-then-is_full-clause-made : goal.returns-then-is_full-clause-made
returns-then-is_full-clause-made g c = λ t q w agrees.
    let see = g.R.Router.seen in
    let i = c.self.inside in
    let old : NetworkState g.row.R.Denot =
    record {
      quarter = i.quarter;
      post = i.mail;
      names = i.names.items;
      nodes = i.nodes.items;
      trees = trees_in i.routes.items;
      words = i.words;
      delivered = i.delivered;
      trace = i.trace;
      refused = i.refused;
    } in
    let at : Agrees see q old w = subst (λ (v : NetworkState g.row.R.Denot). Agrees see q v w) (sym c.self.view_is) agrees in
    let s = At c.args.node (call_of c.args.call.now) in
    let put = c.call_at.ensures.put q w at.net at.nodes in
    one_crowded q c.args.self.now.names see t old s w (step_crowds q s w i.mail c.call_at.new.mail at.roomy at.flight put (sym c.is_full.ensures.full ∙ c.if-is_full.true))

pub returns-clause-made : goal.returns-clause-made
returns-clause-made g c = λ t q w agrees.
    let see = g.R.Router.seen in
    let i = c.self.inside in
    let old : NetworkState g.row.R.Denot =
    record {
      quarter = i.quarter;
      post = i.mail;
      names = i.names.items;
      nodes = i.nodes.items;
      trees = trees_in i.routes.items;
      words = i.words;
      delivered = i.delivered;
      trace = i.trace;
      refused = i.refused;
    } in
    let at : Agrees see q old w = subst (λ (v : NetworkState g.row.R.Denot). Agrees see q v w) (sym c.self.view_is) agrees in
    let s = At c.args.node (call_of c.args.call.now) in
    let put = c.call_at.ensures.put q w at.net at.nodes in
    let v : NetworkState g.row.R.Denot = record old { post = c.call_at.new.mail; nodes = c.call_at.new.nodes.items } in
    ran_silent q c.args.self.now.names see t v s w refl
    (step_made q s w i.mail c.call_at.new.mail at.roomy at.flight put see old v at refl refl refl (sym c.is_full.ensures.full ∙ c.if-is_full.false) at.going refl
    (c.call_at.ensures.nodes q w at.net at.nodes) at.words (counted_none see q old w at) at.trace)
