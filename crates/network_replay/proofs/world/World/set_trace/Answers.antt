use Rattle.std.proofs.Common.{subst, sym, refl}
use Rattle.network_flight.specs.Steps.{Trace}
use Rattle.network_replay.specs.Routed.{trees_in}
use Rattle.network_replay.specs.Agreeing.{NetworkState, Agrees}
use Rattle.network_replay.proofs.Runnings.{ran_silent}
use Rattle.network_replay.proofs.Stepped.{still_made, counted_none}
use Rattle.network_replay.proofs.world.World.set_trace.Goals as goal

pub returns-clause-made : goal.returns-clause-made
returns-clause-made g c = λ t q w agrees.
    let see = g.R.Router.seen in
    let i = c.self.inside in
    let old : NetworkState g.row.R.Denot =
    record {
      quarter = i.quarter;
      post = i.mail;
      names = i.names.items;
      nodes = i.nodes.items;
      trees = trees_in i.routes.items;
      words = i.words;
      delivered = i.delivered;
      trace = i.trace;
      refused = i.refused;
    } in
    let at : Agrees see q old w = subst (λ (v : NetworkState g.row.R.Denot). Agrees see q v w) (sym c.self.view_is) agrees in
    let v : NetworkState g.row.R.Denot = record old { trace = c.args.on } in
    ran_silent q c.args.self.now.names see t v (Trace c.args.on) w refl (still_made q (Trace c.args.on) w see old v at refl refl
    (λ n. refl) at.roomy refl at.flight at.room at.going refl refl at.words (counted_none see q old w at) refl)
