use Rattle.std.proofs.Common.{◌∙◌, subst, sym, ap, refl}
use Rattle.network_flight.specs.Steps.{Lose}
use Rattle.network_replay.specs.Routed.{trees_in}
use Rattle.network_replay.specs.Agreeing.{NetworkState, Agrees}
use Rattle.network_replay.specs.Posting.{Post}
use Rattle.network_replay.proofs.Runnings.{ran_silent}
use Rattle.network_replay.proofs.Stepped.{still_made, rest_here, counted_none}
use Rattle.network_replay.proofs.world.World.lose.Goals as goal

pub returns-clause-made : goal.returns-clause-made
returns-clause-made g c = λ t q w agrees.
    let see = g.R.Router.seen in
    let i = c.self.inside in
    let old : NetworkState g.row.R.Denot =
    record {
      quarter = i.quarter;
      post = i.mail;
      names = i.names.items;
      nodes = i.nodes.items;
      trees = trees_in i.routes.items;
      words = i.words;
      delivered = i.delivered;
      trace = i.trace;
      refused = i.refused;
    } in
    let at : Agrees see q old w = subst (λ (v : NetworkState g.row.R.Denot). Agrees see q v w) (sym c.self.view_is) agrees in
    let k = c.args.place in
    let v : NetworkState g.row.R.Denot = record old { post = c.take.new.self } in
    ran_silent q c.args.self.now.names see t v (Lose k) w refl
    (still_made q (Lose k) w see old v at refl refl (λ n. refl) (ap (λ (p : Post). p.full) c.take.ensures.rest ∙ at.roomy) (ap (λ (p : Post). p.net) c.take.ensures.rest)
    (rest_here see q old w at k c.take.new.self.flight (ap (λ (p : Post). p.flight) c.take.ensures.rest)) c.len.ensures.most
    at.going refl refl at.words (counted_none see q old w at) at.trace)
