use Rattle.std.proofs.Common.{List, subst, sym, refl, Bool}
use Rattle.network_flight.specs.Steps.{ClearAt, sent}
use Rattle.network_replay.specs.Routed.{trees_in}
use Rattle.network_replay.specs.Agreeing.{NetworkState, Agrees}
use Rattle.std.specs.Prelude.{map as each}
use Rattle.network_flight.specs.Worlds.{Item}
use Rattle.network_replay.specs.Mailing.{ArePut}
use Rattle.network_replay.proofs.Mailed.{nothing_put}
use Rattle.network_replay.proofs.Runnings.{ran_silent}
use Rattle.network_replay.proofs.Stepped.{step_made, counted_none}
use Rattle.network_replay.proofs.world.World.clear.Goals as goal

pub returns-clause-made : goal.returns-clause-made
returns-clause-made g c = λ t q w agrees.
    let see = g.R.Router.seen in
    let i = c.self.inside in
    let old : NetworkState g.row.R.Denot =
    record {
      quarter = i.quarter;
      post = i.mail;
      names = i.names.items;
      nodes = i.nodes.items;
      trees = trees_in i.routes.items;
      words = i.words;
      delivered = i.delivered;
      trace = i.trace;
      refused = i.refused;
    } in
    let at : Agrees see q old w = subst (λ (v : NetworkState g.row.R.Denot). Agrees see q v w) (sym c.self.view_is) agrees in
    let s = ClearAt c.args.node in
    let put : ArePut i.mail i.mail (each (λ x. x.0) (sent q s w)) = subst (λ (xs : List (Item × Bool)). ArePut i.mail i.mail (each (λ x. x.0) xs)) (sym (c.clear_at.ensures.sent q w at.nodes))
    (nothing_put i.mail i.mail at.room refl) in
    let v : NetworkState g.row.R.Denot = record old { nodes = c.clear_at.new.nodes.items } in
    ran_silent q c.args.self.now.names see t v s w refl
    (step_made q s w i.mail i.mail at.roomy at.flight put see old v at refl refl refl at.roomy at.going refl (c.clear_at.ensures.nodes q w at.nodes) at.words (counted_none see q old w at) at.trace)
