use Rattle.std.proofs.Common.{◌∙◌, subst, sym, refl}
use Rattle.network_flight.specs.Steps.{Inject}
use Rattle.network_flight.specs.Parcels.{Parcel, parcel}
use Rattle.network_replay.specs.Routed.{trees_in}
use Rattle.network_replay.specs.Agreeing.{NetworkState, Agrees}
use Rattle.network_replay.proofs.Runnings.{ran_silent, one_crowded}
use Rattle.network_replay.proofs.Stepped.{injected_here, counted_none, one_put_crowds, one_put_made}
use Rattle.network_replay.proofs.world.World.inject.Goals as goal

pub returns-then-is_full-clause-made : goal.returns-then-is_full-clause-made
returns-then-is_full-clause-made g c = λ t a read q w agrees.
    let see = g.R.Router.seen in
    let i = c.self.inside in
    let old : NetworkState g.row.R.Denot =
    record {
      quarter = i.quarter;
      post = i.mail;
      names = i.names.items;
      nodes = i.nodes.items;
      trees = trees_in i.routes.items;
      words = i.words;
      delivered = i.delivered;
      trace = i.trace;
      refused = i.refused;
    } in
    let at : Agrees see q old w = subst (λ (v : NetworkState g.row.R.Denot). Agrees see q v w) (sym c.self.view_is) agrees in
    let p : Parcel = parcel c.args.dst c.args.bytes.now c.args.end in
    let are = injected_here see q old w at c.args.end c.args.dst c.args.bytes.now a read in
    one_crowded q c.args.self.now.names see t old (Inject c.args.end c.args.dst a) w (one_put_crowds q (Inject c.args.end c.args.dst a) w see old at (λ n. refl) p are c.put.new.self c.put.ensures
    (sym c.is_full.ensures.full ∙ c.if-is_full.true))

pub returns-clause-made : goal.returns-clause-made
returns-clause-made g c = λ t a read q w agrees.
    let see = g.R.Router.seen in
    let i = c.self.inside in
    let old : NetworkState g.row.R.Denot =
    record {
      quarter = i.quarter;
      post = i.mail;
      names = i.names.items;
      nodes = i.nodes.items;
      trees = trees_in i.routes.items;
      words = i.words;
      delivered = i.delivered;
      trace = i.trace;
      refused = i.refused;
    } in
    let at : Agrees see q old w = subst (λ (v : NetworkState g.row.R.Denot). Agrees see q v w) (sym c.self.view_is) agrees in
    let p : Parcel = parcel c.args.dst c.args.bytes.now c.args.end in
    let are = injected_here see q old w at c.args.end c.args.dst c.args.bytes.now a read in
    let v : NetworkState g.row.R.Denot = record old { post = c.put.new.self } in
    ran_silent q c.args.self.now.names see t v (Inject c.args.end c.args.dst a) w refl
    (one_put_made q (Inject c.args.end c.args.dst a) w see old at (λ n. refl) p are c.put.new.self c.put.ensures
    (sym c.is_full.ensures.full ∙ c.if-is_full.false) v refl refl refl at.going refl refl at.words (counted_none see q old w at) at.trace)
