use Rattle.std.proofs.Common.{◌≡◌, ◌∙◌, subst, sym, refl, arith}
use Rattle.network_flight.specs.Steps.{Copy}
use Rattle.network_flight.specs.Parcels.{Parcel, parcel}
use Rattle.network_replay.specs.Routed.{trees_in}
use Rattle.network_replay.specs.Agreeing.{NetworkState, Agrees}
use Rattle.network_replay.proofs.Runnings.{ran_silent, one_crowded}
use Rattle.network_replay.proofs.Stepped.{still_made, copied_here, not_copied, counted_none, one_put_crowds, one_put_made}
use Rattle.network_replay.proofs.world.World.copy.Goals as goal

pub returns-in_default-clause-made : goal.returns-in_default-clause-made
returns-in_default-clause-made g c = λ t q w agrees.
    let see = g.R.Router.seen in
    let i = c.self.inside in
    let old : NetworkState g.row.R.Denot =
    record {
      quarter = i.quarter;
      post = i.mail;
      names = i.names.items;
      nodes = i.nodes.items;
      trees = trees_in i.routes.items;
      words = i.words;
      delivered = i.delivered;
      trace = i.trace;
      refused = i.refused;
    } in
    let at : Agrees see q old w = subst (λ (v : NetworkState g.row.R.Denot). Agrees see q v w) (sym c.self.view_is) agrees in
    let k = c.args.place in
    let none = c.in_default.ensures.none in
    ran_silent q c.args.self.now.names see t old (Copy k) w refl
    (still_made q (Copy k) w see old old at refl refl (λ n. refl) at.roomy refl (not_copied see q old w at k none.0) at.room at.going refl refl at.words (counted_none see q old w at) at.trace)

pub returns-then-is_full-clause-made : goal.returns-then-is_full-clause-made
returns-then-is_full-clause-made g c = λ t q w agrees.
    let see = g.R.Router.seen in
    let i = c.self.inside in
    let old : NetworkState g.row.R.Denot =
    record {
      quarter = i.quarter;
      post = i.mail;
      names = i.names.items;
      nodes = i.nodes.items;
      trees = trees_in i.routes.items;
      words = i.words;
      delivered = i.delivered;
      trace = i.trace;
      refused = i.refused;
    } in
    let at : Agrees see q old w = subst (λ (v : NetworkState g.row.R.Denot). Agrees see q v w) (sym c.self.view_is) agrees in
    let k = c.args.place in
    let held : c.look.new.hand.value ≡ c.bytes-bytes.result.now = grind (arith, c.bytes-bytes.ensures.bytes, c.deref.ensures) in
    let are = copied_here see q old w at k c.in-Some.end c.in-Some.dst c.bytes-bytes.result.now c.look.new.hand.value (sym held) c.in-Some.ensures.some in
    let p : Parcel = parcel c.in-Some.dst c.bytes-bytes.result.now c.in-Some.end in
    one_crowded q c.args.self.now.names see t old (Copy k) w (one_put_crowds q (Copy k) w see old at (λ n. refl) p are c.put.new.self c.put.ensures (sym c.is_full.ensures.full ∙ c.if-is_full.true))

pub returns-clause-made : goal.returns-clause-made
returns-clause-made g c = λ t q w agrees.
    let see = g.R.Router.seen in
    let i = c.self.inside in
    let old : NetworkState g.row.R.Denot =
    record {
      quarter = i.quarter;
      post = i.mail;
      names = i.names.items;
      nodes = i.nodes.items;
      trees = trees_in i.routes.items;
      words = i.words;
      delivered = i.delivered;
      trace = i.trace;
      refused = i.refused;
    } in
    let at : Agrees see q old w = subst (λ (v : NetworkState g.row.R.Denot). Agrees see q v w) (sym c.self.view_is) agrees in
    let k = c.args.place in
    let held : c.look.new.hand.value ≡ c.bytes-bytes.result.now = grind (arith, c.bytes-bytes.ensures.bytes, c.deref.ensures) in
    let are = copied_here see q old w at k c.in-Some.end c.in-Some.dst c.bytes-bytes.result.now c.look.new.hand.value (sym held) c.in-Some.ensures.some in
    let p : Parcel = parcel c.in-Some.dst c.bytes-bytes.result.now c.in-Some.end in
    let v : NetworkState g.row.R.Denot = record old { post = c.put.new.self } in
    ran_silent q c.args.self.now.names see t v (Copy k) w refl
    (one_put_made q (Copy k) w see old at (λ n. refl) p are c.put.new.self c.put.ensures (sym c.is_full.ensures.full ∙ c.if-is_full.false) v refl refl refl at.going refl refl at.words
    (counted_none see q old w at) at.trace)
