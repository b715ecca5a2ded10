use Rattle.std.proofs.Common.{◌≡◌, ◌∙◌, List, ap, subst, sym, refl}
use Rattle.std.specs.Prelude.{map as each}
use Rattle.rsvp_base.specs.declared.addr.Addr.{Addr}
use Rattle.network_flight.specs.Steps.{Reroute, rerouted}
use Rattle.tree_model.specs.Networks.{Net}
use Rattle.network_flight.specs.Parcels.{Parcel}
use Rattle.network_replay.specs.Routed.{trees_in}
use Rattle.network_replay.specs.Agreeing.{NetworkState, AreItems, Agrees}
use Rattle.network_replay.specs.Moving.{AreMoving}
use Rattle.network_replay.specs.Posting.{Post}
use Rattle.network_replay.proofs.Moves.{still_steady}
use Rattle.network_replay.proofs.Runnings.{ran_silent, one_crowded}
use Rattle.network_replay.proofs.Stepped.{step_crowds, step_made_in, counted_none}
use Rattle.network_replay.proofs.world.World.reroute.Goals as goal

pub set_routing-requires-clause-nodes : goal.set_routing-requires-clause-nodes
set_routing-requires-clause-nodes g c = ap (λ (n : Net). n.nodes) c.requires.routing ∙ sym (ap (λ (v : NetworkState g.row.R.Denot). v.post.net.nodes) c.self.view_is)

pub set_routing-requires-clause-ends : goal.set_routing-requires-clause-ends
set_routing-requires-clause-ends g c = ap (λ (n : Net). n.ends) c.requires.routing ∙ sym (ap (λ (v : NetworkState g.row.R.Denot). v.post.net.ends) c.self.view_is)

pub set_routing-requires-clause-links : goal.set_routing-requires-clause-links
set_routing-requires-clause-links g c = ap (λ (n : Net). n.links) c.requires.routing ∙ sym (ap (λ (v : NetworkState g.row.R.Denot). v.post.net.links) c.self.view_is)

pub invariant_of-self : goal.invariant_of-self
invariant_of-self g c =
    let see = g.R.Router.seen in
    let i = c.self.inside in
    let mid : c.set_routing.new.self.net ≡ c.args.routing = ap (λ (m : Post). m.net) c.set_routing.ensures in
    let ends = ap (λ (n : Net). n.ends) (c.move_all.ensures.net ∙ mid ∙ c.requires.routing) ∙ sym (ap (λ (v : NetworkState g.row.R.Denot). v.post.net.ends) c.self.view_is) in
    still_steady i.quarter i.mail.net c.move_all.new.mail.net (trees_in i.routes.items) (trees_in c.move_all.new.routes.items) (each see.place i.nodes.items)
    (each see.place c.move_all.new.nodes.items) c.self.invariant ends c.move_all.ensures.places c.move_all.ensures.trees
    c.move_all.ensures.routed

pub invariant_of-self-else-is_full : goal.invariant_of-self-else-is_full
invariant_of-self-else-is_full g c =
    let see = g.R.Router.seen in
    let i = c.self.inside in
    let mid : c.set_routing.new.self.net ≡ c.args.routing = ap (λ (m : Post). m.net) c.set_routing.ensures in
    let ends = ap (λ (n : Net). n.ends) (c.move_all.ensures.net ∙ mid ∙ c.requires.routing) ∙ sym (ap (λ (v : NetworkState g.row.R.Denot). v.post.net.ends) c.self.view_is) in
    still_steady i.quarter i.mail.net c.move_all.new.mail.net (trees_in i.routes.items) (trees_in c.move_all.new.routes.items) (each see.place i.nodes.items)
    (each see.place c.move_all.new.nodes.items) c.self.invariant ends c.move_all.ensures.places c.move_all.ensures.trees
    c.move_all.ensures.routed

pub returns-then-is_full-clause-made : goal.returns-then-is_full-clause-made
returns-then-is_full-clause-made g c = λ t q w agrees.
    let see = g.R.Router.seen in
    let i = c.self.inside in
    let old : NetworkState g.row.R.Denot =
    record {
      quarter = i.quarter;
      post = i.mail;
      names = i.names.items;
      nodes = i.nodes.items;
      trees = trees_in i.routes.items;
      words = i.words;
      delivered = i.delivered;
      trace = i.trace;
      refused = i.refused;
    } in
    let at : Agrees see q old w = subst (λ (v : NetworkState g.row.R.Denot). Agrees see q v w) (sym c.self.view_is) agrees in
    let a = c.args.group in
    let b = c.args.source in
    let hops = c.args.hops.now in
    let s = Reroute a b hops in
    let mid = c.set_routing.new.self in
    let mid_is : mid ≡ record i.mail { net = c.args.routing } = c.set_routing.ensures in
    let net_is : mid.net ≡ rerouted w.net a b hops = ap (λ (m : Post). m.net) mid_is ∙ c.requires.routing ∙ ap (λ (n : Net). rerouted n a b hops) (sym agrees.net) in
    let put = c.move_all.ensures.put q w a b hops (record { net_is = net_is; trees_are = at.trees; nodes = at.nodes }) in
    let items = subst (λ (ps : List Parcel). AreItems ps w.flight) (sym (ap (λ (m : Post). m.flight) mid_is)) at.flight in
    one_crowded q c.args.self.now.names see t old s w (step_crowds q s w mid c.move_all.new.mail (ap (λ (m : Post). m.full) mid_is ∙ at.roomy) items put
    (sym c.is_full.ensures.full ∙ c.if-is_full.true))

pub returns-clause-made : goal.returns-clause-made
returns-clause-made g c = λ t q w agrees.
    let see = g.R.Router.seen in
    let i = c.self.inside in
    let old : NetworkState g.row.R.Denot =
    record {
      quarter = i.quarter;
      post = i.mail;
      names = i.names.items;
      nodes = i.nodes.items;
      trees = trees_in i.routes.items;
      words = i.words;
      delivered = i.delivered;
      trace = i.trace;
      refused = i.refused;
    } in
    let at : Agrees see q old w = subst (λ (v : NetworkState g.row.R.Denot). Agrees see q v w) (sym c.self.view_is) agrees in
    let a = c.args.group in
    let b = c.args.source in
    let hops = c.args.hops.now in
    let s = Reroute a b hops in
    let mid = c.set_routing.new.self in
    let mid_is : mid ≡ record i.mail { net = c.args.routing } = c.set_routing.ensures in
    let net_is : mid.net ≡ rerouted w.net a b hops = ap (λ (m : Post). m.net) mid_is ∙ c.requires.routing ∙ ap (λ (n : Net). rerouted n a b hops) (sym agrees.net) in
    let moving : AreMoving see q mid.net (trees_in i.routes.items) i.nodes.items a b hops w = record { net_is = net_is; trees_are = at.trees; nodes = at.nodes } in
    let put = c.move_all.ensures.put q w a b hops moving in
    let items = subst (λ (ps : List Parcel). AreItems ps w.flight) (sym (ap (λ (m : Post). m.flight) mid_is)) at.flight in
    let v : NetworkState g.row.R.Denot = record old { post = c.move_all.new.mail; nodes = c.move_all.new.nodes.items; trees = trees_in c.move_all.new.routes.items } in
    let set_up = ap (λ (ts : List (Addr × Addr)). (i.quarter, ts)) c.move_all.ensures.trees in
    ran_silent q c.args.self.now.names see t v s w refl
    (step_made_in q s w mid c.move_all.new.mail (ap (λ (m : Post). m.full) mid_is ∙ at.roomy) items put see old v at refl (sym c.is_full.ensures.full ∙ c.if-is_full.false)
    (sym net_is) at.going set_up (c.move_all.ensures.nodes q w a b hops moving) at.words
    (counted_none see q old w at) at.trace)
