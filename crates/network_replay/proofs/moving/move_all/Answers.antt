use Rattle.std.proofs.Common.{◌≡◌, ℕ, ◌+◌, ◌<◌, ◌≤◌, ◌∙◌, List, Some, inl, inr, subst, sym, arith, refl, ap, length}
use Rattle.std.specs.Prelude.{slice_get, slice_set, map as each, fold}
use Rattle.std.proofs.lemmas.Bool.{cases_eq}
use Rattle.std.proofs.lemmas.Option.{slice_get_read}
use Rattle.rsvp_base.specs.declared.addr.Addr.{Addr}
use Rattle.router_rules.specs.declared.route.Route.{Route}
use Rattle.router_rules.specs.Inputs.{Moved}
use Rattle.router_rules.specs.NodeConfig.{NodeConfig}
use Rattle.router_rules.specs.Rule.{sent_after}
use Rattle.tree_model.specs.declared.hops.LinkHop.{LinkHop}
use Rattle.tree_model.specs.Networks.{Net}
use Rattle.network_flight.specs.Steps.{Reroute, rerouted, step}
use Rattle.network_flight.specs.Worlds.{World, Item, route_of}
use Rattle.network_replay.specs.Agreeing.{IsNode}
use Rattle.network_replay.specs.Mailing.{ArePut}
use Rattle.network_replay.specs.Moving.{AreMoving}
use Rattle.network_replay.specs.Routed.{bare, trees_in}
use Rattle.network_replay.specs.Posting.{Post, with_post}
use Rattle.network_replay.proofs.Mailed.{nothing_put, posted_room, posted_spelt, posted_wires, put_then}
use Rattle.network_replay.proofs.Making.{as_many_nodes, copies_at}
use Rattle.network_replay.proofs.Moves.{each_all, each_twice, moved_node, moved_put, trees_back}
use Rattle.network_replay.proofs.Nodes.{within, length_set, each_set, set_there, set_elsewhere, all_at, all_each, all_set}
use Rattle.network_replay.proofs.Turns.{none_on, one_on, sent_on}
use Rattle.network_replay.proofs.moving.move_all.Goals as goal

pub loop-n-init : goal.loop-n-init
loop-n-init g c =
    let see = g.R.Router.seen in
    record {
      many = refl;
      places = refl;
      routed = all_each see.place (λ (p : NodeConfig). trees_in p.routes ≡ trees_in c.args.routes.now.items) c.args.nodes.now.items c.requires.routed;
      trees = refl;
      wires = refl;
      room = c.wires-wires.ensures.most;
      later = λ m le. refl;
      moved = λ q w a s hops moving m r lt at. absurd (omega (arith, lt));
      put = λ q w a s hops moving new put. put;
    }

pub route-requires : goal.route-requires
route-requires g c =
    let see = g.R.Router.seen in
    let n = c.loop-n.n in
    let inv = c.loop-n.invariant in
    let old = c.index_mut.result.now in
    let lt : n < length c.loop-n.nodes.items = omega (arith, c.loop-n-test.true, c.len-n-end.ensures, inv.many, c.args.nodes.now.ok.0) in
    let here = slice_get_read c.loop-n.nodes.items _ n old refl lt c.index_mut.ensures.value in
    let first = all_at (λ (r : g.row.R.Denot). trees_in (see.place r).routes ≡ trees_in c.args.routes.now.items) c.loop-n.nodes.items n old inv.routed here in
    let back : trees_in c.as_slice.result.now ≡ trees_in c.args.routes.now.items =
    ap (λ (rs : List Route). trees_in rs) (c.as_slice.ensures.value ∙ c.put_routes.ensures) ∙ trees_back c.routing.result.now n (trees_in c.loop-n.routes.items) ∙ inv.trees in
    first ∙ sym back

pub loop-n-preserved : goal.loop-n-preserved
loop-n-preserved g c =
    let see = g.R.Router.seen in
    let n = c.loop-n.n in
    let inv = c.loop-n.invariant in
    let old = c.index_mut.result.now in
    let new = c.route.new.self in
    let mail = c.loop-n.mail in
    let trees = trees_in c.args.routes.now.items in
    let lt : n < length c.loop-n.nodes.items = omega (arith, c.loop-n-test.true, c.len-n-end.ensures, inv.many, c.args.nodes.now.ok.0) in
    let here = slice_get_read c.loop-n.nodes.items _ n old refl lt c.index_mut.ensures.value in
    let le : n ≤ n = omega arith in
    let first = sym (inv.later n le) ∙ here in
    let net : c.routing.result.now ≡ c.args.mail.now.net = c.routing.ensures.net ∙ c.wires.ensures.wires ∙ inv.wires in
    let made : c.put_routes.new.routes.items ≡ each (route_of c.routing.result.now n) (trees_in c.loop-n.routes.items) = c.put_routes.ensures in
    let kept : trees_in c.put_routes.new.routes.items ≡ trees = ap (λ (rs : List Route). trees_in rs) made ∙ trees_back c.routing.result.now n (trees_in c.loop-n.routes.items) ∙ inv.trees in
    let back : trees_in c.as_slice.result.now ≡ trees = ap (λ (rs : List Route). trees_in rs) c.as_slice.ensures.value ∙ kept in
    let routes_are : (q : ℕ) (w : World) (a s : Addr) (hops : List LinkHop) → AreMoving see q c.args.mail.now.net trees c.args.nodes.now.items a s hops w
    → c.as_slice.result.now ≡ each (route_of (rerouted w.net a s hops) n) w.trees =
    λ q w a s hops moving.
    c.as_slice.ensures.value ∙ made ∙ ap (λ (k : Net). each (route_of k n) (trees_in c.loop-n.routes.items)) (net ∙ moving.net_is)
    ∙ ap (λ (ts : List (Addr × Addr)). each (route_of (rerouted w.net a s hops) n) ts) (inv.trees ∙ moving.trees_are) in
    let from : c.set_from.new.self ≡ record mail { from = n } = c.set_from.ensures.from in
    let posts : (t : ℕ) → c.route.new.out ≡ fold with_post (record mail { from = n }) (sent_after (see.place old) (see.place new) t Moved (see.facts old t)) =
    λ t. c.route.ensures.sent t ∙ ap (λ (m : Post). fold with_post m (sent_after (see.place old) (see.place new) t Moved (see.facts old t))) from in
    let fit = λ (t : ℕ). posted_spelt (record mail { from = n }) c.route.new.out (sent_after (see.place old) (see.place new) t Moved (see.facts old t)) inv.room (posts t) c.is_full-full.ensures.range
    (c.route.ensures.fit t) in
    record {
      many = length_set c.loop-n.nodes.items n new ∙ inv.many;
      places = each_set (λ r. bare (see.place r)) c.loop-n.nodes.items n old new here (ap bare c.route.ensures.place) ∙ inv.places;
      routed = all_set (λ (r : g.row.R.Denot). trees_in (see.place r).routes ≡ trees) c.loop-n.nodes.items n new inv.routed (ap (λ (p : NodeConfig). trees_in p.routes) c.route.ensures.place ∙ back);
      trees = kept;
      wires = posted_wires (record mail { from = n }) c.route.new.out (sent_after (see.place old) (see.place new) 0 Moved (see.facts old 0)) inv.room (posts 0) ∙ inv.wires;
      room = posted_room (record mail { from = n }) c.route.new.out (sent_after (see.place old) (see.place new) 0 Moved (see.facts old 0)) inv.room (posts 0);
      later = λ m more. set_elsewhere c.loop-n.nodes.items n m new (λ e. omega arith) ∙ inv.later m (omega arith);
      moved = λ q w a s hops moving m r less at.
          elim (cases_eq m n) [
            | inl same ↦
                let node = moved_node see q w a s hops n old new (moving.nodes.all n old first) c.as_slice.result.now (routes_are q w a s hops moving) c.route.ensures.place c.route.ensures.facts in
                let is : r ≡ new = set_there c.loop-n.nodes.items n new r (subst (λ j. slice_get (slice_set c.loop-n.nodes.items n new) j ≡ Some r) same at) in
                subst (λ (x : g.row.R.Denot). IsNode see q (step q (Reroute a s hops) w) m x) (sym is) (subst (λ j. IsNode see q (step q (Reroute a s hops) w) j new) (sym same) node)
            | inr ne ↦ inv.moved q w a s hops moving m r (omega arith) (sym (set_elsewhere c.loop-n.nodes.items n m new ne) ∙ at)
          ];
      put = λ q w a s hops moving end more.
          let is = moving.nodes.all n old first in
          let one = moved_put see q w a s hops n old new is c.as_slice.result.now (routes_are q w a s hops moving) c.route.ensures.place mail c.route.new.out
          (inv.wires ∙ moving.net_is) inv.room posts fit in
          let both = put_then mail c.route.new.out end (each (λ x. x.0) (copies_at q (Reroute a s hops) w n (see.facts old w.clock))) (sent_on q w (Reroute a s hops) (n + 1)) one more in
          inv.put q w a s hops moving end (subst (λ (xs : List Item). ArePut mail end xs) (sym (one_on q w (Reroute a s hops) n (see.facts old w.clock) is.facts)) both);
    }

pub returns-clause-nodes : goal.returns-clause-nodes
returns-clause-nodes g c = λ q w a s hops moving.
    let inv = c.loop-n.invariant in
    record {
      many = inv.many ∙ moving.nodes.many ∙ sym (as_many_nodes q (Reroute a s hops) w);
      all = λ m r at. let lt = within c.loop-n.nodes.items m r at in inv.moved q w a s hops moving m r
          (omega (arith, lt, inv.many, c.loop-n-test.false, c.len-n-end.ensures, c.args.nodes.now.ok.0)) at;
    }

pub returns-clause-put : goal.returns-clause-put
returns-clause-put g c = λ q w a s hops moving.
    let inv = c.loop-n.invariant in
    let le : length w.nodes ≤ c.loop-n.n = omega (arith, inv.many, moving.nodes.many, c.loop-n-test.false, c.len-n-end.ensures, c.args.nodes.now.ok.0) in
    let here = c.loop-n.mail in
    inv.put q w a s hops moving here (subst (λ (xs : List Item). ArePut here here xs) (sym (none_on q w (Reroute a s hops) c.loop-n.n le)) (nothing_put here here inv.room refl))

pub returns-clause-places : goal.returns-clause-places
returns-clause-places g c =
    let see = g.R.Router.seen in
    each_twice see.place bare c.loop-n.nodes.items ∙ c.loop-n.invariant.places ∙ sym (each_twice see.place bare c.args.nodes.now.items)

pub returns-clause-routed : goal.returns-clause-routed
returns-clause-routed g c =
    let see = g.R.Router.seen in
    each_all see.place (λ (p : NodeConfig). trees_in p.routes ≡ trees_in c.args.routes.now.items) c.loop-n.nodes.items c.loop-n.invariant.routed
