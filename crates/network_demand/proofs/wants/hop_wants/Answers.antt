use Rattle.std.proofs.Common.{◌≡◌, ◌∙◌, ◌<◌, ◌∷◌, [], ◌++◌, ◌==◌, List, length, get_or, map, true, ap, refl, arith}
use Rattle.std.specs.List.{filter}
use Rattle.std.proofs.lemmas.Grind.{common_steps}
use Rattle.rsvp_base.specs.declared.session.Sender.{Sender}
use Rattle.tree_model.specs.declared.locals.LocalSender.{LocalSender}
use Rattle.tree_model.specs.Wants.{of_session, live}
use Rattle.style_rules.specs.Merge.{merge}
use Rattle.tree_model.specs.Networks.{node_of}
use Rattle.tree_model.proofs.Following.{number_same}
use Rattle.tree_routing.specs.declared.group_hop.GroupHop.{GroupHop}
use Rattle.network_demand.specs.Asked.{locals_of}
use Rattle.network_demand.specs.Steps.{cuts, at_node, names_among}
use Rattle.network_demand.proofs.Inside.{ranked_inside}
use Rattle.network_demand.proofs.Pools.{parts_then, asked_then, wants_then, length_set}
use Rattle.network_demand.proofs.wants.hop_wants.Goals as goal

abbrev blank : GroupHop
blank = record { group = record { 0 = 0 }; hop = record { from = 0; to = 0 } }

pub next_want-requires-clause-from : goal.next_want-requires-clause-from
next_want-requires-clause-from g c = (ranked_inside c.args.routing.now c.nodes.ensures.valid c.args.order.now c.requires.order
    (length c.loop-one.asked.items) c.loop-one.invariant.size c.loop-one.one-index blank c.loop-one-test.true).0

pub next_want-requires-clause-to : goal.next_want-requires-clause-to
next_want-requires-clause-to g c = (ranked_inside c.args.routing.now c.nodes.ensures.valid c.args.order.now c.requires.order
    (length c.loop-one.asked.items) c.loop-one.invariant.size c.loop-one.one-index blank c.loop-one-test.true).1

pub loop-one-preserved : goal.loop-one-preserved
loop-one-preserved g c =
    let st = g.S.Style.kind_is in
    let net = c.args.routing.now in
    let l = locals_of c.args.locals.now in
    let s = c.args.session in
    let i = c.loop-one.one-index in
    let x : GroupHop = get_or c.args.order.now i blank in
    let lt = c.loop-one-test.true in
    let free = c.nodes.ensures.valid.loop_free in
    let size = c.loop-one.invariant.size in
    let room : node_of net.ends x.hop.from < length c.loop-one.asked.items = (ranked_inside net c.nodes.ensures.valid c.args.order.now c.requires.order
    (length c.loop-one.asked.items) size i blank lt).0 in
    let t : (x.group.0 == s.group.0) ≡ true = number_same x.group.0 s.group.0 c.if-one-session.false in
    let senders : c.as_slice-in-loop-one.result.now ≡ live l s =
    c.as_slice-in-loop-one.ensures.value ∙ c.in_ok-senders.ensures ∙ ap (λ (xs : List LocalSender). map (λ (y : LocalSender). y.sender) (filter (of_session s) xs)) c.as_slice.ensures.value in
    let parts = c.in_ok-parts.ensures.parts ∙ ap (λ (xs : List Sender). merge st (cuts (names_among st net s.group (x.hop ∷ []) xs)
    (at_node c.loop-one.asked.items (node_of net.ends x.hop.to)))) senders in
    let is = parts_then st net l s c.args.order.now i blank x lt refl free c.requires.order t c.loop-one.asked.items c.loop-one.invariant.asked c.in_ok-parts.parts parts in
    let pushed : c.push.new.self.items ≡ c.loop-one.all.items ++ record { hop = x.hop; parts = c.in_ok-parts.parts } ∷ [] = grind (arith, common_steps) in
    record {
      size = ap length c.in_ok-parts.ensures.asked ∙ length_set c.loop-one.asked.items (node_of net.ends x.hop.from) _ ∙ size;
      asked = asked_then st net l s c.args.order.now i blank x lt refl free c.requires.order t c.loop-one.asked.items c.loop-one.invariant.asked c.next_want.new.asked.items c.in_ok-parts.parts room
          is c.in_ok-parts.ensures.asked;
      all = wants_then st net l s c.args.order.now i blank x lt refl t c.loop-one.all.items c.push.new.self.items c.in_ok-parts.parts c.loop-one.invariant.all is pushed;
    }
