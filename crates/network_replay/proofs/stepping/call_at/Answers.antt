use Rattle.std.proofs.Common.{◌<◌, ◌≤◌, ◌∙◌, sym, arith, refl, ap, length}
use Rattle.std.specs.Prelude.{fold}
use Rattle.std.proofs.lemmas.Option.{slice_get_read}
use Rattle.router_rules.specs.Inputs.{Call}
use Rattle.router_rules.specs.Rule.{sent_after}
use Rattle.network_flight.specs.Steps.{At}
use Rattle.network_model.specs.Happenings.{call_of}
use Rattle.network_replay.specs.Posting.{Post, with_post}
use Rattle.network_replay.proofs.Mailed.{posted_spelt, posted_wires}
use Rattle.network_replay.proofs.Nodes.{each_set}
use Rattle.network_replay.proofs.OneNode.{absent_nodes, absent_put, called_nodes, called_put}
use Rattle.network_replay.proofs.stepping.call_at.Goals as goal

pub returns-then-at-len-clause-nodes : goal.returns-then-at-len-clause-nodes
returns-then-at-len-clause-nodes g c = λ q w wires are.
    let l = call_of c.args.call.now in
    let past : length w.nodes ≤ c.args.node = omega (arith, are.many, c.if-at-len.true, c.len.ensures, c.args.nodes.now.ok.0) in
    absent_nodes g.R.Router.seen q w (At c.args.node l) c.args.node (Call l) refl refl (λ n. refl) past c.args.nodes.now.items are

pub returns-then-at-len-clause-put : goal.returns-then-at-len-clause-put
returns-then-at-len-clause-put g c = λ q w wires are.
    let l = call_of c.args.call.now in
    let past : length w.nodes ≤ c.args.node = omega (arith, are.many, c.if-at-len.true, c.len.ensures, c.args.nodes.now.ok.0) in
    absent_put g.R.Router.seen q w (At c.args.node l) c.args.node (Call l) refl refl (λ n. refl) past c.args.mail.now c.args.mail.now c.wires-wires.ensures.most refl

pub returns-clause-nodes : goal.returns-clause-nodes
returns-clause-nodes g c = λ q w wires are.
    let see = g.R.Router.seen in
    let l = call_of c.args.call.now in
    let old = c.index_mut.result.now in
    let lt : c.args.node < length c.args.nodes.now.items = omega (arith, c.if-at-len.false, c.len.ensures, c.args.nodes.now.ok.0) in
    let here = slice_get_read c.args.nodes.now.items _ c.args.node old refl lt c.index_mut.ensures.value in
    called_nodes see q w (At c.args.node l) c.args.node (Call l) refl refl (λ n. refl) old c.call.new.self
    (are.all c.args.node old here) c.args.nodes.now.items here c.call.ensures.place c.call.ensures.facts are

pub returns-clause-put : goal.returns-clause-put
returns-clause-put g c = λ q w wires are.
    let see = g.R.Router.seen in
    let l = call_of c.args.call.now in
    let old = c.index_mut.result.now in
    let lt : c.args.node < length c.args.nodes.now.items = omega (arith, c.if-at-len.false, c.len.ensures, c.args.nodes.now.ok.0) in
    let here = slice_get_read c.args.nodes.now.items _ c.args.node old refl lt c.index_mut.ensures.value in
    called_put see q w (At c.args.node l) c.args.node (Call l) refl refl (λ n. refl) old c.call.new.self (are.all c.args.node old here) c.args.mail.now c.call.new.out
    (sym wires) c.wires-wires.ensures.most
    (λ t. c.call.ensures.sent t ∙ ap (λ (m : Post). fold with_post m (sent_after (see.place old) (see.place old) t (Call l) (see.facts old t))) c.set_from.ensures.from)
    (λ t. posted_spelt c.set_from.new.self c.call.new.out (sent_after (see.place old) (see.place old) t (Call l) (see.facts old t)) c.set_from.ensures.most
    (c.call.ensures.sent t) c.is_full-full.ensures.range (c.call.ensures.fit t))

pub returns-clause-net : goal.returns-clause-net
returns-clause-net g c =
    let see = g.R.Router.seen in
    let l = call_of c.args.call.now in
    let old = c.index_mut.result.now in
    posted_wires c.set_from.new.self c.call.new.out (sent_after (see.place old) (see.place old) 0 (Call l) (see.facts old 0)) c.set_from.ensures.most (c.call.ensures.sent 0)
    ∙ ap (λ (m : Post). m.net) c.set_from.ensures.from

pub returns-clause-places : goal.returns-clause-places
returns-clause-places g c =
    let lt : c.args.node < length c.args.nodes.now.items = omega (arith, c.if-at-len.false, c.len.ensures, c.args.nodes.now.ok.0) in
    each_set g.R.Router.seen.place c.args.nodes.now.items c.args.node c.index_mut.result.now c.call.new.self
    (slice_get_read c.args.nodes.now.items _ c.args.node c.index_mut.result.now refl lt c.index_mut.ensures.value) c.call.ensures.place
