use Rattle.std.proofs.Common.{◌≡◌, ◌<◌, ◌≤◌, ◌∙◌, Some, None, subst, arith, refl, ap, length}
use Rattle.std.specs.Prelude.{slice_get, fold}
use Rattle.std.proofs.lemmas.Option.{slice_get_read}
use Rattle.router_rules.specs.Inputs.{Came}
use Rattle.router_rules.specs.Rule.{sent_after}
use Rattle.tree_model.specs.Networks.{Net, iface_of}
use Rattle.network_flight.proofs.MadeTables.{read_each}
use Rattle.network_replay.specs.Posting.{Post, with_post}
use Rattle.network_replay.proofs.Delivering.{still_nodes, still_put, no_end, no_node, handed_nodes, handed_put, heard_nowhere, heard_by_none, heard_here, iface_inside}
use Rattle.network_replay.proofs.Nodes.{each_set}
use Rattle.network_replay.proofs.stepping.hand_over.Goals as goal

pub returns-in_default-clause-nodes : goal.returns-in_default-clause-nodes
returns-in_default-clause-nodes g c = λ q w k due are.
    let see = g.R.Router.seen in
    let none = subst (λ (n : Net). slice_get n.ends c.args.end ≡ None) c.wires.ensures.wires c.in_default.ensures in
    still_nodes see q w k _ _ _ _ due (no_end see q w k _ _ _ _ due none) c.args.nodes.now.items are

pub returns-in_default-clause-put : goal.returns-in_default-clause-put
returns-in_default-clause-put g c = λ q w k due are.
    let see = g.R.Router.seen in
    let none = subst (λ (n : Net). slice_get n.ends c.args.end ≡ None) c.wires.ensures.wires c.in_default.ensures in
    still_put see q w k _ _ _ _ due (no_end see q w k _ _ _ _ due none) c.args.mail.now c.args.mail.now c.wires.ensures.most refl

pub returns-in_default-clause-heard : goal.returns-in_default-clause-heard
returns-in_default-clause-heard g c = λ q w k due are.
    let see = g.R.Router.seen in
    let none = subst (λ (n : Net). slice_get n.ends c.args.end ≡ None) c.wires.ensures.wires c.in_default.ensures in
    heard_nowhere see q w k _ _ _ _ due none

pub returns-else-at-len-clause-nodes : goal.returns-else-at-len-clause-nodes
returns-else-at-len-clause-nodes g c = λ q w k due are.
    let see = g.R.Router.seen in
    let (e, there, node, iface) = c.in-Some.ensures in
    let at = subst (λ (n : Net). slice_get n.ends c.args.end ≡ Some e) c.wires.ensures.wires there in
    let past : length w.nodes ≤ e.node = omega (arith, node, are.many, c.if-at-len.false, c.len.ensures, c.args.nodes.now.ok.0) in
    still_nodes see q w k _ _ _ _ due (no_node see q w k _ _ _ _ due e at past) c.args.nodes.now.items are

pub returns-else-at-len-clause-put : goal.returns-else-at-len-clause-put
returns-else-at-len-clause-put g c = λ q w k due are.
    let see = g.R.Router.seen in
    let (e, there, node, iface) = c.in-Some.ensures in
    let at = subst (λ (n : Net). slice_get n.ends c.args.end ≡ Some e) c.wires.ensures.wires there in
    let past : length w.nodes ≤ e.node = omega (arith, node, are.many, c.if-at-len.false, c.len.ensures, c.args.nodes.now.ok.0) in
    still_put see q w k _ _ _ _ due (no_node see q w k _ _ _ _ due e at past) c.args.mail.now c.args.mail.now c.wires.ensures.most refl

pub returns-else-at-len-clause-heard : goal.returns-else-at-len-clause-heard
returns-else-at-len-clause-heard g c = λ q w k due are.
    let see = g.R.Router.seen in
    let (e, there, node, iface) = c.in-Some.ensures in
    let at = subst (λ (n : Net). slice_get n.ends c.args.end ≡ Some e) c.wires.ensures.wires there in
    let past : length w.nodes ≤ e.node = omega (arith, node, are.many, c.if-at-len.false, c.len.ensures, c.args.nodes.now.ok.0) in
    heard_by_none see q w k _ _ _ _ due e at past

pub take_in-heard-requires : goal.take_in-heard-requires
take_in-heard-requires g c =
    let see = g.R.Router.seen in
    let (e, there, node, iface) = c.in-Some.ensures in
    let net = c.args.mail.now.net in
    let at = subst (λ (n : Net). slice_get n.ends c.args.end ≡ Some e) c.wires.ensures.wires there in
    let is : c.in-Some.iface ≡ iface_of net.ends c.args.end = iface ∙ ap (λ (n : Net). iface_of n.ends c.args.end) c.wires.ensures.wires in
    let old = c.index_mut.result.now in
    let lt : c.in-Some.node < length c.args.nodes.now.items = omega (arith, c.if-at-len.true, c.len.ensures, c.args.nodes.now.ok.0) in
    let here = slice_get_read c.args.nodes.now.items _ c.in-Some.node old refl lt c.index_mut.ensures.value in
    let many = c.requires e.node (see.place old) (read_each see.place c.args.nodes.now.items e.node old (subst (λ n. slice_get c.args.nodes.now.items n ≡ Some old) node here)) in
    omega (arith, is, many, iface_inside net c.args.end e at)

pub returns-then-at-len-clause-nodes : goal.returns-then-at-len-clause-nodes
returns-then-at-len-clause-nodes g c = λ q w k due are.
    let see = g.R.Router.seen in
    let (e, there, node, iface) = c.in-Some.ensures in
    let net = c.args.mail.now.net in
    let at = subst (λ (n : Net). slice_get n.ends c.args.end ≡ Some e) c.wires.ensures.wires there in
    let is : c.in-Some.iface ≡ iface_of net.ends c.args.end = iface ∙ ap (λ (n : Net). iface_of n.ends c.args.end) c.wires.ensures.wires in
    let old = c.index_mut.result.now in
    let lt : c.in-Some.node < length c.args.nodes.now.items = omega (arith, c.if-at-len.true, c.len.ensures, c.args.nodes.now.ok.0) in
    let here = slice_get_read c.args.nodes.now.items _ c.in-Some.node old refl lt c.index_mut.ensures.value in
    handed_nodes see q w k _ _ _ _ due e at c.in-Some.iface is old c.take_in-heard.new.node
    (are.all e.node old (subst (λ n. slice_get c.args.nodes.now.items n ≡ Some old) node here)) c.in-Some.node c.args.nodes.now.items node here c.take_in-heard.ensures.place
    c.take_in-heard.ensures.facts are

pub returns-then-at-len-clause-put : goal.returns-then-at-len-clause-put
returns-then-at-len-clause-put g c = λ q w k due are.
    let see = g.R.Router.seen in
    let (e, there, node, iface) = c.in-Some.ensures in
    let net = c.args.mail.now.net in
    let at = subst (λ (n : Net). slice_get n.ends c.args.end ≡ Some e) c.wires.ensures.wires there in
    let is : c.in-Some.iface ≡ iface_of net.ends c.args.end = iface ∙ ap (λ (n : Net). iface_of n.ends c.args.end) c.wires.ensures.wires in
    let old = c.index_mut.result.now in
    let lt : c.in-Some.node < length c.args.nodes.now.items = omega (arith, c.if-at-len.true, c.len.ensures, c.args.nodes.now.ok.0) in
    let here = slice_get_read c.args.nodes.now.items _ c.in-Some.node old refl lt c.index_mut.ensures.value in
    handed_put see q w k _ _ _ _ due e at c.in-Some.iface is old c.take_in-heard.new.node
    (are.all e.node old (subst (λ n. slice_get c.args.nodes.now.items n ≡ Some old) node here)) c.in-Some.node c.args.mail.now c.take_in-heard.new.mail node refl c.wires.ensures.most
    (λ t a h. c.take_in-heard.ensures.sent t a h ∙ ap (λ (m : Post). fold with_post m (sent_after (see.place old) (see.place old) t (Came c.in-Some.iface c.args.dst a)
    (see.facts old t))) c.set_from.ensures.from) c.take_in-heard.ensures.fit

pub returns-then-at-len-clause-heard : goal.returns-then-at-len-clause-heard
returns-then-at-len-clause-heard g c = λ q w k due are.
    let see = g.R.Router.seen in
    let (e, there, node, iface) = c.in-Some.ensures in
    let net = c.args.mail.now.net in
    let at = subst (λ (n : Net). slice_get n.ends c.args.end ≡ Some e) c.wires.ensures.wires there in
    let is : c.in-Some.iface ≡ iface_of net.ends c.args.end = iface ∙ ap (λ (n : Net). iface_of n.ends c.args.end) c.wires.ensures.wires in
    let old = c.index_mut.result.now in
    let lt : c.in-Some.node < length c.args.nodes.now.items = omega (arith, c.if-at-len.true, c.len.ensures, c.args.nodes.now.ok.0) in
    let here = slice_get_read c.args.nodes.now.items _ c.in-Some.node old refl lt c.index_mut.ensures.value in
    heard_here see q w k _ _ _ _ due e at c.in-Some.iface is old c.take_in-heard.new.node
    (are.all e.node old (subst (λ n. slice_get c.args.nodes.now.items n ≡ Some old) node here)) c.take_in-heard.result c.take_in-heard.ensures.heard

pub returns-then-at-len-clause-places : goal.returns-then-at-len-clause-places
returns-then-at-len-clause-places g c =
    let lt : c.in-Some.node < length c.args.nodes.now.items = omega (arith, c.if-at-len.true, c.len.ensures, c.args.nodes.now.ok.0) in
    each_set g.R.Router.seen.place c.args.nodes.now.items c.in-Some.node c.index_mut.result.now c.take_in-heard.new.node
    (slice_get_read c.args.nodes.now.items _ c.in-Some.node c.index_mut.result.now refl lt c.index_mut.ensures.value) c.take_in-heard.ensures.place
