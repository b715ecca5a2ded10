use Rattle.std.proofs.Common.{◌<◌, ◌≤◌, arith, refl, length}
use Rattle.std.proofs.lemmas.Option.{slice_get_read}
use Rattle.router_rules.specs.Inputs.{Clear}
use Rattle.network_flight.specs.Steps.{ClearAt}
use Rattle.network_replay.proofs.Nodes.{each_set}
use Rattle.network_replay.proofs.OneNode.{absent_nodes, absent_sent, called_nodes, called_silent}
use Rattle.network_replay.proofs.stepping.clear_at.Goals as goal

pub returns-then-at-len-clause-nodes : goal.returns-then-at-len-clause-nodes
returns-then-at-len-clause-nodes g c = λ q w are.
    let past : length w.nodes ≤ c.args.node = omega (arith, are.many, c.if-at-len.true, c.len.ensures, c.args.nodes.now.ok.0) in
    absent_nodes g.R.Router.seen q w (ClearAt c.args.node) c.args.node Clear refl refl (λ n. refl) past c.args.nodes.now.items are

pub returns-then-at-len-clause-sent : goal.returns-then-at-len-clause-sent
returns-then-at-len-clause-sent g c = λ q w are.
    let past : length w.nodes ≤ c.args.node = omega (arith, are.many, c.if-at-len.true, c.len.ensures, c.args.nodes.now.ok.0) in
    absent_sent g.R.Router.seen q w (ClearAt c.args.node) c.args.node Clear refl refl (λ n. refl) past

pub returns-clause-nodes : goal.returns-clause-nodes
returns-clause-nodes g c = λ q w are.
    let old = c.index_mut.result.now in
    let lt : c.args.node < length c.args.nodes.now.items = omega (arith, c.if-at-len.false, c.len.ensures, c.args.nodes.now.ok.0) in
    let here = slice_get_read c.args.nodes.now.items _ c.args.node old refl lt c.index_mut.ensures.value in
    called_nodes g.R.Router.seen q w (ClearAt c.args.node) c.args.node Clear refl refl (λ n. refl) old c.clear.new.self
    (are.all c.args.node old here) c.args.nodes.now.items here c.clear.ensures.place c.clear.ensures.facts are

pub returns-clause-sent : goal.returns-clause-sent
returns-clause-sent g c = λ q w are.
    let old = c.index_mut.result.now in
    let lt : c.args.node < length c.args.nodes.now.items = omega (arith, c.if-at-len.false, c.len.ensures, c.args.nodes.now.ok.0) in
    let here = slice_get_read c.args.nodes.now.items _ c.args.node old refl lt c.index_mut.ensures.value in
    called_silent g.R.Router.seen q w (ClearAt c.args.node) c.args.node Clear refl refl (λ n. refl) old c.clear.new.self (are.all c.args.node old here) c.clear.ensures.silent

pub returns-clause-places : goal.returns-clause-places
returns-clause-places g c =
    let lt : c.args.node < length c.args.nodes.now.items = omega (arith, c.if-at-len.false, c.len.ensures, c.args.nodes.now.ok.0) in
    each_set g.R.Router.seen.place c.args.nodes.now.items c.args.node c.index_mut.result.now c.clear.new.self
    (slice_get_read c.args.nodes.now.items _ c.args.node c.index_mut.result.now refl lt c.index_mut.ensures.value) c.clear.ensures.place
