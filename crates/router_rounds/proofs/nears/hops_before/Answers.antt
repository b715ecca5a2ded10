use Rattle.std.proofs.Common.{ap, ◌∙◌, arith}
use Rattle.std.proofs.lemmas.List.{take_all}
use Rattle.path_state.specs.Paths.{HopSet, hops_by}
use Rattle.rsvp_base.specs.Orders.{senders, sessions}
use Rattle.rsvp_base.specs.Sets.{with_keys}
use Rattle.rsvp_base.specs.Table.{size}
use Rattle.rsvp_base.specs.Under.{under}
use Rattle.router_rounds.proofs.Before.{lost_few, lost_more, lost_of, lost_whole}
use Rattle.router_rounds.proofs.nears.hops_before.Goals as goal

pub add_lost-requires : goal.add_lost-requires
add_lost-requires c =
    let base : HopSet = hops_by (under sessions senders c.args.paths.now.facts c.args.session).rows in
    let all = lost_whole c.args.session c.args.lost.now c.as_slice-list.result.now c.as_slice-list.ensures.rows in
    λ here. lost_few c.args.session base c.as_slice-list.result.now c.loop-i.i _ c.loop-i-test.true c.loop-i.hops c.loop-i.invariant
    (omega (arith, ap (λ hs. size (with_keys base hs)) all, c.requires)) here

pub loop-i-init : goal.loop-i-init
loop-i-init c = c.hops-hops.ensures

pub loop-i-preserved : goal.loop-i-preserved
loop-i-preserved c =
    let base : HopSet = hops_by (under sessions senders c.args.paths.now.facts c.args.session).rows in
    lost_more c.args.session base c.as_slice-list.result.now c.loop-i.i _ c.loop-i-test.true c.loop-i.hops c.add_lost.new.hops c.loop-i.invariant c.add_lost.ensures

pub returns : goal.returns
returns c =
    let base : HopSet = hops_by (under sessions senders c.args.paths.now.facts c.args.session).rows in
    let list = c.as_slice-list.result.now in
    c.loop-i.invariant ∙ ap (λ xs. with_keys base (lost_of c.args.session xs)) (take_all c.loop-i.i list (omega (arith, c.loop-i-test.false)))
    ∙ ap (λ ks. with_keys base ks) (lost_whole c.args.session c.args.lost.now list c.as_slice-list.ensures.rows)
