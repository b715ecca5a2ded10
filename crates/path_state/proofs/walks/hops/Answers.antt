use Rattle.std.proofs.Common.{◌+◌, sym, ap, ◌∙◌}
use Rattle.rsvp_base.specs.Orders.{senders}
use Rattle.soft_table.proofs.Steps.{met, all_met}
use Rattle.path_state.specs.Paths.{path_key, paths_under, hops_by}
use Rattle.path_state.proofs.Walked.{hops_more, hops_few, passed}
use Rattle.path_state.proofs.walks.hops.Goals as goal

pub loop-fact-init : goal.loop-fact-init
loop-fact-init c = record { k = 0; at = sym (c.into_iter-fact-iterator.ensures.into_iter_gives ∙ c.of_session-fact-items.ensures); found = c.new-found.ensures }

pub add-requires : goal.add-requires
add-requires c =
    let at = c.loop-fact.invariant in
    let f = c.in-Some.fact.now in
    let st = met senders path_key c.args.session c.args.table.now.facts at.k f c.next.new.self (at.at ∙ c.in-Some.ensures.steps) in
    hops_few c.args.session c.args.table.now.facts at.k f st.0 c.loop-fact.found (f.iface, f.hop.addr) c.requires at.found

pub loop-fact-preserved : goal.loop-fact-preserved
loop-fact-preserved c =
    let at = c.loop-fact.invariant in
    let f = c.in-Some.fact.now in
    let st = met senders path_key c.args.session c.args.table.now.facts at.k f c.next.new.self (at.at ∙ c.in-Some.ensures.steps) in
    record { k = at.k + 1; at = sym st.1; found = c.add.ensures ∙ hops_more c.args.session c.args.table.now.facts at.k f st.0 c.loop-fact.found at.found }

pub returns : goal.returns
returns c =
    let at = c.loop-fact.invariant in
    let us = paths_under c.args.session c.args.table.now.facts in
    at.found ∙ ap hops_by (passed us at.k (all_met senders path_key c.args.session c.args.table.now.facts at.k (at.at ∙ c.in-None.ensures.steps.0)))
