use Rattle.std.proofs.Common.{◌+◌, sym, ap, ◌∙◌}
use Rattle.rsvp_base.specs.Orders.{names_from, senders}
use Rattle.soft_table.proofs.Steps.{met, all_met}
use Rattle.path_state.specs.Paths.{path_key, paths_under, senders_by}
use Rattle.path_state.proofs.Vias.{via_few, via_more}
use Rattle.path_state.proofs.Walked.{below, passed}
use Rattle.path_state.proofs.walks.senders_via.Goals as goal

pub loop-fact-init : goal.loop-fact-init
loop-fact-init c = record { k = 0; at = sym (c.into_iter-fact-iterator.ensures.into_iter_gives ∙ c.of_session-fact-items.ensures); found = c.new-found.ensures }

pub add_via-requires : goal.add_via-requires
add_via-requires c =
    let at = c.loop-fact.invariant in
    let us = paths_under c.args.session c.args.table.now.facts in
    let st = met senders path_key c.args.session c.args.table.now.facts at.k c.in-Some.fact.now c.next.new.self (at.at ∙ c.in-Some.ensures.steps) in
    via_few c.args.iface c.args.addr us at.k c.loop-fact.found c.in-Some.fact.now.sender (below us at.k st.0.row st.0.at c.requires) at.found

pub loop-fact-preserved : goal.loop-fact-preserved
loop-fact-preserved c =
    let at = c.loop-fact.invariant in
    let f = c.in-Some.fact.now in
    let st = met senders path_key c.args.session c.args.table.now.facts at.k f c.next.new.self (at.at ∙ c.in-Some.ensures.steps) in
    record {
      k = at.k + 1;
      at = sym st.1;
      found = via_more c.args.iface c.args.addr (paths_under c.args.session c.args.table.now.facts) at.k f st.0.row st.0.at st.0.fact c.loop-fact.found c.add_via.new.found at.found c.add_via.ensures;
    }

pub returns : goal.returns
returns c =
    let at = c.loop-fact.invariant in
    let us = paths_under c.args.session c.args.table.now.facts in
    at.found ∙ ap (λ es. names_from (senders_by c.args.iface c.args.addr es)) (passed us at.k (all_met senders path_key c.args.session c.args.table.now.facts at.k (at.at ∙ c.in-None.ensures.steps.0)))
