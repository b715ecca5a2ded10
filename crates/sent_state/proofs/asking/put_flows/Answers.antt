use Rattle.std.proofs.Common.{Option, take, sym, ap, subst, ◌∙◌, arith}
use Rattle.std.proofs.lemmas.List.{take_all}
use Rattle.rsvp_base.specs.Table.{empty, keys}
use Rattle.rsvp_messages.specs.FlowTable.{FlowTable}
use Rattle.rsvp_base.specs.declared.part.Part.{Part}
use Rattle.rsvp_base.specs.declared.style.Unit.{Unit as UnitOf}
use Rattle.sent_state.specs.Listed.{AreFlowsOf, flows_in, flows_with}
use Rattle.sent_state.proofs.Listing.{flows_after, flows_append, flows_are, names_listed, names_more, none_yet}
use Rattle.sent_state.proofs.asking.put_flows.Goals as goal

pub loop-i-init : goal.loop-i-init
loop-i-init c = ap (λ (w : Option FlowTable). flows_in w) c.requires

pub put_names-requires : goal.put_names-requires
put_names-requires c =
    let ps = c.args.parts.now in
    subst (λ (z : FlowTable). AreFlowsOf ps z) (sym c.loop-i.invariant) (flows_after ps (names_listed (take c.loop-i.i c.as_slice-rows.result.now)) empty (none_yet ps))

pub loop-i-preserved : goal.loop-i-preserved
loop-i-preserved c =
    let ps = c.args.parts.now in
    let rows = c.as_slice-rows.result.now in
    let i = c.loop-i.i in
    let e = c.index-rows-i.result in
    c.put_names.ensures ∙ ap (λ (z : UnitOf × Part). flows_with ps (flows_in c.loop-i.list) (keys z.1.senders)) (sym c.index-rows-i.is)
    ∙ ap (λ (z : FlowTable). flows_with ps z (keys e.1.senders)) c.loop-i.invariant
    ∙ sym (flows_append ps (names_listed (take i rows)) (keys e.1.senders) empty) ∙ ap (flows_with ps empty) (sym (names_more rows i e c.loop-i-test.true c.index-rows-i.is))

pub returns : goal.returns
returns c =
    let ps = c.args.parts.now in
    c.loop-i.invariant ∙ ap (λ es. flows_with ps empty (names_listed es)) (take_all c.loop-i.i c.as_slice-rows.result.now (omega (arith, c.loop-i-test.false)) ∙ c.as_slice-rows.ensures.rows)
    ∙ flows_are ps
