use Rattle.std.proofs.Common.{[], ◌∷◌, take, get_or, sym, ap, subst, ◌∙◌, arith}
use Rattle.std.proofs.lemmas.List.{take_all, take_more}
use Rattle.rsvp_base.specs.declared.session.Sender.{Sender}
use Rattle.rsvp_messages.specs.FlowTable.{FlowTable}
use Rattle.style_rules.specs.Merge.{put_some}
use Rattle.router_rules.specs.Asking.{flow_at}
use Rattle.sent_state.specs.Listed.{AreFlowsOf, flows_in, flows_with}
use Rattle.sent_state.proofs.Listing.{flows_after, flows_append}
use Rattle.sent_state.proofs.asking.put_names.Goals as goal

abbrev blank : Sender
blank = record { addr = record { 0 = 0 }; port = 0 }

pub put_name-requires : goal.put_name-requires
put_name-requires c =
    let ps = c.args.parts.now in
    let t = flows_in c.args.list.now in
    subst (λ (z : FlowTable). AreFlowsOf ps z) (sym c.loop-i.invariant) (flows_after ps (take c.loop-i.i c.as_slice-names.result.now) t c.requires)

pub loop-i-preserved : goal.loop-i-preserved
loop-i-preserved c =
    let ps = c.args.parts.now in
    let t = flows_in c.args.list.now in
    let names = c.as_slice-names.result.now in
    let i = c.loop-i.i in
    let x = get_or names i blank in
    c.put_name.ensures ∙ ap (put_some x (flow_at ps x)) c.loop-i.invariant ∙ sym (flows_append ps (take i names) (x ∷ []) t)
    ∙ ap (flows_with ps t) (sym (take_more names i blank c.loop-i-test.true))

pub returns : goal.returns
returns c =
    let ps = c.args.parts.now in
    let t = flows_in c.args.list.now in
    c.loop-i.invariant ∙ ap (flows_with ps t) (take_all c.loop-i.i c.as_slice-names.result.now (omega (arith, c.loop-i-test.false)) ∙ c.as_slice-names.ensures.senders)
