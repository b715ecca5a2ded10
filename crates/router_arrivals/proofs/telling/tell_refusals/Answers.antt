use Rattle.std.proofs.Common.{◌∙◌}
use Rattle.router_rules.specs.Asking.{Asker as AskerOf, asker_of}
use Rattle.router_rules.specs.Sends.{error_send}
use Rattle.resv_admission.specs.Units.{refusal_of}
use Rattle.resv_admission.specs.declared.refusals.Refusal.{Refusal}
use Rattle.router_arrivals.proofs.Posting.{posted_more}
use Rattle.router_arrivals.proofs.telling.tell_refusals.Goals as goal

pub loop-i-preserved : goal.loop-i-preserved
loop-i-preserved g c =
    let p = c.args.config.now in
    let m = c.args.message.now in
    let o : AskerOf = asker_of p 0 c.args.iface m in
    c.tell_refusal.ensures 0
    ∙ posted_more g.O.Outbox.posted
    (λ (r : Refusal). error_send (refusal_of p o r)) c.args.out.now c.loop-i.out c.as_slice-list.result.now c.loop-i.i c.index-list-i.result c.loop-i-test.true c.index-list-i.is c.loop-i.invariant
