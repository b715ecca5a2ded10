use Rattle.std.proofs.Common.{◌+◌, cond, get_or, take, sym, ap, subst, ◌∙◌, arith}
use Rattle.rsvp_base.specs.Orders.{Names}
use Rattle.rsvp_base.specs.Table.{has, without}
use Rattle.rsvp_base.specs.declared.session.Sender.{Sender}
use Rattle.resv_state.proofs.Kept.{AreKept, kept_end, one_kept}
use Rattle.resv_admission.proofs.matching.Matching.among.Goals as goal

abbrev blank : Sender
blank = record { addr = record { 0 = 0 }; port = 0 }

pub loop-name-preserved : goal.loop-name-preserved
loop-name-preserved c =
    let xs = c.as_slice-name-items.result.now in
    let x = get_or xs c.loop-name.name-index blank in
    let left = c.loop-name.left in
    subst (λ (s : Names). AreKept (has c.args.self.now) c.args.names.now s (take (c.loop-name.name-index + 1) xs)) (sym (c.keep_if.ensures ∙ ap (λ b. cond b left (without left x)) c.has.ensures))
    (one_kept (has c.args.self.now) c.args.names.now left xs c.loop-name.name-index blank c.loop-name-test.true c.loop-name.invariant)

pub returns : goal.returns
returns c = kept_end (has c.args.self.now) c.args.names.now c.loop-name.left c.loop-name.name-index c.as_slice-name-items.result.now
    (omega arith) c.as_slice-name-items.ensures.senders c.loop-name.invariant
