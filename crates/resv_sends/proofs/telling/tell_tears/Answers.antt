use Rattle.std.proofs.Common.{fold, sym, ap, ◌∙◌}
use Rattle.std.specs.List.{flat_map}
use Rattle.std.specs.Option.{option_map}
use Rattle.rsvp_base.specs.Table.{keys}
use Rattle.router_rules.specs.Facts.{SenderKey}
use Rattle.router_rules.specs.Sends.{resv_tear}
use Rattle.laws_sends.specs.State.{facts_of}
use Rattle.laws_sends.specs.SendsHere.{hops_in, lanes_at}
use Rattle.laws_sends.specs.Told.{offered, told_gone}
use Rattle.path_sends.specs.Offering.{as_offer}
use Rattle.router_state.specs.Whole.{state_of}
use Rattle.resv_sends.specs.Halves.{told_before}
use Rattle.resv_sends.proofs.Sent.{tears_are, two_sent}
use Rattle.resv_sends.proofs.telling.tell_tears.Goals as goal

pub returns : goal.returns
returns g c = λ n clock b.
    let k : SenderKey = (c.args.session, c.args.prior.now.sender) in
    let m = state_of c.args.tables.now c.args.said.now in
    let after = c.offered-after.ensures clock c.args.said.now in
    let offer = b.offer clock in
    let f = facts_of clock n in
    let last = facts_of clock m in
    let gone = c.tell_gone.ensures ∙ (λ i. fold g.O.Outbox.posted c.args.out.now (told_gone m.place k (offer i) (after i))) in
    let torn = c.tear_lanes.ensures clock c.args.said.now ∙ ap (fold g.O.Outbox.posted c.tell_gone.new.out) (tears_are k n m (option_map as_offer c.args.prior.now.offer) c.args.prior.now.near b clock) in
    two_sent g.O.Outbox.posted c.args.out.now _ _ (told_gone m.place k (offered f k) (offered last k)) (flat_map (resv_tear m.place m.place f last) (lanes_at k.0 (keys (hops_in f k.0)))) gone torn
    ∙ ap (λ p. fold g.O.Outbox.posted c.args.out.now (told_before p k f last)) (sym b.change.place)
