use Rattle.std.proofs.Common.{None, fold, sym, ap, subst, ◌∙◌, refl}
use Rattle.rsvp_messages.specs.declared.message.Message.TheVariants as message
use Rattle.router_rules.specs.Facts.{SenderKey}
use Rattle.router_rules.specs.Inputs.{Change, Spelt}
use Rattle.router_rules.specs.NodeConfig.{own}
use Rattle.router_rules.specs.Rule.{heard_after}
use Rattle.router_rules.specs.Sends.{sends}
use Rattle.router_rules.specs.declared.answers.Heard.TheVariants as heard
use Rattle.router_state.specs.State.{AreNamed, State, facts_at, facts_of}
use Rattle.router_state.specs.Whole.{IsOfPlace, state_of}
use Rattle.router_state.specs.declared.tables.Tables.{Tables}
use Rattle.resv_sends.proofs.Sent.{hops_are}
use Rattle.router_arrivals.specs.Arriving.{to_node}
use Rattle.router_arrivals.proofs.Before.{is_before}
use Rattle.router_arrivals.proofs.Here.{here_ruled}
use Rattle.router_arrivals.proofs.Ruled.{heard_by, told_facts, told_sent}
use Rattle.router_core.proofs.Sending.{err_acts, err_facts, err_heard}
use Rattle.router_core.proofs.Told.{wants_of_place, wants_place, wants_settled, wants_sound}
use Rattle.router_core.proofs.node.Node.resv_err.Goals as goal

pub block-heard-requires : goal.block-heard-requires
block-heard-requires g c =
    c.self.inside.sound

pub tell_resv_err-requires : goal.tell_resv_err-requires
tell_resv_err-requires g c =
    let n = state_of c.self.inside.tables c.self.inside.said in
    let w = state_of c.block-heard.new.tables c.self.inside.said in
    let k : SenderKey = (c.args.message.now.session, c.default-sender.result) in
    let r = here_ruled k n w c.self.inside.settled (c.block-heard.ensures.change c.self.inside.said c.default-sender.result) (ap (λ (t : Tables). t.senders.tspecs) c.block-heard.ensures.rest)
    (ap (λ (t : Tables). t.paths.facts) c.block-heard.ensures.rest) (ap (λ (t : Tables). t.due) c.block-heard.ensures.rest)
    (λ d. subst (λ (t : Tables). AreNamed (facts_of d (state_of t c.self.inside.said))) (sym c.block-heard.ensures.rest) (c.self.inside.settled.named d))
    (to_node n.place c.args.iface (message.ResvErr c.args.message.now)) (λ d. err_facts d n c.args.iface c.args.message.now (facts_of d w)
    (c.block-heard.ensures.facts d c.self.inside.said)) in (
      n,
      is_before k n w r.change refl c.self.inside.told _ (λ clock. c.offered-before.ensures clock c.self.inside.said) c.hops-near.result
          (λ clock. c.hops-near.ensures ∙ hops_are clock n c.args.message.now.session),
    )

pub returns-clause-facts : goal.returns-clause-facts
returns-clause-facts g c = λ clock.
    let n = state_of c.self.inside.tables c.self.inside.said in
    let w = state_of c.block-heard.new.tables c.self.inside.said in
    let k : SenderKey = (c.args.message.now.session, c.default-sender.result) in
    let r = here_ruled k n w c.self.inside.settled (c.block-heard.ensures.change c.self.inside.said c.default-sender.result) (ap (λ (t : Tables). t.senders.tspecs) c.block-heard.ensures.rest)
    (ap (λ (t : Tables). t.paths.facts) c.block-heard.ensures.rest) (ap (λ (t : Tables). t.due) c.block-heard.ensures.rest)
    (λ d. subst (λ (t : Tables). AreNamed (facts_of d (state_of t c.self.inside.said))) (sym c.block-heard.ensures.rest) (c.self.inside.settled.named d))
    (to_node n.place c.args.iface (message.ResvErr c.args.message.now)) (λ d. err_facts d n c.args.iface c.args.message.now (facts_of d w)
    (c.block-heard.ensures.facts d c.self.inside.said)) in
    told_facts n c.args.self.now c.self.view_is (λ z. to_node z c.args.iface (message.ResvErr c.args.message.now)) refl heard.Taken clock k w r None
    (ap (λ (x : Change). x.asked) (err_acts clock n c.args.iface c.args.message.now)) _
    (c.tell_resv_err.ensures.facts n clock (is_before k n w r.change refl c.self.inside.told _ (λ clock. c.offered-before.ensures clock c.self.inside.said) c.hops-near.result
    (λ clock. c.hops-near.ensures ∙ hops_are clock n c.args.message.now.session)))

pub returns-clause-heard : goal.returns-clause-heard
returns-clause-heard g c = λ clock.
    let n = state_of c.self.inside.tables c.self.inside.said in
    heard_by n clock c.args.iface (own n.place c.args.iface) (Spelt (message.ResvErr c.args.message.now)) _
    (err_heard clock n c.args.iface c.args.message.now c.block-heard.result (c.block-heard.ensures.heard clock c.self.inside.said))
    ∙ ap (λ (z : State). heard_after z.place clock c.args.iface (own z.place c.args.iface) (Spelt (message.ResvErr c.args.message.now)) (facts_at clock z)) c.self.view_is

pub returns-clause-sent : goal.returns-clause-sent
returns-clause-sent g c = λ clock.
    let n = state_of c.self.inside.tables c.self.inside.said in
    let w = state_of c.block-heard.new.tables c.self.inside.said in
    let k : SenderKey = (c.args.message.now.session, c.default-sender.result) in
    let r = here_ruled k n w c.self.inside.settled (c.block-heard.ensures.change c.self.inside.said c.default-sender.result) (ap (λ (t : Tables). t.senders.tspecs) c.block-heard.ensures.rest)
    (ap (λ (t : Tables). t.paths.facts) c.block-heard.ensures.rest) (ap (λ (t : Tables). t.due) c.block-heard.ensures.rest)
    (λ d. subst (λ (t : Tables). AreNamed (facts_of d (state_of t c.self.inside.said))) (sym c.block-heard.ensures.rest) (c.self.inside.settled.named d))
    (to_node n.place c.args.iface (message.ResvErr c.args.message.now)) (λ d. err_facts d n c.args.iface c.args.message.now (facts_of d w)
    (c.block-heard.ensures.facts d c.self.inside.said)) in
    told_sent n c.args.self.now c.self.view_is (λ z. to_node z c.args.iface (message.ResvErr c.args.message.now)) refl heard.Taken clock k w r g.O.Outbox.posted _ c.args.out.now
    (c.tell_resv_err.ensures.sent n clock (is_before k n w r.change refl c.self.inside.told _ (λ clock. c.offered-before.ensures clock c.self.inside.said) c.hops-near.result
    (λ clock. c.hops-near.ensures ∙ hops_are clock n c.args.message.now.session)) (ap (λ (t : Tables). state_of t c.self.inside.said) c.block-heard.ensures.rest)
    (c.block-heard.ensures.heard clock c.self.inside.said) (c.block-heard.ensures.facts clock c.self.inside.said)
    ∙ ap (λ x. fold g.O.Outbox.posted c.args.out.now (sends n.place n.place (facts_of clock n) (facts_of clock w) x)) (sym (err_acts clock n c.args.iface c.args.message.now)))

pub returns-clause-place : goal.returns-clause-place
returns-clause-place g c =
    let n = state_of c.self.inside.tables c.self.inside.said in
    let w = state_of c.block-heard.new.tables c.self.inside.said in
    let k : SenderKey = (c.args.message.now.session, c.default-sender.result) in
    let r = here_ruled k n w c.self.inside.settled (c.block-heard.ensures.change c.self.inside.said c.default-sender.result) (ap (λ (t : Tables). t.senders.tspecs) c.block-heard.ensures.rest)
    (ap (λ (t : Tables). t.paths.facts) c.block-heard.ensures.rest) (ap (λ (t : Tables). t.due) c.block-heard.ensures.rest)
    (λ d. subst (λ (t : Tables). AreNamed (facts_of d (state_of t c.self.inside.said))) (sym c.block-heard.ensures.rest) (c.self.inside.settled.named d))
    (to_node n.place c.args.iface (message.ResvErr c.args.message.now)) (λ d. err_facts d n c.args.iface c.args.message.now (facts_of d w)
    (c.block-heard.ensures.facts d c.self.inside.said)) in
    wants_place c.block-heard.new.tables c.tell_resv_err.new.tables c.tell_resv_err.ensures.rest c.self.inside.said c.tell_resv_err.new.said ∙ sym r.change.place
    ∙ ap (λ (z : State). z.place) c.self.view_is

pub invariant_of-self-inside : goal.invariant_of-self-inside
invariant_of-self-inside g c =
    let n = state_of c.self.inside.tables c.self.inside.said in
    let w = state_of c.block-heard.new.tables c.self.inside.said in
    let k : SenderKey = (c.args.message.now.session, c.default-sender.result) in
    let r = here_ruled k n w c.self.inside.settled (c.block-heard.ensures.change c.self.inside.said c.default-sender.result) (ap (λ (t : Tables). t.senders.tspecs) c.block-heard.ensures.rest)
    (ap (λ (t : Tables). t.paths.facts) c.block-heard.ensures.rest) (ap (λ (t : Tables). t.due) c.block-heard.ensures.rest)
    (λ d. subst (λ (t : Tables). AreNamed (facts_of d (state_of t c.self.inside.said))) (sym c.block-heard.ensures.rest) (c.self.inside.settled.named d))
    (to_node n.place c.args.iface (message.ResvErr c.args.message.now)) (λ d. err_facts d n c.args.iface c.args.message.now (facts_of d w)
    (c.block-heard.ensures.facts d c.self.inside.said)) in
    let mid = c.block-heard.new.tables in
    let rest = c.tell_resv_err.ensures.rest in (
      wants_sound mid c.tell_resv_err.new.tables rest (c.block-heard.ensures.sound),
      (
        wants_settled mid c.tell_resv_err.new.tables rest c.self.inside.said c.tell_resv_err.new.said r.kept,
        (c.tell_resv_err.ensures.said, (wants_of_place mid c.tell_resv_err.new.tables rest (subst IsOfPlace (sym c.block-heard.ensures.rest) c.self.inside.place), tt)),
      ),
    )
