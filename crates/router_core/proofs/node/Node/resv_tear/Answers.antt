use Rattle.std.proofs.Common.{sym, ap, subst, ◌∙◌, refl}
use Rattle.rsvp_messages.specs.declared.message.Message.TheVariants as message
use Rattle.router_rules.specs.Facts.{SenderKey}
use Rattle.router_rules.specs.Inputs.{Spelt}
use Rattle.router_rules.specs.NodeConfig.{own}
use Rattle.router_rules.specs.Rule.{heard_after}
use Rattle.router_state.specs.State.{AreNamed, State, facts_at, facts_of}
use Rattle.router_state.specs.Whole.{state_of}
use Rattle.router_state.specs.declared.tables.Tables.{Tables}
use Rattle.resv_sends.proofs.Sent.{hops_are}
use Rattle.router_arrivals.specs.Arriving.{to_node}
use Rattle.router_arrivals.proofs.Before.{is_before}
use Rattle.router_arrivals.proofs.Here.{here_plain}
use Rattle.router_arrivals.proofs.Ruled.{heard_is, plain_facts, plain_sent}
use Rattle.router_arrivals.proofs.TornDown.{tear_named, tears}
use Rattle.router_core.proofs.Told.{wants_of_place, wants_place, wants_settled, wants_sound}
use Rattle.router_core.proofs.node.Node.resv_tear.Goals as goal

pub tear_resvs-heard-requires : goal.tear_resvs-heard-requires
tear_resvs-heard-requires g c =
    c.self.inside.sound

pub tell_sender-requires : goal.tell_sender-requires
tell_sender-requires g c =
    let n = state_of c.self.inside.tables c.self.inside.said in
    let w = state_of c.tear_resvs-heard.new.tables c.self.inside.said in
    let k : SenderKey = (c.args.message.now.session, c.default-sender.result) in
    let p = here_plain k n w c.self.inside.settled (c.tear_resvs-heard.ensures.change c.self.inside.said c.default-sender.result) (ap (λ (t : Tables). t.senders.tspecs) c.tear_resvs-heard.ensures.rest)
    (ap (λ (t : Tables). t.paths.facts) c.tear_resvs-heard.ensures.rest) (ap (λ (t : Tables). t.due) c.tear_resvs-heard.ensures.rest)
    (λ d. subst AreNamed (sym (c.tear_resvs-heard.ensures.facts d c.self.inside.said)) (tear_named c.args.iface c.args.message.now (facts_of d n) (c.self.inside.settled.named d)))
    (to_node n.place c.args.iface (message.ResvTear c.args.message.now)) c.tear_resvs-heard.result
    (tears n w c.args.iface c.args.message.now c.tear_resvs-heard.result (λ d. c.tear_resvs-heard.ensures.heard d c.self.inside.said)
    (λ d. c.tear_resvs-heard.ensures.facts d c.self.inside.said)) in (
      n,
      is_before k n w p.ruled.change refl c.self.inside.told _ (λ clock. c.offered-before.ensures clock c.self.inside.said) c.hops-near.result
          (λ clock. c.hops-near.ensures ∙ hops_are clock n c.args.message.now.session),
    )

pub returns-clause-facts : goal.returns-clause-facts
returns-clause-facts g c = λ clock.
    let n = state_of c.self.inside.tables c.self.inside.said in
    let w = state_of c.tear_resvs-heard.new.tables c.self.inside.said in
    let k : SenderKey = (c.args.message.now.session, c.default-sender.result) in
    let p = here_plain k n w c.self.inside.settled (c.tear_resvs-heard.ensures.change c.self.inside.said c.default-sender.result) (ap (λ (t : Tables). t.senders.tspecs) c.tear_resvs-heard.ensures.rest)
    (ap (λ (t : Tables). t.paths.facts) c.tear_resvs-heard.ensures.rest) (ap (λ (t : Tables). t.due) c.tear_resvs-heard.ensures.rest)
    (λ d. subst AreNamed (sym (c.tear_resvs-heard.ensures.facts d c.self.inside.said)) (tear_named c.args.iface c.args.message.now (facts_of d n) (c.self.inside.settled.named d)))
    (to_node n.place c.args.iface (message.ResvTear c.args.message.now)) c.tear_resvs-heard.result
    (tears n w c.args.iface c.args.message.now c.tear_resvs-heard.result (λ d. c.tear_resvs-heard.ensures.heard d c.self.inside.said)
    (λ d. c.tear_resvs-heard.ensures.facts d c.self.inside.said)) in
    plain_facts n c.args.self.now c.self.view_is (λ z. to_node z c.args.iface (message.ResvTear c.args.message.now)) refl c.tear_resvs-heard.result clock k w p _
    (c.tell_sender.ensures.facts n clock (is_before k n w p.ruled.change refl c.self.inside.told _ (λ clock. c.offered-before.ensures clock c.self.inside.said) c.hops-near.result
    (λ clock. c.hops-near.ensures ∙ hops_are clock n c.args.message.now.session)))

pub returns-clause-heard : goal.returns-clause-heard
returns-clause-heard g c = λ clock.
    let n = state_of c.self.inside.tables c.self.inside.said in
    let w = state_of c.tear_resvs-heard.new.tables c.self.inside.said in
    let k : SenderKey = (c.args.message.now.session, c.default-sender.result) in
    let p = here_plain k n w c.self.inside.settled (c.tear_resvs-heard.ensures.change c.self.inside.said c.default-sender.result) (ap (λ (t : Tables). t.senders.tspecs) c.tear_resvs-heard.ensures.rest)
    (ap (λ (t : Tables). t.paths.facts) c.tear_resvs-heard.ensures.rest) (ap (λ (t : Tables). t.due) c.tear_resvs-heard.ensures.rest)
    (λ d. subst AreNamed (sym (c.tear_resvs-heard.ensures.facts d c.self.inside.said)) (tear_named c.args.iface c.args.message.now (facts_of d n) (c.self.inside.settled.named d)))
    (to_node n.place c.args.iface (message.ResvTear c.args.message.now)) c.tear_resvs-heard.result
    (tears n w c.args.iface c.args.message.now c.tear_resvs-heard.result (λ d. c.tear_resvs-heard.ensures.heard d c.self.inside.said)
    (λ d. c.tear_resvs-heard.ensures.facts d c.self.inside.said)) in
    heard_is n clock c.args.iface (own n.place c.args.iface) (Spelt (message.ResvTear c.args.message.now)) _ c.tear_resvs-heard.result (p.does clock)
    ∙ ap (λ (z : State). heard_after z.place clock c.args.iface (own z.place c.args.iface) (Spelt (message.ResvTear c.args.message.now)) (facts_at clock z)) c.self.view_is

pub returns-clause-sent : goal.returns-clause-sent
returns-clause-sent g c = λ clock.
    let n = state_of c.self.inside.tables c.self.inside.said in
    let w = state_of c.tear_resvs-heard.new.tables c.self.inside.said in
    let k : SenderKey = (c.args.message.now.session, c.default-sender.result) in
    let p = here_plain k n w c.self.inside.settled (c.tear_resvs-heard.ensures.change c.self.inside.said c.default-sender.result) (ap (λ (t : Tables). t.senders.tspecs) c.tear_resvs-heard.ensures.rest)
    (ap (λ (t : Tables). t.paths.facts) c.tear_resvs-heard.ensures.rest) (ap (λ (t : Tables). t.due) c.tear_resvs-heard.ensures.rest)
    (λ d. subst AreNamed (sym (c.tear_resvs-heard.ensures.facts d c.self.inside.said)) (tear_named c.args.iface c.args.message.now (facts_of d n) (c.self.inside.settled.named d)))
    (to_node n.place c.args.iface (message.ResvTear c.args.message.now)) c.tear_resvs-heard.result
    (tears n w c.args.iface c.args.message.now c.tear_resvs-heard.result (λ d. c.tear_resvs-heard.ensures.heard d c.self.inside.said)
    (λ d. c.tear_resvs-heard.ensures.facts d c.self.inside.said)) in
    plain_sent n c.args.self.now c.self.view_is (λ z. to_node z c.args.iface (message.ResvTear c.args.message.now)) refl c.tear_resvs-heard.result clock k w p g.O.Outbox.posted _ c.args.out.now
    (c.tell_sender.ensures.sent n clock c.tear_resvs-heard.result (is_before k n w p.ruled.change refl c.self.inside.told _
    (λ clock. c.offered-before.ensures clock c.self.inside.said) c.hops-near.result (λ clock. c.hops-near.ensures ∙ hops_are clock n c.args.message.now.session)))

pub returns-clause-place : goal.returns-clause-place
returns-clause-place g c =
    let n = state_of c.self.inside.tables c.self.inside.said in
    let w = state_of c.tear_resvs-heard.new.tables c.self.inside.said in
    let k : SenderKey = (c.args.message.now.session, c.default-sender.result) in
    let p = here_plain k n w c.self.inside.settled (c.tear_resvs-heard.ensures.change c.self.inside.said c.default-sender.result) (ap (λ (t : Tables). t.senders.tspecs) c.tear_resvs-heard.ensures.rest)
    (ap (λ (t : Tables). t.paths.facts) c.tear_resvs-heard.ensures.rest) (ap (λ (t : Tables). t.due) c.tear_resvs-heard.ensures.rest)
    (λ d. subst AreNamed (sym (c.tear_resvs-heard.ensures.facts d c.self.inside.said)) (tear_named c.args.iface c.args.message.now (facts_of d n) (c.self.inside.settled.named d)))
    (to_node n.place c.args.iface (message.ResvTear c.args.message.now)) c.tear_resvs-heard.result
    (tears n w c.args.iface c.args.message.now c.tear_resvs-heard.result (λ d. c.tear_resvs-heard.ensures.heard d c.self.inside.said)
    (λ d. c.tear_resvs-heard.ensures.facts d c.self.inside.said)) in
    wants_place c.tear_resvs-heard.new.tables c.tell_sender.new.tables c.tell_sender.ensures.rest c.self.inside.said c.tell_sender.new.said ∙ sym p.ruled.change.place
    ∙ ap (λ (z : State). z.place) c.self.view_is

pub invariant_of-self-inside : goal.invariant_of-self-inside
invariant_of-self-inside g c =
    let n = state_of c.self.inside.tables c.self.inside.said in
    let w = state_of c.tear_resvs-heard.new.tables c.self.inside.said in
    let k : SenderKey = (c.args.message.now.session, c.default-sender.result) in
    let p = here_plain k n w c.self.inside.settled (c.tear_resvs-heard.ensures.change c.self.inside.said c.default-sender.result) (ap (λ (t : Tables). t.senders.tspecs) c.tear_resvs-heard.ensures.rest)
    (ap (λ (t : Tables). t.paths.facts) c.tear_resvs-heard.ensures.rest) (ap (λ (t : Tables). t.due) c.tear_resvs-heard.ensures.rest)
    (λ d. subst AreNamed (sym (c.tear_resvs-heard.ensures.facts d c.self.inside.said)) (tear_named c.args.iface c.args.message.now (facts_of d n) (c.self.inside.settled.named d)))
    (to_node n.place c.args.iface (message.ResvTear c.args.message.now)) c.tear_resvs-heard.result
    (tears n w c.args.iface c.args.message.now c.tear_resvs-heard.result (λ d. c.tear_resvs-heard.ensures.heard d c.self.inside.said)
    (λ d. c.tear_resvs-heard.ensures.facts d c.self.inside.said)) in
    let mid = c.tear_resvs-heard.new.tables in
    let rest = c.tell_sender.ensures.rest in (
      wants_sound mid c.tell_sender.new.tables rest (c.tear_resvs-heard.ensures.sound),
      (
        wants_settled mid c.tell_sender.new.tables rest c.self.inside.said c.tell_sender.new.said p.ruled.kept,
        (
          c.tell_sender.ensures.said,
          (
            wants_of_place mid c.tell_sender.new.tables rest (c.tear_resvs-heard.ensures.ifaces ∙ c.self.inside.place
                ∙ ap (λ (t : Tables). t.config.ifaces) (sym c.tear_resvs-heard.ensures.rest)),
            tt,
          ),
        ),
      ),
    )
