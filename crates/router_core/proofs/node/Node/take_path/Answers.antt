use Rattle.std.proofs.Common.{ℕ, is_some, sym, ap, subst, ◌∙◌, refl}
use Rattle.std.specs.Option.{option_map}
use Rattle.path_state.specs.declared.fact.PathFact.{PathFact}
use Rattle.rsvp_base.specs.Table.{empty, get, has}
use Rattle.rsvp_messages.specs.declared.message.Message.TheVariants as message
use Rattle.router_rules.specs.Facts.{SenderKey}
use Rattle.router_rules.specs.Inputs.{Spelt}
use Rattle.router_rules.specs.NodeConfig.{comes_in}
use Rattle.router_rules.specs.Paths.{is_path_by}
use Rattle.router_rules.specs.Rule.{heard_after}
use Rattle.router_rules.specs.declared.answers.Heard.TheVariants as heard
use Rattle.router_rules.specs.declared.answers.Why.TheVariants as why
use Rattle.router_state.specs.Changes.{path_came}
use Rattle.router_state.specs.State.{State, facts_at, facts_of}
use Rattle.router_state.specs.Whole.{state_of}
use Rattle.resv_sends.proofs.Sent.{hops_are}
use Rattle.router_arrivals.proofs.Before.{is_before, settled_with}
use Rattle.router_arrivals.proofs.Doing.{path_comes}
use Rattle.router_arrivals.proofs.Pathing.{is_full}
use Rattle.router_arrivals.proofs.Ruled.{heard_is, plain_facts, plain_sent, refused_facts, refused_sent}
use Rattle.path_sends.specs.Renewing.{AreNews, offer_by, own_of}
use Rattle.router_core.proofs.Told.{not_tried, still_of_place, still_sound, tried, wants_of_place, wants_place, wants_settled, wants_sound}
use Rattle.router_core.proofs.node.Node.take_path.Goals as goal

pub renew_path-requires-clause-news : goal.renew_path-requires-clause-news
renew_path-requires-clause-news g c = λ was is.
    let m = c.args.message.now in
    let k : SenderKey = (m.session, c.args.sender) in
    subst (λ (z : State). AreNews c.in-Some.renewal (offer_by (own_of (has z.advertised k) (get z.senders k)) was.tspec was.adspec) (offer_by (own_of (has z.advertised k) (get z.senders k)) c.args.tspec m.adspec)) c.self.view_is
    (c.in-Some.ensures.news was (ap (λ (z : State). option_map (λ (e : PathFact × ℕ). e.0) (get z.paths k)) c.self.view_is ∙ is))

pub renew_path-requires-clause-stands : goal.renew_path-requires-clause-stands
renew_path-requires-clause-stands g c = λ clock.
    let m = c.args.message.now in
    ap (λ (z : State). is_path_by (c.args.iface, m.hop.addr) (get (facts_of clock z).paths (m.session, c.args.sender))) (sym c.self.view_is)
    ∙ sym (c.renewal_by.ensures.by clock (state_of c.self.inside.tables c.self.inside.said) refl) ∙ ap is_some c.in-Some.is

pub learn_path-requires-clause-pulled : goal.learn_path-requires-clause-pulled
learn_path-requires-clause-pulled g c =
    c.self.inside.sound.pulled.paths

pub learn_path-requires-clause-settled : goal.learn_path-requires-clause-settled
learn_path-requires-clause-settled g c =
    settled_with (state_of c.self.inside.tables c.self.inside.said) empty c.self.inside.settled

pub returns-then-not-learn_path-clause-facts : goal.returns-then-not-learn_path-clause-facts
returns-then-not-learn_path-clause-facts g c = λ clock.
    let n = state_of c.self.inside.tables c.self.inside.said in
    let on = ap (λ (z : State). comes_in z.place c.args.message.now.session c.args.iface c.args.sender) c.self.view_is ∙ c.requires.inward in
    let no = is_full n clock c.args.iface c.args.message.now c.args.sender c.args.tspec c.requires.sender on (sym c.learn_path.ensures.room ∙ c.if-not-learn_path.true) in
    ap (facts_at clock) (not_tried c.learn_path.new.tables c.self.inside.said _ _ _ c.learn_path.ensures.state c.if-not-learn_path.true)
    ∙ refused_facts n c.args.self.now c.self.view_is (λ z. path_came c.args.iface c.args.message.now) refl (heard.Dropped why.Full) clock c.self.inside.settled no

pub returns-then-not-learn_path-clause-heard : goal.returns-then-not-learn_path-clause-heard
returns-then-not-learn_path-clause-heard g c = λ clock.
    let n = state_of c.self.inside.tables c.self.inside.said in
    let on = ap (λ (z : State). comes_in z.place c.args.message.now.session c.args.iface c.args.sender) c.self.view_is ∙ c.requires.inward in
    let no = is_full n clock c.args.iface c.args.message.now c.args.sender c.args.tspec c.requires.sender on (sym c.learn_path.ensures.room ∙ c.if-not-learn_path.true) in
    heard_is n clock c.args.iface c.args.message.now.session.group (Spelt (message.Path c.args.message.now)) (facts_of clock n) ((heard.Dropped why.Full)) no
    ∙ ap (λ (z : State). heard_after z.place clock c.args.iface c.args.message.now.session.group (Spelt (message.Path c.args.message.now)) (facts_at clock z)) c.self.view_is

pub returns-then-not-learn_path-clause-sent : goal.returns-then-not-learn_path-clause-sent
returns-then-not-learn_path-clause-sent g c = λ clock.
    let n = state_of c.self.inside.tables c.self.inside.said in
    let on = ap (λ (z : State). comes_in z.place c.args.message.now.session c.args.iface c.args.sender) c.self.view_is ∙ c.requires.inward in
    let no = is_full n clock c.args.iface c.args.message.now c.args.sender c.args.tspec c.requires.sender on (sym c.learn_path.ensures.room ∙ c.if-not-learn_path.true) in
    refused_sent n c.args.self.now c.self.view_is (λ z. path_came c.args.iface c.args.message.now) refl (heard.Dropped why.Full) clock c.self.inside.settled no g.O.Outbox.posted c.args.out.now

pub returns-then-not-learn_path-clause-place : goal.returns-then-not-learn_path-clause-place
returns-then-not-learn_path-clause-place g c =
    ap (λ (z : State). z.place) (not_tried c.learn_path.new.tables c.self.inside.said _ _ _ c.learn_path.ensures.state c.if-not-learn_path.true ∙ c.self.view_is)

pub tell_sender-requires : goal.tell_sender-requires
tell_sender-requires g c =
    let n = state_of c.self.inside.tables c.self.inside.said in
    let on = ap (λ (z : State). comes_in z.place c.args.message.now.session c.args.iface c.args.sender) c.self.view_is ∙ c.requires.inward in
    let w = state_of c.learn_path.new.tables c.self.inside.said in
    let k : SenderKey = (c.args.message.now.session, c.args.sender) in
    let p = path_comes n c.self.inside.settled c.args.iface c.args.message.now c.args.sender c.args.tspec c.requires.sender on
    (sym c.learn_path.ensures.room ∙ c.if-not-learn_path.false) w c.self.inside.said
    (tried c.learn_path.new.tables c.self.inside.said _ _ _ c.learn_path.ensures.state c.if-not-learn_path.false) in (
      n,
      is_before k n w p.ruled.change refl c.self.inside.told _ (λ clock. c.offered-before.ensures clock c.self.inside.said) c.hops-near.result
          (λ clock. c.hops-near.ensures ∙ hops_are clock n c.args.message.now.session),
    )

pub returns-clause-facts : goal.returns-clause-facts
returns-clause-facts g c = λ clock.
    let n = state_of c.self.inside.tables c.self.inside.said in
    let on = ap (λ (z : State). comes_in z.place c.args.message.now.session c.args.iface c.args.sender) c.self.view_is ∙ c.requires.inward in
    let w = state_of c.learn_path.new.tables c.self.inside.said in
    let k : SenderKey = (c.args.message.now.session, c.args.sender) in
    let p = path_comes n c.self.inside.settled c.args.iface c.args.message.now c.args.sender c.args.tspec c.requires.sender on
    (sym c.learn_path.ensures.room ∙ c.if-not-learn_path.false) w c.self.inside.said
    (tried c.learn_path.new.tables c.self.inside.said _ _ _ c.learn_path.ensures.state c.if-not-learn_path.false) in
    plain_facts n c.args.self.now c.self.view_is (λ z. path_came c.args.iface c.args.message.now) refl heard.Taken clock k w p _
    (c.tell_sender.ensures.facts n clock (is_before k n w p.ruled.change refl c.self.inside.told _ (λ clock. c.offered-before.ensures clock c.self.inside.said) c.hops-near.result
    (λ clock. c.hops-near.ensures ∙ hops_are clock n c.args.message.now.session)))

pub returns-clause-heard : goal.returns-clause-heard
returns-clause-heard g c = λ clock.
    let n = state_of c.self.inside.tables c.self.inside.said in
    let on = ap (λ (z : State). comes_in z.place c.args.message.now.session c.args.iface c.args.sender) c.self.view_is ∙ c.requires.inward in
    let w = state_of c.learn_path.new.tables c.self.inside.said in
    let k : SenderKey = (c.args.message.now.session, c.args.sender) in
    let p = path_comes n c.self.inside.settled c.args.iface c.args.message.now c.args.sender c.args.tspec c.requires.sender on
    (sym c.learn_path.ensures.room ∙ c.if-not-learn_path.false) w c.self.inside.said
    (tried c.learn_path.new.tables c.self.inside.said _ _ _ c.learn_path.ensures.state c.if-not-learn_path.false) in
    heard_is n clock c.args.iface c.args.message.now.session.group (Spelt (message.Path c.args.message.now)) _ heard.Taken (p.does clock)
    ∙ ap (λ (z : State). heard_after z.place clock c.args.iface c.args.message.now.session.group (Spelt (message.Path c.args.message.now)) (facts_at clock z)) c.self.view_is

pub returns-clause-sent : goal.returns-clause-sent
returns-clause-sent g c = λ clock.
    let n = state_of c.self.inside.tables c.self.inside.said in
    let on = ap (λ (z : State). comes_in z.place c.args.message.now.session c.args.iface c.args.sender) c.self.view_is ∙ c.requires.inward in
    let w = state_of c.learn_path.new.tables c.self.inside.said in
    let k : SenderKey = (c.args.message.now.session, c.args.sender) in
    let p = path_comes n c.self.inside.settled c.args.iface c.args.message.now c.args.sender c.args.tspec c.requires.sender on
    (sym c.learn_path.ensures.room ∙ c.if-not-learn_path.false) w c.self.inside.said
    (tried c.learn_path.new.tables c.self.inside.said _ _ _ c.learn_path.ensures.state c.if-not-learn_path.false) in
    plain_sent n c.args.self.now c.self.view_is (λ z. path_came c.args.iface c.args.message.now) refl heard.Taken clock k w p g.O.Outbox.posted _ c.args.out.now
    (c.tell_sender.ensures.sent n clock heard.Taken (is_before k n w p.ruled.change refl c.self.inside.told _ (λ clock. c.offered-before.ensures clock c.self.inside.said) c.hops-near.result
    (λ clock. c.hops-near.ensures ∙ hops_are clock n c.args.message.now.session)))

pub returns-clause-place : goal.returns-clause-place
returns-clause-place g c =
    let n = state_of c.self.inside.tables c.self.inside.said in
    let on = ap (λ (z : State). comes_in z.place c.args.message.now.session c.args.iface c.args.sender) c.self.view_is ∙ c.requires.inward in
    let w = state_of c.learn_path.new.tables c.self.inside.said in
    let k : SenderKey = (c.args.message.now.session, c.args.sender) in
    let p = path_comes n c.self.inside.settled c.args.iface c.args.message.now c.args.sender c.args.tspec c.requires.sender on
    (sym c.learn_path.ensures.room ∙ c.if-not-learn_path.false) w c.self.inside.said
    (tried c.learn_path.new.tables c.self.inside.said _ _ _ c.learn_path.ensures.state c.if-not-learn_path.false) in
    wants_place c.learn_path.new.tables c.tell_sender.new.tables c.tell_sender.ensures.rest c.self.inside.said c.tell_sender.new.said ∙ sym p.ruled.change.place
    ∙ ap (λ (z : State). z.place) c.self.view_is

pub invariant_of-self-inside-2 : goal.invariant_of-self-inside-2
invariant_of-self-inside-2 g c =
    let n = state_of c.self.inside.tables c.self.inside.said in
    let on = ap (λ (z : State). comes_in z.place c.args.message.now.session c.args.iface c.args.sender) c.self.view_is ∙ c.requires.inward in
    let w = state_of c.learn_path.new.tables c.self.inside.said in
    let k : SenderKey = (c.args.message.now.session, c.args.sender) in
    let p = path_comes n c.self.inside.settled c.args.iface c.args.message.now c.args.sender c.args.tspec c.requires.sender on
    (sym c.learn_path.ensures.room ∙ c.if-not-learn_path.false) w c.self.inside.said
    (tried c.learn_path.new.tables c.self.inside.said _ _ _ c.learn_path.ensures.state c.if-not-learn_path.false) in
    let mid = c.learn_path.new.tables in
    let rest = c.tell_sender.ensures.rest in (
      wants_sound mid c.tell_sender.new.tables rest (still_sound c.self.inside.tables c.learn_path.new.tables c.learn_path.ensures.rest c.learn_path.ensures.pulled c.self.inside.sound),
      (
        wants_settled mid c.tell_sender.new.tables rest c.self.inside.said c.tell_sender.new.said p.ruled.kept,
        (
          c.tell_sender.ensures.said,
          (
            wants_of_place mid c.tell_sender.new.tables rest (still_of_place c.self.inside.tables c.learn_path.new.tables c.learn_path.ensures.rest c.self.inside.place),
            tt,
          ),
        ),
      ),
    )
