use Rattle.std.proofs.Common.{sym, ap, ◌∙◌, refl}
use Rattle.rsvp_base.specs.Table.{empty}
use Rattle.rsvp_messages.specs.declared.message.Message.TheVariants as message
use Rattle.router_rules.specs.Facts.{SenderKey}
use Rattle.router_rules.specs.Inputs.{Spelt}
use Rattle.router_rules.specs.Rule.{heard_after}
use Rattle.router_rules.specs.declared.answers.Heard.TheVariants as heard
use Rattle.router_rules.specs.declared.answers.Why.TheVariants as why
use Rattle.router_state.specs.Changes.{tear_came}
use Rattle.router_state.specs.State.{State, facts_at, facts_of}
use Rattle.router_state.specs.Whole.{state_of}
use Rattle.resv_sends.proofs.Sent.{hops_are}
use Rattle.router_arrivals.proofs.Before.{is_before, settled_with}
use Rattle.router_arrivals.proofs.Doing.{path_goes}
use Rattle.router_arrivals.proofs.Pathing.{no_state, nobody}
use Rattle.router_arrivals.proofs.Ruled.{heard_is, plain_facts, plain_sent, refused_facts, refused_sent}
use Rattle.router_core.proofs.Told.{wants_of_place, wants_place, wants_settled, wants_sound}
use Rattle.router_core.proofs.node.Node.path_tear.Goals as goal

pub drop_path-requires-clause-settled : goal.drop_path-requires-clause-settled
drop_path-requires-clause-settled g c =
    settled_with (state_of c.self.inside.tables c.self.inside.said) empty c.self.inside.settled

pub returns-in_default-clause-facts : goal.returns-in_default-clause-facts
returns-in_default-clause-facts g c = λ clock.
    let n = state_of c.self.inside.tables c.self.inside.said in
    let no = nobody n clock c.args.iface c.args.message.now c.in_default.is in
    ap (facts_at clock) (sym c.self.view_is) ∙ refused_facts n c.args.self.now c.self.view_is (λ z. tear_came c.args.iface c.args.message.now) refl
    (heard.Dropped why.NoSender) clock c.self.inside.settled no

pub returns-in_default-clause-heard : goal.returns-in_default-clause-heard
returns-in_default-clause-heard g c = λ clock.
    let n = state_of c.self.inside.tables c.self.inside.said in
    let no = nobody n clock c.args.iface c.args.message.now c.in_default.is in
    heard_is n clock c.args.iface c.args.message.now.session.group (Spelt (message.PathTear c.args.message.now)) (facts_of clock n) ((heard.Dropped why.NoSender)) no
    ∙ ap (λ (z : State). heard_after z.place clock c.args.iface c.args.message.now.session.group (Spelt (message.PathTear c.args.message.now)) (facts_at clock z)) c.self.view_is

pub returns-in_default-clause-sent : goal.returns-in_default-clause-sent
returns-in_default-clause-sent g c = λ clock.
    let n = state_of c.self.inside.tables c.self.inside.said in
    let no = nobody n clock c.args.iface c.args.message.now c.in_default.is in
    refused_sent n c.args.self.now c.self.view_is (λ z. tear_came c.args.iface c.args.message.now) refl (heard.Dropped why.NoSender) clock c.self.inside.settled no g.O.Outbox.posted c.args.out.now

pub returns-then-not-has_path_by-clause-facts : goal.returns-then-not-has_path_by-clause-facts
returns-then-not-has_path_by-clause-facts g c = λ clock.
    let n = state_of c.self.inside.tables c.self.inside.said in
    let no = no_state n clock c.args.iface c.args.message.now c.in-Some.sender c.in-Some.is (sym (c.has_path_by.ensures clock n refl) ∙ c.if-not-has_path_by.true) in
    ap (facts_at clock) (sym c.self.view_is) ∙ refused_facts n c.args.self.now c.self.view_is (λ z. tear_came c.args.iface c.args.message.now) refl
    (heard.Dropped why.NoState) clock c.self.inside.settled no

pub returns-then-not-has_path_by-clause-heard : goal.returns-then-not-has_path_by-clause-heard
returns-then-not-has_path_by-clause-heard g c = λ clock.
    let n = state_of c.self.inside.tables c.self.inside.said in
    let no = no_state n clock c.args.iface c.args.message.now c.in-Some.sender c.in-Some.is (sym (c.has_path_by.ensures clock n refl) ∙ c.if-not-has_path_by.true) in
    heard_is n clock c.args.iface c.args.message.now.session.group (Spelt (message.PathTear c.args.message.now)) (facts_of clock n) ((heard.Dropped why.NoState)) no
    ∙ ap (λ (z : State). heard_after z.place clock c.args.iface c.args.message.now.session.group (Spelt (message.PathTear c.args.message.now)) (facts_at clock z)) c.self.view_is

pub returns-then-not-has_path_by-clause-sent : goal.returns-then-not-has_path_by-clause-sent
returns-then-not-has_path_by-clause-sent g c = λ clock.
    let n = state_of c.self.inside.tables c.self.inside.said in
    let no = no_state n clock c.args.iface c.args.message.now c.in-Some.sender c.in-Some.is (sym (c.has_path_by.ensures clock n refl) ∙ c.if-not-has_path_by.true) in
    refused_sent n c.args.self.now c.self.view_is (λ z. tear_came c.args.iface c.args.message.now) refl (heard.Dropped why.NoState) clock c.self.inside.settled no g.O.Outbox.posted c.args.out.now

pub tell_sender-requires : goal.tell_sender-requires
tell_sender-requires g c =
    let n = state_of c.self.inside.tables c.self.inside.said in
    let w = state_of c.drop_path.new.tables c.self.inside.said in
    let k : SenderKey = (c.args.message.now.session, c.in-Some.sender) in
    let p = path_goes n c.self.inside.settled c.args.iface c.args.message.now c.in-Some.sender c.in-Some.is
    (λ d. sym (c.has_path_by.ensures d n refl) ∙ c.if-not-has_path_by.false) w c.self.inside.said (ap (λ (z : State). record z { said = c.self.inside.said }) c.drop_path.ensures.state) in (
      n,
      is_before k n w p.ruled.change refl c.self.inside.told _ (λ clock. c.offered-before.ensures clock c.self.inside.said) c.hops-near.result
          (λ clock. c.hops-near.ensures ∙ hops_are clock n c.args.message.now.session),
    )

pub returns-clause-facts : goal.returns-clause-facts
returns-clause-facts g c = λ clock.
    let n = state_of c.self.inside.tables c.self.inside.said in
    let w = state_of c.drop_path.new.tables c.self.inside.said in
    let k : SenderKey = (c.args.message.now.session, c.in-Some.sender) in
    let p = path_goes n c.self.inside.settled c.args.iface c.args.message.now c.in-Some.sender c.in-Some.is
    (λ d. sym (c.has_path_by.ensures d n refl) ∙ c.if-not-has_path_by.false) w c.self.inside.said (ap (λ (z : State). record z { said = c.self.inside.said }) c.drop_path.ensures.state) in
    plain_facts n c.args.self.now c.self.view_is (λ z. tear_came c.args.iface c.args.message.now) refl heard.Taken clock k w p _
    (c.tell_sender.ensures.facts n clock (is_before k n w p.ruled.change refl c.self.inside.told _ (λ clock. c.offered-before.ensures clock c.self.inside.said) c.hops-near.result
    (λ clock. c.hops-near.ensures ∙ hops_are clock n c.args.message.now.session)))

pub returns-clause-heard : goal.returns-clause-heard
returns-clause-heard g c = λ clock.
    let n = state_of c.self.inside.tables c.self.inside.said in
    let w = state_of c.drop_path.new.tables c.self.inside.said in
    let k : SenderKey = (c.args.message.now.session, c.in-Some.sender) in
    let p = path_goes n c.self.inside.settled c.args.iface c.args.message.now c.in-Some.sender c.in-Some.is
    (λ d. sym (c.has_path_by.ensures d n refl) ∙ c.if-not-has_path_by.false) w c.self.inside.said (ap (λ (z : State). record z { said = c.self.inside.said }) c.drop_path.ensures.state) in
    heard_is n clock c.args.iface c.args.message.now.session.group (Spelt (message.PathTear c.args.message.now)) _ heard.Taken (p.does clock)
    ∙ ap (λ (z : State). heard_after z.place clock c.args.iface c.args.message.now.session.group (Spelt (message.PathTear c.args.message.now)) (facts_at clock z)) c.self.view_is

pub returns-clause-sent : goal.returns-clause-sent
returns-clause-sent g c = λ clock.
    let n = state_of c.self.inside.tables c.self.inside.said in
    let w = state_of c.drop_path.new.tables c.self.inside.said in
    let k : SenderKey = (c.args.message.now.session, c.in-Some.sender) in
    let p = path_goes n c.self.inside.settled c.args.iface c.args.message.now c.in-Some.sender c.in-Some.is
    (λ d. sym (c.has_path_by.ensures d n refl) ∙ c.if-not-has_path_by.false) w c.self.inside.said (ap (λ (z : State). record z { said = c.self.inside.said }) c.drop_path.ensures.state) in
    plain_sent n c.args.self.now c.self.view_is (λ z. tear_came c.args.iface c.args.message.now) refl heard.Taken clock k w p g.O.Outbox.posted _ c.args.out.now
    (c.tell_sender.ensures.sent n clock heard.Taken (is_before k n w p.ruled.change refl c.self.inside.told _ (λ clock. c.offered-before.ensures clock c.self.inside.said) c.hops-near.result
    (λ clock. c.hops-near.ensures ∙ hops_are clock n c.args.message.now.session)))

pub returns-clause-place : goal.returns-clause-place
returns-clause-place g c =
    let n = state_of c.self.inside.tables c.self.inside.said in
    let w = state_of c.drop_path.new.tables c.self.inside.said in
    let k : SenderKey = (c.args.message.now.session, c.in-Some.sender) in
    let p = path_goes n c.self.inside.settled c.args.iface c.args.message.now c.in-Some.sender c.in-Some.is
    (λ d. sym (c.has_path_by.ensures d n refl) ∙ c.if-not-has_path_by.false) w c.self.inside.said (ap (λ (z : State). record z { said = c.self.inside.said }) c.drop_path.ensures.state) in
    wants_place c.drop_path.new.tables c.tell_sender.new.tables c.tell_sender.ensures.rest c.self.inside.said c.tell_sender.new.said ∙ sym p.ruled.change.place
    ∙ ap (λ (z : State). z.place) c.self.view_is

pub invariant_of-self-inside : goal.invariant_of-self-inside
invariant_of-self-inside g c =
    let n = state_of c.self.inside.tables c.self.inside.said in
    let w = state_of c.drop_path.new.tables c.self.inside.said in
    let k : SenderKey = (c.args.message.now.session, c.in-Some.sender) in
    let p = path_goes n c.self.inside.settled c.args.iface c.args.message.now c.in-Some.sender c.in-Some.is
    (λ d. sym (c.has_path_by.ensures d n refl) ∙ c.if-not-has_path_by.false) w c.self.inside.said (ap (λ (z : State). record z { said = c.self.inside.said }) c.drop_path.ensures.state) in
    let mid = c.drop_path.new.tables in
    let rest = c.tell_sender.ensures.rest in (
      wants_sound mid c.tell_sender.new.tables rest (c.drop_path.ensures.sound),
      (
        wants_settled mid c.tell_sender.new.tables rest c.self.inside.said c.tell_sender.new.said p.ruled.kept,
        (
          c.tell_sender.ensures.said,
          (
            wants_of_place mid c.tell_sender.new.tables rest (c.drop_path.ensures.ifaces ∙ c.self.inside.place
                ∙ ap (λ (z : State). z.place.ifaces) (sym c.drop_path.ensures.state)),
            tt,
          ),
        ),
      ),
    )
