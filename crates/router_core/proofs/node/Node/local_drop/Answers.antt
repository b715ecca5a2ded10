use Rattle.std.proofs.Common.{sym, ap, subst, ◌∙◌, refl}
use Rattle.rsvp_base.specs.Table.{empty}
use Rattle.router_rules.specs.Facts.{SenderKey}
use Rattle.router_rules.specs.Inputs.{Call, DropAs}
use Rattle.router_rules.specs.Rule.{refusal_of_call}
use Rattle.router_rules.specs.declared.answers.Heard.TheVariants as heard
use Rattle.router_state.specs.State.{IsSaid, IsSettled, State, facts_at}
use Rattle.router_state.specs.Whole.{state_of}
use Rattle.resv_sends.proofs.Sent.{hops_are}
use Rattle.router_arrivals.proofs.Before.{is_before, settled_with}
use Rattle.router_arrivals.proofs.Calling.{is_absent, refusal_is, refused_call}
use Rattle.router_arrivals.proofs.Doing.{drop_free, sender_goes}
use Rattle.router_arrivals.proofs.Ruled.{plain_facts, plain_sent, refused_facts, refused_sent}
use Rattle.router_core.proofs.Told.{not_tried, tried, wants_of_place, wants_place, wants_settled, wants_sound}
use Rattle.router_core.proofs.node.Node.local_drop.Goals as goal

pub drop_sender-requires-clause-settled : goal.drop_sender-requires-clause-settled
drop_sender-requires-clause-settled g c =
    settled_with (state_of c.self.inside.tables c.self.inside.said) empty c.self.inside.settled

pub returns-then-not-drop_sender-clause-facts : goal.returns-then-not-drop_sender-clause-facts
returns-then-not-drop_sender-clause-facts g c = λ clock.
    let n = state_of c.self.inside.tables c.self.inside.said in
    let k : SenderKey = (c.args.session, c.args.sender) in
    let no = refused_call n clock (DropAs c.args.session c.args.sender) _ (is_absent n clock k (sym c.drop_sender.ensures.there ∙ c.if-not-drop_sender.true)) in
    ap (facts_at clock) (not_tried c.drop_sender.new.tables c.self.inside.said _ _ _ c.drop_sender.ensures.state c.if-not-drop_sender.true)
    ∙ refused_facts n c.args.self.now c.self.view_is (λ z. Call (DropAs c.args.session c.args.sender)) refl heard.Taken clock c.self.inside.settled no

pub returns-then-not-drop_sender-clause-sent : goal.returns-then-not-drop_sender-clause-sent
returns-then-not-drop_sender-clause-sent g c = λ clock.
    let n = state_of c.self.inside.tables c.self.inside.said in
    let k : SenderKey = (c.args.session, c.args.sender) in
    let no = refused_call n clock (DropAs c.args.session c.args.sender) _ (is_absent n clock k (sym c.drop_sender.ensures.there ∙ c.if-not-drop_sender.true)) in
    refused_sent n c.args.self.now c.self.view_is (λ z. Call (DropAs c.args.session c.args.sender)) refl heard.Taken clock c.self.inside.settled no g.O.Outbox.posted c.args.out.now

pub returns-then-not-drop_sender-clause-refused : goal.returns-then-not-drop_sender-clause-refused
returns-then-not-drop_sender-clause-refused g c = λ clock.
    let n = state_of c.self.inside.tables c.self.inside.said in
    let k : SenderKey = (c.args.session, c.args.sender) in
    ap (λ (z : State). refusal_of_call z.place (DropAs c.args.session c.args.sender) (facts_at clock z)) (sym c.self.view_is)
    ∙ refusal_is n clock (DropAs c.args.session c.args.sender) _ (is_absent n clock k (sym c.drop_sender.ensures.there ∙ c.if-not-drop_sender.true))

pub returns-then-not-drop_sender-clause-place : goal.returns-then-not-drop_sender-clause-place
returns-then-not-drop_sender-clause-place g c =
    ap (λ (z : State). z.place) (not_tried c.drop_sender.new.tables c.self.inside.said _ _ _ c.drop_sender.ensures.state c.if-not-drop_sender.true ∙ c.self.view_is)

pub tell_sender-requires : goal.tell_sender-requires
tell_sender-requires g c =
    let n = state_of c.self.inside.tables c.self.inside.said in
    let w = state_of c.drop_sender.new.tables c.self.inside.said in
    let k : SenderKey = (c.args.session, c.args.sender) in
    let p = sender_goes n c.self.inside.settled k (sym c.drop_sender.ensures.there ∙ c.if-not-drop_sender.false) w c.self.inside.said
    (tried c.drop_sender.new.tables c.self.inside.said _ _ _ c.drop_sender.ensures.state c.if-not-drop_sender.false) in (
      n,
      is_before k n w p.ruled.change refl c.self.inside.told _ (λ clock. c.offered-before.ensures clock c.self.inside.said) c.hops-near.result
          (λ clock. c.hops-near.ensures ∙ hops_are clock n c.args.session),
    )

pub returns-clause-facts : goal.returns-clause-facts
returns-clause-facts g c = λ clock.
    let n = state_of c.self.inside.tables c.self.inside.said in
    let w = state_of c.drop_sender.new.tables c.self.inside.said in
    let k : SenderKey = (c.args.session, c.args.sender) in
    let p = sender_goes n c.self.inside.settled k (sym c.drop_sender.ensures.there ∙ c.if-not-drop_sender.false) w c.self.inside.said
    (tried c.drop_sender.new.tables c.self.inside.said _ _ _ c.drop_sender.ensures.state c.if-not-drop_sender.false) in
    plain_facts n c.args.self.now c.self.view_is (λ z. Call (DropAs c.args.session c.args.sender)) refl heard.Taken clock k w p _
    (c.tell_sender.ensures.facts n clock (is_before k n w p.ruled.change refl c.self.inside.told _ (λ clock. c.offered-before.ensures clock c.self.inside.said) c.hops-near.result
    (λ clock. c.hops-near.ensures ∙ hops_are clock n c.args.session)))

pub returns-clause-refused : goal.returns-clause-refused
returns-clause-refused g c = λ clock.
    let n = state_of c.self.inside.tables c.self.inside.said in
    let k : SenderKey = (c.args.session, c.args.sender) in
    ap (λ (z : State). refusal_of_call z.place (DropAs c.args.session c.args.sender) (facts_at clock z)) (sym c.self.view_is)
    ∙ refusal_is n clock (DropAs c.args.session c.args.sender) _ (drop_free n c.self.inside.settled k (sym c.drop_sender.ensures.there ∙ c.if-not-drop_sender.false) clock)

pub returns-clause-sent : goal.returns-clause-sent
returns-clause-sent g c = λ clock.
    let n = state_of c.self.inside.tables c.self.inside.said in
    let w = state_of c.drop_sender.new.tables c.self.inside.said in
    let k : SenderKey = (c.args.session, c.args.sender) in
    let p = sender_goes n c.self.inside.settled k (sym c.drop_sender.ensures.there ∙ c.if-not-drop_sender.false) w c.self.inside.said
    (tried c.drop_sender.new.tables c.self.inside.said _ _ _ c.drop_sender.ensures.state c.if-not-drop_sender.false) in
    plain_sent n c.args.self.now c.self.view_is (λ z. Call (DropAs c.args.session c.args.sender)) refl heard.Taken clock k w p g.O.Outbox.posted _ c.args.out.now
    (c.tell_sender.ensures.sent n clock heard.Taken (is_before k n w p.ruled.change refl c.self.inside.told _ (λ clock. c.offered-before.ensures clock c.self.inside.said) c.hops-near.result
    (λ clock. c.hops-near.ensures ∙ hops_are clock n c.args.session)))

pub returns-clause-place : goal.returns-clause-place
returns-clause-place g c =
    let n = state_of c.self.inside.tables c.self.inside.said in
    let w = state_of c.drop_sender.new.tables c.self.inside.said in
    let k : SenderKey = (c.args.session, c.args.sender) in
    let p = sender_goes n c.self.inside.settled k (sym c.drop_sender.ensures.there ∙ c.if-not-drop_sender.false) w c.self.inside.said
    (tried c.drop_sender.new.tables c.self.inside.said _ _ _ c.drop_sender.ensures.state c.if-not-drop_sender.false) in
    wants_place c.drop_sender.new.tables c.tell_sender.new.tables c.tell_sender.ensures.rest c.self.inside.said c.tell_sender.new.said ∙ sym p.ruled.change.place
    ∙ ap (λ (z : State). z.place) c.self.view_is

pub invariant_of-self-inside-2 : goal.invariant_of-self-inside-2
invariant_of-self-inside-2 g c =
    let n = state_of c.self.inside.tables c.self.inside.said in
    let w = state_of c.drop_sender.new.tables c.self.inside.said in
    let k : SenderKey = (c.args.session, c.args.sender) in
    let p = sender_goes n c.self.inside.settled k (sym c.drop_sender.ensures.there ∙ c.if-not-drop_sender.false) w c.self.inside.said
    (tried c.drop_sender.new.tables c.self.inside.said _ _ _ c.drop_sender.ensures.state c.if-not-drop_sender.false) in
    let mid = c.drop_sender.new.tables in
    let rest = c.tell_sender.ensures.rest in (
      wants_sound mid c.tell_sender.new.tables rest (c.drop_sender.ensures.sound),
      (
        wants_settled mid c.tell_sender.new.tables rest c.self.inside.said c.tell_sender.new.said p.ruled.kept,
        (
          c.tell_sender.ensures.said,
          (
            wants_of_place mid c.tell_sender.new.tables rest (c.drop_sender.ensures.ifaces ∙ c.self.inside.place
                ∙ ap (λ (z : State). z.place.ifaces) (sym (tried c.drop_sender.new.tables c.self.inside.said _ _ _ c.drop_sender.ensures.state c.if-not-drop_sender.false))),
            tt,
          ),
        ),
      ),
    )

pub invariant_of-self-inside : goal.invariant_of-self-inside
invariant_of-self-inside g c =
    let same = not_tried c.drop_sender.new.tables c.self.inside.said _ _ _ c.drop_sender.ensures.state c.if-not-drop_sender.true in (
      c.drop_sender.ensures.sound,
      (
        subst IsSettled (sym same) c.self.inside.settled,
        (
          subst (IsSaid c.self.inside.said) (sym same) c.self.inside.told,
          (c.drop_sender.ensures.ifaces ∙ c.self.inside.place ∙ ap (λ (z : State). z.place.ifaces) (sym same), tt),
        ),
      ),
    )

pub returns-then-not-drop_sender-clause-kept : goal.returns-then-not-drop_sender-clause-kept
returns-then-not-drop_sender-clause-kept g c =
    not_tried c.drop_sender.new.tables c.self.inside.said _ _ _ c.drop_sender.ensures.state c.if-not-drop_sender.true ∙ c.self.view_is
