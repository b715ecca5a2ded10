use Rattle.std.proofs.Common.{sym, ap, subst, ◌∙◌, refl}
use Rattle.path_state.specs.Paths.{PathMap}
use Rattle.router_rules.specs.Facts.{SenderKey}
use Rattle.router_rules.specs.Inputs.{Call, AdvertAs}
use Rattle.router_rules.specs.Rule.{refusal_of_call}
use Rattle.router_rules.specs.declared.answers.Heard.TheVariants as heard
use Rattle.router_state.specs.State.{IsSaid, IsSettled, State, facts_at}
use Rattle.router_state.specs.Whole.{state_of}
use Rattle.resv_sends.proofs.Sent.{hops_are}
use Rattle.router_arrivals.proofs.Before.{is_before}
use Rattle.router_arrivals.proofs.Calling.{is_unheard, refusal_is, refused_call}
use Rattle.router_arrivals.proofs.Doing.{advert_free, sender_told}
use Rattle.router_arrivals.proofs.Ruled.{plain_facts, plain_sent, refused_facts, refused_sent}
use Rattle.router_core.proofs.Told.{not_tried, still_of_place, still_sound, tried, wants_of_place, wants_place, wants_settled, wants_sound}
use Rattle.router_core.proofs.node.Node.local_advert.Goals as goal

pub returns-then-not-advertise_sender-clause-facts : goal.returns-then-not-advertise_sender-clause-facts
returns-then-not-advertise_sender-clause-facts g c = λ clock.
    let n = state_of c.self.inside.tables c.self.inside.said in
    let k : SenderKey = (c.args.session, c.args.sender) in
    let no = refused_call n clock (AdvertAs c.args.session c.args.sender) _ (is_unheard n clock k (sym c.advertise_sender.ensures.there ∙ c.if-not-advertise_sender.true)) in
    ap (facts_at clock) (not_tried c.advertise_sender.new.tables c.self.inside.said _ _ _ c.advertise_sender.ensures.state c.if-not-advertise_sender.true)
    ∙ refused_facts n c.args.self.now c.self.view_is (λ z. Call (AdvertAs c.args.session c.args.sender)) refl heard.Taken clock c.self.inside.settled no

pub returns-then-not-advertise_sender-clause-sent : goal.returns-then-not-advertise_sender-clause-sent
returns-then-not-advertise_sender-clause-sent g c = λ clock.
    let n = state_of c.self.inside.tables c.self.inside.said in
    let k : SenderKey = (c.args.session, c.args.sender) in
    let no = refused_call n clock (AdvertAs c.args.session c.args.sender) _ (is_unheard n clock k (sym c.advertise_sender.ensures.there ∙ c.if-not-advertise_sender.true)) in
    refused_sent n c.args.self.now c.self.view_is (λ z. Call (AdvertAs c.args.session c.args.sender)) refl heard.Taken clock c.self.inside.settled no g.O.Outbox.posted c.args.out.now

pub returns-then-not-advertise_sender-clause-refused : goal.returns-then-not-advertise_sender-clause-refused
returns-then-not-advertise_sender-clause-refused g c = λ clock.
    let n = state_of c.self.inside.tables c.self.inside.said in
    let k : SenderKey = (c.args.session, c.args.sender) in
    ap (λ (z : State). refusal_of_call z.place (AdvertAs c.args.session c.args.sender) (facts_at clock z)) (sym c.self.view_is)
    ∙ refusal_is n clock (AdvertAs c.args.session c.args.sender) _ (is_unheard n clock k (sym c.advertise_sender.ensures.there ∙ c.if-not-advertise_sender.true))

pub returns-then-not-advertise_sender-clause-place : goal.returns-then-not-advertise_sender-clause-place
returns-then-not-advertise_sender-clause-place g c =
    ap (λ (z : State). z.place) (not_tried c.advertise_sender.new.tables c.self.inside.said _ _ _ c.advertise_sender.ensures.state c.if-not-advertise_sender.true ∙ c.self.view_is)

pub tell_sender-requires : goal.tell_sender-requires
tell_sender-requires g c =
    let n = state_of c.self.inside.tables c.self.inside.said in
    let w = state_of c.advertise_sender.new.tables c.self.inside.said in
    let k : SenderKey = (c.args.session, c.args.sender) in
    let p = sender_told n c.self.inside.settled k (sym c.advertise_sender.ensures.there ∙ c.if-not-advertise_sender.false) w c.self.inside.said
    (tried c.advertise_sender.new.tables c.self.inside.said _ _ _ c.advertise_sender.ensures.state c.if-not-advertise_sender.false) in (
      n,
      is_before k n w p.ruled.change refl c.self.inside.told _ (λ clock. c.offered-before.ensures clock c.self.inside.said) c.hops-near.result
          (λ clock. c.hops-near.ensures ∙ hops_are clock n c.args.session),
    )

pub returns-clause-facts : goal.returns-clause-facts
returns-clause-facts g c = λ clock.
    let n = state_of c.self.inside.tables c.self.inside.said in
    let w = state_of c.advertise_sender.new.tables c.self.inside.said in
    let k : SenderKey = (c.args.session, c.args.sender) in
    let p = sender_told n c.self.inside.settled k (sym c.advertise_sender.ensures.there ∙ c.if-not-advertise_sender.false) w c.self.inside.said
    (tried c.advertise_sender.new.tables c.self.inside.said _ _ _ c.advertise_sender.ensures.state c.if-not-advertise_sender.false) in
    plain_facts n c.args.self.now c.self.view_is (λ z. Call (AdvertAs c.args.session c.args.sender)) refl heard.Taken clock k w p _
    (c.tell_sender.ensures.facts n clock (is_before k n w p.ruled.change refl c.self.inside.told _ (λ clock. c.offered-before.ensures clock c.self.inside.said) c.hops-near.result
    (λ clock. c.hops-near.ensures ∙ hops_are clock n c.args.session)))

pub returns-clause-refused : goal.returns-clause-refused
returns-clause-refused g c = λ clock.
    let n = state_of c.self.inside.tables c.self.inside.said in
    let k : SenderKey = (c.args.session, c.args.sender) in
    ap (λ (z : State). refusal_of_call z.place (AdvertAs c.args.session c.args.sender) (facts_at clock z)) (sym c.self.view_is)
    ∙ refusal_is n clock (AdvertAs c.args.session c.args.sender) _ (advert_free n c.self.inside.settled k (sym c.advertise_sender.ensures.there ∙ c.if-not-advertise_sender.false) clock)

pub returns-clause-sent : goal.returns-clause-sent
returns-clause-sent g c = λ clock.
    let n = state_of c.self.inside.tables c.self.inside.said in
    let w = state_of c.advertise_sender.new.tables c.self.inside.said in
    let k : SenderKey = (c.args.session, c.args.sender) in
    let p = sender_told n c.self.inside.settled k (sym c.advertise_sender.ensures.there ∙ c.if-not-advertise_sender.false) w c.self.inside.said
    (tried c.advertise_sender.new.tables c.self.inside.said _ _ _ c.advertise_sender.ensures.state c.if-not-advertise_sender.false) in
    plain_sent n c.args.self.now c.self.view_is (λ z. Call (AdvertAs c.args.session c.args.sender)) refl heard.Taken clock k w p g.O.Outbox.posted _ c.args.out.now
    (c.tell_sender.ensures.sent n clock heard.Taken (is_before k n w p.ruled.change refl c.self.inside.told _ (λ clock. c.offered-before.ensures clock c.self.inside.said) c.hops-near.result
    (λ clock. c.hops-near.ensures ∙ hops_are clock n c.args.session)))

pub returns-clause-place : goal.returns-clause-place
returns-clause-place g c =
    let n = state_of c.self.inside.tables c.self.inside.said in
    let w = state_of c.advertise_sender.new.tables c.self.inside.said in
    let k : SenderKey = (c.args.session, c.args.sender) in
    let p = sender_told n c.self.inside.settled k (sym c.advertise_sender.ensures.there ∙ c.if-not-advertise_sender.false) w c.self.inside.said
    (tried c.advertise_sender.new.tables c.self.inside.said _ _ _ c.advertise_sender.ensures.state c.if-not-advertise_sender.false) in
    wants_place c.advertise_sender.new.tables c.tell_sender.new.tables c.tell_sender.ensures.rest c.self.inside.said c.tell_sender.new.said ∙ sym p.ruled.change.place
    ∙ ap (λ (z : State). z.place) c.self.view_is

pub invariant_of-self-inside-2 : goal.invariant_of-self-inside-2
invariant_of-self-inside-2 g c =
    let n = state_of c.self.inside.tables c.self.inside.said in
    let w = state_of c.advertise_sender.new.tables c.self.inside.said in
    let k : SenderKey = (c.args.session, c.args.sender) in
    let p = sender_told n c.self.inside.settled k (sym c.advertise_sender.ensures.there ∙ c.if-not-advertise_sender.false) w c.self.inside.said
    (tried c.advertise_sender.new.tables c.self.inside.said _ _ _ c.advertise_sender.ensures.state c.if-not-advertise_sender.false) in
    let mid = c.advertise_sender.new.tables in
    let rest = c.tell_sender.ensures.rest in (
      wants_sound mid c.tell_sender.new.tables rest (still_sound c.self.inside.tables c.advertise_sender.new.tables c.advertise_sender.ensures.rest
          (ap (λ (m : PathMap). m.dead.rows) c.advertise_sender.ensures.paths ∙ c.self.inside.sound.pulled.paths) c.self.inside.sound),
      (
        wants_settled mid c.tell_sender.new.tables rest c.self.inside.said c.tell_sender.new.said p.ruled.kept,
        (
          c.tell_sender.ensures.said,
          (
            wants_of_place mid c.tell_sender.new.tables rest (still_of_place c.self.inside.tables c.advertise_sender.new.tables c.advertise_sender.ensures.rest c.self.inside.place),
            tt,
          ),
        ),
      ),
    )

pub invariant_of-self-inside : goal.invariant_of-self-inside
invariant_of-self-inside g c =
    let t = c.self.inside.tables in
    let rest = c.advertise_sender.ensures.rest in
    let dead = ap (λ (m : PathMap). m.dead.rows) c.advertise_sender.ensures.paths ∙ c.self.inside.sound.pulled.paths in
    let same = not_tried c.advertise_sender.new.tables c.self.inside.said _ _ _ c.advertise_sender.ensures.state c.if-not-advertise_sender.true in (
      still_sound t c.advertise_sender.new.tables rest dead c.self.inside.sound,
      (
        subst IsSettled (sym same) c.self.inside.settled,
        (subst (IsSaid c.self.inside.said) (sym same) c.self.inside.told, (still_of_place t c.advertise_sender.new.tables rest c.self.inside.place, tt)),
      ),
    )

pub returns-then-not-advertise_sender-clause-kept : goal.returns-then-not-advertise_sender-clause-kept
returns-then-not-advertise_sender-clause-kept g c =
    not_tried c.advertise_sender.new.tables c.self.inside.said _ _ _ c.advertise_sender.ensures.state c.if-not-advertise_sender.true ∙ c.self.view_is
