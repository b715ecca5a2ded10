use Rattle.std.proofs.Common.{sym, ap, subst, ◌∙◌, refl}
use Rattle.std.proofs.lemmas.Result.{err_from_is_err_and}
use Rattle.router_rules.specs.Facts.{SenderKey}
use Rattle.router_rules.specs.Inputs.{Call, WantAs, only_heard}
use Rattle.router_rules.specs.Rule.{refusal_of_call}
use Rattle.router_rules.specs.declared.answers.Heard.TheVariants as heard
use Rattle.router_state.specs.State.{AreNamed, State, facts_at, facts_of}
use Rattle.router_state.specs.Whole.{state_of}
use Rattle.router_state.specs.declared.tables.Tables.{Tables}
use Rattle.resv_sends.proofs.Sent.{hops_are}
use Rattle.router_arrivals.proofs.Before.{is_before}
use Rattle.router_arrivals.proofs.Calling.{refusal_is, refused_call}
use Rattle.router_arrivals.proofs.Here.{here_plain}
use Rattle.router_arrivals.proofs.Ruled.{plain_facts, plain_sent, refused_facts, refused_sent}
use Rattle.router_core.proofs.Told.{on_err, unchanged_node, wants_changed, wants_of_place, wants_place, wants_settled, wants_sound}
use Rattle.router_core.proofs.node.Node.local_want.Goals as goal

pub returns-in_err-put_wants-clause-refused : goal.returns-in_err-put_wants-clause-refused
returns-in_err-put_wants-clause-refused g c = λ clock.
    let n = state_of c.self.inside.tables c.self.inside.said in
    let given = err_from_is_err_and c.from_residual.result c.from_residual.ensures.1 in
    rw (given.1, given.2) (ap (λ (z : State). refusal_of_call z.place (WantAs c.args.session c.args.style c.args.senders.now c.args.flow c.args.confirm) (facts_at clock z)) (sym c.self.view_is)
    ∙ refusal_is n clock (WantAs c.args.session c.args.style c.args.senders.now c.args.flow c.args.confirm) _ (c.in_err-put_wants.ensures.refused clock c.self.inside.said))

pub returns-in_err-put_wants-clause-facts : goal.returns-in_err-put_wants-clause-facts
returns-in_err-put_wants-clause-facts g c = λ clock.
    let n = state_of c.self.inside.tables c.self.inside.said in
    ap (facts_at clock) (ap (λ (t : Tables). state_of t c.self.inside.said) c.in_err-put_wants.ensures.err)
    ∙ refused_facts n c.args.self.now c.self.view_is (λ z. Call (WantAs c.args.session c.args.style c.args.senders.now c.args.flow c.args.confirm)) refl heard.Taken clock c.self.inside.settled
    (refused_call n clock (WantAs c.args.session c.args.style c.args.senders.now c.args.flow c.args.confirm) _ (c.in_err-put_wants.ensures.refused clock c.self.inside.said))

pub returns-in_err-put_wants-clause-sent : goal.returns-in_err-put_wants-clause-sent
returns-in_err-put_wants-clause-sent g c = λ clock.
    let n = state_of c.self.inside.tables c.self.inside.said in
    refused_sent n c.args.self.now c.self.view_is (λ z. Call (WantAs c.args.session c.args.style c.args.senders.now c.args.flow c.args.confirm)) refl heard.Taken clock c.self.inside.settled
    (refused_call n clock (WantAs c.args.session c.args.style c.args.senders.now c.args.flow c.args.confirm) _
    (c.in_err-put_wants.ensures.refused clock c.self.inside.said)) g.O.Outbox.posted c.args.out.now

pub returns-in_err-put_wants-clause-place : goal.returns-in_err-put_wants-clause-place
returns-in_err-put_wants-clause-place g c =
    ap (λ (z : State). z.place) (ap (λ (t : Tables). state_of t c.self.inside.said) c.in_err-put_wants.ensures.err ∙ c.self.view_is)

pub tell_sender-requires : goal.tell_sender-requires
tell_sender-requires g c =
    let n = state_of c.self.inside.tables c.self.inside.said in
    let w = state_of c.put_wants.new.tables c.self.inside.said in
    let k : SenderKey = (c.args.session, c.default-sender.result) in
    let p = here_plain k n w c.self.inside.settled
    (wants_changed c.self.inside.tables c.put_wants.new.tables c.put_wants.ensures.rest c.args.session c.put_wants.ensures.others c.default-sender.result c.self.inside.said)
    (ap (λ (t : Tables). t.senders.tspecs) c.put_wants.ensures.rest) (ap (λ (t : Tables). t.paths.facts) c.put_wants.ensures.rest) (ap (λ (t : Tables). t.due) c.put_wants.ensures.rest)
    (λ d. subst (λ (t : Tables). AreNamed (facts_of d (state_of t c.self.inside.said))) (sym c.put_wants.ensures.rest) (c.self.inside.settled.named d))
    (Call (WantAs c.args.session c.args.style c.args.senders.now c.args.flow c.args.confirm)) heard.Taken
    (λ d. ap (only_heard heard.Taken) (sym (c.put_wants.ensures.facts d c.self.inside.said))) in (
      n,
      is_before k n w p.ruled.change refl c.self.inside.told _ (λ clock. c.offered-before.ensures clock c.self.inside.said) c.hops-near.result
          (λ clock. c.hops-near.ensures ∙ hops_are clock n c.args.session),
    )

pub returns-clause-refused : goal.returns-clause-refused
returns-clause-refused g c = λ clock.
    let n = state_of c.self.inside.tables c.self.inside.said in
    ap (λ (z : State). refusal_of_call z.place (WantAs c.args.session c.args.style c.args.senders.now c.args.flow c.args.confirm) (facts_at clock z)) (sym c.self.view_is)
    ∙ refusal_is n clock (WantAs c.args.session c.args.style c.args.senders.now c.args.flow c.args.confirm) _ (c.in_ok-put_wants.ensures.refused clock c.self.inside.said)

pub returns-clause-facts : goal.returns-clause-facts
returns-clause-facts g c = λ clock.
    let n = state_of c.self.inside.tables c.self.inside.said in
    let w = state_of c.put_wants.new.tables c.self.inside.said in
    let k : SenderKey = (c.args.session, c.default-sender.result) in
    let p = here_plain k n w c.self.inside.settled
    (wants_changed c.self.inside.tables c.put_wants.new.tables c.put_wants.ensures.rest c.args.session c.put_wants.ensures.others c.default-sender.result c.self.inside.said)
    (ap (λ (t : Tables). t.senders.tspecs) c.put_wants.ensures.rest) (ap (λ (t : Tables). t.paths.facts) c.put_wants.ensures.rest) (ap (λ (t : Tables). t.due) c.put_wants.ensures.rest)
    (λ d. subst (λ (t : Tables). AreNamed (facts_of d (state_of t c.self.inside.said))) (sym c.put_wants.ensures.rest) (c.self.inside.settled.named d))
    (Call (WantAs c.args.session c.args.style c.args.senders.now c.args.flow c.args.confirm)) heard.Taken
    (λ d. ap (only_heard heard.Taken) (sym (c.put_wants.ensures.facts d c.self.inside.said))) in
    plain_facts n c.args.self.now c.self.view_is (λ z. Call (WantAs c.args.session c.args.style c.args.senders.now c.args.flow c.args.confirm)) refl heard.Taken clock k w p _
    (c.tell_sender.ensures.facts n clock (is_before k n w p.ruled.change refl c.self.inside.told _ (λ clock. c.offered-before.ensures clock c.self.inside.said) c.hops-near.result
    (λ clock. c.hops-near.ensures ∙ hops_are clock n c.args.session)))

pub returns-clause-sent : goal.returns-clause-sent
returns-clause-sent g c = λ clock.
    let n = state_of c.self.inside.tables c.self.inside.said in
    let w = state_of c.put_wants.new.tables c.self.inside.said in
    let k : SenderKey = (c.args.session, c.default-sender.result) in
    let p = here_plain k n w c.self.inside.settled
    (wants_changed c.self.inside.tables c.put_wants.new.tables c.put_wants.ensures.rest c.args.session c.put_wants.ensures.others c.default-sender.result c.self.inside.said)
    (ap (λ (t : Tables). t.senders.tspecs) c.put_wants.ensures.rest) (ap (λ (t : Tables). t.paths.facts) c.put_wants.ensures.rest) (ap (λ (t : Tables). t.due) c.put_wants.ensures.rest)
    (λ d. subst (λ (t : Tables). AreNamed (facts_of d (state_of t c.self.inside.said))) (sym c.put_wants.ensures.rest) (c.self.inside.settled.named d))
    (Call (WantAs c.args.session c.args.style c.args.senders.now c.args.flow c.args.confirm)) heard.Taken
    (λ d. ap (only_heard heard.Taken) (sym (c.put_wants.ensures.facts d c.self.inside.said))) in
    plain_sent n c.args.self.now c.self.view_is
    (λ z. Call (WantAs c.args.session c.args.style c.args.senders.now c.args.flow c.args.confirm)) refl heard.Taken clock k w p g.O.Outbox.posted _ c.args.out.now
    (c.tell_sender.ensures.sent n clock heard.Taken (is_before k n w p.ruled.change refl c.self.inside.told _ (λ clock. c.offered-before.ensures clock c.self.inside.said) c.hops-near.result
    (λ clock. c.hops-near.ensures ∙ hops_are clock n c.args.session)))

pub returns-clause-place : goal.returns-clause-place
returns-clause-place g c =
    let n = state_of c.self.inside.tables c.self.inside.said in
    let w = state_of c.put_wants.new.tables c.self.inside.said in
    let k : SenderKey = (c.args.session, c.default-sender.result) in
    let p = here_plain k n w c.self.inside.settled
    (wants_changed c.self.inside.tables c.put_wants.new.tables c.put_wants.ensures.rest c.args.session c.put_wants.ensures.others c.default-sender.result c.self.inside.said)
    (ap (λ (t : Tables). t.senders.tspecs) c.put_wants.ensures.rest) (ap (λ (t : Tables). t.paths.facts) c.put_wants.ensures.rest) (ap (λ (t : Tables). t.due) c.put_wants.ensures.rest)
    (λ d. subst (λ (t : Tables). AreNamed (facts_of d (state_of t c.self.inside.said))) (sym c.put_wants.ensures.rest) (c.self.inside.settled.named d))
    (Call (WantAs c.args.session c.args.style c.args.senders.now c.args.flow c.args.confirm)) heard.Taken
    (λ d. ap (only_heard heard.Taken) (sym (c.put_wants.ensures.facts d c.self.inside.said))) in
    wants_place c.put_wants.new.tables c.tell_sender.new.tables c.tell_sender.ensures.rest c.self.inside.said c.tell_sender.new.said ∙ sym p.ruled.change.place
    ∙ ap (λ (z : State). z.place) c.self.view_is

pub invariant_of-self-inside : goal.invariant_of-self-inside
invariant_of-self-inside g c =
    unchanged_node c.self.inside.tables c.put_wants.new.tables c.self.inside.said c.in_err-put_wants.ensures.err c.self.inside.sound c.self.inside.settled c.self.inside.told c.self.inside.place

pub invariant_of-self-inside-2 : goal.invariant_of-self-inside-2
invariant_of-self-inside-2 g c =
    let n = state_of c.self.inside.tables c.self.inside.said in
    let w = state_of c.put_wants.new.tables c.self.inside.said in
    let k : SenderKey = (c.args.session, c.default-sender.result) in
    let p = here_plain k n w c.self.inside.settled
    (wants_changed c.self.inside.tables c.put_wants.new.tables c.put_wants.ensures.rest c.args.session c.put_wants.ensures.others c.default-sender.result c.self.inside.said)
    (ap (λ (t : Tables). t.senders.tspecs) c.put_wants.ensures.rest) (ap (λ (t : Tables). t.paths.facts) c.put_wants.ensures.rest) (ap (λ (t : Tables). t.due) c.put_wants.ensures.rest)
    (λ d. subst (λ (t : Tables). AreNamed (facts_of d (state_of t c.self.inside.said))) (sym c.put_wants.ensures.rest) (c.self.inside.settled.named d))
    (Call (WantAs c.args.session c.args.style c.args.senders.now c.args.flow c.args.confirm)) heard.Taken
    (λ d. ap (only_heard heard.Taken) (sym (c.put_wants.ensures.facts d c.self.inside.said))) in
    let mid = c.put_wants.new.tables in
    let rest = c.tell_sender.ensures.rest in (
      wants_sound mid c.tell_sender.new.tables rest (wants_sound c.self.inside.tables mid c.put_wants.ensures.rest c.self.inside.sound),
      (
        wants_settled mid c.tell_sender.new.tables rest c.self.inside.said c.tell_sender.new.said p.ruled.kept,
        (c.tell_sender.ensures.said, (wants_of_place mid c.tell_sender.new.tables rest (wants_of_place c.self.inside.tables mid c.put_wants.ensures.rest c.self.inside.place), tt)),
      ),
    )

pub returns-in_err-put_wants-clause-kept : goal.returns-in_err-put_wants-clause-kept
returns-in_err-put_wants-clause-kept g c =
    on_err c.from_residual.result (ap (λ (t : Tables). state_of t c.self.inside.said) c.in_err-put_wants.ensures.err ∙ c.self.view_is)

pub returns-in_err-put_wants-clause-silent : goal.returns-in_err-put_wants-clause-silent
returns-in_err-put_wants-clause-silent g c =
    on_err c.from_residual.result refl
