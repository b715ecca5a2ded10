use Rattle.std.proofs.Common.{◌<◌, ◌++◌, fold, length, sym, ap, subst, ◌∙◌, refl}
use Rattle.rsvp_messages.specs.declared.message.Message.TheVariants as message
use Rattle.router_rules.specs.Asking.{act_resv, asked_of, asker_of}
use Rattle.router_rules.specs.Facts.{SenderKey}
use Rattle.router_rules.specs.Inputs.{Change, Spelt}
use Rattle.router_rules.specs.NodeConfig.{own}
use Rattle.router_rules.specs.Rule.{heard_after}
use Rattle.router_rules.specs.Requests.{toward}
use Rattle.router_rules.specs.Sends.{conf_sends, error_sends, sends}
use Rattle.router_rules.specs.declared.answers.Heard.TheVariants as heard
use Rattle.router_state.specs.State.{AreNamed, State, facts_at, facts_of}
use Rattle.router_state.specs.Whole.{state_of}
use Rattle.router_state.specs.declared.tables.Tables.{Tables}
use Rattle.laws_sends.specs.Told.{offered}
use Rattle.laws_sends.proofs.Apart.{changed_at}
use Rattle.router_arrivals.specs.Taken.{IsAnswer}
use Rattle.router_arrivals.specs.Arriving.{to_node}
use Rattle.router_arrivals.proofs.Here.{here_ruled}
use Rattle.router_arrivals.proofs.Reserving.{take_named, takes}
use Rattle.router_arrivals.proofs.Ruled.{heard_by, told_facts, told_sent}
use Rattle.router_core.specs.Confirming.{confirmed_here}
use Rattle.router_core.proofs.Quiet.{marks_wait, quiet_answer}
use Rattle.router_core.proofs.WithParts.{any_sender, resv_before, standing_toward}
use Rattle.router_core.proofs.Told.{wants_of_place, wants_place, wants_settled, wants_sound}
use Rattle.router_core.proofs.node.Node.resv.Goals as goal

pub take_resvs-requires : goal.take_resvs-requires
take_resvs-requires g c =
    let ifaces = c.self.inside.place ∙ ap (λ (z : State). z.place.ifaces) c.self.view_is in
    record { sound = c.self.inside.sound; place = c.self.inside.place; exists = subst (λ xs. c.args.iface < length xs) (sym ifaces) c.requires }

-- ---- nothing is news
pub invariant_of-self-inside : goal.invariant_of-self-inside
invariant_of-self-inside g c =
    let n = state_of c.self.inside.tables c.self.inside.said in
    let w = state_of c.take_resvs.new.tables c.self.inside.said in
    let k : SenderKey = (c.args.message.now.session, any_sender) in
    let r = here_ruled k n w c.self.inside.settled (c.take_resvs.ensures.change c.self.inside.said any_sender) (ap (λ (t : Tables). t.senders.tspecs) c.take_resvs.ensures.rest)
    (ap (λ (t : Tables). t.paths.facts) c.take_resvs.ensures.rest) (ap (λ (t : Tables). t.due) c.take_resvs.ensures.rest)
    (λ d. subst AreNamed (sym (c.take_resvs.ensures.facts d c.self.inside.said)) (take_named n.place d c.args.iface c.args.message.now (facts_of d n) (c.self.inside.settled.named d)))
    (to_node n.place c.args.iface (message.Resv c.args.message.now)) (λ d. c.take_resvs.ensures.facts d c.self.inside.said
    ∙ ap (λ (x : Change). x.facts) (sym (takes n.place d c.args.iface c.args.message.now (facts_of d n)))) in
    let rest = c.take_resvs.ensures.rest in
    let same = standing_toward c.self.inside.tables c.take_resvs.new.tables rest c.self.inside.said (c.take_resvs.ensures.quiet c.if-not-news.true) in (
      c.take_resvs.ensures.sound,
      (
        r.kept,
        (
          record { at = λ d l. c.self.inside.told.at d l ∙ same d n.place l ∙ ap (λ p. toward p (facts_of d w) l) r.change.place; some = c.self.inside.told.some },
          (c.take_resvs.ensures.ifaces ∙ c.self.inside.place ∙ ap (λ (t : Tables). t.config.ifaces) (sym rest), tt),
        ),
      ),
    )

pub returns-then-not-news-clause-facts : goal.returns-then-not-news-clause-facts
returns-then-not-news-clause-facts g c = λ clock.
    let n = state_of c.self.inside.tables c.self.inside.said in
    let w = state_of c.take_resvs.new.tables c.self.inside.said in
    let k : SenderKey = (c.args.message.now.session, any_sender) in
    let r = here_ruled k n w c.self.inside.settled (c.take_resvs.ensures.change c.self.inside.said any_sender) (ap (λ (t : Tables). t.senders.tspecs) c.take_resvs.ensures.rest)
    (ap (λ (t : Tables). t.paths.facts) c.take_resvs.ensures.rest) (ap (λ (t : Tables). t.due) c.take_resvs.ensures.rest)
    (λ d. subst AreNamed (sym (c.take_resvs.ensures.facts d c.self.inside.said)) (take_named n.place d c.args.iface c.args.message.now (facts_of d n) (c.self.inside.settled.named d)))
    (to_node n.place c.args.iface (message.Resv c.args.message.now)) (λ d. c.take_resvs.ensures.facts d c.self.inside.said
    ∙ ap (λ (x : Change). x.facts) (sym (takes n.place d c.args.iface c.args.message.now (facts_of d n)))) in
    let rest = c.take_resvs.ensures.rest in
    let same = standing_toward c.self.inside.tables c.take_resvs.new.tables rest c.self.inside.said (c.take_resvs.ensures.quiet c.if-not-news.true) in
    let asked = asked_of (asker_of n.place clock c.args.iface c.args.message.now) c.take_resvs.new.answer.taken c.args.message.now.confirm in
    told_facts n c.args.self.now c.self.view_is (λ z. to_node z c.args.iface (message.Resv c.args.message.now)) refl heard.Taken clock k w r asked
    (ap (λ (x : Change). x.asked) (takes n.place clock c.args.iface c.args.message.now (facts_of clock n)) ∙ (c.take_resvs.ensures.answer clock c.self.inside.said).asked) w
    (sym (marks_wait n.place (facts_of clock n) (facts_of clock w) (same clock n.place) asked))

pub returns-then-not-news-clause-heard : goal.returns-then-not-news-clause-heard
returns-then-not-news-clause-heard g c = λ clock.
    let n = state_of c.self.inside.tables c.self.inside.said in
    heard_by n clock c.args.iface (own n.place c.args.iface) (Spelt (message.Resv c.args.message.now)) _
    (ap (λ (x : Change). x.heard) (takes n.place clock c.args.iface c.args.message.now (facts_of clock n)) ∙ (c.take_resvs.ensures.answer clock c.self.inside.said).heard)
    ∙ ap (λ (z : State). heard_after z.place clock c.args.iface (own z.place c.args.iface) (Spelt (message.Resv c.args.message.now)) (facts_at clock z)) c.self.view_is

pub returns-then-not-news-clause-sent : goal.returns-then-not-news-clause-sent
returns-then-not-news-clause-sent g c = λ clock.
    let n = state_of c.self.inside.tables c.self.inside.said in
    let w = state_of c.take_resvs.new.tables c.self.inside.said in
    let k : SenderKey = (c.args.message.now.session, any_sender) in
    let r = here_ruled k n w c.self.inside.settled (c.take_resvs.ensures.change c.self.inside.said any_sender) (ap (λ (t : Tables). t.senders.tspecs) c.take_resvs.ensures.rest)
    (ap (λ (t : Tables). t.paths.facts) c.take_resvs.ensures.rest) (ap (λ (t : Tables). t.due) c.take_resvs.ensures.rest)
    (λ d. subst AreNamed (sym (c.take_resvs.ensures.facts d c.self.inside.said)) (take_named n.place d c.args.iface c.args.message.now (facts_of d n) (c.self.inside.settled.named d)))
    (to_node n.place c.args.iface (message.Resv c.args.message.now)) (λ d. c.take_resvs.ensures.facts d c.self.inside.said
    ∙ ap (λ (x : Change). x.facts) (sym (takes n.place d c.args.iface c.args.message.now (facts_of d n)))) in
    let rest = c.take_resvs.ensures.rest in
    let same = standing_toward c.self.inside.tables c.take_resvs.new.tables rest c.self.inside.said (c.take_resvs.ensures.quiet c.if-not-news.true) in
    let m = c.args.message.now in
    let posted = g.O.Outbox.posted in
    let ch = act_resv n.place clock c.args.iface m (facts_of clock n) in
    let place = ap (λ (t : Tables). t.config) rest in
    let told = c.tell_answer.ensures clock ch (subst (λ q. IsAnswer q (asker_of q clock c.args.iface m) c.take_resvs.new.answer ch) (sym place)
    (c.take_resvs.ensures.answer clock c.self.inside.said)) in
    let quiet = quiet_answer n.place (facts_of clock n) (facts_of clock w) (same clock n.place) k (changed_at k n w r.change clock n.place)
    (sym (ap (λ (t : Tables). offered (facts_of clock (state_of t c.self.inside.said)) k) rest)) ch refl refl in
    told_sent n c.args.self.now c.self.view_is (λ z. to_node z c.args.iface (message.Resv m)) refl heard.Taken clock k w r posted _ c.args.out.now
    (told ∙ ap (λ q. fold posted c.args.out.now (error_sends ch.errors ++ conf_sends (confirmed_here q ch.asked))) place ∙ ap (fold posted c.args.out.now) (sym quiet)
    ∙ ap (λ x. fold posted c.args.out.now (sends n.place n.place (facts_of clock n) (facts_of clock w) x)) (sym (takes n.place clock c.args.iface m (facts_of clock n))))

-- ---- something is
pub tell_resv-requires : goal.tell_resv-requires
tell_resv-requires g c =
    let n = state_of c.self.inside.tables c.self.inside.said in
    let w = state_of c.take_resvs.new.tables c.self.inside.said in
    let k : SenderKey = (c.args.message.now.session, c.default-sender.result) in
    let r = here_ruled k n w c.self.inside.settled (c.take_resvs.ensures.change c.self.inside.said c.default-sender.result) (ap (λ (t : Tables). t.senders.tspecs) c.take_resvs.ensures.rest)
    (ap (λ (t : Tables). t.paths.facts) c.take_resvs.ensures.rest) (ap (λ (t : Tables). t.due) c.take_resvs.ensures.rest)
    (λ d. subst AreNamed (sym (c.take_resvs.ensures.facts d c.self.inside.said)) (take_named n.place d c.args.iface c.args.message.now (facts_of d n) (c.self.inside.settled.named d)))
    (to_node n.place c.args.iface (message.Resv c.args.message.now)) (λ d. c.take_resvs.ensures.facts d c.self.inside.said
    ∙ ap (λ (x : Change). x.facts) (sym (takes n.place d c.args.iface c.args.message.now (facts_of d n)))) in
    let before = resv_before c.self.inside.tables c.take_resvs.new.tables c.take_resvs.ensures.rest c.self.inside.said k.1 c.args.message.now.session r.change c.self.inside.told _
    (λ clock. c.offered-before.ensures clock c.self.inside.said) c.hops-near.result c.hops-near.ensures in
    (n, before)

pub returns-clause-facts : goal.returns-clause-facts
returns-clause-facts g c = λ clock.
    let n = state_of c.self.inside.tables c.self.inside.said in
    let w = state_of c.take_resvs.new.tables c.self.inside.said in
    let k : SenderKey = (c.args.message.now.session, c.default-sender.result) in
    let r = here_ruled k n w c.self.inside.settled (c.take_resvs.ensures.change c.self.inside.said c.default-sender.result) (ap (λ (t : Tables). t.senders.tspecs) c.take_resvs.ensures.rest)
    (ap (λ (t : Tables). t.paths.facts) c.take_resvs.ensures.rest) (ap (λ (t : Tables). t.due) c.take_resvs.ensures.rest)
    (λ d. subst AreNamed (sym (c.take_resvs.ensures.facts d c.self.inside.said)) (take_named n.place d c.args.iface c.args.message.now (facts_of d n) (c.self.inside.settled.named d)))
    (to_node n.place c.args.iface (message.Resv c.args.message.now)) (λ d. c.take_resvs.ensures.facts d c.self.inside.said
    ∙ ap (λ (x : Change). x.facts) (sym (takes n.place d c.args.iface c.args.message.now (facts_of d n)))) in
    let before = resv_before c.self.inside.tables c.take_resvs.new.tables c.take_resvs.ensures.rest c.self.inside.said k.1 c.args.message.now.session r.change c.self.inside.told _
    (λ clock. c.offered-before.ensures clock c.self.inside.said) c.hops-near.result c.hops-near.ensures in
    told_facts n c.args.self.now c.self.view_is (λ z. to_node z c.args.iface (message.Resv c.args.message.now)) refl heard.Taken clock k w r
    (asked_of (asker_of n.place clock c.args.iface c.args.message.now) c.take_resvs.new.answer.taken c.args.message.now.confirm)
    (ap (λ (x : Change). x.asked) (takes n.place clock c.args.iface c.args.message.now (facts_of clock n)) ∙ (c.take_resvs.ensures.answer clock c.self.inside.said).asked) _
    (c.tell_resv.ensures.facts n clock before)

pub returns-clause-heard : goal.returns-clause-heard
returns-clause-heard g c = λ clock.
    let n = state_of c.self.inside.tables c.self.inside.said in
    heard_by n clock c.args.iface (own n.place c.args.iface) (Spelt (message.Resv c.args.message.now)) _
    (ap (λ (x : Change). x.heard) (takes n.place clock c.args.iface c.args.message.now (facts_of clock n)) ∙ (c.take_resvs.ensures.answer clock c.self.inside.said).heard)
    ∙ ap (λ (z : State). heard_after z.place clock c.args.iface (own z.place c.args.iface) (Spelt (message.Resv c.args.message.now)) (facts_at clock z)) c.self.view_is

pub returns-clause-sent : goal.returns-clause-sent
returns-clause-sent g c = λ clock.
    let n = state_of c.self.inside.tables c.self.inside.said in
    let w = state_of c.take_resvs.new.tables c.self.inside.said in
    let k : SenderKey = (c.args.message.now.session, c.default-sender.result) in
    let r = here_ruled k n w c.self.inside.settled (c.take_resvs.ensures.change c.self.inside.said c.default-sender.result) (ap (λ (t : Tables). t.senders.tspecs) c.take_resvs.ensures.rest)
    (ap (λ (t : Tables). t.paths.facts) c.take_resvs.ensures.rest) (ap (λ (t : Tables). t.due) c.take_resvs.ensures.rest)
    (λ d. subst AreNamed (sym (c.take_resvs.ensures.facts d c.self.inside.said)) (take_named n.place d c.args.iface c.args.message.now (facts_of d n) (c.self.inside.settled.named d)))
    (to_node n.place c.args.iface (message.Resv c.args.message.now)) (λ d. c.take_resvs.ensures.facts d c.self.inside.said
    ∙ ap (λ (x : Change). x.facts) (sym (takes n.place d c.args.iface c.args.message.now (facts_of d n)))) in
    let before = resv_before c.self.inside.tables c.take_resvs.new.tables c.take_resvs.ensures.rest c.self.inside.said k.1 c.args.message.now.session r.change c.self.inside.told _
    (λ clock. c.offered-before.ensures clock c.self.inside.said) c.hops-near.result c.hops-near.ensures in
    told_sent n c.args.self.now c.self.view_is (λ z. to_node z c.args.iface (message.Resv c.args.message.now)) refl heard.Taken clock k w r g.O.Outbox.posted _ c.args.out.now
    (c.tell_resv.ensures.sent n clock (act_resv n.place clock c.args.iface c.args.message.now (facts_of clock n)) before (c.take_resvs.ensures.answer clock c.self.inside.said) refl refl
    ∙ ap (λ x. fold g.O.Outbox.posted c.args.out.now (sends n.place n.place (facts_of clock n) (facts_of clock w) x)) (sym (takes n.place clock c.args.iface c.args.message.now (facts_of clock n))))

pub returns-clause-place : goal.returns-clause-place
returns-clause-place g c =
    let n = state_of c.self.inside.tables c.self.inside.said in
    let w = state_of c.take_resvs.new.tables c.self.inside.said in
    let k : SenderKey = (c.args.message.now.session, c.default-sender.result) in
    let r = here_ruled k n w c.self.inside.settled (c.take_resvs.ensures.change c.self.inside.said c.default-sender.result) (ap (λ (t : Tables). t.senders.tspecs) c.take_resvs.ensures.rest)
    (ap (λ (t : Tables). t.paths.facts) c.take_resvs.ensures.rest) (ap (λ (t : Tables). t.due) c.take_resvs.ensures.rest)
    (λ d. subst AreNamed (sym (c.take_resvs.ensures.facts d c.self.inside.said)) (take_named n.place d c.args.iface c.args.message.now (facts_of d n) (c.self.inside.settled.named d)))
    (to_node n.place c.args.iface (message.Resv c.args.message.now)) (λ d. c.take_resvs.ensures.facts d c.self.inside.said
    ∙ ap (λ (x : Change). x.facts) (sym (takes n.place d c.args.iface c.args.message.now (facts_of d n)))) in
    wants_place c.take_resvs.new.tables c.tell_resv.new.tables c.tell_resv.ensures.rest c.self.inside.said c.tell_resv.new.said ∙ sym r.change.place ∙ ap (λ (z : State). z.place) c.self.view_is

pub invariant_of-self-inside-2 : goal.invariant_of-self-inside-2
invariant_of-self-inside-2 g c =
    let n = state_of c.self.inside.tables c.self.inside.said in
    let w = state_of c.take_resvs.new.tables c.self.inside.said in
    let k : SenderKey = (c.args.message.now.session, c.default-sender.result) in
    let r = here_ruled k n w c.self.inside.settled (c.take_resvs.ensures.change c.self.inside.said c.default-sender.result) (ap (λ (t : Tables). t.senders.tspecs) c.take_resvs.ensures.rest)
    (ap (λ (t : Tables). t.paths.facts) c.take_resvs.ensures.rest) (ap (λ (t : Tables). t.due) c.take_resvs.ensures.rest)
    (λ d. subst AreNamed (sym (c.take_resvs.ensures.facts d c.self.inside.said)) (take_named n.place d c.args.iface c.args.message.now (facts_of d n) (c.self.inside.settled.named d)))
    (to_node n.place c.args.iface (message.Resv c.args.message.now)) (λ d. c.take_resvs.ensures.facts d c.self.inside.said
    ∙ ap (λ (x : Change). x.facts) (sym (takes n.place d c.args.iface c.args.message.now (facts_of d n)))) in
    let mid = c.take_resvs.new.tables in
    let rest = c.tell_resv.ensures.rest in (
      wants_sound mid c.tell_resv.new.tables rest (c.take_resvs.ensures.sound),
      (
        wants_settled mid c.tell_resv.new.tables rest c.self.inside.said c.tell_resv.new.said r.kept,
        (
          c.tell_resv.ensures.said,
          (
            wants_of_place mid c.tell_resv.new.tables rest (c.take_resvs.ensures.ifaces ∙ c.self.inside.place
                ∙ ap (λ (t : Tables). t.config.ifaces) (sym c.take_resvs.ensures.rest)),
            tt,
          ),
        ),
      ),
    )
