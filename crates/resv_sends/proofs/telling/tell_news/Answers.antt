use Rattle.std.proofs.Common.{◌≡◌, false, fold, sym, ap, ◌∙◌, ◌&&◌, not}
use Rattle.std.specs.List.{filter_map, flat_map}
use Rattle.std.specs.Option.{option_map}
use Rattle.rsvp_base.specs.Sets.{Set}
use Rattle.rsvp_base.specs.Orders.{units}
use Rattle.rsvp_base.specs.Table.{changed, empty, get, has, keys}
use Rattle.router_rules.specs.Facts.{SenderKey, Wants}
use Rattle.router_rules.specs.NodeConfig.{is_session}
use Rattle.router_rules.specs.Requests.{toward}
use Rattle.router_rules.specs.Sends.{resv_send_to}
use Rattle.laws_sends.specs.State.{facts_of}
use Rattle.laws_sends.specs.Before.{lanes_by}
use Rattle.laws_sends.specs.Marks.{unmarked_in, used_in}
use Rattle.laws_sends.specs.SendsHere.{hops_in, lanes_at}
use Rattle.laws_sends.specs.Told.{offered, told_new}
use Rattle.laws_sends.proofs.Marks.{marks_do_not_matter}
use Rattle.laws_sends.proofs.Saying.{all_said, cleared_roomy}
use Rattle.path_sends.specs.Offering.{as_offer}
use Rattle.router_state.specs.Whole.{state_of}
use Rattle.router_state.specs.declared.tables.Tables.{Tables}
use Rattle.resv_sends.specs.Halves.{told_behind, used_where}
use Rattle.resv_sends.specs.Rounds.{told_by}
use Rattle.resv_sends.proofs.Sent.{hops_are, lanes_before, marks_are, resvs_are, two_sent}
use Rattle.resv_sends.proofs.telling.tell_news.Goals as goal

pub clear_lanes-requires : goal.clear_lanes-requires
clear_lanes-requires g c = λ l t e. let b = c.requires in b.1.said.some l t (sym (ap (λ z. get z l) b.1.same) ∙ e)

pub tell_lanes-requires-clause-near : goal.tell_lanes-requires-clause-near
tell_lanes-requires-clause-near g c = λ clock. c.hops-hops.ensures ∙ hops_are clock (state_of c.args.tables.now empty) c.args.session

pub tell_lanes-requires-clause-roomy : goal.tell_lanes-requires-clause-roomy
tell_lanes-requires-clause-roomy g c =
    let b = c.requires in
    let k : SenderKey = (c.args.session, c.args.prior.now.sender) in
    let m = state_of c.args.tables.now c.args.said.now in
    let roomy = cleared_roomy k b.0 m b.1.change b.1.same b.1.said (lanes_by (keys c.args.prior.now.near)) (lanes_before b.0 k c.args.prior.now.near b.1.hops) c.clear_lanes.new.said c.clear_lanes.ensures in
    record { some = roomy.some; within = roomy.within }

pub returns-clause-sent : goal.returns-clause-sent
returns-clause-sent g c = λ n clock a is b.
    let k : SenderKey = (c.args.session, c.args.prior.now.sender) in
    let m = state_of c.args.tables.now c.args.said.now in
    let before = option_map as_offer c.args.prior.now.offer in
    let after = c.offered-after.ensures clock c.args.said.now in
    let offer = b.offer clock in
    let f = facts_of clock n in
    let last = facts_of clock m in
    let new = c.tell_new.ensures ∙ (λ i. fold g.O.Outbox.posted c.args.out.now (told_new m.place k (offer i) (after i))) in
    let told =
    c.tell_lanes.ensures.sent clock c.args.said.now
    ∙ ap (λ w. fold g.O.Outbox.posted c.tell_new.new.out (flat_map (told_by clock m w false c.clear_lanes.new.said k.0) (lanes_by (keys c.hops-hops.result)))) (sym is)
    ∙ ap (fold g.O.Outbox.posted c.tell_new.new.out) (resvs_are k n m before c.args.prior.now.near b clock a c.hops-hops.result
    (c.hops-hops.ensures ∙ hops_are clock m c.args.session) c.clear_lanes.new.said c.clear_lanes.ensures) in
    two_sent g.O.Outbox.posted c.args.out.now _ _ (told_new m.place k (offered f k) (offered last k))
    (filter_map (resv_send_to m.place m.place f last empty a) (lanes_at k.0 (keys (hops_in last k.0)))) new told
    ∙ ap (λ p. fold g.O.Outbox.posted c.args.out.now (told_behind p k f last a)) (sym b.change.place)

pub returns-clause-facts : goal.returns-clause-facts
returns-clause-facts g c = λ n clock a is b.
    let k : SenderKey = (c.args.session, c.args.prior.now.sender) in
    let m = state_of c.args.tables.now c.args.said.now in
    let before = option_map as_offer c.args.prior.now.offer in
    let last = facts_of clock m in
    let used = c.used_for-used.ensures clock c.args.said.now in
    let marks : changed (unmarked_in k.0 c.used_for-used.result) last.wants ≡ _ =
    ap (λ (u : Set units). changed (unmarked_in k.0 u) last.wants) used
    ∙ ap (λ w. changed (unmarked_in k.0 (used_where w (used_in m.place last k.0 m.said (lanes_by (keys c.hops-hops.result))))) last.wants) (sym is)
    ∙ marks_are k n m before c.args.prior.now.near b clock a c.hops-hops.result (c.hops-hops.ensures ∙ hops_are clock m c.args.session) in
    ap (λ (t : Tables). facts_of clock (state_of t c.tell_lanes.new.said)) c.unmark.ensures ∙ (λ i. record last { wants = marks i })

pub returns-clause-said : goal.returns-clause-said
returns-clause-said g c =
    let b = c.requires in
    let k : SenderKey = (c.args.session, c.args.prior.now.sender) in
    let m = state_of c.args.tables.now c.args.said.now in
    let t = c.tell_lanes.ensures.told in
    let roomy = c.tell_lanes.ensures.roomy in
    let all =
    all_said k b.0 m b.1.change b.1.same b.1.said (lanes_by (keys c.args.prior.now.near)) (lanes_before b.0 k c.args.prior.now.near b.1.hops) c.clear_lanes.new.said c.clear_lanes.ensures
    (lanes_by (keys c.hops-hops.result)) (lanes_before m k c.hops-hops.result (λ clock. c.hops-hops.ensures ∙ hops_are clock m c.args.session)) c.tell_lanes.new.said t
    (record { some = roomy.some; within = roomy.within }) in
    record {
      at = λ clock l.
          all.at clock l ∙ sym (marks_do_not_matter (λ key w. w.confirm && not (is_session k.0 key.0 && has c.used_for-used.result key.1)) m.place (facts_of clock m) l)
          ∙ ap (λ (t : Tables). toward t.config (facts_of clock (state_of t c.tell_lanes.new.said)) l) (sym c.unmark.ensures);
      some = all.some;
    }

pub returns-clause-rest : goal.returns-clause-rest
returns-clause-rest g c = c.unmark.ensures ∙ ap (λ (w : Wants). record c.args.tables.now { wants = w }) (sym (ap (λ (t : Tables). t.wants) c.unmark.ensures))
