use Rattle.std.proofs.Common.{◌≡◌, ℕ, true, Some, fold, sym, ap, subst, ◌∙◌}
use Rattle.std.specs.Option.{option_map}
use Rattle.path_state.specs.declared.fact.PathFact.{PathFact}
use Rattle.rsvp_base.specs.Table.{empty, get, has}
use Rattle.rsvp_messages.specs.declared.message.Message.TheVariants as message
use Rattle.router_rules.specs.Facts.{SenderKey}
use Rattle.router_rules.specs.NodeConfig.{comes_in, lifetime}
use Rattle.router_rules.specs.Paths.{is_path_by}
use Rattle.router_state.specs.State.{State, facts_of}
use Rattle.laws_sends.specs.Told.{told_new}
use Rattle.router_state.specs.Whole.{state_of}
use Rattle.router_arrivals.specs.Coming.{fact_of, with_path}
use Rattle.router_arrivals.proofs.Before.{settled_with}
use Rattle.router_arrivals.proofs.Offering.{came_there}
use Rattle.path_sends.specs.Renewing.{AreNews, offer_by, own_of}
use Rattle.router_core.proofs.Again.{facts_again, heard_again, kept_again, place_again, renewal_told, told_again}
use Rattle.router_core.proofs.Told.{paths_only, still_of_place, still_sound}
use Rattle.router_core.proofs.node.Node.renew_path.Goals as goal
use Rattle.router_core.proofs.node.Node.renew_path.Goals.{After-renew_path}

pub renew_path-requires-clause-pulled : goal.renew_path-requires-clause-pulled
renew_path-requires-clause-pulled g c =
    c.self.inside.sound.pulled.paths

pub renew_path-requires-clause-settled : goal.renew_path-requires-clause-settled
renew_path-requires-clause-settled g c =
    settled_with (state_of c.self.inside.tables c.self.inside.said) empty c.self.inside.settled

-- the path comes, and takes the place of one from the same hop
module _ (g : _) (c : After-renew_path g) where
  abbrev n : State
  n = state_of c.self.inside.tables c.self.inside.said

  abbrev key : SenderKey
  key = (c.args.message.now.session, c.args.sender)

  abbrev w : State
  w = state_of c.renew_path.new.tables c.self.inside.said

  on : comes_in n.place c.args.message.now.session c.args.iface c.args.sender ≡ true
  on = ap (λ (z : State). comes_in z.place c.args.message.now.session c.args.iface c.args.sender) c.self.view_is ∙ c.requires.inward

  by : (d : ℕ) → is_path_by (c.args.iface, c.args.message.now.hop.addr) (get (facts_of d n).paths key) ≡ true
  by d = ap (λ (z : State). is_path_by (c.args.iface, c.args.message.now.hop.addr) (get (facts_of d z).paths key)) c.self.view_is ∙ c.requires.stands d

  now : w ≡ record (with_path n key (fact_of c.args.iface c.args.message.now c.args.sender c.args.tspec) (lifetime n.place c.args.message.now.period)) { said = c.self.inside.said }
  now = ap (λ (z : State). record z { said = c.self.inside.said }) c.renew_path.ensures.state

  news : (f : PathFact) → option_map (λ (e : PathFact × ℕ). e.0) (get n.paths key) ≡ Some f
      → AreNews c.args.renewal.now (offer_by (own_of (has n.advertised key) (get n.senders key)) f.tspec f.adspec)
      (offer_by (own_of (has n.advertised key) (get n.senders key)) c.args.tspec c.args.message.now.adspec)
  news f is =
      subst (λ (z : State). AreNews c.args.renewal.now (offer_by (own_of (has z.advertised key) (get z.senders key)) f.tspec f.adspec)
      (offer_by (own_of (has z.advertised key) (get z.senders key)) c.args.tspec c.args.message.now.adspec)) (sym c.self.view_is)
      (c.requires.news f (sym (ap (λ (z : State). option_map (λ (e : PathFact × ℕ). e.0) (get z.paths key)) c.self.view_is) ∙ is))

pub returns-clause-facts : goal.returns-clause-facts
returns-clause-facts g c = λ clock.
    let d = (goal.at.returns-clause-facts g c).After-renew_path in
    facts_again (n g d) c.self.inside.said c.self.inside.settled c.self.inside.told c.args.iface c.args.message.now c.args.sender c.args.tspec c.requires.sender (on g d) (by g d)
    (w g d) c.renew_path.ensures.room (now g d) c.args.self.now c.self.view_is clock

pub returns-clause-heard : goal.returns-clause-heard
returns-clause-heard g c = λ clock.
    let d = (goal.at.returns-clause-heard g c).After-renew_path in
    heard_again (n g d) c.self.inside.said c.self.inside.settled c.self.inside.told c.args.iface c.args.message.now c.args.sender c.args.tspec c.requires.sender (on g d) (by g d)
    (w g d) c.renew_path.ensures.room (now g d) c.args.self.now c.self.view_is clock

pub returns-clause-sent : goal.returns-clause-sent
returns-clause-sent g c = λ clock.
    let d = (goal.at.returns-clause-sent g c).After-renew_path in
    let r = renewal_told (n g d) (w g d) (key g d) (fact_of c.args.iface c.args.message.now c.args.sender c.args.tspec) (lifetime (n g d).place c.args.message.now.period) c.self.inside.said (now g d)
    (by g d) c.args.renewal.now (news g d) clock in
    told_again (n g d) c.self.inside.said c.self.inside.settled c.self.inside.told c.args.iface c.args.message.now c.args.sender c.args.tspec c.requires.sender (on g d) (by g d)
    (w g d) c.renew_path.ensures.room (now g d) c.args.self.now c.self.view_is clock g.O.Outbox.posted _ c.args.out.now
    (c.tell_renewal.ensures r.0 r.1 r.2 ∙ (λ i. fold g.O.Outbox.posted c.args.out.now (told_new (ap (λ (z : State). z.place) (now g d) i) (key g d) (r.3 i) (r.4 i))))

pub returns-clause-place : goal.returns-clause-place
returns-clause-place g c =
    let d = (goal.at.returns-clause-place g c).After-renew_path in
    place_again (n g d) c.self.inside.said c.self.inside.settled c.self.inside.told c.args.iface c.args.message.now c.args.sender c.args.tspec c.requires.sender (on g d) (by g d)
    (w g d) c.renew_path.ensures.room (now g d) c.args.self.now c.self.view_is 0

pub invariant_of-self-inside : goal.invariant_of-self-inside
invariant_of-self-inside g c =
    let t = c.self.inside.tables in
    let said = c.self.inside.said in
    let both = kept_again (n g c) said c.self.inside.settled c.self.inside.told c.args.iface c.args.message.now c.args.sender c.args.tspec c.requires.sender (on g c) (by g c)
    (w g c) c.renew_path.ensures.room (now g c) in
    let rest = paths_only t c.renew_path.new.tables c.renew_path.ensures.rest in
    (still_sound t c.renew_path.new.tables rest c.renew_path.ensures.pulled c.self.inside.sound, (both.0, (both.1, (still_of_place t c.renew_path.new.tables rest c.self.inside.place, tt))))

pub renew_path-requires-clause-stands : goal.renew_path-requires-clause-stands
renew_path-requires-clause-stands g c =
    let m = c.args.message.now in
    came_there 0 (state_of c.self.inside.tables c.self.inside.said) (m.session, c.args.sender) (c.args.iface, m.hop.addr)
    (ap (λ (z : State). is_path_by (c.args.iface, m.hop.addr) (get (facts_of 0 z).paths (m.session, c.args.sender))) c.self.view_is ∙ c.requires.stands 0)
