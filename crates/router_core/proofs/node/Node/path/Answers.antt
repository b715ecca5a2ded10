use Rattle.std.proofs.Common.{◌≡◌, ℕ, true, Some, fold, sym, ap, subst, ◌∙◌, refl}
use Rattle.std.specs.Option.{option_map}
use Rattle.path_state.specs.declared.fact.PathFact.{PathFact}
use Rattle.rsvp_base.specs.Table.{empty, get}
use Rattle.rsvp_base.proofs.Tables.{either}
use Rattle.rsvp_messages.specs.declared.message.Message.TheVariants as message
use Rattle.router_rules.specs.Facts.{SenderKey}
use Rattle.router_rules.specs.Inputs.{Spelt}
use Rattle.router_rules.specs.NodeConfig.{comes_in, lifetime}
use Rattle.router_rules.specs.Paths.{is_path_by}
use Rattle.router_rules.specs.Rule.{facts_after, heard_after, sent_after}
use Rattle.router_rules.specs.declared.answers.Heard.TheVariants as heard
use Rattle.router_state.specs.Changes.{path_came}
use Rattle.router_state.specs.State.{IsSaid, IsSettled, State, facts_at, facts_of}
use Rattle.router_state.specs.Whole.{state_of}
use Rattle.router_state.specs.declared.tables.Tables.{Tables}
use Rattle.router_arrivals.specs.Coming.{fact_of, with_path}
use Rattle.router_arrivals.proofs.Before.{settled_with}
use Rattle.router_arrivals.proofs.Ruled.{heard_is, refused_facts, refused_sent}
use Rattle.router_core.proofs.Again.{facts_again, heard_again, kept_again, none_told, place_again, said_by_hop}
use Rattle.router_core.proofs.Told.{paths_only, still_of_place, still_sound, tried}
use Rattle.router_core.proofs.node.Node.path.Goals as goal
use Rattle.router_core.proofs.node.Node.path.Goals.{After-repeat_path}

pub returns-in-Err-clause-facts : goal.returns-in-Err-clause-facts
returns-in-Err-clause-facts g c = λ clock.
    let n = state_of c.self.inside.tables c.self.inside.said in
    ap (facts_at clock) (sym c.self.view_is) ∙ refused_facts n c.args.self.now c.self.view_is (λ z. path_came c.args.iface c.args.message.now) refl
    (heard.Dropped c.in-Err.why) clock c.self.inside.settled (c.in-Err.ensures.err clock n refl)

pub returns-in-Err-clause-heard : goal.returns-in-Err-clause-heard
returns-in-Err-clause-heard g c = λ clock.
    let n = state_of c.self.inside.tables c.self.inside.said in
    heard_is n clock c.args.iface c.args.message.now.session.group (Spelt (message.Path c.args.message.now)) (facts_of clock n) (heard.Dropped c.in-Err.why) (c.in-Err.ensures.err clock n refl)
    ∙ ap (λ (z : State). heard_after z.place clock c.args.iface c.args.message.now.session.group (Spelt (message.Path c.args.message.now)) (facts_at clock z)) c.self.view_is

pub returns-in-Err-clause-sent : goal.returns-in-Err-clause-sent
returns-in-Err-clause-sent g c = λ clock.
    let n = state_of c.self.inside.tables c.self.inside.said in
    refused_sent n c.args.self.now c.self.view_is (λ z. path_came c.args.iface c.args.message.now) refl (heard.Dropped c.in-Err.why) clock c.self.inside.settled
    (c.in-Err.ensures.err clock n refl) g.O.Outbox.posted c.args.out.now

pub repeat_path-requires-clause-pulled : goal.repeat_path-requires-clause-pulled
repeat_path-requires-clause-pulled g c = c.self.inside.sound.pulled.paths

pub repeat_path-requires-clause-settled : goal.repeat_path-requires-clause-settled
repeat_path-requires-clause-settled g c = settled_with (state_of c.self.inside.tables c.self.inside.said) empty c.self.inside.settled

-- ---- what is said again
module _ (g : _) (c : After-repeat_path g) where
  abbrev n : State
  n = state_of c.self.inside.tables c.self.inside.said

  abbrev key : SenderKey
  key = (c.args.message.now.session, c.in-Ok.named.0)

  abbrev w : State
  w = state_of c.repeat_path.new.tables c.self.inside.said

  module _ (t : c.repeat_path.result ≡ true) where
    same : option_map (λ (e : PathFact × ℕ). e.0) (get n.paths key) ≡ Some (fact_of c.args.iface c.args.message.now c.in-Ok.named.0 c.in-Ok.named.1)
    same = c.repeat_path.ensures.stands.0 t

    by : (d : ℕ) → is_path_by (c.args.iface, c.args.message.now.hop.addr) (get (facts_of d n).paths key) ≡ true
    by = said_by_hop c.args.iface c.args.message.now c.in-Ok.named.0 c.in-Ok.named.1 n same

    now : w ≡ record (with_path n key (fact_of c.args.iface c.args.message.now c.in-Ok.named.0 c.in-Ok.named.1) (lifetime n.place c.args.message.now.period)) { said = c.self.inside.said }
    now = tried c.repeat_path.new.tables c.self.inside.said _ _ _ c.repeat_path.ensures.state t

pub returns-then-repeat_path-clause-facts : goal.returns-then-repeat_path-clause-facts
returns-then-repeat_path-clause-facts g c = λ clock.
    let d = (goal.at.returns-then-repeat_path-clause-facts g c).After-repeat_path in
    let t = c.if-repeat_path.true in
    facts_again (n g d) c.self.inside.said c.self.inside.settled c.self.inside.told c.args.iface c.args.message.now c.in-Ok.named.0 c.in-Ok.named.1 c.in-Ok.ensures.ok.0 c.in-Ok.ensures.ok.1 (by g d t)
    (w g d) (c.repeat_path.ensures.room t) (now g d t) c.args.self.now c.self.view_is clock

pub returns-then-repeat_path-clause-heard : goal.returns-then-repeat_path-clause-heard
returns-then-repeat_path-clause-heard g c = λ clock.
    let d = (goal.at.returns-then-repeat_path-clause-heard g c).After-repeat_path in
    let t = c.if-repeat_path.true in
    heard_again (n g d) c.self.inside.said c.self.inside.settled c.self.inside.told c.args.iface c.args.message.now c.in-Ok.named.0 c.in-Ok.named.1 c.in-Ok.ensures.ok.0 c.in-Ok.ensures.ok.1 (by g d t)
    (w g d) (c.repeat_path.ensures.room t) (now g d t) c.args.self.now c.self.view_is clock

pub returns-then-repeat_path-clause-sent : goal.returns-then-repeat_path-clause-sent
returns-then-repeat_path-clause-sent g c = λ clock.
    let d = (goal.at.returns-then-repeat_path-clause-sent g c).After-repeat_path in
    let t = c.if-repeat_path.true in
    none_told (n g d) c.self.inside.said c.self.inside.settled c.self.inside.told c.args.iface c.args.message.now c.in-Ok.named.0 c.in-Ok.named.1 c.in-Ok.ensures.ok.0 c.in-Ok.ensures.ok.1 (by g d t)
    (w g d) (c.repeat_path.ensures.room t) (now g d t) c.args.self.now c.self.view_is clock g.O.Outbox.posted c.args.out.now (same g d t)

pub returns-then-repeat_path-clause-place : goal.returns-then-repeat_path-clause-place
returns-then-repeat_path-clause-place g c =
    let d = (goal.at.returns-then-repeat_path-clause-place g c).After-repeat_path in
    let t = c.if-repeat_path.true in
    place_again (n g d) c.self.inside.said c.self.inside.settled c.self.inside.told c.args.iface c.args.message.now c.in-Ok.named.0 c.in-Ok.named.1 c.in-Ok.ensures.ok.0 c.in-Ok.ensures.ok.1 (by g d t)
    (w g d) (c.repeat_path.ensures.room t) (now g d t) c.args.self.now c.self.view_is 0

-- ---- anything else leaves the tables as they are
pub invariant_of-self-inside : goal.invariant_of-self-inside
invariant_of-self-inside g c =
    let t = c.self.inside.tables in
    let said = c.self.inside.said in
    let m = c.args.message.now in
    let both : IsSettled (w g c) × IsSaid said (w g c) =
    either c.repeat_path.result
    (λ yes. kept_again (n g c) said c.self.inside.settled c.self.inside.told c.args.iface m c.in-Ok.named.0 c.in-Ok.named.1 c.in-Ok.ensures.ok.0 c.in-Ok.ensures.ok.1 (by g c yes)
    (w g c) (c.repeat_path.ensures.room yes) (now g c yes))
    (λ no. let was = sym (c.repeat_path.ensures.unchanged no) in
    (subst (λ (z : Tables). IsSettled (state_of z said)) was c.self.inside.settled, subst (λ (z : Tables). IsSaid said (state_of z said)) was c.self.inside.told)) in
    let rest = paths_only t c.repeat_path.new.tables c.repeat_path.ensures.rest in
    (still_sound t c.repeat_path.new.tables rest c.repeat_path.ensures.pulled c.self.inside.sound, (both.0, (both.1, (still_of_place t c.repeat_path.new.tables rest c.self.inside.place, tt))))

pub take_path-requires-clause-inward : goal.take_path-requires-clause-inward
take_path-requires-clause-inward g c =
    ap (λ (t : Tables). comes_in t.config c.args.message.now.session c.args.iface c.in-Ok.named.0) (c.repeat_path.ensures.unchanged c.if-repeat_path.false) ∙ c.in-Ok.ensures.ok.1

pub returns-clause-facts : goal.returns-clause-facts
returns-clause-facts g c = λ clock.
    c.take_path.ensures.facts clock ∙ ap (λ (z : State). facts_after z.place z.place clock (path_came c.args.iface c.args.message.now) (facts_at clock z))
    (ap (λ (t : Tables). state_of t c.self.inside.said) (c.repeat_path.ensures.unchanged c.if-repeat_path.false) ∙ c.self.view_is)

pub returns-clause-heard : goal.returns-clause-heard
returns-clause-heard g c = λ clock.
    c.take_path.ensures.heard clock
    ∙ ap (λ (z : State). heard_after z.place clock c.args.iface c.args.message.now.session.group (Spelt (message.Path c.args.message.now)) (facts_at clock z))
    (ap (λ (t : Tables). state_of t c.self.inside.said) (c.repeat_path.ensures.unchanged c.if-repeat_path.false) ∙ c.self.view_is)

pub returns-clause-sent : goal.returns-clause-sent
returns-clause-sent g c = λ clock.
    c.take_path.ensures.sent clock
    ∙ ap (λ (z : State). fold g.O.Outbox.posted c.args.out.now (sent_after z.place z.place clock (path_came c.args.iface c.args.message.now) (facts_at clock z)))
    (ap (λ (t : Tables). state_of t c.self.inside.said) (c.repeat_path.ensures.unchanged c.if-repeat_path.false) ∙ c.self.view_is)

pub returns-clause-place : goal.returns-clause-place
returns-clause-place g c =
    c.take_path.ensures.place
    ∙ ap (λ (z : State). z.place) (ap (λ (t : Tables). state_of t c.self.inside.said) (c.repeat_path.ensures.unchanged c.if-repeat_path.false) ∙ c.self.view_is)
