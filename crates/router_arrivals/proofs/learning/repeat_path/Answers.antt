use Rattle.std.proofs.Common.{◌≡◌, ℕ, rules, true, false, Some, cond, is_some, refl, sym, ap, ◌∙◌}
use Rattle.std.proofs.lemmas.Bool.{false≢true}
use Rattle.std.specs.Option.{option_map}
use Rattle.path_state.specs.declared.fact.PathFact.{PathFact}
use Rattle.rsvp_base.specs.Orders.{senders}
use Rattle.rsvp_base.specs.Table.{empty, get, put_in}
use Rattle.rsvp_base.proofs.SessionCounts.{room_over}
use Rattle.rsvp_base.proofs.Tables.{either}
use Rattle.router_rules.specs.Facts.{SenderKey}
use Rattle.router_rules.specs.NodeConfig.{lifetime}
use Rattle.router_state.specs.State.{State}
use Rattle.router_state.specs.Whole.{state_of}
use Rattle.router_arrivals.specs.Coming.{fact_of, is_said_again, with_path}
use Rattle.router_arrivals.proofs.Repeating.{again_tested, again_told, kept_anew, with_left}
use Rattle.router_arrivals.proofs.learning.repeat_path.Goals as goal
use Rattle.router_arrivals.proofs.learning.repeat_path.Goals.{After-renew_if}

module _ (c : After-renew_if) where
  abbrev key : SenderKey
  key = (c.args.message.now.session, c.args.sender)

  abbrev said : PathFact
  said = fact_of c.args.iface c.args.message.now c.args.sender c.args.tspec

  abbrev left : ℕ
  left = lifetime c.args.tables.now.config c.args.message.now.period

  -- the one that passed the test is what is said
  passed : (t : c.renew_if.result ≡ true) → is_said_again c.args.iface c.args.message.now c.args.tspec (c.renew_if.ensures.renewed t).0 ≡ true
  passed t = let post = (c.renew_if.ensures.renewed t).3 in search rules

  is_said : (t : c.renew_if.result ≡ true) → (c.renew_if.ensures.renewed t).0 ≡ said
  is_said t =
      let r = c.renew_if.ensures.renewed t in
      let own = c.limits.ensures.keyed key (r.0, r.1) r.2 in
      again_told c.args.iface c.args.message.now c.args.tspec r.0 (passed t) (ap (λ (k : SenderKey). k.0) own)
      ∙ ap (λ (k : SenderKey). fact_of c.args.iface c.args.message.now k.1 c.args.tspec) own

  -- and what is said passes it
  not_passed : c.renew_if.result ≡ false → option_map (λ (e : PathFact × ℕ). e.0) (get c.args.tables.now.paths.facts key) ≡ Some said → ⊥
  not_passed f is =
      let at = with_left (get c.args.tables.now.paths.facts key) said is in
      let post = c.renew_if.ensures.other f said at.0 at.1 in
      let other : is_said_again c.args.iface c.args.message.now c.args.tspec said ≡ false = search rules in
      false≢true (sym other ∙ again_tested c.args.iface c.args.message.now c.args.tspec said c.args.sender refl)

pub returns-clause-stands : goal.returns-clause-stands
returns-clause-stands c = (
  λ yes. ap (option_map (λ (e : PathFact × ℕ). e.0)) (c.renew_if.ensures.renewed yes).2 ∙ ap Some (is_said c yes),
  λ is. either c.renew_if.result (λ yes. yes) (λ no. absurd (not_passed c no is)),
)

pub returns-clause-room : goal.returns-clause-room
returns-clause-room c = λ yes.
    room_over senders c.args.tables.now.paths.facts c.limits.ensures.within c.args.message.now.session c.args.sender (said c, left c) (ap is_some (c.renew_if.ensures.renewed yes).2)

pub returns-clause-state : goal.returns-clause-state
returns-clause-state c =
    let n : State = state_of c.args.tables.now empty in
    either c.renew_if.result
    (λ yes.
    let r = c.renew_if.ensures.renewed yes in
    (λ i. record n { paths = (r.4 i).facts })
    ∙ (λ i. record n { paths = put_in n.paths (key c) (is_said c yes i, c.lifetime-life.ensures.life i) })
    ∙ kept_anew n c.requires.settled (key c) (ap is_some r.2) (said c) (left c) ∙ ap (λ b. cond b (with_path n (key c) (said c) (left c)) n) (sym yes))
    (λ no. (λ i. record n { paths = (c.renew_if.ensures.unchanged no i).facts }) ∙ ap (λ b. cond b (with_path n (key c) (said c) (left c)) n) (sym no))
