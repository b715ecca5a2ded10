-- A ResvTear changes the reservations of its session alone, and what follows is its rule.
use Rattle.std.specs.Prelude.{◌≡◌, ℕ, Bool, true, false, cond, ◌&&◌, Option, Some, None, refl}
use Rattle.std.specs.Ordering.{eq_by_cmp}
use Rattle.std.proofs.Common.{sym, ap, ◌∙◌}
use Rattle.rsvp_base.specs.Orders.{Names, sessions}
use Rattle.rsvp_base.specs.Table.{get}
use Rattle.rsvp_base.specs.declared.session.Session.{Session}
use Rattle.rsvp_base.specs.declared.style.StyleKind.{StyleKind}
use Rattle.rsvp_base.specs.declared.style.StyleKind.TheVariants.{Wild, Fixed, Shared}
use Rattle.rsvp_base.proofs.Tables.{either, get-changed, got_changed, then_do}
use Rattle.rsvp_messages.specs.Units.{tear_names, tear_style}
use Rattle.rsvp_messages.specs.declared.message.Message.TheVariants as message
use Rattle.rsvp_messages.specs.declared.message.ResvTearMsg.{ResvTearMsg}
use Rattle.style_rules.specs.Lines.{LineKey, NextHop, is_of_hop, line_keys, next_hops}
use Rattle.style_rules.specs.Parts.{has_name}
use Rattle.router_rules.specs.Act.{act, act_spelt}
use Rattle.router_rules.specs.Asking.{act_resv_tear, left_of, names_one, stays, torn_resv, torn_resvs}
use Rattle.router_rules.specs.Facts.{Facts, ResvState, Resvs, resvs_of, with_resvs}
use Rattle.router_rules.specs.Inputs.{only_heard}
use Rattle.router_rules.specs.NodeConfig.{own}
use Rattle.router_rules.specs.declared.answers.Heard.{Heard}
use Rattle.laws_bounds.proofs.Tests.{addr_tested}
use Rattle.router_state.specs.State.{AreNamed, State, facts_of}
use Rattle.router_aging.proofs.Gone.{left_named}
use Rattle.router_arrivals.specs.Arriving.{to_node}

-- ---- other sessions
torn_away : (b : Bool) (s : Session) (hop : NextHop) (names : Option Names) (t : Resvs) (q : LineKey) → eq_by_cmp sessions.cmp s q.0 ≡ false → get (torn_resvs b s hop names t) q ≡ get t q
torn_away false s hop names t q off = refl
torn_away true s hop names t q off = get-changed line_keys (torn_resv s hop names) t q ∙ by (get t q)
  where
    apart : is_of_hop s hop q ≡ false
    apart = ap (λ b. b && eq_by_cmp next_hops.cmp hop q.1.0) off

    by : (w : Option ResvState) → then_do w (torn_resv s hop names q) ≡ w
    by None = refl
    by (Some r) = ap (λ b. cond b (left_of (stays names) r) (Some r)) apart

pub with_away : (st at : StyleKind) (t : Resvs) (f : Facts) (q : LineKey) → get t q ≡ get (resvs_of st f) q → get (resvs_of at (with_resvs st t f)) q ≡ get (resvs_of at f) q
with_away Wild Wild t f q e = e
with_away Wild Fixed t f q e = refl
with_away Wild Shared t f q e = refl
with_away Fixed Wild t f q e = refl
with_away Fixed Fixed t f q e = e
with_away Fixed Shared t f q e = refl
with_away Shared Wild t f q e = refl
with_away Shared Fixed t f q e = refl
with_away Shared Shared t f q e = e

pub tear_away : (e : ℕ) (p : ResvTearMsg) (f : Facts) (st : StyleKind) (q : LineKey) → eq_by_cmp sessions.cmp p.session q.0 ≡ false
    → get (resvs_of st f) q ≡ get (resvs_of st (act_resv_tear e p f).facts) q
tear_away e p f st q off =
    let at = tear_style p.tear in
    let found = names_one p.session (e, p.hop.addr) (tear_names p.tear) (resvs_of at f) in
    sym (with_away at st (torn_resvs found p.session (e, p.hop.addr) (tear_names p.tear) (resvs_of at f)) f q (torn_away found p.session (e, p.hop.addr) (tear_names p.tear) (resvs_of at f) q off))

-- ---- each reservation that is left names someone
pub with_named : (f : Facts) → AreNamed f → (st : StyleKind) (t : Resvs) → ((k : LineKey) (r : ResvState) → get t k ≡ Some r → has_name r.part ≡ true) → AreNamed (with_resvs st t f)
with_named f named st t of at k r h = by st at h
  where
    by : (st at : StyleKind) → get (resvs_of at (with_resvs st t f)) k ≡ Some r → has_name r.part ≡ true
    by Wild Wild e = of k r e
    by Wild Fixed e = named Fixed k r e
    by Wild Shared e = named Shared k r e
    by Fixed Wild e = named Wild k r e
    by Fixed Fixed e = of k r e
    by Fixed Shared e = named Shared k r e
    by Shared Wild e = named Wild k r e
    by Shared Fixed e = named Fixed k r e
    by Shared Shared e = of k r e

torn_named : (f : Facts) → AreNamed f → (st : StyleKind) (b : Bool) (s : Session) (hop : NextHop) (names : Option Names) (k : LineKey) (r : ResvState)
    → get (torn_resvs b s hop names (resvs_of st f)) k ≡ Some r → has_name r.part ≡ true
torn_named f named st false s hop names k r e = named st k r e
torn_named f named st true s hop names k r e =
    let w = got_changed line_keys (torn_resv s hop names) (resvs_of st f) k r e in
    let row : Bool → Option ResvState = λ b. cond b (left_of (stays names) w.0) (Some w.0) in
    either (is_of_hop s hop k) (λ t. left_named (stays names) w.0 r (sym (ap row t) ∙ w.2)) (λ off. named st k r (w.1 ∙ sym (ap row off) ∙ w.2))

pub tear_named : (e : ℕ) (p : ResvTearMsg) (f : Facts) → AreNamed f → AreNamed (act_resv_tear e p f).facts
tear_named e p f named =
    let at = tear_style p.tear in
    let found = names_one p.session (e, p.hop.addr) (tear_names p.tear) (resvs_of at f) in
    with_named f named at (torn_resvs found p.session (e, p.hop.addr) (tear_names p.tear) (resvs_of at f)) (torn_named f named at found p.session (e, p.hop.addr) (tear_names p.tear))

-- ---- a ResvTear: n is what there was, m what the tables have then
pub tears : (n m : State) (e : ℕ) (p : ResvTearMsg) (h : Heard) → ((c : ℕ) → h ≡ (act_resv_tear e p (facts_of c n)).heard) → ((c : ℕ) → facts_of c m ≡ (act_resv_tear e p (facts_of c n)).facts)
    → (c : ℕ) → act n.place c (to_node n.place e (message.ResvTear p)) (facts_of c n) ≡ only_heard h (facts_of c m)
tears n m e p h heard facts c = ap (λ b. act_spelt n.place c e (message.ResvTear p) b (facts_of c n)) (addr_tested (own n.place e) (own n.place e) refl)
    ∙ (λ i. only_heard (sym (heard c) i) (sym (facts c) i))
