-- A wait is rounds over sessions.
use Rattle.std.specs.Prelude.{◌≡◌, ℕ, ◌+◌, ◌++◌, nat_le, true, false, cond, List, map as each, Some, None, refl}
use Rattle.std.specs.List.{filter_map, flat_map}
use Rattle.std.specs.Option.{unwrap_or}
use Rattle.std.proofs.Common.{sym, ap, subst, ◌∙◌, arith}
use Rattle.std.proofs.lemmas.Bool.{le-leb, leb-true}
use Rattle.std.proofs.lemmas.Option.{same_Some}
use Rattle.rsvp_base.specs.Orders.{sessions}
use Rattle.rsvp_base.specs.Sets.{Set}
use Rattle.rsvp_base.specs.Table.{changed, get, has, keys}
use Rattle.rsvp_base.specs.declared.session.Session.{Session}
use Rattle.rsvp_base.specs.declared.style.StyleKind.{StyleKind}
use Rattle.rsvp_base.specs.declared.style.StyleKind.TheVariants.{Wild, Fixed, Shared}
use Rattle.rsvp_base.proofs.Changed.{changed_same, changed_twice, has_changed}
use Rattle.rsvp_base.proofs.Filters.{same_test}
use Rattle.rsvp_base.proofs.Tables.{either, get-changed, got_changed, then_do}
use Rattle.resv_state.specs.Resvs.{ResvFacts}
use Rattle.style_rules.specs.Lines.{LineKey, line_keys}
use Rattle.style_rules.specs.Parts.{has_name}
use Rattle.laws_bounds.proofs.Knowing.{lanes_made, lanes_told}
use Rattle.laws_bounds.proofs.Leaving.{waiting_leaves_the_living}
use Rattle.laws_bounds.proofs.Requesting.{nowhere}
use Rattle.router_rules.specs.Facts.{Facts, ResvState, Resvs, resvs_of}
use Rattle.router_rules.specs.Forgetting.{counted, forget}
use Rattle.router_rules.specs.Inputs.{Change, Wait}
use Rattle.router_rules.specs.Known.{Lane, lanes}
use Rattle.router_rules.specs.NodeConfig.{NodeConfig, period}
use Rattle.router_rules.specs.Requests.{toward}
use Rattle.router_rules.specs.Rule.{facts_after, sent_after}
use Rattle.router_rules.specs.Sends.{resv_send_to, resv_tear, unmarked, used_marks}
use Rattle.router_rules.specs.Waiting.{act_wait}
use Rattle.router_state.specs.State.{AreNamed, IsSettled, Said, State, due_at, facts_of, resv_at}
use Rattle.router_state.specs.Waited.{is_fired}
use Rattle.laws_sends.proofs.Elsewhere.{toward_same}
use Rattle.laws_sends.specs.Several.{gone_told, is_among, lanes_for, refreshed}
use Rattle.laws_sends.specs.Waits.{waited}
use Rattle.laws_sends.proofs.Waits.{unharmed_stays, wait_is_told}
use Rattle.router_aging.specs.Passing.{dying_paths}
use Rattle.router_aging.proofs.AfterWait.{a_wait_is_settled}
use Rattle.router_aging.proofs.Counted.{counts_are}
use Rattle.router_aging.proofs.Gone.{forget_named}
use Rattle.router_rounds.specs.Passing.{IsPassedOver, WaitIsRounds, passed}
use Rattle.router_rounds.specs.Rounds.{AreCleared, AreRounds, told_round, torn_near, wants_told, with_hops}
use Rattle.router_rounds.proofs.Clocks.{toward_clock}
use Rattle.router_rounds.proofs.RoundClaims.{rounds_are_marked, rounds_are_told, rounds_are_torn}

-- ---- names, at each clock
named_row : (c d : ℕ) (t : ResvFacts) → ((k : LineKey) (r : ResvState) → get (changed (resv_at c) t) k ≡ Some r → has_name r.part ≡ true) → (k : LineKey) (r : ResvState)
    → get (changed (resv_at d) t) k ≡ Some r → has_name r.part ≡ true
named_row c d t named k r h =
    let g = got_changed line_keys (resv_at d) t k r h in
    let here = named k (record { part = g.0.0.part; confirm = g.0.0.confirm; dies = c + g.0.1 }) (get-changed line_keys (resv_at c) t k ∙ ap (λ w. then_do w (resv_at c k)) g.1) in
    ap (λ (z : ResvState). has_name z.part) (sym (same_Some _ r g.2)) ∙ here

pub named_clock : (m : State) (c d : ℕ) → AreNamed (facts_of c m) → AreNamed (facts_of d m)
named_clock m c d named Wild k r h = named_row c d m.wild (named Wild) k r h
named_clock m c d named Fixed k r h = named_row c d m.fixed (named Fixed) k r h
named_clock m c d named Shared k r h = named_row c d m.shared (named Shared) k r h

same_resvs : (f g : Facts) → f.resvs ≡ g.resvs → AreNamed f → AreNamed g
same_resvs f g e named st k r h = named st k r (by st ∙ h)
  where
    by : (st : StyleKind) → get (resvs_of st f) k ≡ get (resvs_of st g) k
    by Wild = ap (λ (z : Resvs). get z k) (λ i. (e i).wild)
    by Fixed = ap (λ (z : Resvs). get z k) (λ i. (e i).fixed)
    by Shared = ap (λ (z : Resvs). get z k) (λ i. (e i).shared)

-- ---- the sessions that come due
fired_same : (p : NodeConfig) (c ms word : ℕ) (n : State) → changed (is_fired ms) n.due ≡ (act_wait p (c + ms) word (facts_of c n)).fired
fired_same p c ms word n =
    changed_same {X = ℕ} {Y = Unit {0}} sessions (is_fired ms) (λ s left. cond (nat_le (c + left) (c + ms)) (Some tt) None) (λ s left. ap (λ b. cond b (Some tt) None) (moved left)) n.due
    ∙ sym (changed_twice {X = ℕ} {Y = ℕ} {Z = Unit {0}} sessions (due_at c) (λ s t. cond (nat_le t (c + ms)) (Some tt) None) n.due)
  where
    moved : (left : ℕ) → nat_le left ms ≡ nat_le (c + left) (c + ms)
    moved left =
        same_test _ _
        (λ h. let le = leb-true left ms h in le-leb (c + left) (c + ms) (omega (arith, le)))
        (λ h. let le = leb-true (c + left) (c + ms) h in le-leb left ms (omega (arith, le)))

module _ (ss : List Session) (ms word : ℕ) (n : State) (at : IsPassedOver ss ms word n) where
  abbrev m : State
  m = passed ms word n

  module _ (c : ℕ) where
    abbrev f : Facts
    f = facts_of c n

    abbrev w : Facts
    w = waited n.place (c + ms) word f

    after : facts_of (c + ms) m ≡ w
    after = a_wait_is_settled n c ms word at.settled at.short

    lane_was : (l : Lane) → has (lanes w) l ≡ true → has (lanes f) l ≡ true
    lane_was l h =
        let r = lanes_told w l h in
        lanes_made f l r.0 (record { path = r.1.path; there = ((waiting_leaves_the_living.of_paths n.place (c + ms) word f (l.session, r.0) r.1.path).0 r.1.there).0; by = r.1.by })

    same_at : (l : Lane) → is_among ss l.session ≡ false → toward n.place f l ≡ toward n.place w l
    same_at l off =
        either (has (lanes f) l)
        (λ on. toward_same f w l (unharmed_stays n.place (c + ms) word f l.session (at.settled.named c) ((at.watched c).others l off on)) n.place)
        (λ none. nowhere n.place f l none ∙ sym (nowhere n.place w l (either (has (lanes w) l) (λ t. let z : true ≡ false = sym (lane_was l t) ∙ none in absurd (cc)) (λ e. e))))

  are_rounds : AreRounds ss n m
  are_rounds = record {
    sessions = (at.watched 0).sessions;
    said = at.said;
    others = λ c l off. same_at c l off ∙ ap (λ (z : Facts). toward n.place z l) (sym (after c)) ∙ toward_clock m (c + ms) c l;
  }

  -- ---- what holds between two inputs
  counted_after : (d : ℕ) (s : Session) → has m.due s ≡ has (counted (facts_of d m)) s
  counted_after d s =
      let k : Change = act_wait n.place (0 + ms) word (f 0) in
      let g : Facts = forget (f 0) k.facts in
      sym (has_changed sessions (due_at (0 + ms)) (λ q x. refl) m.due s) ∙ ap (λ (z : Facts). has z.due s) (after 0)
      ∙ has_changed sessions (λ q (u : Unit {0}). Some (unwrap_or (get g.due q) (0 + ms + period n.place))) (λ q u. refl) (counted g) s
      ∙ ap (λ (z : Facts). has (counted z) s) (sym (after 0)) ∙ sym (counts_are (0 + ms) m s) ∙ counts_are d m s

  settled_after : IsSettled m
  settled_after = record {
    counted = counted_after;
    named = λ d. named_clock m (0 + ms) d (subst AreNamed (sym (after 0)) (same_resvs (forget (f 0) (act_wait n.place (0 + ms) word (f 0)).facts) (w 0) refl
        (forget_named (f 0) (act_wait n.place (0 + ms) word (f 0)).facts)));
  }

  -- ---- facts and sends
  module _ (c : ℕ) (said : Said) (cleared : AreCleared m (each (with_hops (facts_of c n)) ss) said) where
    abbrev g : Facts
    g = facts_of (c + ms) m

    abbrev fired : Set sessions
    fired = changed (is_fired ms) n.due

    facts_are : facts_of (c + ms) (record m { wants = wants_told (c + ms) m said ss }) ≡ facts_after n.place n.place (c + ms) (Wait ms word) (facts_of c n)
    unfolding facts_after
    facts_are =
        let marks = rounds_are_marked ss n m are_rounds c (c + ms) said cleared in
        (λ i. record g { wants = marks i }) ∙ ap (λ (z : Facts). record z { wants = changed (unmarked (used_marks n.place n.place (facts_of c n) z None)) z.wants }) (after c)

    sent_is : gone_told n.place (facts_of c n) g (keys (dying_paths ms n.paths))
        ++ (flat_map (torn_near (c + ms) m n.said) (each (with_hops (facts_of c n)) ss) ++
        (flat_map (refreshed n.place g) (keys fired) ++ flat_map (λ s. told_round (c + ms) m (has fired s) said s) ss))
        ≡ sent_after n.place n.place (c + ms) (Wait ms word) (facts_of c n)
    unfolding sent_after
    sent_is =
        let p = n.place in
        let k = f c in
        let dead = keys (dying_paths ms n.paths) in
        let torn = rounds_are_torn ss n m are_rounds c (c + ms) in
        let told = rounds_are_told ss n m are_rounds c (c + ms) said cleared fired in
        let last = after c in
        let due = fired_same n.place c ms word n in
        (λ i. gone_told p k g dead ++ (torn i ++ (flat_map (refreshed p g) (keys fired) ++ told i)))
        ∙ (λ i. gone_told p k (last i) dead ++ (flat_map (resv_tear p p k (last i)) (lanes_for ss k) ++
        (flat_map (refreshed p (last i)) (keys (due i)) ++ filter_map (resv_send_to p p k (last i) (due i) None) (lanes_for ss (last i)))))
        ∙ sym (wait_is_told p (c + ms) word k ss (dying_paths ms n.paths) (at.settled.named c) (at.watched c))

pub wait_is_rounds : WaitIsRounds
wait_is_rounds = record { rounds = are_rounds; settled = settled_after; facts = facts_are; sent = sent_is }
