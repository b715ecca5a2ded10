-- What a wait leaves alone: where nothing of a session dies, it has the hops that it had, and what goes there is what went
-- there before.
use Rattle.std.specs.Prelude.{◌≡◌, ℕ, ◌+◌, ◌*◌, ◌≤◌, ◌<◌, nat_le, Some, map as each}
use Rattle.std.proofs.Common.{sym, ap, ◌∙◌, arith}
use Rattle.std.proofs.lemmas.Bool.{leb-false, leb-true}
use Rattle.rsvp_base.specs.Members.{In}
use Rattle.rsvp_base.specs.Orders.{senders}
use Rattle.rsvp_base.specs.Sets.{Set, set_of}
use Rattle.rsvp_base.specs.Table.{Table, get}
use Rattle.rsvp_base.specs.declared.session.Sender.{Sender}
use Rattle.rsvp_base.specs.declared.session.Session.{Session}
use Rattle.rsvp_base.specs.declared.style.StyleKind.{StyleKind}
use Rattle.rsvp_base.specs.declared.style.StyleKind.TheVariants.{Wild, Fixed, Shared}
use Rattle.rsvp_base.proofs.Tables.{either, got_changed}
use Rattle.path_state.specs.Paths.{path_keys}
use Rattle.resv_state.specs.declared.fact.ResvFact.{ResvFact}
use Rattle.style_rules.specs.Lines.{LineKey, line_keys, next_hops}
use Rattle.style_rules.specs.Targets.{wall_keys}
use Rattle.laws_bounds.proofs.Lists.{some_same}
use Rattle.router_rules.specs.Facts.{Blockade, Facts, PathState, ResvState, resvs_of}
use Rattle.router_rules.specs.Requests.{toward}
use Rattle.router_state.specs.State.{IsSettled, Said, State, facts_of, path_at, resv_at, table_in, wall_at}
use Rattle.laws_sends.specs.Saying.{SessionLane, lane_by}
use Rattle.laws_sends.specs.SendsHere.{AreSameOf, hop_of, hops_in}
use Rattle.laws_sends.proofs.Elsewhere.{toward_same}
use Rattle.laws_sends.specs.Waits.{IsUnharmed, waited}
use Rattle.laws_sends.proofs.Waits.{unharmed_stays}
use Rattle.router_aging.specs.Watching.{HasAllDying}
use Rattle.router_aging.proofs.AfterWait.{a_wait_is_settled}
use Rattle.router_state.specs.Whole.{state_of}
use Rattle.router_state.specs.declared.tables.Tables.{Tables}
use Rattle.router_aging.specs.Steps.{all_dying}
use Rattle.router_rounds.specs.Passing.{passed}
use Rattle.router_rounds.proofs.Dying.{all_dying_are_there}

-- what has more left than passes dies later
later : (c ms left : ℕ) → (left ≤ ms → ⊥) → c + ms < c + left
later c ms left never = either (nat_le left ms) (λ t. absurd (never (leb-true left ms t))) (λ t. let more = leb-false left ms t in omega (arith, more))

module _ (t : Tables) (first : Said) (ms word : ℕ) (settled : IsSettled (state_of t first)) (short : ms ≤ 2 * t.config.quarter) (s : Session) (none : In s (all_dying ms t) → ⊥) (c : ℕ) where
  abbrev n : State
  n = state_of t first

  abbrev f : Facts
  f = facts_of c n

  dying : HasAllDying ms n (all_dying ms t)
  dying = all_dying_are_there ms t first

  resv_was : (st : StyleKind) (k : LineKey) (r : ResvState) → get (resvs_of st f) k ≡ Some r → (e : ResvFact × ℕ) × (get (table_in st n) k ≡ Some e) × (r.dies ≡ c + e.1)
  resv_was Wild k r h = let g = got_changed line_keys (resv_at c) n.wild k r h in (g.0, g.1, ap (λ (x : ResvState). x.dies) (sym (some_same _ r g.2)))
  resv_was Fixed k r h = let g = got_changed line_keys (resv_at c) n.fixed k r h in (g.0, g.1, ap (λ (x : ResvState). x.dies) (sym (some_same _ r g.2)))
  resv_was Shared k r h = let g = got_changed line_keys (resv_at c) n.shared k r h in (g.0, g.1, ap (λ (x : ResvState). x.dies) (sym (some_same _ r g.2)))

  unharmed : IsUnharmed (c + ms) f s
  unharmed = record {
    paths = λ x v h.
        let g = got_changed path_keys (path_at c) n.paths (s, x) v h in
        let dies = ap (λ (y : PathState). y.dies) (sym (some_same _ v g.2)) in
        let more = later c ms g.0.1 (λ le. none (dying.paths (s, x) g.0 g.1 le)) in
        omega (arith, dies, more);
    resvs = λ st k r h.
        let g = resv_was st (s, k) r h in
        let dies = g.2 in
        let more = later c ms g.0.1 (λ le. none (dying.resvs st (s, k) g.0 g.1 le)) in
        omega (arith, dies, more);
    walls = λ q b h.
        let g = got_changed wall_keys (wall_at c) n.walls (s, q) b h in
        let dies = ap (λ (y : Blockade). y.dies) (sym (some_same _ b g.2)) in
        let more = later c ms g.0.1 (λ le. none (dying.walls (s, q) g.0 g.1 le)) in
        omega (arith, dies, more);
  }

  after : facts_of (c + ms) (passed ms word n) ≡ waited n.place (c + ms) word f
  after = a_wait_is_settled n c ms word settled short

  same : AreSameOf s f (waited n.place (c + ms) word f)
  same = unharmed_stays n.place (c + ms) word f s (settled.named c) unharmed

  abbrev hops_of : Table senders PathState → Set next_hops
  hops_of ps = set_of (each (λ (e : Sender × PathState). hop_of e.1) ps.rows)

  -- it has the previous hops that it had
  pub hops_stay : hops_in f s ≡ hops_in (facts_of (c + ms) (passed ms word n)) s
  hops_stay =
      ap hops_of same.paths
      ∙ ap (λ (z : Facts). hops_in z s) (sym after)

  pub toward_stays : (e : SessionLane) → toward n.place f (lane_by s e) ≡ toward n.place (facts_of (c + ms) (passed ms word n)) (lane_by s e)
  toward_stays e =
      toward_same f (waited n.place (c + ms) word f) (lane_by s e) same n.place
      ∙ ap (λ (z : Facts). toward n.place z (lane_by s e)) (sym after)
