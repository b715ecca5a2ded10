-- The refresh of a session behind one at a moment is due within 1.5 periods of it.
use Rattle.std.proofs.Common.{◌≡◌, ℕ, ◌+◌, ◌*◌, ◌<◌, ◌≤◌, true, false, Option, None, Some, ◌⊎◌, inl, inr, ⊎_elim, arith, sym, ap, ◌∙◌}
use Rattle.std.specs.Prelude.{◌%◌, option_and_then}
use Rattle.std.proofs.lemmas.Nat.{mod_below}
use Rattle.rsvp_base.specs.declared.session.Session.{Session}
use Rattle.rsvp_base.specs.Table.{get, has}
use Rattle.laws_steps.specs.CountdownLaws.{IsMoved}
use Rattle.laws_steps.proofs.Counting.{countdowns_move_by_their_rule}
use Rattle.router_rules.specs.Facts.{Facts}
use Rattle.router_rules.specs.NodeConfig.{NodeConfig}
use Rattle.router_rules.specs.Rule.{Outcome}
use Rattle.router_rules.specs.Steps.{is_calm, facts_then, fired_then, node_step}
use Rattle.network_model.specs.Bounds.{AreBounds}
use Rattle.network_model.specs.Steps.{Step, is_quiet, ms_of, input_at, outcome, still, step}
use Rattle.network_model.specs.Worlds.{World, config_of}
use Rattle.network_model.proofs.Quiet.{FollowsRule, outcome_quiet}
use Rattle.network_model.proofs.Stepping.{facts_after_made}
use Rattle.laws_network.specs.Refreshes.{due_at, Refreshes}
use Rattle.laws_network.proofs.Due.{due_found, due_moves}
use Rattle.laws_network.proofs.Known.{of_some}
use Rattle.laws_network.proofs.Locals.{calm_input}

-- a moment that moves was reached, and moved by half a period and at most one more
moved_by : (q : ℕ) (s : Step) (u : World) (n : ℕ) (session : Session) (t t' : ℕ) → is_quiet s ≡ true → AreBounds q u → due_at u n session ≡ Some t → due_at (step q s u) n session ≡ Some t'
    → (t' ≡ t) ⊎ ((t ≤ u.clock + ms_of s) × (t' ≤ t + 6 * q))
moved_by q s u n session t t' quiet bounds e e' =
    let f = due_found u n session t e in
    let p : NodeConfig = config_of q u.net u.trees n in
    let now : get (outcome q s u n f.0).facts.due session ≡ Some t' = sym (ap (λ (o : Option Facts). option_and_then (λ (g : Facts). get g.due session) o) (facts_after_made q s u n f.0 f.1)) ∙ e' in
    ⊎_elim
    (λ (z : (input_at s u n ≡ None) × (outcome q s u n f.0 ≡ still f.0)). inl (of_some t' t (sym now ∙ ap (λ (w : Outcome). get w.facts.due session) z.1 ∙ f.2)))
    (λ (r : FollowsRule q s u n f.0 (outcome q s u n f.0)).
    let to : get (facts_then p p (u.clock + ms_of s) r.input f.0).due session ≡ Some t' = ap (λ (w : Outcome). get w.facts.due session) (sym r.is) ∙ now in
    let calm : is_calm r.input ≡ true = calm_input s u n r.input quiet r.came in
    ⊎_elim
    (λ (stay : (t' ≡ t) × (has (fired_then p (u.clock + ms_of s) r.input f.0) session ≡ false)). inl stay.0)
    (λ (go : IsMoved p (u.clock + ms_of s) r.input t t' × (has (fired_then p (u.clock + ms_of s) r.input f.0) session ≡ true)).
    let below : go.0.word % (4 * q + 1) < 4 * q + 1 = mod_below go.0.word (4 * q + 1) (omega arith) in
    let is : t' ≡ t + 2 * q + go.0.word % (4 * q + 1) = go.0.is in
    inr (go.0.reached, omega (arith, is, below)))
    (countdowns_move_by_their_rule.moves (node_step p p u.clock (u.clock + ms_of s) r.input f.0) (bounds.facts n f.0 f.1) session t t' calm f.2 to))
    (outcome_quiet q s u n f.0 quiet)

pub due_paces : (q : ℕ) (s : Step) (u : World) (n : ℕ) (session : Session) (t t' : ℕ) → is_quiet s ≡ true → AreBounds q u → due_at u n session ≡ Some t → due_at (step q s u) n session ≡ Some t'
    → (t' ≡ t) ⊎ (Refreshes n session s u × (t ≤ u.clock + ms_of s) × (t' ≤ t + 6 * q))
due_paces q s u n session t t' quiet bounds e e' =
    ⊎_elim
    (λ (same : t' ≡ t). inl same)
    (λ (r : Refreshes n session s u).
    ⊎_elim
    (λ (same : t' ≡ t). inl same)
    (λ (by : (t ≤ u.clock + ms_of s) × (t' ≤ t + 6 * q)). inr (r, by.0, by.1))
    (moved_by q s u n session t t' quiet bounds e e'))
    (due_moves q s u n session t t' quiet bounds e e')
