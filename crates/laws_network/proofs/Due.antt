-- The moment of a session's next refresh at a node: it moves only by a refresh.
use Rattle.std.proofs.Common.{◌≡◌, ℕ, ◌+◌, ◌*◌, ◌/◌, ◌≤◌, true, false, Option, None, Some, ◌⊎◌, inl, inr, ⊎_elim, arith, sym, refl, ap, ◌∙◌}
use Rattle.std.specs.Prelude.{slice_get, option_and_then, max, min}
use Rattle.rsvp_base.specs.declared.session.Session.{Session}
use Rattle.rsvp_base.specs.Table.{get, has}
use Rattle.laws_steps.specs.CountdownLaws.{IsMoved}
use Rattle.network_model.specs.RouterRules.Steps.{is_calm, facts_then, fired_then, node_step}
use Rattle.laws_steps.proofs.Counting.{countdowns_move_by_their_rule, fires}
use Rattle.network_model.specs.RouterRules.Facts.{Facts}
use Rattle.network_model.specs.RouterRules.Inputs.{Input, Wait, Came}
use Rattle.network_model.specs.RouterRules.NodeConfig.{NodeConfig}
use Rattle.network_model.specs.RouterRules.Rule.{Outcome}
use Rattle.tree_model.specs.Networks.{iface_of}
use Rattle.network_model.specs.Bounds.{AreBounds}
use Rattle.network_model.specs.Steps.{Step, is_quiet, ms_of, input_at, word_for, outcome, still, step}
use Rattle.network_model.specs.Worlds.{World, config_of}
use Rattle.network_model.proofs.Quiet.{IsWaited, IsCame, FollowsRule, input_found, outcome_by, outcome_quiet}
use Rattle.network_model.proofs.Stepping.{facts_after_made}
use Rattle.laws_network.specs.Refreshes.{due_at, Refreshes}
use Rattle.laws_network.proofs.Known.{of_some}
use Rattle.laws_network.proofs.Locals.{calm_input}

-- ---- a refreshed life is 21 quarters
pub full_life : (q : ℕ) → 1 ≤ q → (21 * max 1 (min (4 * q) (4 * q)) + 3) / 4 ≡ 21 * q
full_life q le =
    let m : max 1 (min (4 * q) (4 * q)) ≡ 4 * q = omega arith in
    ap (λ (z : ℕ). (21 * z + 3) / 4) m ∙ omega arith

-- ---- look-up
pub due_found : (u : World) (n : ℕ) (s : Session) (t : ℕ) → due_at u n s ≡ Some t → (f : Facts) × (slice_get u.nodes n ≡ Some f) × (get f.due s ≡ Some t)
due_found u n s t e = by (slice_get u.nodes n) refl e
  where
    by : (o : Option Facts) → slice_get u.nodes n ≡ o → option_and_then (λ (f : Facts). get f.due s) o ≡ Some t → (f : Facts) × (slice_get u.nodes n ≡ Some f) × (get f.due s ≡ Some t)
    by None a h = absurd (cc)
    by (Some f) a h = (f, a, h)

pub due_made : (u : World) (n : ℕ) (s : Session) (t : ℕ) (f : Facts) → slice_get u.nodes n ≡ Some f → get f.due s ≡ Some t → due_at u n s ≡ Some t
due_made u n s t f a h = ap (λ (o : Option Facts). option_and_then (λ (g : Facts). get g.due s) o) a ∙ h

-- ---- it moves only where its node refreshes
pub due_moves : (q : ℕ) (s : Step) (u : World) (n : ℕ) (session : Session) (t t' : ℕ) → is_quiet s ≡ true → AreBounds q u → due_at u n session ≡ Some t → due_at (step q s u) n session ≡ Some t'
    → (t' ≡ t) ⊎ Refreshes n session s u
due_moves q s u n session t t' quiet bounds e e' =
    let f = due_found u n session t e in
    let p : NodeConfig = config_of q u.net u.trees n in
    let now : get (outcome q s u n f.0).facts.due session ≡ Some t' = sym (ap (λ (o : Option Facts). option_and_then (λ (g : Facts). get g.due session) o) (facts_after_made q s u n f.0 f.1)) ∙ e' in
    ⊎_elim
    (λ (z : (input_at s u n ≡ None) × (outcome q s u n f.0 ≡ still f.0)). inl (of_some t' t (sym now ∙ ap (λ (w : Outcome). get w.facts.due session) z.1 ∙ f.2)))
    (λ (r : FollowsRule q s u n f.0 (outcome q s u n f.0)).
    let came = input_found s u n r.input quiet r.came in
    let to : get (facts_then p p (u.clock + ms_of s) r.input f.0).due session ≡ Some t' = ap (λ (w : Outcome). get w.facts.due session) (sym r.is) ∙ now in
    let calm : is_calm r.input ≡ true = calm_input s u n r.input quiet r.came in
    ⊎_elim
    (λ (stay : (t' ≡ t) × (has (fired_then p (u.clock + ms_of s) r.input f.0) session ≡ false)). inl stay.0)
    (λ (go : IsMoved p (u.clock + ms_of s) r.input t t' × (has (fired_then p (u.clock + ms_of s) r.input f.0) session ≡ true)).
    ⊎_elim
    (λ (w : IsWaited s u n r.input). inr (record {
      ms = w.ms;
      waits = w.step;
      facts = f.0;
      there = f.1;
      moment = t;
      due = f.2;
      reached = (let z = go.0.reached in let ms = ap ms_of w.step in
          omega arith);
    }))
    (λ (c : IsCame s u n r.input). let bad : Came (iface_of u.net.ends c.item.end) c.item.dst c.item.arrival ≡ Wait go.0.ms go.0.word = sym c.is ∙ go.0.waited in absurd (cc)) came)
    (countdowns_move_by_their_rule.moves (node_step p p u.clock (u.clock + ms_of s) r.input f.0) (bounds.facts n f.0 f.1) session t t' calm f.2 to))
    (outcome_quiet q s u n f.0 quiet)

-- ---- a node that refreshes a session follows its rule, and the session is fired
pub refresh_follows : (q : ℕ) (s : Step) (u : World) (n : ℕ) (session : Session) → is_quiet s ≡ true → (r : Refreshes n session s u)
    → (f : FollowsRule q s u n r.facts (outcome q s u n r.facts)) × (has (fired_then (config_of q u.net u.trees n) (u.clock + ms_of s) f.input r.facts) session ≡ true)
refresh_follows q s u n session quiet r =
    let input : Input = Wait r.ms (word_for u.words n) in
    let waits : input_at s u n ≡ Some input = ap (λ (z : Step). input_at z u n) r.waits in
    let reached : r.moment ≤ u.clock + ms_of s = (let ms = ap ms_of r.waits in let le = r.reached in omega arith) in (
      record { input = input; came = waits; is = outcome_by q s u n r.facts input quiet waits },
      fires (config_of q u.net u.trees n) (u.clock + ms_of s) input r.facts session (record { ms = r.ms; word = word_for u.words n; waited = refl; moment = r.moment; due = r.due; reached = reached }),
    )
