-- Countdowns.
use Rattle.std.specs.Prelude.{◌≡◌, ℕ, ◌+◌, ◌*◌, ◌%◌, nat_le, ◌⊎◌, Bool, true, false, cond, is_some, Option, Some, None, refl}
use Rattle.std.proofs.Common.{sym, ap, ◌∙◌, inl, inr, ⊎_elim}
use Rattle.std.proofs.lemmas.Bool.{leb-true}
use Rattle.std.specs.Option.{unwrap_or}
use Rattle.rsvp_base.specs.declared.session.Session.{Session}
use Rattle.rsvp_base.specs.Orders.{sessions}
use Rattle.rsvp_base.specs.Sets.{Set}
use Rattle.rsvp_base.specs.Table.{empty, get, has}
use Rattle.rsvp_base.proofs.Tables.{either, get-changed, then_do}
use Rattle.laws_bounds.specs.RouterRules.Act.{act}
use Rattle.laws_bounds.specs.RouterRules.Facts.{Facts}
use Rattle.laws_bounds.specs.RouterRules.Forgetting.{counted}
use Rattle.laws_bounds.specs.RouterRules.Inputs.{Input, Call, Wait, Clear, Came, Moved}
use Rattle.laws_bounds.specs.RouterRules.NodeConfig.{NodeConfig, period}
use Rattle.laws_bounds.specs.RouterRules.Waiting.{next_due}
use Rattle.laws_bounds.proofs.Knowing.{known_and_via}
use Rattle.laws_bounds.proofs.Leaving.{countdowns_settle, waiting_leaves_the_living}
use Rattle.laws_bounds.proofs.Lists.{some_same}
use Rattle.laws_steps.specs.CountdownLaws.{CountdownsMoveByTheirRule, IsMoved, IsReached}
use Rattle.laws_bounds.specs.RouterRules.Steps.{facts_then, fired_then, is_calm, left_by}
use Rattle.laws_bounds.proofs.Stepping.{stands_settled, quiet_due}

module _ (old p : NodeConfig) (c : ℕ) (i : Input) (f : Facts) (s : Session) where
  pub due_then : get (facts_then old p c i f).due s ≡ cond (has (counted (act p c i f).facts) s) (Some (unwrap_or (get (act p c i f).facts.due s) (c + period p))) None
  due_then = countdowns_settle p c (act p c i f).facts s

  -- what stands after is what was left, or began at a period
  moment : (w : Option ℕ) (to : ℕ) → get (act p c i f).facts.due s ≡ w → get (facts_then old p c i f).due s ≡ Some to → to ≡ unwrap_or w (c + period p)
  moment w to is e = by (has (counted (act p c i f).facts) s) (sym due_then ∙ e)
    where
      by : (b : Bool) → cond b (Some (unwrap_or (get (act p c i f).facts.due s) (c + period p))) None ≡ Some to → to ≡ unwrap_or w (c + period p)
      by true e = sym (some_same _ to e) ∙ ap (λ v. unwrap_or v (c + period p)) is
      by false e = absurd (cc)

  stands_where : has (facts_then old p c i f).due s ≡ has (counted (facts_then old p c i f)) s
  stands_where = stands_settled p c (act p c i f).facts s

waits_move : (old p : NodeConfig) (c ms word : ℕ) (f : Facts) (s : Session) (t to : ℕ) → get f.due s ≡ Some t → get (facts_then old p c (Wait ms word) f).due s ≡ Some to
    → ((to ≡ t) × (has (fired_then p c (Wait ms word) f) s ≡ false)) ⊎ (IsMoved p c (Wait ms word) t to × (has (fired_then p c (Wait ms word) f) s ≡ true))
waits_move old p c ms word f s t to h e =
    let is : to ≡ next_due p c word t = moment old p c (Wait ms word) f s (Some (next_due p c word t)) to (waiting_leaves_the_living.of_due p c word f s t h) e in
    let fired : has (fired_then p c (Wait ms word) f) s ≡ is_some (cond (nat_le t c) (Some tt) None) =
    ap is_some (get-changed sessions (λ s t. cond (nat_le t c) (Some tt) None) f.due s ∙ ap (λ w. then_do w (λ t. cond (nat_le t c) (Some tt) None)) h) in
    either (nat_le t c)
    (λ b. inr (
      record { ms = ms; word = word; waited = refl; reached = leb-true t c b; is = is ∙ ap (λ z. cond z (t + 2 * p.quarter + word % (period p + 1)) t) b },
      fired ∙ ap (λ z. is_some (cond z (Some tt) None)) b,
    ))
    (λ b. inl (is ∙ ap (λ z. cond z (t + 2 * p.quarter + word % (period p + 1)) t) b, fired ∙ ap (λ z. is_some (cond z (Some tt) None)) b))

moves : (old p : NodeConfig) (c : ℕ) (i : Input) (f : Facts) (s : Session) (t to : ℕ) → is_calm i ≡ true → get f.due s ≡ Some t → get (facts_then old p c i f).due s ≡ Some to
    → ((to ≡ t) × (has (fired_then p c i f) s ≡ false)) ⊎ (IsMoved p c i t to × (has (fired_then p c i f) s ≡ true))
moves old p c (Call l) f s t to q h e = absurd (cc)
moves old p c Clear f s t to q h e = absurd (cc)
moves old p c Moved f s t to q h e = absurd (cc)
moves old p c (Wait ms word) f s t to q h e = waits_move old p c ms word f s t to h e
moves old p c (Came at dst a) f s t to q h e =
    let l = quiet_due p c at dst a f in inl (moment old p c (Came at dst a) f s (Some t) to (ap (λ d. get d s) l.0 ∙ h) e, ap (λ d. has d s) l.1)

-- ---- what is due
none_due : {A : Type 0} (s : Session) (t : Set sessions) → t ≡ empty → has t s ≡ true → A
none_due s t is e = let no : true ≡ false = sym e ∙ ap (λ d. has d s) is in absurd (cc)

pub reached : (p : NodeConfig) (c : ℕ) (i : Input) (f : Facts) (s : Session) → has (fired_then p c i f) s ≡ true → IsReached c i f s
reached p c (Call l) f s e = absurd (cc)
reached p c Clear f s e = absurd (cc)
reached p c Moved f s e = absurd (cc)
reached p c (Wait ms word) f s e = let r = (waiting_leaves_the_living.of_fired p c word f s).0 e in record { ms = ms; word = word; waited = refl; moment = r.0; due = r.1; reached = r.2 }
reached p c (Came at dst a) f s e = none_due s _ (quiet_due p c at dst a f).1 e

pub fires : (p : NodeConfig) (c : ℕ) (i : Input) (f : Facts) (s : Session) → IsReached c i f s → has (fired_then p c i f) s ≡ true
fires p c i f s r = ap (λ z. has (fired_then p c z f) s) r.waited ∙ (waiting_leaves_the_living.of_fired p c r.word f s).1 (r.moment, r.due, r.reached)

-- ---- what begins
not_before : (p : NodeConfig) (c : ℕ) (i : Input) (f : Facts) (s : Session) → get f.due s ≡ None → get (act p c i f).facts.due s ≡ None
not_before p c (Call l) f s n = n
not_before p c Clear f s n = refl
not_before p c Moved f s n = n
not_before p c (Wait ms word) f s n = get-changed sessions (λ s t. Some (next_due p c word t)) f.due s ∙ ap (λ w. then_do w (λ t. Some (next_due p c word t))) n
not_before p c (Came at dst a) f s n = ap (λ d. get d s) (quiet_due p c at dst a f).0 ∙ n

new_or_cleared : (p : NodeConfig) (c : ℕ) (i : Input) (f : Facts) (s : Session) → (get f.due s ≡ None) ⊎ (i ≡ Clear) → get (act p c i f).facts.due s ≡ None
new_or_cleared p c i f s h = ⊎_elim (λ (n : get f.due s ≡ None). not_before p c i f s n) (λ (is : i ≡ Clear). ap (λ z. get (act p c z f).facts.due s) is) h

pub countdowns_move_by_their_rule : CountdownsMoveByTheirRule
countdowns_move_by_their_rule =
    record {
      moves = λ step within s t to q h e. moves step.old step.now step.after step.input step.facts s t to q h e;
      fires = λ step within s. (reached step.now step.after step.input step.facts s, fires step.now step.after step.input step.facts s);
      starts = λ step within s t h e. moment step.old step.now step.after step.input step.facts s None t (new_or_cleared step.now step.after step.input step.facts s h) e;
      stands = λ step within s.
          let known_by = known_and_via.counted_by (left_by step) s in
          (λ e. known_by.0 (sym (stands_where step.old step.now step.after step.input step.facts s) ∙ e), λ x. stands_where step.old step.now step.after step.input step.facts s ∙ known_by.1 x);
    }
