-- What settling leaves where nothing changed, and that settled tables have their countdowns counted.
use Rattle.std.specs.Prelude.{◌≡◌, ℕ, ◌+◌, cond, is_some, Option, Some, None, refl}
use Rattle.std.specs.Option.{unwrap_or}
use Rattle.std.proofs.Common.{sym, ap, ◌∙◌}
use Rattle.rsvp_base.specs.Orders.{sessions}
use Rattle.rsvp_base.specs.Table.{get, has}
use Rattle.rsvp_base.specs.declared.session.Session.{Session}
use Rattle.rsvp_base.proofs.Tables.{get-changed, same_table, then_do}
use Rattle.laws_bounds.specs.RouterRules.Facts.{Facts}
use Rattle.laws_bounds.specs.RouterRules.Forgetting.{counted, forget, settle}
use Rattle.laws_bounds.specs.RouterRules.NodeConfig.{NodeConfig, period}
use Rattle.laws_bounds.specs.RouterRules.Rule.{settled}
use Rattle.laws_bounds.proofs.Leaving.{countdowns_settle}
use Rattle.router_state.specs.State.{IsCounted, IsSettled, State, due_at, facts_of}
use Rattle.router_state.specs.StateLaws.{SameSettles}
use Rattle.router_state.proofs.Settling.{forget_none, has_changed, none_lost}

-- ---- nothing changed
pub same_settles : (p : NodeConfig) (c : ℕ) (n : State) → IsSettled n → settled p c (facts_of c n) (facts_of c n) ≡ facts_of c n
same_settles p c n kept =
    let f = facts_of c n in
    let none = forget_none f f (none_lost f f (λ s y h. h)) (kept.named c) in
    ap (settle p c) none ∙ (λ i. record f { due = due i })
  where
    f : Facts
    f = facts_of c n

    due : (settle p c f).due ≡ f.due
    due = same_table sessions _ _ (λ q. countdowns_settle p c f q ∙ by q (get n.due q) refl)
      where
        by : (q : Session) (w : Option ℕ) → get n.due q ≡ w → cond (has (counted f) q) (Some (unwrap_or (get f.due q) (c + period p))) None ≡ get f.due q
        by q None e = ap (λ b. cond b (Some (unwrap_or (get f.due q) (c + period p))) None) (sym (kept.counted c q) ∙ ap is_some e)
            ∙ sym (get-changed sessions (due_at c) n.due q ∙ ap (λ w. then_do w (due_at c q)) e)
        by q (Some l) e =
            let is = get-changed sessions (due_at c) n.due q ∙ ap (λ w. then_do w (due_at c q)) e in
            ap (λ b. cond b (Some (unwrap_or (get f.due q) (c + period p))) None) (sym (kept.counted c q) ∙ ap is_some e) ∙ ap (λ w. Some (unwrap_or w (c + period p))) is ∙ sym is

-- ---- countdowns
settle_counts : (p : NodeConfig) (c : ℕ) (f : Facts) (s : Session) → has (settle p c f).due s ≡ has (counted f) s
settle_counts p c f s = has_changed sessions (λ q (u : Unit {0}). Some (unwrap_or (get f.due q) (c + period p))) (λ q u. refl) (counted f) s

-- tables whose facts are settled have their countdowns counted
pub counted_settled : (p : NodeConfig) (n : State) (before after : ℕ → Facts) → ((c : ℕ) → facts_of c n ≡ settled p c (before c) (after c)) → IsCounted n
counted_settled p n before after e c s =
    sym (has_changed sessions (due_at c) (λ k x. refl) n.due s) ∙ ap (λ f. has f.due s) (e c) ∙ settle_counts p c (forget (before c) (after c)) s ∙ ap (λ f. has (counted f) s) (sym (e c))

pub same_is_settled : SameSettles
same_is_settled = same_settles
