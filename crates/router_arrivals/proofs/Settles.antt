-- What settling makes of a node whose one sender changed.
use Rattle.std.specs.Prelude.{◌≡◌, ℕ, ◌+◌, ◌||◌, Bool, true, false, cond, not, is_some, Option, Some, None, refl}
use Rattle.std.specs.Option.{unwrap_or}
use Rattle.std.specs.Ordering.{eq_by_cmp}
use Rattle.std.proofs.Common.{sym, ap, subst, ◌∙◌}
use Rattle.path_state.specs.Paths.{path_keys}
use Rattle.rsvp_base.specs.Orders.{sessions}
use Rattle.rsvp_base.specs.Table.{Table, changed, get, has, without}
use Rattle.rsvp_base.specs.declared.session.Sender.{Sender}
use Rattle.rsvp_base.specs.declared.session.Session.{Session}
use Rattle.rsvp_base.specs.declared.style.StyleKind.{StyleKind}
use Rattle.rsvp_base.proofs.Tables.{either, get-changed, get-put_in_other, get-put_in_same, get-without, same_table, then_do, tied_same, tied_self}
use Rattle.style_rules.specs.Lines.{LineKey}
use Rattle.router_rules.specs.Facts.{Facts, ResvState, SenderKey, resvs_of}
use Rattle.router_rules.specs.Forgetting.{counted, forget, settle}
use Rattle.router_rules.specs.Known.{known}
use Rattle.router_rules.specs.NodeConfig.{period}
use Rattle.router_rules.specs.Rule.{settled}
use Rattle.laws_bounds.proofs.Knowing.{counted_made, counted_told, has-known}
use Rattle.laws_bounds.proofs.Leaving.{countdowns_settle}
use Rattle.router_state.specs.Changes.{started, due_after, recounted}
use Rattle.router_state.specs.State.{AreNamed, IsSettled, State, due_at, facts_of, path_at}
use Rattle.router_state.proofs.Counted.{counted_settled}
use Rattle.router_state.proofs.Routed.{same_test}
use Rattle.laws_sends.specs.Changed.{IsChangedFor}
use Rattle.laws_sends.proofs.Apart.{session_apart}

-- ---- one sender changed
module _ (k : SenderKey) (n m : State) (ch : IsChangedFor k n m) (c : ℕ) where
  known_away : (q : Session) (x : Sender) → eq_by_cmp sessions.cmp k.0 q ≡ false → has (known (facts_of c n) q) x ≡ has (known (facts_of c m) q) x
  known_away q x off =
      let apart = session_apart k (q, x) off in
      has-known (facts_of c n) q x
      ∙ (λ i. is_some (ch.senders (q, x) apart i) || is_some (path i))
      ∙ sym (has-known (facts_of c m) q x)
    where
      path : get (facts_of c n).paths (q, x) ≡ get (facts_of c m).paths (q, x)
      path = get-changed path_keys (path_at c) n.paths (q, x) ∙ ap (λ w. then_do w (path_at c (q, x))) (ch.paths (q, x) (session_apart k (q, x) off))
          ∙ sym (get-changed path_keys (path_at c) m.paths (q, x))

  pub counted_away : (q : Session) → eq_by_cmp sessions.cmp k.0 q ≡ false → has (counted (facts_of c n)) q ≡ has (counted (facts_of c m)) q
  counted_away q off =
      same_test _ _
      (λ h. let t = counted_told (facts_of c n) q h in counted_made (facts_of c m) q t.0 (sym (known_away q t.0 off) ∙ t.1))
      (λ h. let t = counted_told (facts_of c m) q h in counted_made (facts_of c n) q t.0 (known_away q t.0 off ∙ t.1))

module _ (k : SenderKey) (n m : State) (ch : IsChangedFor k n m) (kept : IsSettled n) (due : m.due ≡ n.due) (counts : Bool) (is : (c : ℕ) → counts ≡ has (counted (facts_of c m)) k.0) where
  module _ (c : ℕ) where
    turned : (q : Session) → eq_by_cmp sessions.cmp k.0 q ≡ false → eq_by_cmp sessions.cmp q k.0 ≡ false
    turned q off =
        either (eq_by_cmp sessions.cmp q k.0)
        (λ t. let e = tied_same sessions q k.0 t in let z : true ≡ false = sym (tied_self sessions k.0) ∙ ap (eq_by_cmp sessions.cmp k.0) (sym e) ∙ off in absurd (cc))
        (λ f. f)

    -- of another session
    pub elsewhere : (q : Session) → eq_by_cmp sessions.cmp k.0 q ≡ false → get (due_after counts k.0 (period m.place) m.due) q ≡ get m.due q
    elsewhere q off = by counts (has m.due k.0)
      where
        by : (b h : Bool) → get (cond b (started h k.0 (period m.place) m.due) (without m.due k.0)) q ≡ get m.due q
        by true true = refl
        by true false = get-put_in_other sessions m.due k.0 (period m.place) q (turned q off)
        by false h = get-without sessions m.due k.0 q ∙ ap (λ b. cond (not b) (get m.due q) None) off

    -- of this one
    here : then_do (get (due_after counts k.0 (period m.place) m.due) k.0) (due_at c k.0)
        ≡ cond (has (counted (facts_of c m)) k.0) (Some (unwrap_or (then_do (get m.due k.0) (due_at c k.0)) (c + period m.place))) None
    here = by counts (get m.due k.0) refl ∙ ap (λ b. cond b (Some (unwrap_or (then_do (get m.due k.0) (due_at c k.0)) (c + period m.place))) None) (is c)
      where
        by : (b : Bool) (w : Option ℕ) → get m.due k.0 ≡ w
            → then_do (get (cond b (started (has m.due k.0) k.0 (period m.place) m.due) (without m.due k.0)) k.0) (due_at c k.0)
            ≡ cond b (Some (unwrap_or (then_do (get m.due k.0) (due_at c k.0)) (c + period m.place))) None
        by true None e =
            ap (λ h. then_do (get (started h k.0 (period m.place) m.due) k.0) (due_at c k.0)) (ap is_some e) ∙ ap (λ w. then_do w (due_at c k.0)) (get-put_in_same sessions m.due k.0 (period m.place))
            ∙ sym (ap (λ w. Some (unwrap_or (then_do w (due_at c k.0)) (c + period m.place))) e)
        by true (Some l) e =
            ap (λ h. then_do (get (started h k.0 (period m.place) m.due) k.0) (due_at c k.0)) (ap is_some e) ∙ ap (λ w. then_do w (due_at c k.0)) e
            ∙ sym (ap (λ w. Some (unwrap_or (then_do w (due_at c k.0)) (c + period m.place))) e)
        by false w e = ap (λ w. then_do w (due_at c k.0)) (get-without sessions m.due k.0 k.0 ∙ ap (λ b. cond (not b) (get m.due k.0) None) (tied_self sessions k.0))

    pub due_settles : changed (due_at c) (due_after counts k.0 (period m.place) m.due) ≡ (settle m.place c (facts_of c m)).due
    due_settles =
        same_table sessions _ _ (λ q.
        get-changed sessions (due_at c) (due_after counts k.0 (period m.place) m.due) q ∙ at q
        ∙ ap (λ v. cond (has (counted (facts_of c m)) q) (Some (unwrap_or v (c + period m.place))) None) (sym (get-changed sessions (due_at c) m.due q))
        ∙ sym (countdowns_settle m.place c (facts_of c m) q))
      where
        away : (q : Session) → eq_by_cmp sessions.cmp k.0 q ≡ false → (w : Option ℕ) → get m.due q ≡ w
            → then_do w (due_at c q) ≡ cond (has (counted (facts_of c m)) q) (Some (unwrap_or (then_do w (due_at c q)) (c + period m.place))) None
        away q off w e =
            let on : is_some w ≡ has (counted (facts_of c m)) q = sym (ap is_some e) ∙ ap (λ (d : Table sessions ℕ). has d q) due ∙ kept.counted c q ∙ counted_away k n m ch c q off in
            by w ∙ ap (λ b. cond b (Some (unwrap_or (then_do w (due_at c q)) (c + period m.place))) None) on
          where
            by : (v : Option ℕ) → then_do v (due_at c q) ≡ cond (is_some v) (Some (unwrap_or (then_do v (due_at c q)) (c + period m.place))) None
            by None = refl
            by (Some l) = refl

        at : (q : Session) → then_do (get (due_after counts k.0 (period m.place) m.due) q) (due_at c q)
            ≡ cond (has (counted (facts_of c m)) q) (Some (unwrap_or (then_do (get m.due q) (due_at c q)) (c + period m.place))) None
        at q =
            either (eq_by_cmp sessions.cmp k.0 q)
            (λ t.
            let e = tied_same sessions k.0 q t in
            subst (λ z. then_do (get (due_after counts k.0 (period m.place) m.due) z) (due_at c z)
            ≡ cond (has (counted (facts_of c m)) z) (Some (unwrap_or (then_do (get m.due z) (due_at c z)) (c + period m.place))) None) e here)
            (λ off. ap (λ w. then_do w (due_at c q)) (elsewhere q off) ∙ away q off (get m.due q) refl)

    -- so the tables, with the countdown started or stopped, are the facts once settled, where names are forgotten already
    pub change_settled : (g : Facts) → facts_of c m ≡ forget (facts_of c n) g → facts_of c (recounted m k.0 counts) ≡ settled m.place c (facts_of c n) g
    change_settled g forgot = (λ i. record (facts_of c m) { due = due_settles i }) ∙ ap (settle m.place c) forgot

  pub after_settled : (g : ℕ → Facts) → ((c : ℕ) → facts_of c m ≡ forget (facts_of c n) (g c)) → ((c : ℕ) → AreNamed (facts_of c m)) → IsSettled (recounted m k.0 counts)
  after_settled g forgot named = record {
    counted = counted_settled m.place (recounted m k.0 counts) (λ c. facts_of c n) g (λ c. change_settled c (g c) (forgot c));
    named = λ c st q r e. named c st q r (recounted_resvs c st q r e);
  }
    where
      recounted_resvs : (c : ℕ) (st : StyleKind) (q : LineKey) (r : ResvState) → get (resvs_of st (facts_of c (recounted m k.0 counts))) q ≡ Some r → get (resvs_of st (facts_of c m)) q ≡ Some r
      recounted_resvs c st q r e = e
