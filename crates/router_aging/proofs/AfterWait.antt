-- The tables of a node after a wait are the facts after it.
use Rattle.std.specs.Prelude.{◌≡◌, ℕ, ◌+◌, ◌-◌, Bool, true, false, cond, not, ◌&&◌, ◌||◌, ◌⊎◌, nat_le, is_some, Option, Some, None, refl}
use Rattle.std.specs.List.{list_any}
use Rattle.std.specs.Option.{unwrap_or}
use Rattle.std.proofs.Common.{sym, ap, inl, inr, ◌∙◌}
use Rattle.rsvp_base.specs.Orders.{sessions}
use Rattle.rsvp_base.specs.Table.{changed, get, has, kept, keys}
use Rattle.rsvp_base.specs.declared.session.Sender.{Sender}
use Rattle.rsvp_base.specs.declared.session.Session.{Session}
use Rattle.rsvp_base.specs.declared.style.StyleKind.{StyleKind}
use Rattle.rsvp_base.specs.declared.style.StyleKind.TheVariants.{Wild, Fixed, Shared}
use Rattle.rsvp_base.proofs.SetLaws.{or_either, or_left, or_right}
use Rattle.rsvp_base.proofs.Tables.{get-changed, get-kept, got_changed, same_table, then_do}
use Rattle.path_state.specs.Paths.{path_keys, later as later_path}
use Rattle.path_state.specs.declared.fact.PathFact.{PathFact}
use Rattle.resv_state.specs.Resvs.{ResvFacts, later as later_resv}
use Rattle.resv_state.specs.declared.fact.ResvFact.{ResvFact}
use Rattle.style_rules.specs.Lines.{LineKey, line_keys}
use Rattle.style_rules.specs.Parts.{has_name}
use Rattle.router_rules.specs.Facts.{Facts, SenderKey}
use Rattle.router_rules.specs.Forgetting.{counted, is_lost, remembered}
use Rattle.router_rules.specs.Known.{known, named_as}
use Rattle.router_rules.specs.NodeConfig.{period}
use Rattle.router_rules.specs.Rule.{settled}
use Rattle.laws_bounds.proofs.Knowing.{counted_made, counted_told}
use Rattle.laws_bounds.proofs.Leaving.{countdowns_settle}
use Rattle.laws_bounds.proofs.Lists.{none_is, some_is}
use Rattle.path_sends.specs.RouterState.Forgotten.{forgotten_all, is_gone}
use Rattle.path_sends.specs.RouterState.State.{IsSettled, State, due_at, facts_of, resv_at}
use Rattle.path_sends.specs.RouterState.Waited.{aged, later_due}
use Rattle.laws_sends.proofs.RouterState.Leaving.{forgets}
use Rattle.laws_sends.proofs.RouterState.Passing.{time_passes}
use Rattle.router_aging.specs.AfterWait.{AWaitIsSettled, after_wait}
use Rattle.router_aging.specs.Losing.{lost_names}
use Rattle.router_aging.specs.Passing.{counts, dies_in, dying_paths}
use Rattle.router_aging.proofs.Names.{known_by, names_of_the_dead}
use Rattle.router_aging.proofs.Counted.{counts_are}
use Rattle.router_aging.proofs.Offers.{known_is}

module _ (n : State) (c ms word : ℕ) (kept_n : IsSettled n) where
  abbrev a : State
  a = aged ms word n

  abbrev f : Facts
  f = facts_of c n

  abbrev g : Facts
  g = facts_of (c + ms) a

  -- ---- the senders that are known
  dies_so : (k : SenderKey) (e : PathFact × ℕ) → get n.paths k ≡ Some e → get a.paths k ≡ None → has (dying_paths ms n.paths) k ≡ true
  dies_so k e there gone = by (nat_le e.1 ms) refl
    where
      at : get a.paths k ≡ cond (nat_le e.1 ms) None (Some (e.0, e.1 - ms))
      at = get-changed path_keys (later_path ms) n.paths k ∙ ap (λ w. then_do w (later_path ms k)) there

      by : (b : Bool) → nat_le e.1 ms ≡ b → has (dying_paths ms n.paths) k ≡ true
      by true t = ap is_some (get-changed path_keys (dies_in ms) n.paths k ∙ ap (λ w. then_do w (dies_in ms k)) there ∙ ap (λ b. cond b (Some tt) None) t)
      by false t = let z : ◌≡◌ {A = Option (PathFact × ℕ)} None (Some (e.0, e.1 - ms)) = sym gone ∙ at ∙ ap (λ b. cond b None (Some (e.0, e.1 - ms))) t in absurd (cc)

  were : (k : SenderKey) → has (dying_paths ms n.paths) k ≡ true → has (known f k.0) k.1 ≡ true
  were k h =
      let v = some_is (get (dying_paths ms n.paths) k) h in
      let r = got_changed path_keys (dies_in ms) n.paths k v.0 v.1 in
      known_by c n k.0 k.1 ∙ or_right (has n.senders k) (has n.paths k) (ap is_some r.1)

  all_dead : (k : SenderKey) → has (known f k.0) k.1 ≡ true → has (known (facts_of 0 a) k.0) k.1 ≡ false → has (dying_paths ms n.paths) k ≡ true
  all_dead k was gone = by (has n.senders k) (get n.paths k) refl refl (sym (known_by c n k.0 k.1) ∙ was) (sym (known_by 0 a k.0 k.1) ∙ gone)
    where
      by : (own : Bool) (w : Option (PathFact × ℕ)) → has n.senders k ≡ own → get n.paths k ≡ w → (has n.senders k || has n.paths k) ≡ true → (has n.senders k || has a.paths k) ≡ false
          → has (dying_paths ms n.paths) k ≡ true
      by true w o e was gone = let z : true ≡ false = sym (or_left (has n.senders k) (has a.paths k) o) ∙ gone in absurd (cc)
      by false None o e was gone = let z : false ≡ true = sym ((λ i. o i || is_some (e i))) ∙ was in absurd (cc)
      by false (Some p) o e was gone = dies_so k p e (none_is (get a.paths k) (sym (ap (λ b. b || has a.paths k) o) ∙ gone))

  same_known : (s : Session) → known (facts_of 0 a) s ≡ known g s
  same_known s = sym (known_is 0 a s) ∙ known_is (c + ms) a s

  lost : (st : StyleKind) (s : Session) (x : Sender) → list_any (is_gone s x) (lost_names st (facts_of 0 a) (keys (dying_paths ms n.paths))) ≡ is_lost st f g s x
  lost st s x =
      names_of_the_dead st f (facts_of 0 a) (dying_paths ms n.paths) were all_dead s x ∙ ap (λ names. has (named_as st (known f s)) x && not (has (named_as st names) x)) (same_known s)

  -- ---- reservations
  still_named : (t : ResvFacts) → ((k : LineKey) (e : ResvFact × ℕ) → get t k ≡ Some e → has_name e.0.part ≡ true) → (k : LineKey) (e : ResvFact × ℕ) → get (changed (later_resv ms) t) k ≡ Some e
      → has_name e.0.part ≡ true
  still_named t named k e h = let r = got_changed line_keys (later_resv ms) t k e h in by r.0 (nat_le r.0.1 ms) (named k r.0 r.1) r.2
    where
      by : (d : ResvFact × ℕ) (b : Bool) → has_name d.0.part ≡ true → cond b None (Some (d.0, d.1 - ms)) ≡ Some e → has_name e.0.part ≡ true
      by d true name h = absurd (cc)
      by d false name h = let same : ◌≡◌ {A = ResvFact × ℕ} (d.0, d.1 - ms) e = cc in ap (λ (z : ResvFact × ℕ). has_name z.0.part) (sym same) ∙ name

  seen : (t : ResvFacts) (k : LineKey) (e : ResvFact × ℕ) → get t k ≡ Some e → get (changed (resv_at 0) t) k ≡ Some (record { part = e.0.part; confirm = e.0.confirm; dies = 0 + e.1 })
  seen t k e h = get-changed line_keys (resv_at 0) t k ∙ ap (λ w. then_do w (resv_at 0 k)) h

  forgotten : (st : StyleKind) (t : ResvFacts) → ((k : LineKey) (e : ResvFact × ℕ) → get t k ≡ Some e → has_name e.0.part ≡ true)
      → changed (resv_at (c + ms)) (forgotten_all (lost_names st (facts_of 0 a) (keys (dying_paths ms n.paths))) (changed (later_resv ms) t))
      ≡ changed (remembered st f g) (changed (resv_at (c + ms)) (changed (later_resv ms) t))
  forgotten st t named = forgets st f g (c + ms) (lost_names st (facts_of 0 a) (keys (dying_paths ms n.paths))) (changed (later_resv ms) t) (still_named t named) (lost st)

  -- ---- countdowns
  any_rows : (s : Session) → counts a.senders a.paths s ≡ has (counted g) s
  any_rows s = counts_are (c + ms) a s

  runs : (s : Session) → has (counted g) s ≡ true → has a.due s ≡ true
  runs s h =
      let r = counted_told g s h in
      let there = sym (known_by (c + ms) a s r.0) ∙ r.1 in
      let before = known_by c n s r.0 ∙ was r.0 (or_either (has n.senders (s, r.0)) (has a.paths (s, r.0)) there) in
      let v = some_is (get n.due s) (kept_n.counted c s ∙ counted_made f s r.0 before) in
      ap is_some (get-changed sessions (later_due n.place.quarter ms word) n.due s ∙ ap (λ w. then_do w (later_due n.place.quarter ms word s)) v.1)
    where
      was : (x : Sender) → (has n.senders (s, x) ≡ true) ⊎ (has a.paths (s, x) ≡ true) → (has n.senders (s, x) || has n.paths (s, x)) ≡ true
      was x (inl h) = or_left (has n.senders (s, x)) (has n.paths (s, x)) h
      was x (inr h) =
          let v = some_is (get a.paths (s, x)) h in
          let r = got_changed path_keys (later_path ms) n.paths (s, x) v.0 v.1 in
          or_right (has n.senders (s, x)) (has n.paths (s, x)) (ap is_some r.1)

  due_is : changed (due_at (c + ms)) (kept (counts a.senders a.paths) a.due) ≡ changed (λ s u. Some (unwrap_or (get g.due s) (c + ms + period n.place))) (counted g)
  due_is = same_table sessions _ _ (λ s. get-changed sessions (due_at (c + ms)) (kept (counts a.senders a.paths) a.due) s
      ∙ ap (λ w. then_do w (due_at (c + ms) s)) (get-kept sessions (counts a.senders a.paths) a.due s) ∙ at s (has (counted g) s) refl ∙ sym (countdowns_settle n.place (c + ms) g s))
    where
      at : (s : Session) (b : Bool) → has (counted g) s ≡ b → then_do (cond (counts a.senders a.paths s) (get a.due s) None) (due_at (c + ms) s)
          ≡ cond (has (counted g) s) (Some (unwrap_or (get g.due s) (c + ms + period n.place))) None
      at s false h = ap (λ b. then_do (cond b (get a.due s) None) (due_at (c + ms) s)) (any_rows s ∙ h) ∙ sym (ap (λ b. cond b (Some (unwrap_or (get g.due s) (c + ms + period n.place))) None) h)
      at s true h =
          let v = some_is (get a.due s) (runs s h) in
          let seen : get g.due s ≡ Some (c + ms + v.0) = get-changed sessions (due_at (c + ms)) a.due s ∙ ap (λ w. then_do w (due_at (c + ms) s)) v.1 in
          ap (λ b. then_do (cond b (get a.due s) None) (due_at (c + ms) s)) (any_rows s ∙ h) ∙ ap (λ w. then_do w (due_at (c + ms) s)) v.1
          ∙ sym (ap (λ b. cond b (Some (unwrap_or (get g.due s) (c + ms + period n.place))) None) h ∙ ap (λ w. Some (unwrap_or w (c + ms + period n.place))) seen)

  settles : facts_of (c + ms) (after_wait (dying_paths ms n.paths) a) ≡ settled n.place (c + ms) f g
  settles =
      let named = kept_n.named 0 in
      let wild = forgotten Wild n.wild (λ k e h. named Wild k _ (seen n.wild k e h)) in
      let fixed = forgotten Fixed n.fixed (λ k e h. named Fixed k _ (seen n.fixed k e h)) in
      let shared = forgotten Shared n.shared (λ k e h. named Shared k _ (seen n.shared k e h)) in
      λ i. record g { resvs = record { wild = wild i; fixed = fixed i; shared = shared i }; due = due_is i }

pub a_wait_is_settled : AWaitIsSettled
a_wait_is_settled n c ms word kept_n half = settles n c ms word kept_n ∙ ap (settled n.place (c + ms) (facts_of c n)) (time_passes n c ms word half)
