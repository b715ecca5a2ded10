-- The sessions that count, by the tables.
use Rattle.std.specs.Prelude.{◌≡◌, ℕ, ◌<◌, ◌-◌, ◌⊎◌, nat_le, nat_lt, Bool, true, false, cond, is_some, length, List, [], ◌∷◌, Some, None, refl}
use Rattle.std.specs.List.{list_any}
use Rattle.std.specs.Ordering.{eq_by_cmp}
use Rattle.std.proofs.Common.{sym, ap, inl, inr, ◌∙◌, arith}
use Rattle.std.proofs.lemmas.Bool.{lt-ltb, ltb-true}
use Rattle.rsvp_base.specs.Members.{In}
use Rattle.rsvp_base.specs.Orders.{sessions, senders}
use Rattle.rsvp_base.specs.Table.{Table, changed, get, has, size}
use Rattle.rsvp_base.specs.TokenBucket.{TokenBucket}
use Rattle.rsvp_base.specs.Under.{under}
use Rattle.rsvp_base.specs.declared.session.Sender.{Sender}
use Rattle.rsvp_base.specs.declared.session.Session.{Session}
use Rattle.rsvp_base.proofs.Changed.{has_changed}
use Rattle.rsvp_base.proofs.Counts.{found_in, in_found}
use Rattle.rsvp_base.proofs.Filters.{same_test}
use Rattle.rsvp_base.proofs.Members.{tied_in, to_each}
use Rattle.rsvp_base.proofs.SetLaws.{or_either, or_left, or_right}
use Rattle.rsvp_base.proofs.Tables.{get-changed, then_do}
use Rattle.rsvp_base.proofs.UnderLaws.{get-under}
use Rattle.path_state.specs.Paths.{later, path_keys}
use Rattle.path_state.specs.declared.fact.PathFact.{PathFact}
use Rattle.router_rules.specs.Facts.{SenderKey, sender_keys}
use Rattle.router_rules.specs.Forgetting.{counted}
use Rattle.laws_bounds.proofs.Knowing.{counted_made, counted_told}
use Rattle.laws_bounds.proofs.Lists.{some_is}
use Rattle.path_sends.specs.RouterState.State.{IsCounted, State, facts_of}
use Rattle.path_sends.specs.RouterState.Waited.{aged, later_due}
use Rattle.router_aging.specs.Passing.{counts, dies_in, dying_paths, sessions_at}
use Rattle.router_aging.proofs.Names.{known_by}

module _ {X : Type 0} (m : Table senders X) where
  first_of : (es : List (Sender × X)) → 0 < length es → (e : Sender × X) × In e es
  first_of [] h = absurd (omega (arith, h))
  first_of (e ∷ es) h = (e, inl refl)

  in_some : (e : Sender × X) (es : List (Sender × X)) → In e es → 0 < length es
  in_some e [] i = elim i [ ]
  in_some e (d ∷ es) i = omega arith

  some_row : nat_lt 0 (size m) ≡ true → (x : Sender) × (has m x ≡ true)
  some_row h = let r = first_of m.rows (ltb-true 0 (size m) h) in (r.0.0, ap is_some (in_found senders m r.0.0 r.0.1 r.1))

  row_some : (x : Sender) → has m x ≡ true → nat_lt 0 (size m) ≡ true
  row_some x h = let v = some_is (get m x) h in lt-ltb 0 (size m) (in_some (x, v.0) m.rows (found_in senders m x v.0 v.1))

pub counts_are : (c : ℕ) (n : State) (s : Session) → counts n.senders n.paths s ≡ has (counted (facts_of c n)) s
counts_are c n s = same_test _ _ to from
  where
    two : (nat_lt 0 (size (under sessions senders n.senders s)) ≡ true) ⊎ (nat_lt 0 (size (under sessions senders n.paths s)) ≡ true) → has (counted (facts_of c n)) s ≡ true
    two (inl h) =
        let r = some_row (under sessions senders n.senders s) h in
        counted_made (facts_of c n) s r.0 (known_by c n s r.0 ∙ or_left (has n.senders (s, r.0)) (has n.paths (s, r.0)) (ap is_some (sym (get-under sessions senders n.senders s r.0)) ∙ r.1))
    two (inr h) =
        let r = some_row (under sessions senders n.paths s) h in
        counted_made (facts_of c n) s r.0 (known_by c n s r.0 ∙ or_right (has n.senders (s, r.0)) (has n.paths (s, r.0)) (ap is_some (sym (get-under sessions senders n.paths s r.0)) ∙ r.1))

    to : counts n.senders n.paths s ≡ true → has (counted (facts_of c n)) s ≡ true
    to h = two (or_either _ _ h)

    back : (x : Sender) → (has n.senders (s, x) ≡ true) ⊎ (has n.paths (s, x) ≡ true) → counts n.senders n.paths s ≡ true
    back x (inl h) = or_left _ _ (row_some (under sessions senders n.senders s) x (ap is_some (get-under sessions senders n.senders s x) ∙ h))
    back x (inr h) = or_right _ _ (row_some (under sessions senders n.paths s) x (ap is_some (get-under sessions senders n.paths s x) ∙ h))

    from : has (counted (facts_of c n)) s ≡ true → counts n.senders n.paths s ≡ true
    from h = let r = counted_told (facts_of c n) s h in back r.0 (or_either _ _ (sym (known_by c n s r.0) ∙ r.1))

-- ---- after a wait: a session that counted does so still, unless a path of it died
module _ (own : Table sender_keys TokenBucket) (paths : Table path_keys (PathFact × ℕ)) (ms : ℕ) (s : Session)
    (calm : list_any (eq_by_cmp sessions.cmp s) (sessions_at (dying_paths ms paths)) ≡ false) where
  lives : (x : Sender) (e : PathFact × ℕ) → get paths (s, x) ≡ Some e → has (changed (later ms) paths) (s, x) ≡ true
  lives x e there = ap is_some (get-changed path_keys (later ms) paths (s, x) ∙ ap (λ w. then_do w (later ms (s, x))) there) ∙ by (nat_le e.1 ms) refl
    where
      by : (b : Bool) → nat_le e.1 ms ≡ b → is_some {T = PathFact × ℕ} (cond b None (Some (e.0, e.1 - ms))) ≡ true
      by true t =
          let dead = dying_paths ms paths in
          let died : get dead (s, x) ≡ Some tt = get-changed path_keys (dies_in ms) paths (s, x) ∙ ap (λ w. then_do w (dies_in ms (s, x))) there ∙ ap (λ b. cond b (Some tt) None) t in
          let among = to_each (λ (r : SenderKey × Unit {0}). r.0.0) ((s, x), tt) dead.rows (found_in sender_keys dead (s, x) tt died) in
          let z : true ≡ false = sym (tied_in sessions s (sessions_at dead) among) ∙ calm in
          absurd (cc)
      by false t = refl

  still_counts : counts own paths s ≡ true → counts own (changed (later ms) paths) s ≡ true
  still_counts h = by (or_either _ _ h)
    where
      by : (nat_lt 0 (size (under sessions senders own s)) ≡ true) ⊎ (nat_lt 0 (size (under sessions senders paths s)) ≡ true) → counts own (changed (later ms) paths) s ≡ true
      by (inl h) = or_left _ _ h
      by (inr h) =
          let r = some_row (under sessions senders paths s) h in
          let v = some_is (get paths (s, r.0)) (ap is_some (sym (get-under sessions senders paths s r.0)) ∙ r.1) in
          or_right _ _ (row_some (under sessions senders (changed (later ms) paths) s) r.0 (ap is_some (get-under sessions senders (changed (later ms) paths) s r.0) ∙ lives r.0 v.0 v.1))

pub counted_still : (n : State) (ms word : ℕ) → IsCounted n → (s : Session) → has (aged ms word n).due s ≡ true → list_any (eq_by_cmp sessions.cmp s) (sessions_at (dying_paths ms n.paths)) ≡ false
    → counts n.senders (aged ms word n).paths s ≡ true
counted_still n ms word counted s runs calm =
    still_counts n.senders n.paths ms s calm (counts_are 0 n s ∙ sym (counted 0 s) ∙ sym (has_changed sessions (later_due n.place.quarter ms word) (λ k x. refl) n.due s) ∙ runs)
