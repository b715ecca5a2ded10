-- Which sessions count once a sender came or went, and that there is room for their countdowns.
use Rattle.std.specs.Prelude.{◌≡◌, ℕ, ◌<◌, ◌||◌, Bool, true, false, cond, not, is_some, Some, None, ◌⊎◌, refl}
use Rattle.std.specs.Ordering.{eq_by_cmp}
use Rattle.std.proofs.Common.{sym, ap, inl, inr, ◌∙◌}
use Rattle.path_state.specs.Paths.{path_keys}
use Rattle.rsvp_base.specs.Keys.{Keys}
use Rattle.rsvp_base.specs.Orders.{senders}
use Rattle.rsvp_base.specs.SessionLimits.{IsWithinSessionLimits}
use Rattle.rsvp_base.specs.Table.{Table, get, has, put_in, size, without}
use Rattle.rsvp_base.specs.declared.session.Session.{Session}
use Rattle.rsvp_base.specs.declared.session.Sender.{Sender}
use Rattle.rsvp_base.proofs.SetLaws.{or_either, or_left, or_right}
use Rattle.rsvp_base.proofs.Tables.{either, get-put_in, get-put_in_same, get-without, same_table, tied_same}
use Rattle.laws_bounds.proofs.Lists.{none_is}
use Rattle.router_rules.specs.Facts.{SenderKey}
use Rattle.router_rules.specs.Forgetting.{counted}
use Rattle.router_rules.specs.Known.{known}
use Rattle.laws_bounds.proofs.Knowing.{counted_made, counted_told, has-known}
use Rattle.router_state.specs.Changes.{counts_in, due_after, started}
use Rattle.router_state.specs.State.{IsSettled, State, facts_of, path_at}
use Rattle.router_state.proofs.Room.{due_room, within_same}
use Rattle.router_state.proofs.Routed.{same_test}
use Rattle.router_state.proofs.Settling.{has_changed}

-- ---- at any clock
has_at : (c : ℕ) (n : State) (k : SenderKey) → has (facts_of c n).paths k ≡ has n.paths k
has_at c n k = has_changed path_keys (path_at c) (λ j v. refl) n.paths k

pub known_is : (c : ℕ) (n : State) (s : Session) (x : Sender) → has (known (facts_of c n) s) x ≡ (has n.senders (s, x) || has n.paths (s, x))
known_is c n s x = has-known (facts_of c n) s x ∙ ap (λ b. has n.senders (s, x) || b) (has_at c n (s, x))

module _ (n m : State) (own : (k : SenderKey) → has n.senders k ≡ true → has m.senders k ≡ true) (paths : (k : SenderKey) → has n.paths k ≡ true → has m.paths k ≡ true) where
  pub counted_more : (c d : ℕ) (s : Session) → has (counted (facts_of c n)) s ≡ true → has (counted (facts_of d m)) s ≡ true
  counted_more c d s h =
      let t = counted_told (facts_of c n) s h in
      counted_made (facts_of d m) s t.0 (known_is d m s t.0 ∙ more t.0 (or_either _ _ (sym (known_is c n s t.0) ∙ t.1)))
    where
      more : (x : Sender) → ((has n.senders (s, x) ≡ true) ⊎ (has n.paths (s, x) ≡ true)) → (has m.senders (s, x) || has m.paths (s, x)) ≡ true
      more x (inl a) = or_left _ _ (own (s, x) a)
      more x (inr b) = or_right (has m.senders (s, x)) _ (paths (s, x) b)

-- whether a session counts is the same at each clock
pub counts_at : (m : State) (s : Session) (c : ℕ) → counts_in m s ≡ has (counted (facts_of c m)) s
counts_at m s c = same_test _ _ (counted_more m m (λ k h. h) (λ k h. h) 0 c s) (counted_more m m (λ k h. h) (λ k h. h) c 0 s)

pub counts_by : (m : State) (k : SenderKey) → (has m.senders k || has m.paths k) ≡ true → (c : ℕ) → true ≡ has (counted (facts_of c m)) k.0
counts_by m k h c = sym (counted_made (facts_of c m) k.0 k.1 (known_is c m k.0 k.1 ∙ h))

-- ---- tables with one more or one less
pub put_more : {K X : Type 0} (o : Keys K) (t : Table o X) (k : K) (v : X) (j : K) → has t j ≡ true → has (put_in t k v) j ≡ true
put_more o t k v j h = ap is_some (get-put_in o t k v j) ∙ by (eq_by_cmp o.cmp j k)
  where
    by : (b : Bool) → is_some (cond b (Some v) (get t j)) ≡ true
    by true = refl
    by false = h

pub put_there : {K X : Type 0} (o : Keys K) (t : Table o X) (k : K) (v : X) → has (put_in t k v) k ≡ true
put_there o t k v = ap is_some (get-put_in_same o t k v)

pub without_less : {K X : Type 0} (o : Keys K) (t : Table o X) (k j : K) → has (without t k) j ≡ true → has t j ≡ true
without_less o t k j h = by (not (eq_by_cmp o.cmp k j)) (sym (ap is_some (get-without o t k j)) ∙ h)
  where
    by : (b : Bool) → is_some (cond b (get t j) None) ≡ true → has t j ≡ true
    by true e = e
    by false e = cc

-- ---- countdowns
module _ (n : State) (kept : IsSettled n) where
  -- where the session counts and has none, there is room
  pub room_for_due : (m : State) (s : Session) → ((k : SenderKey) → has n.senders k ≡ true → has m.senders k ≡ true) → ((k : SenderKey) → has n.paths k ≡ true → has m.paths k ≡ true)
      → true ≡ has (counted (facts_of 0 m)) s → IsWithinSessionLimits senders m.senders → IsWithinSessionLimits senders m.paths → has n.due s ≡ false → size n.due < 64
  room_for_due m s own paths here a b none =
      due_room (facts_of 0 m) n.due s (λ q h. counted_more n m own paths 0 0 q (sym (kept.counted 0 q) ∙ h)) (sym here) none a
      (within_same senders m.paths (facts_of 0 m).paths (λ k. sym (has_at 0 m k)) b)

  -- where a session counts after some went, its countdown goes on
  pub goes_on : (m : State) (s : Session) → ((k : SenderKey) → has m.senders k ≡ true → has n.senders k ≡ true) → ((k : SenderKey) → has m.paths k ≡ true → has n.paths k ≡ true)
      → (p : ℕ) → counts_in m s ≡ true → n.due ≡ due_after true s p n.due
  goes_on m s own paths p h =
      let there : has n.due s ≡ true = kept.counted 0 s ∙ counted_more m n own paths 0 0 s h in
      sym (ap (λ b. started b s p n.due) there)

-- a table loses nothing where the key has none
pub without_none : {K X : Type 0} (o : Keys K) (t : Table o X) (k : K) → has t k ≡ false → without t k ≡ t
without_none o t k off =
    same_table o _ _ (λ q.
    get-without o t k q
    ∙ either (eq_by_cmp o.cmp k q)
    (λ tie. ap (λ b. cond (not b) (get t q) None) tie ∙ sym (ap (get t) (sym (tied_same o k q tie)) ∙ none_is (get t k) off))
    (λ apart. ap (λ b. cond (not b) (get t q) None) apart))
