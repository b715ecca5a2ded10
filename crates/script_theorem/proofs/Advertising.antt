-- Which senders are advertised at the nodes: those of which the lines say so, each at a node that lets it send.
use Rattle.std.proofs.Common.{◌≡◌, ◌⊎◌, ℕ, Bool, true, false, cond, List, [], ◌∷◌, ◌++◌, Some, None, refl, sym, ap, subst, ◌∙◌, inl, inr, ⊎_elim}
use Rattle.std.specs.Prelude.{slice_get, is_some, not, ◌==◌}
use Rattle.std.specs.Ordering.{eq_by_cmp}
use Rattle.rsvp_base.specs.declared.session.Sender.{Sender}
use Rattle.rsvp_base.specs.declared.session.Session.{Session}
use Rattle.rsvp_base.specs.Members.{In}
use Rattle.rsvp_base.specs.Sets.{Set, with_key}
use Rattle.rsvp_base.specs.Table.{Table, get, has, put_in, without}
use Rattle.rsvp_base.specs.TokenBucket.{TokenBucket}
use Rattle.rsvp_base.proofs.SetLaws.{has-with_key, or_either, or_left, or_right}
use Rattle.rsvp_base.proofs.Tables.{either, get-put_in, get-without, got_kept, tied_same}
use Rattle.calm_rounds.specs.Machine.{run}
use Rattle.router_rules.specs.declared.answers.LocalErr.{LocalErr}
use Rattle.router_rules.specs.declared.answers.LocalErr.TheVariants as local
use Rattle.router_rules.specs.Calls.{SendersOf, advertised_with, call_refusal, needs, senders_with}
use Rattle.router_rules.specs.Facts.{Facts, SenderKey, sender_keys}
use Rattle.router_rules.specs.Inputs.{AdvertAs, DropAs, Local}
use Rattle.network_model.specs.Events.{Event}
use Rattle.network_model.specs.Steps.{At, Step, machine, outcome, step}
use Rattle.network_model.specs.Worlds.{World, config_of}
use Rattle.network_model.proofs.Stepping.{facts_after_found, facts_after_made}
use Rattle.laws_network.proofs.Known.{has_some}
use Rattle.script_theorem.specs.Standing.{advertised_behind, advertised_then}
use Rattle.script_theorem.proofs.Calling.{after, others, own_advertised, own_senders, same_or_not}
use Rattle.script_theorem.proofs.Keeping.{is_call, left}

-- ---- events one after another
pub behind_push : (es : List Event) (e : Event) (ks : Set sender_keys) → advertised_behind (es ++ e ∷ []) ks ≡ advertised_then e (advertised_behind es ks)
behind_push [] e ks = refl
behind_push (x ∷ es) e ks = behind_push es e (advertised_then x ks)

-- ---- tables with a key more, and one less
pub has_put : (T : SendersOf) (k : SenderKey) (t : TokenBucket) (j : SenderKey) → has T j ≡ true → has (put_in T k t) j ≡ true
has_put T k t j there = ap is_some (get-put_in sender_keys T k t j) ∙ by (eq_by_cmp sender_keys.cmp j k)
  where
    by : (b : Bool) → is_some (cond b (Some t) (get T j)) ≡ true
    by true = refl
    by false = there

module _ (ks : Set sender_keys) (k j : SenderKey) where
  in_new : eq_by_cmp sender_keys.cmp j k ≡ true → has (with_key ks k) j ≡ true
  in_new tie = has-with_key sender_keys ks k j ∙ or_left (eq_by_cmp sender_keys.cmp j k) (has ks j) tie

  in_old : has ks j ≡ true → has (with_key ks k) j ≡ true
  in_old there = has-with_key sender_keys ks k j ∙ or_right (eq_by_cmp sender_keys.cmp j k) (has ks j) there

  in_either : has (with_key ks k) j ≡ true → (eq_by_cmp sender_keys.cmp j k ≡ true) ⊎ (has ks j ≡ true)
  in_either there = or_either (eq_by_cmp sender_keys.cmp j k) (has ks j) (sym (has-with_key sender_keys ks k j) ∙ there)

not_true : (b : Bool) → not b ≡ true → b ≡ false
not_true true e = absurd (cc)
not_true false e = refl

module _ {X : Type 0} (T : Table sender_keys X) (k j : SenderKey) where
  without_had : has (without T k) j ≡ true → (has T j ≡ true) × (eq_by_cmp sender_keys.cmp k j ≡ false)
  without_had there =
      let v = has_some (get (without T k) j) there in
      let r = got_kept sender_keys (λ z. not (eq_by_cmp sender_keys.cmp k z)) T j v.0 v.1 in
      (ap is_some r.1, not_true (eq_by_cmp sender_keys.cmp k j) r.0)

  without_has : has T j ≡ true → eq_by_cmp sender_keys.cmp k j ≡ false → has (without T k) j ≡ true
  without_has there apart = ap is_some (get-without sender_keys T k j) ∙ ap (λ (b : Bool). is_some (cond (not b) (get T j) None)) apart ∙ there

-- ---- what nodes have
abbrev pub IsAdvertisedIn : World → SenderKey → Type 0
IsAdvertisedIn u k = (n : ℕ) × (f : Facts) × (slice_get u.nodes n ≡ Some f) × (has f.advertised k ≡ true)

pub record AreAdvertised (ks : Set sender_keys) (u : World) : Type 0 where
  pub told : (n : ℕ) (f : Facts) (k : SenderKey) → slice_get u.nodes n ≡ Some f → has f.advertised k ≡ true → (has f.senders k ≡ true) × (has ks k ≡ true)
  pub made : (k : SenderKey) → has ks k ≡ true → IsAdvertisedIn u k

-- ---- a step that is no call
step_advertises : (q : ℕ) (s : Step) (u : World) (ks : Set sender_keys) → is_call s ≡ false → AreAdvertised ks u → AreAdvertised ks (step q s u)
step_advertises q s u ks off h = record {
  told = λ n g k at e.
      let f = facts_after_found q s u n g at in
      let kept = left q s u n f.0 off in
      let same : g.advertised ≡ f.0.advertised = ap (λ (z : Facts). z.advertised) f.2 ∙ kept.advertised in
      let sends : g.senders ≡ f.0.senders = ap (λ (z : Facts). z.senders) f.2 ∙ kept.senders in
      let r = h.told n f.0 k f.1 (subst (λ (z : Set sender_keys). has z k ≡ true) same e) in
      (subst (λ (z : SendersOf). has z k ≡ true) (sym sends) r.0, r.1);
  made = λ k e.
      let r = h.made k e in (
        r.0,
        (outcome q s u r.0 r.1).facts,
        facts_after_made q s u r.0 r.1 r.2,
        subst (λ (z : Set sender_keys). has z k ≡ true) (sym (left q s u r.0 r.1 off).advertised) r.3,
      );
}

pub steps_advertise : (q : ℕ) (ss : List Step) (u : World) (ks : Set sender_keys) → ((s : Step) → In s ss → is_call s ≡ false) → AreAdvertised ks u → AreAdvertised ks (run (machine q) ss u)
steps_advertise q [] u ks off h = h
steps_advertise q (s ∷ ss) u ks off h = steps_advertise q ss (step q s u) ks (λ x i. off x (inr i)) (step_advertises q s u ks (off s (inl refl)) h)

-- ---- a call that is taken
module _ (q : ℕ) (u : World) (m : ℕ) (c : Local) (taken : (f : Facts) → slice_get u.nodes m ≡ Some f → call_refusal (config_of q u.net u.trees m) c f ≡ None) where
  abbrev new : World
  new = step q (At m c) u

  -- who was advertised still is, where the call keeps that at its node
  still : (k : SenderKey) → IsAdvertisedIn u k → ((f : Facts) → has f.advertised k ≡ true → has (advertised_with c f.advertised) k ≡ true) → IsAdvertisedIn new k
  still k old keeps =
      let there : has (outcome q (At m c) u old.0 old.1).facts.advertised k ≡ true =
      ⊎_elim
      (λ (e : m ≡ old.0).
      let at : slice_get u.nodes m ≡ Some old.1 = ap (slice_get u.nodes) e ∙ old.2 in
      let here : has (after q u m c old.1 (taken old.1 at)).advertised k ≡ true =
      subst (λ (z : Set sender_keys). has z k ≡ true) (sym (own_advertised q u m c old.1 (taken old.1 at))) (keeps old.1 old.3) in
      subst (λ (z : ℕ). has (outcome q (At m c) u z old.1).facts.advertised k ≡ true) e here)
      (λ (off : (m ≡ old.0 → ⊥) × ((m == old.0) ≡ false)). subst (λ (z : Set sender_keys). has z k ≡ true) (sym (others q u m c old.0 old.1 off.1).advertised) old.3)
      (same_or_not m old.0) in
      (old.0, (outcome q (At m c) u old.0 old.1).facts, facts_after_made q (At m c) u old.0 old.1 old.2, there)

  -- and who is advertised at the node by the call is
  now : (f : Facts) (k : SenderKey) → slice_get u.nodes m ≡ Some f → has (advertised_with c f.advertised) k ≡ true → IsAdvertisedIn new k
  now f k at e = (
    m,
    (outcome q (At m c) u m f).facts,
    facts_after_made q (At m c) u m f at,
    subst (λ (z : Set sender_keys). has z k ≡ true) (sym (own_advertised q u m c f (taken f at))) e,
  )

  module _ (ks ks' : Set sender_keys) (h : AreAdvertised ks u)
      (here : (f : Facts) (k : SenderKey) → slice_get u.nodes m ≡ Some f → has (advertised_with c f.advertised) k ≡ true → (has (senders_with c f.senders) k ≡ true) × (has ks' k ≡ true))
      (elsewhere : (n : ℕ) (f : Facts) (k : SenderKey) → (m ≡ n → ⊥) → slice_get u.nodes n ≡ Some f → has f.senders k ≡ true → has ks k ≡ true → has ks' k ≡ true)
      (made : (k : SenderKey) → has ks' k ≡ true → IsAdvertisedIn new k) where
    told_then : (n : ℕ) (g : Facts) (k : SenderKey) → slice_get new.nodes n ≡ Some g → has g.advertised k ≡ true → (has g.senders k ≡ true) × (has ks' k ≡ true)
    told_then n g k at e =
        let f = facts_after_found q (At m c) u n g at in
        ⊎_elim
        (λ (same : m ≡ n).
        let at_m : slice_get u.nodes m ≡ Some f.0 = ap (slice_get u.nodes) same ∙ f.1 in
        let is : g ≡ after q u m c f.0 (taken f.0 at_m) = f.2 ∙ ap (λ (z : ℕ). (outcome q (At m c) u z f.0).facts) (sym same) in
        let told = ap (λ (z : Facts). z.advertised) is ∙ own_advertised q u m c f.0 (taken f.0 at_m) in
        let sends = ap (λ (z : Facts). z.senders) is ∙ own_senders q u m c f.0 (taken f.0 at_m) in
        let r = here f.0 k at_m (subst (λ (z : Set sender_keys). has z k ≡ true) told e) in
        (subst (λ (z : SendersOf). has z k ≡ true) (sym sends) r.0, r.1))
        (λ (off : (m ≡ n → ⊥) × ((m == n) ≡ false)).
        let kept = others q u m c n f.0 off.1 in
        let told : g.advertised ≡ f.0.advertised = ap (λ (z : Facts). z.advertised) f.2 ∙ kept.advertised in
        let sends : g.senders ≡ f.0.senders = ap (λ (z : Facts). z.senders) f.2 ∙ kept.senders in
        let r = h.told n f.0 k f.1 (subst (λ (z : Set sender_keys). has z k ≡ true) told e) in
        (subst (λ (z : SendersOf). has z k ≡ true) (sym sends) r.0, elsewhere n f.0 k off.0 f.1 r.0 r.1)) (same_or_not m n)

    call_advertises : AreAdvertised ks' new
    call_advertises = record { told = told_then; made = made }

  -- a call that says nothing of who is advertised, and drops nobody
  pub plain_advertises : (ks : Set sender_keys) → AreAdvertised ks u → ((t : Set sender_keys) → advertised_with c t ≡ t)
      → ((T : SendersOf) (k : SenderKey) → has T k ≡ true → has (senders_with c T) k ≡ true) → AreAdvertised ks new
  plain_advertises ks h same stays =
      call_advertises ks ks h
      (λ f k at e. let r = h.told m f k at (subst (λ (z : Set sender_keys). has z k ≡ true) (same f.advertised) e) in (stays f.senders k r.0, r.1))
      (λ n f k away at sends there. there)
      (λ k e. still k (h.made k e) (λ f t. subst (λ (z : Set sender_keys). has z k ≡ true) (sym (same f.advertised)) t))

-- ---- one sender
module _ (q : ℕ) (u : World) (m : ℕ) (s : Session) (x : Sender) (ks : Set sender_keys) (h : AreAdvertised ks u) where
  needed : (b : Bool) (e : LocalErr) → needs b e None ≡ None → b ≡ true
  needed true e none = refl
  needed false e none = absurd (cc)

  -- one that is advertised from now on
  pub advert_advertises : ((f : Facts) → slice_get u.nodes m ≡ Some f → call_refusal (config_of q u.net u.trees m) (AdvertAs s x) f ≡ None) → (f : Facts) × (slice_get u.nodes m ≡ Some f)
      → AreAdvertised (with_key ks (s, x)) (step q (At m (AdvertAs s x)) u)
  advert_advertises taken inside =
      call_advertises q u m (AdvertAs s x) taken ks (with_key ks (s, x)) h
      (λ f k at e.
      ⊎_elim
      (λ (tie : eq_by_cmp sender_keys.cmp k (s, x) ≡ true).
      let sends : has f.senders (s, x) ≡ true = needed (has f.senders (s, x)) local.Absent (taken f at) in
      (subst (λ (z : SenderKey). has f.senders z ≡ true) (sym (tied_same sender_keys k (s, x) tie)) sends, in_new ks (s, x) k tie))
      (λ (old : has f.advertised k ≡ true). let r = h.told m f k at old in (r.0, in_old ks (s, x) k r.1))
      (in_either f.advertised (s, x) k e))
      (λ n f k away at sends there. in_old ks (s, x) k there)
      (λ k e.
      ⊎_elim (λ (tie : eq_by_cmp sender_keys.cmp k (s, x) ≡ true). now q u m (AdvertAs s x) taken inside.0 k inside.1 (in_new inside.0.advertised (s, x) k tie))
      (λ (old : has ks k ≡ true). still q u m (AdvertAs s x) taken k (h.made k old) (λ f t. in_old f.advertised (s, x) k t))
      (in_either ks (s, x) k e))

  -- one that is dropped, which no other node lets send
  pub drop_advertises : ((f : Facts) → slice_get u.nodes m ≡ Some f → call_refusal (config_of q u.net u.trees m) (DropAs s x) f ≡ None)
      → ((n : ℕ) (f : Facts) → (m ≡ n → ⊥) → slice_get u.nodes n ≡ Some f → has f.senders (s, x) ≡ true → ⊥)
      → AreAdvertised (without ks (s, x)) (step q (At m (DropAs s x)) u)
  drop_advertises taken alone =
      call_advertises q u m (DropAs s x) taken ks (without ks (s, x)) h
      (λ f k at e.
      let w = without_had f.advertised (s, x) k e in
      let r = h.told m f k at w.0 in
      (without_has f.senders (s, x) k r.0 w.1, without_has ks (s, x) k r.1 w.1))
      (λ n f k away at sends there.
      without_has ks (s, x) k there
      (either (eq_by_cmp sender_keys.cmp (s, x) k)
      (λ tie. absurd (alone n f away at (subst (λ (z : SenderKey). has f.senders z ≡ true) (sym (tied_same sender_keys (s, x) k tie)) sends))) (λ off. off)))
      (λ k e.
      let w = without_had ks (s, x) k e in
      still q u m (DropAs s x) taken k (h.made k w.0) (λ f t. without_has f.advertised (s, x) k t w.1))
