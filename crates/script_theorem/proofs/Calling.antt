-- A call that is not refused: its node has what the call makes of what it had, and the others what they had.
use Rattle.std.proofs.Common.{◌≡◌, ◌⊎◌, ℕ, ◌+◌, Bool, true, false, cond, Option, Some, None, refl, sym, ap, subst, ◌∙◌, inl, inr, ⊎_elim}
use Rattle.std.specs.Prelude.{slice_get, ◌==◌}
use Rattle.rsvp_base.specs.Members.{In}
use Rattle.rsvp_base.specs.Table.{get}
use Rattle.rsvp_base.specs.TokenBucket.{TokenBucket}
use Rattle.laws_bounds.specs.Frames.{AreSameButMarks}
use Rattle.laws_bounds.proofs.Framing.{wants_then}
use Rattle.router_rules.specs.declared.answers.LocalErr.{LocalErr}
use Rattle.router_rules.specs.Calls.{SendersOf, advertised_with, call_refusal, senders_with, unless, wants_with}
use Rattle.router_rules.specs.Facts.{Facts, SenderKey, Want, WantKey}
use Rattle.router_rules.specs.Inputs.{Call, Local}
use Rattle.router_rules.specs.Steps.{facts_then}
use Rattle.tree_model.specs.declared.locals.LocalSender.{LocalSender}
use Rattle.tree_model.specs.declared.locals.LocalWant.{LocalWant}
use Rattle.tree_model.specs.Wants.{Locals}
use Rattle.tree_model.proofs.Following.{number_same, same_number}
use Rattle.network_model.specs.Locals.{sender_at, want_at}
use Rattle.network_model.specs.Steps.{At, ms_of, outcome, outcome_of, step}
use Rattle.network_model.specs.Worlds.{World, config_of}
use Rattle.network_model.proofs.Stepping.{facts_after_found, facts_after_made}
use Rattle.script_theorem.proofs.Keeping.{IsLeft, Stands, back, forth, itself}

-- a number is another, or not
pub same_or_not : (m n : ℕ) → (m ≡ n) ⊎ ((m ≡ n → ⊥) × ((m == n) ≡ false))
same_or_not m n = by (m == n) refl
  where
    by : (b : Bool) → (m == n) ≡ b → (m ≡ n) ⊎ ((m ≡ n → ⊥) × ((m == n) ≡ false))
    by true t = inl (same_number m n t)
    by false t = inr ((λ e. let no : true ≡ false = sym (number_same m n e) ∙ t in absurd (cc)), t)

module _ (q : ℕ) (u : World) (m : ℕ) (c : Local) where
  pub others : (n : ℕ) (f : Facts) → (m == n) ≡ false → IsLeft f (outcome q (At m c) u n f).facts
  others n f off = subst (λ (b : Bool). IsLeft f (outcome_of q (cond b (Some (Call c)) None) (At m c) u n f).facts) (sym off) (itself f)

  module _ (f : Facts) (taken : call_refusal (config_of q u.net u.trees m) c f ≡ None) where
    abbrev pub after : Facts
    after = (outcome q (At m c) u m f).facts

    on : (m == m) ≡ true
    on = number_same m m refl

    pub own_senders : after.senders ≡ senders_with c f.senders
    own_senders =
        ap (λ (b : Bool). (outcome_of q (cond b (Some (Call c)) None) (At m c) u m f).facts.senders) on
        ∙ ap (λ (r : Option LocalErr). unless r (senders_with c f.senders) f.senders) taken

    pub own_advertised : after.advertised ≡ advertised_with c f.advertised
    own_advertised =
        ap (λ (b : Bool). (outcome_of q (cond b (Some (Call c)) None) (At m c) u m f).facts.advertised) on
        ∙ ap (λ (r : Option LocalErr). unless r (advertised_with c f.advertised) f.advertised) taken

    own_wants : AreSameButMarks (wants_with c f.wants) after.wants
    own_wants =
        subst (λ (b : Bool). AreSameButMarks (wants_with c f.wants) (outcome_of q (cond b (Some (Call c)) None) (At m c) u m f).facts.wants) (sym on)
        (subst (λ (r : Option LocalErr). AreSameButMarks (unless r (wants_with c f.wants) f.wants)
        (facts_then (config_of q u.net u.trees m) (config_of q u.net u.trees m) (u.clock + ms_of (At m c)) (Call c) f).wants) taken
        (wants_then (config_of q u.net u.trees m) (config_of q u.net u.trees m) (u.clock + ms_of (At m c)) (Call c) f))

  -- what is asked with the call, l', beside what was asked, l: elsewhere the same, and at the node what the call makes
  pub record Makes (l l' : Locals) : Type 0 where
    pub taken : (f : Facts) → slice_get u.nodes m ≡ Some f → call_refusal (config_of q u.net u.trees m) c f ≡ None
    pub senders_stay : (x : LocalSender) → In x l.senders → (x.node ≡ m → ⊥) → In x l'.senders
    pub senders_were : (x : LocalSender) → In x l'.senders → (x.node ≡ m → ⊥) → In x l.senders
    pub sends : (f : Facts) (k : SenderKey) (t : TokenBucket) → slice_get u.nodes m ≡ Some f → get (senders_with c f.senders) k ≡ Some t → In (sender_at m k) l'.senders
    pub sent : (x : LocalSender) → In x l'.senders → x.node ≡ m → (f : Facts) × (t : TokenBucket) × (slice_get u.nodes m ≡ Some f) × (get (senders_with c f.senders) (x.session, x.sender) ≡ Some t)
    pub wants_stay : (w : LocalWant) → In w l.wants → (w.node ≡ m → ⊥) → In w l'.wants
    pub wants_were : (w : LocalWant) → In w l'.wants → (w.node ≡ m → ⊥) → In w l.wants
    pub wants : (f : Facts) (k : WantKey) (v : Want) → slice_get u.nodes m ≡ Some f → get (wants_with c f.wants) k ≡ Some v → In (want_at m (k, v)) l'.wants
    pub wanted : (w : LocalWant) → In w l'.wants → w.node ≡ m → (f : Facts) × (k : WantKey) × (v : Want) × (slice_get u.nodes m ≡ Some f) × (get (wants_with c f.wants) k ≡ Some v)
        × (w ≡ want_at w.node (k, v))

  module _ (l l' : Locals) (h : Stands l u) (makes : Makes l l') where
    sender_told : (n : ℕ) (g : Facts) (k : SenderKey) (t : TokenBucket) → slice_get (step q (At m c) u).nodes n ≡ Some g → get g.senders k ≡ Some t → In (sender_at n k) l'.senders
    sender_told n g k t at there =
        let f = facts_after_found q (At m c) u n g at in
        let found : get (outcome q (At m c) u n f.0).facts.senders k ≡ Some t = subst (λ (z : Facts). get z.senders k ≡ Some t) f.2 there in
        ⊎_elim
        (λ (e : m ≡ n).
        let at_m : slice_get u.nodes m ≡ Some f.0 = ap (slice_get u.nodes) e ∙ f.1 in
        let found_m : get (after f.0 (makes.taken f.0 at_m)).senders k ≡ Some t = subst (λ (z : ℕ). get (outcome q (At m c) u z f.0).facts.senders k ≡ Some t) (sym e) found in
        let made = subst (λ (z : SendersOf). get z k ≡ Some t) (own_senders f.0 (makes.taken f.0 at_m)) found_m in
        subst (λ (z : ℕ). In (sender_at z k) l'.senders) e (makes.sends f.0 k t at_m made))
        (λ (off : (m ≡ n → ⊥) × ((m == n) ≡ false)).
        let old = subst (λ (z : SendersOf). get z k ≡ Some t) (others n f.0 off.1).senders found in
        makes.senders_stay (sender_at n k) (h.sender_told n f.0 k t f.1 old) (λ e. off.0 (sym e))) (same_or_not m n)

    sender_made : (x : LocalSender) → In x l'.senders → (g : Facts) × (t : TokenBucket) × (slice_get (step q (At m c) u).nodes x.node ≡ Some g) × (get g.senders (x.session, x.sender) ≡ Some t)
    sender_made x i =
        ⊎_elim
        (λ (e : m ≡ x.node).
        let r = makes.sent x i (sym e) in
        let taken = makes.taken r.0 r.2 in
        let at : slice_get (step q (At m c) u).nodes x.node ≡ Some (after r.0 taken) = ap (slice_get (step q (At m c) u).nodes) (sym e) ∙ facts_after_made q (At m c) u m r.0 r.2 in
        (after r.0 taken, r.1, at, subst (λ (z : SendersOf). get z (x.session, x.sender) ≡ Some r.1) (sym (own_senders r.0 taken)) r.3))
        (λ (off : (m ≡ x.node → ⊥) × ((m == x.node) ≡ false)).
        let r = h.sender_made x (makes.senders_were x i (λ e. off.0 (sym e))) in (
          (outcome q (At m c) u x.node r.0).facts,
          r.1,
          facts_after_made q (At m c) u x.node r.0 r.2,
          subst (λ (z : SendersOf). get z (x.session, x.sender) ≡ Some r.1) (sym (others x.node r.0 off.1).senders) r.3,
        )) (same_or_not m x.node)

    want_told : (n : ℕ) (g : Facts) (k : WantKey) (v : Want) → slice_get (step q (At m c) u).nodes n ≡ Some g → get g.wants k ≡ Some v → In (want_at n (k, v)) l'.wants
    want_told n g k v at there =
        let f = facts_after_found q (At m c) u n g at in
        let found : get (outcome q (At m c) u n f.0).facts.wants k ≡ Some v = subst (λ (z : Facts). get z.wants k ≡ Some v) f.2 there in
        ⊎_elim
        (λ (e : m ≡ n).
        let at_m : slice_get u.nodes m ≡ Some f.0 = ap (slice_get u.nodes) e ∙ f.1 in
        let taken = makes.taken f.0 at_m in
        let found_m : get (after f.0 taken).wants k ≡ Some v = subst (λ (z : ℕ). get (outcome q (At m c) u z f.0).facts.wants k ≡ Some v) (sym e) found in
        let made = back (wants_with c f.0.wants) (after f.0 taken).wants (own_wants f.0 taken) m k v found_m in
        let there_m : In (want_at m (k, v)) l'.wants = subst (λ (z : LocalWant). In z l'.wants) made.2 (makes.wants f.0 k made.0 at_m made.1) in
        subst (λ (z : ℕ). In (want_at z (k, v)) l'.wants) e there_m)
        (λ (off : (m ≡ n → ⊥) × ((m == n) ≡ false)).
        let old = back f.0.wants (outcome q (At m c) u n f.0).facts.wants (others n f.0 off.1).wants n k v found in
        makes.wants_stay (want_at n (k, v)) (subst (λ (z : LocalWant). In z l.wants) old.2 (h.want_told n f.0 k old.0 f.1 old.1)) (λ e. off.0 (sym e))) (same_or_not m n)

    want_made : (w : LocalWant) → In w l'.wants → (g : Facts) × (k : WantKey) × (v : Want) × (slice_get (step q (At m c) u).nodes w.node ≡ Some g) × (get g.wants k ≡ Some v)
        × (w ≡ want_at w.node (k, v))
    want_made w i =
        ⊎_elim
        (λ (e : m ≡ w.node).
        let r = makes.wanted w i (sym e) in
        let taken = makes.taken r.0 r.3 in
        let at : slice_get (step q (At m c) u).nodes w.node ≡ Some (after r.0 taken) = ap (slice_get (step q (At m c) u).nodes) (sym e) ∙ facts_after_made q (At m c) u m r.0 r.3 in
        let new = forth (wants_with c r.0.wants) (after r.0 taken).wants (own_wants r.0 taken) w.node r.1 r.2 r.4 in
        (after r.0 taken, r.1, new.0, at, new.1, r.5 ∙ new.2))
        (λ (off : (m ≡ w.node → ⊥) × ((m == w.node) ≡ false)).
        let r = h.want_made w (makes.wants_were w i (λ e. off.0 (sym e))) in
        let new = forth r.0.wants (outcome q (At m c) u w.node r.0).facts.wants (others w.node r.0 off.1).wants w.node r.1 r.2 r.4 in
        ((outcome q (At m c) u w.node r.0).facts, r.1, new.0, facts_after_made q (At m c) u w.node r.0 r.3, new.1, r.5 ∙ new.2)) (same_or_not m w.node)

    pub call_stands : Stands l' (step q (At m c) u)
    call_stands = record { sender_told = sender_told; sender_made = sender_made; want_told = want_told; want_made = want_made }
