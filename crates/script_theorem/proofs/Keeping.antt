-- What nodes have of the senders and wants that are asked of them; each step that is no call keeps it.
use Rattle.std.proofs.Common.{◌≡◌, ℕ, ◌+◌, Bool, true, false, List, [], ◌∷◌, Option, Some, None, refl, sym, ap, subst, ◌∙◌, inl, inr, ⊎_elim}
use Rattle.std.specs.Prelude.{slice_get, is_some}
use Rattle.rsvp_base.specs.Members.{In}
use Rattle.rsvp_base.specs.Table.{get}
use Rattle.rsvp_base.specs.TokenBucket.{TokenBucket}
use Rattle.calm_rounds.specs.Machine.{run}
use Rattle.laws_bounds.specs.Frames.{AreSameButMarks, on_advertised, on_senders, on_wants}
use Rattle.router_rules.specs.Calls.{SendersOf}
use Rattle.router_rules.specs.Facts.{Facts, SenderKey, Want, WantKey, Wants}
use Rattle.router_rules.specs.Inputs.{Clear, Input, Moved}
use Rattle.router_rules.specs.Steps.{node_step}
use Rattle.laws_steps.proofs.Framing.{left_as_it_was}
use Rattle.tree_model.specs.declared.locals.LocalSender.{LocalSender}
use Rattle.tree_model.specs.declared.locals.LocalWant.{LocalWant}
use Rattle.tree_model.specs.Wants.{Locals}
use Rattle.network_model.specs.Locals.{sender_at, want_at}
use Rattle.network_model.specs.Steps.{At, ClearAt, Copy, Deliver, Flags, Adverts, Inject, Lose, Piece, Report, Reroute, Step, Trace, input_at}
use Rattle.network_model.specs.Steps.{is_quiet, machine, ms_of, net_after, outcome, outcome_of, step}
use Rattle.network_model.specs.Worlds.{World, config_of}
use Rattle.network_model.proofs.Quiet.{IsCame, IsWaited, at_node_found, input_found}
use Rattle.network_model.proofs.Stepping.{facts_after_found, facts_after_made}
use Rattle.laws_network.proofs.Known.{has_some, of_some}

pub record Stands (l : Locals) (u : World) : Type 0 where
  pub sender_told : (n : ℕ) (f : Facts) (k : SenderKey) (t : TokenBucket) → slice_get u.nodes n ≡ Some f → get f.senders k ≡ Some t → In (sender_at n k) l.senders
  pub sender_made : (x : LocalSender) → In x l.senders → (f : Facts) × (t : TokenBucket) × (slice_get u.nodes x.node ≡ Some f) × (get f.senders (x.session, x.sender) ≡ Some t)
  pub want_told : (n : ℕ) (f : Facts) (k : WantKey) (v : Want) → slice_get u.nodes n ≡ Some f → get f.wants k ≡ Some v → In (want_at n (k, v)) l.wants
  pub want_made : (w : LocalWant) → In w l.wants → (f : Facts) × (k : WantKey) × (v : Want) × (slice_get u.nodes w.node ≡ Some f) × (get f.wants k ≡ Some v) × (w ≡ want_at w.node (k, v))

-- ---- marks do not matter
module _ (a b : Wants) (same : AreSameButMarks a b) (n : ℕ) where
  pub back : (k : WantKey) (v : Want) → get b k ≡ Some v → (w : Want) × (get a k ≡ Some w) × (want_at n (k, w) ≡ want_at n (k, v))
  back k v e =
      let r = same.source k v e in
      (r.0, r.1, λ i. record { node = n; session = k.0; style = sym r.2.style i; part = sym r.2.part i })

  pub forth : (k : WantKey) (w : Want) → get a k ≡ Some w → (v : Want) × (get b k ≡ Some v) × (want_at n (k, w) ≡ want_at n (k, v))
  forth k w e =
      let there : is_some (get b k) ≡ true = same.there k ∙ ap is_some e in
      let v = has_some (get b k) there in
      let r = back k v.0 v.1 in
      let is : w ≡ r.0 = of_some w r.0 (sym e ∙ r.1) in
      (v.0, v.1, ap (λ (z : Want). want_at n (k, z)) is ∙ r.2)

-- ---- a step that is no call
abbrev pub is_call : Step → Bool
is_call (At n l) = true
is_call _ = false

quiet_input : (s : Step) (u : World) (n : ℕ) (i : Input) → is_quiet s ≡ true → input_at s u n ≡ Some i → (on_senders i ≡ false) × (on_wants i ≡ false) × (on_advertised i ≡ false)
quiet_input s u n i quiet e =
    ⊎_elim (λ (t : IsWaited s u n i). (ap on_senders t.is, ap on_wants t.is, ap on_advertised t.is))
    (λ (t : IsCame s u n i). (ap on_senders t.is, ap on_wants t.is, ap on_advertised t.is)) (input_found s u n i quiet e)

no_call : (s : Step) (u : World) (n : ℕ) (i : Input) → is_call s ≡ false → input_at s u n ≡ Some i → (on_senders i ≡ false) × (on_wants i ≡ false) × (on_advertised i ≡ false)
no_call (At m l) u n i off e = absurd (cc)
no_call (ClearAt m) u n i off e = let r = at_node_found m n Clear i e in (ap on_senders r.1, ap on_wants r.1, ap on_advertised r.1)
no_call (Reroute g x hops) u n i off e = let is : i ≡ Moved = sym (of_some Moved i e) in (ap on_senders is, ap on_wants is, ap on_advertised is)
no_call (Piece ms) u n i off e = quiet_input (Piece ms) u n i refl e
no_call (Deliver k) u n i off e = quiet_input (Deliver k) u n i refl e
no_call (Lose k) u n i off e = quiet_input (Lose k) u n i refl e
no_call (Copy k) u n i off e = quiet_input (Copy k) u n i refl e
no_call (Trace on) u n i off e = quiet_input (Trace on) u n i refl e
no_call (Report r) u n i off e = quiet_input (Report r) u n i refl e
no_call Flags u n i off e = quiet_input Flags u n i refl e
no_call Adverts u n i off e = quiet_input Adverts u n i refl e
no_call (Inject t dst a) u n i off e = absurd (cc)

-- a node that has what another has, but for marks
pub record IsLeft (f g : Facts) : Type 0 where
  pub senders : g.senders ≡ f.senders
  pub advertised : g.advertised ≡ f.advertised
  pub wants : AreSameButMarks f.wants g.wants

pub itself : (f : Facts) → IsLeft f f
itself f = record { senders = refl; advertised = refl; wants = record { there = λ k. refl; source = λ k x e. (x, e, record { style = refl; part = refl }, λ on. on) } }

pub left : (q : ℕ) (s : Step) (u : World) (n : ℕ) (f : Facts) → is_call s ≡ false → IsLeft f (outcome q s u n f).facts
left q s u n f off = by (input_at s u n) refl
  where
    by : (o : Option Input) → input_at s u n ≡ o → IsLeft f (outcome_of q o s u n f).facts
    by None e = itself f
    by (Some i) e =
        let r = no_call s u n i off e in
        record {
          senders = left_as_it_was.senders (node_step (config_of q u.net u.trees n) (config_of q (net_after s u) u.trees n) u.clock (u.clock + ms_of s) i f) r.0;
          advertised = left_as_it_was.advertised (node_step (config_of q u.net u.trees n) (config_of q (net_after s u) u.trees n) u.clock (u.clock + ms_of s) i f) r.2;
          wants = left_as_it_was.wants (node_step (config_of q u.net u.trees n) (config_of q (net_after s u) u.trees n) u.clock (u.clock + ms_of s) i f) r.1;
        }

pub step_keeps : (q : ℕ) (s : Step) (u : World) (l : Locals) → is_call s ≡ false → Stands l u → Stands l (step q s u)
step_keeps q s u l off h = record {
  sender_told = λ n g k t at there.
      let f = facts_after_found q s u n g at in
      let same : g.senders ≡ f.0.senders = ap (λ (z : Facts). z.senders) f.2 ∙ (left q s u n f.0 off).senders in
      h.sender_told n f.0 k t f.1 (subst (λ (z : SendersOf). get z k ≡ Some t) same there);
  sender_made = λ x i.
      let r = h.sender_made x i in
      ((outcome q s u x.node r.0).facts, r.1, facts_after_made q s u x.node r.0 r.2, subst (λ (z : SendersOf). get z (x.session, x.sender) ≡ Some r.1) (sym (left q s u x.node r.0 off).senders) r.3);
  want_told = λ n g k v at there.
      let f = facts_after_found q s u n g at in
      let old = back f.0.wants (outcome q s u n f.0).facts.wants (left q s u n f.0 off).wants n k v (subst (λ (z : Facts). get z.wants k ≡ Some v) f.2 there) in
      subst (λ (z : LocalWant). In z l.wants) old.2 (h.want_told n f.0 k old.0 f.1 old.1);
  want_made = λ w i.
      let r = h.want_made w i in
      let new = forth r.0.wants (outcome q s u w.node r.0).facts.wants (left q s u w.node r.0 off).wants w.node r.1 r.2 r.4 in
      ((outcome q s u w.node r.0).facts, r.1, new.0, facts_after_made q s u w.node r.0 r.3, new.1, r.5 ∙ new.2);
}

pub steps_keep : (q : ℕ) (ss : List Step) (u : World) (l : Locals) → ((s : Step) → In s ss → is_call s ≡ false) → Stands l u → Stands l (run (machine q) ss u)
steps_keep q [] u l off h = h
steps_keep q (s ∷ ss) u l off h = steps_keep q ss (step q s u) l (λ x i. off x (inr i)) (step_keeps q s u l (off s (inl refl)) h)
