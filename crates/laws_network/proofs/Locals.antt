-- Quiet steps keep what the hosts of a network ask of it: the senders, and the wants but for marks, which a want of the network
-- does not have.
use Rattle.std.proofs.Common.{◌≡◌, ℕ, suc, ◌+◌, List, [], ◌∷◌, true, false, Option, None, Some, ⊎_elim, sym, refl, ap, subst, ◌∙◌}
use Rattle.std.specs.Prelude.{slice_get, is_some, map as each, ◌++◌}
use Rattle.rsvp_base.specs.Table.{get, keys, changed, changed_rows}
use Rattle.rsvp_base.proofs.Tables.{same_table, get-changed, then_do}
use Rattle.laws_steps.specs.LawsBounds.RuleLaws.{IsWant}
use Rattle.network_model.specs.RouterRules.Steps.{is_calm, node_step}
use Rattle.laws_steps.proofs.Framing.{calm_steps_keep_the_locals}
use Rattle.network_model.specs.RouterRules.Facts.{Facts, WantKey, Want, Wants, want_keys}
use Rattle.network_model.specs.RouterRules.Inputs.{Input}
use Rattle.network_model.specs.RouterRules.Rule.{Outcome}
use Rattle.network_model.specs.Bounds.{AreBounds}
use Rattle.network_model.specs.Locals.{sender_at, senders_from, want_at, wants_from, locals_of}
use Rattle.network_model.specs.Steps.{Step, is_quiet, ms_of, input_at, outcome, still, step}
use Rattle.network_model.specs.Worlds.{World, config_of}
use Rattle.network_model.proofs.Quiet.{IsWaited, IsCame, FollowsRule, input_found, outcome_quiet}
use Rattle.network_model.proofs.Stepping.{facts_after_found, facts_after_made}
use Rattle.laws_steps.specs.LawsBounds.Frames.{AreSameButMarks}

-- ---- wants without their marks
clear : WantKey → Want → Option Want
clear k v = Some (record { style = v.style; part = v.part; confirm = false })

rows_clear : (j : ℕ) (es : List (WantKey × Want)) → each (want_at j) (changed_rows clear es) ≡ each (want_at j) es
unfolding clear
rows_clear j [] = refl
rows_clear j (e ∷ es) = λ i. want_at j e ∷ rows_clear j es i

same_at : (k : WantKey) (a b : Option Want) → is_some b ≡ is_some a → ((x : Want) → b ≡ Some x → (w : Want) × (a ≡ Some w) × IsWant w x) → then_do b (clear k) ≡ then_do a (clear k)
unfolding clear
same_at k None None e f = refl
same_at k (Some w) None e f = absurd (cc)
same_at k None (Some x) e f = absurd (cc)
same_at k (Some w) (Some x) e f =
    let r = f x refl in
    let found : Some w ≡ Some r.0 = r.1 in
    let same : w ≡ r.0 = cc in
    λ i. Some (record { style = (r.2.style ∙ ap (λ (z : Want). z.style) (sym same)) i; part = (r.2.part ∙ ap (λ (z : Want). z.part) (sym same)) i; confirm = false })

same_clear : (a b : Wants) → AreSameButMarks a b → changed {o = want_keys} clear b ≡ changed {o = want_keys} clear a
same_clear a b h =
    same_table want_keys (changed clear b) (changed clear a)
    (λ k. get-changed want_keys clear b k ∙ same_at k (get a k) (get b k) (h.there k) (λ x e. let r = h.source k x e in (r.0, r.1, r.2)) ∙ sym (get-changed want_keys clear a k))

pub same_wants : (j : ℕ) (a b : Wants) → AreSameButMarks a b → each (want_at j) b.rows ≡ each (want_at j) a.rows
same_wants j a b h = sym (rows_clear j b.rows) ∙ ap (λ (t : Wants). each (want_at j) t.rows) (same_clear a b h) ∙ rows_clear j a.rows

-- ---- nodes with the same locals
pub record HaveSameLocals (f g : Facts) : Type 0 where
  pub senders : g.senders ≡ f.senders
  pub wants : (j : ℕ) → each (want_at j) g.wants.rows ≡ each (want_at j) f.wants.rows

abbrev Forth : List Facts → List Facts → Type 0
Forth fs gs = (n : ℕ) (f : Facts) → slice_get fs n ≡ Some f → (g : Facts) × (slice_get gs n ≡ Some g) × HaveSameLocals f g

abbrev Back : List Facts → List Facts → Type 0
Back fs gs = (n : ℕ) (g : Facts) → slice_get gs n ≡ Some g → (f : Facts) × (slice_get fs n ≡ Some f)

same_from : (j : ℕ) (fs gs : List Facts) → Forth fs gs → Back fs gs → (senders_from j gs ≡ senders_from j fs) × (wants_from j gs ≡ wants_from j fs)
same_from j [] [] forth back = (refl, refl)
same_from j [] (g ∷ gs) forth back = let r = back 0 g refl in let no : None ≡ Some r.0 = r.1 in absurd (cc)
same_from j (f ∷ fs) [] forth back = let r = forth 0 f refl in let no : None ≡ Some r.0 = r.1 in absurd (cc)
same_from j (f ∷ fs) (g ∷ gs) forth back =
    let r = forth 0 f refl in
    let found : Some g ≡ Some r.0 = r.1 in
    let is : g ≡ r.0 = cc in
    let here : HaveSameLocals f g = subst (HaveSameLocals f) (sym is) r.2 in
    let rest = same_from (suc j) fs gs (λ n x e. forth (suc n) x e) (λ n x e. back (suc n) x e) in (
      λ i. each (sender_at j) (keys (here.senders i)) ++ rest.0 i,
      λ i. here.wants j i ++ rest.1 i,
    )

-- ---- a quiet step
pub calm_input : (s : Step) (u : World) (n : ℕ) (i : Input) → is_quiet s ≡ true → input_at s u n ≡ Some i → is_calm i ≡ true
calm_input s u n i quiet e =
    ⊎_elim (λ (t : IsWaited s u n i). ap is_calm t.is) (λ (t : IsCame s u n i). ap is_calm t.is) (input_found s u n i quiet e)

module _ (q : ℕ) (s : Step) (u : World) (quiet : is_quiet s ≡ true) (bounds : AreBounds q u) where
  same_outcome : (n : ℕ) (f : Facts) → slice_get u.nodes n ≡ Some f → HaveSameLocals f (outcome q s u n f).facts
  same_outcome n f a =
      ⊎_elim
      (λ (h : (input_at s u n ≡ None) × (outcome q s u n f ≡ still f)). subst (λ (o : Outcome). HaveSameLocals f o.facts) (sym h.1) (record { senders = refl; wants = λ j. refl }))
      (λ (h : FollowsRule q s u n f (outcome q s u n f)).
      subst (λ (o : Outcome). HaveSameLocals f o.facts) (sym h.is)
      (record {
        senders = calm_steps_keep_the_locals.senders (node_step (config_of q u.net u.trees n) (config_of q u.net u.trees n) u.clock (u.clock + ms_of s) h.input f) (bounds.facts n f a)
            (calm_input s u n h.input quiet h.came);
        wants = λ j. same_wants j f.wants _ (calm_steps_keep_the_locals.wants (node_step (config_of q u.net u.trees n) (config_of q u.net u.trees n) u.clock (u.clock + ms_of s) h.input f)
            (bounds.facts n f a) (calm_input s u n h.input quiet h.came));
      }))
      (outcome_quiet q s u n f quiet)

  pub locals_kept : locals_of (step q s u) ≡ locals_of u
  locals_kept =
      let r = same_from 0 u.nodes (step q s u).nodes (λ n f e. ((outcome q s u n f).facts, facts_after_made q s u n f e, same_outcome n f e))
      (λ n g e. let x = facts_after_found q s u n g e in (x.0, x.1)) in
      λ i. record { senders = r.0 i; wants = r.1 i }
