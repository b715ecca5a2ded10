-- A call that is not refused, as a step of a network: what its node has then, and that nothing else changes.
use Rattle.std.proofs.Common.{◌≡◌, ℕ, ◌+◌, suc, Bool, true, false, cond, List, [], ◌∷◌, length, Option, Some, None, refl, sym, ap, subst, ◌∙◌}
use Rattle.std.specs.Prelude.{◌==◌, slice_get}
use Rattle.rsvp_base.specs.Members.{In}
use Rattle.router_rules.specs.declared.answers.LocalErr.{LocalErr}
use Rattle.router_rules.specs.Calls.{SendersOf, act_call, call_refusal, senders_with, unless, wants_with}
use Rattle.router_rules.specs.Facts.{Facts, Want, WantKey, want_keys}
use Rattle.router_rules.specs.Inputs.{Call, Local}
use Rattle.router_rules.specs.NodeConfig.{NodeConfig}
use Rattle.router_rules.specs.Rule.{settled}
use Rattle.router_rules.specs.Sends.{used_marks}
use Rattle.rsvp_base.specs.Sets.{Set}
use Rattle.tree_model.specs.Networks.{Net}
use Rattle.network_model.specs.Steps.{At, Step, facts_from, ms_of, outcome, outcome_of, step}
use Rattle.network_model.specs.Worlds.{World, config_of}
use Rattle.network_model.proofs.Stepping.{facts_after_found}
use Rattle.laws_grown.proofs.Rows.{unmarked_rows}

-- what the nodes of a network have: these senders, and these wants
pub record Have (net : Net) (S : ℕ → SendersOf) (R : ℕ → List (WantKey × Want)) (w : World) : Type 0 where
  pub many : length w.nodes ≡ 64
  pub net_is : w.net ≡ net
  pub quiet : w.trace ≡ false
  pub senders : (n : ℕ) (f : Facts) → slice_get w.nodes n ≡ Some f → f.senders ≡ S n
  pub wants : (n : ℕ) (f : Facts) → slice_get w.nodes n ≡ Some f → f.wants.rows ≡ R n

facts_many : (q : ℕ) (s : Step) (w : World) (n : ℕ) (fs : List Facts) → length (facts_from q s w n fs) ≡ length fs
facts_many q s w n [] = refl
facts_many q s w n (f ∷ fs) = ap suc (facts_many q s w (suc n) fs)

module _ (q : ℕ) (w : World) (m : ℕ) (l : Local) where
  -- another node stays as it is
  other_node : (n : ℕ) (f : Facts) → (m == n) ≡ false → (outcome q (At m l) w n f).facts ≡ f
  other_node n f off = ap (λ (b : Bool). (outcome_of q (cond b (Some (Call l)) None) (At m l) w n f).facts) off

  -- the node follows the call
  module _ (n : ℕ) (f : Facts) (on : (m == n) ≡ true) (taken : call_refusal (config_of q w.net w.trees n) l f ≡ None) where
    its_senders : (outcome q (At m l) w n f).facts.senders ≡ senders_with l f.senders
    its_senders =
        ap (λ (b : Bool). (outcome_of q (cond b (Some (Call l)) None) (At m l) w n f).facts.senders) on
        ∙ ap (λ (r : Option LocalErr). unless r (senders_with l f.senders) f.senders) taken

    abbrev place : NodeConfig
    place = config_of q w.net w.trees n

    -- the marks that what is sent for the call uses
    abbrev used : Set want_keys
    used = used_marks place place f (settled place (w.clock + ms_of (At m l)) f (act_call place l f).facts) (act_call place l f).asked

    its_wants : ((e : WantKey × Want) → In e (wants_with l f.wants).rows → e.1.confirm ≡ false) → (outcome q (At m l) w n f).facts.wants.rows ≡ (wants_with l f.wants).rows
    its_wants clear =
        let same : (unless (call_refusal (config_of q w.net w.trees n) l f) (wants_with l f.wants) f.wants).rows ≡ (wants_with l f.wants).rows =
        ap (λ (r : Option LocalErr). (unless r (wants_with l f.wants) f.wants).rows) taken in
        ap (λ (b : Bool). (outcome_of q (cond b (Some (Call l)) None) (At m l) w n f).facts.wants.rows) on
        ∙ (unmarked_rows used (unless (call_refusal (config_of q w.net w.trees n) l f) (wants_with l f.wants) f.wants).rows (λ e i. clear e (subst (λ (es : List (WantKey × Want)). In e es) same i))
        ∙ same)

module _ (q : ℕ) (net : Net) (S : ℕ → SendersOf) (R : ℕ → List (WantKey × Want)) (w : World) (have : Have net S R w) (m : ℕ) (l : Local) (S' : ℕ → SendersOf) (R' : ℕ → List (WantKey × Want)) where
  -- the others have what they had, and the node has what the call makes of it
  pub record Makes : Type 0 where
    pub other_senders : (n : ℕ) → (m == n) ≡ false → S' n ≡ S n
    pub other_wants : (n : ℕ) → (m == n) ≡ false → R' n ≡ R n
    pub taken : (n : ℕ) (f : Facts) → (m == n) ≡ true → f.senders ≡ S n → f.wants.rows ≡ R n → call_refusal (config_of q net w.trees n) l f ≡ None
    pub own_senders : (n : ℕ) (f : Facts) → (m == n) ≡ true → f.senders ≡ S n → senders_with l f.senders ≡ S' n
    pub own_wants : (n : ℕ) (f : Facts) → (m == n) ≡ true → f.wants.rows ≡ R n → (wants_with l f.wants).rows ≡ R' n
    pub clear : (n : ℕ) (e : WantKey × Want) → In e (R' n) → e.1.confirm ≡ false

  module _ (makes : Makes) where
    pub called : Have net S' R' (step q (At m l) w)
    called = record {
      many = facts_many q (At m l) w 0 w.nodes ∙ have.many;
      net_is = have.net_is;
      quiet = have.quiet;
      senders = λ n g at. let f = facts_after_found q (At m l) w n g at in ap (λ (z : Facts). z.senders) f.2 ∙ senders_at n f.0 f.1 (m == n) refl;
      wants = λ n g at. let f = facts_after_found q (At m l) w n g at in ap (λ (z : Facts). z.wants.rows) f.2 ∙ wants_at n f.0 f.1 (m == n) refl;
    }
      where
        taken_at : (n : ℕ) (f : Facts) → slice_get w.nodes n ≡ Some f → (m == n) ≡ true → call_refusal (config_of q w.net w.trees n) l f ≡ None
        taken_at n f at on = ap (λ (z : Net). call_refusal (config_of q z w.trees n) l f) have.net_is ∙ makes.taken n f on (have.senders n f at) (have.wants n f at)

        senders_at : (n : ℕ) (f : Facts) → slice_get w.nodes n ≡ Some f → (b : Bool) → (m == n) ≡ b → (outcome q (At m l) w n f).facts.senders ≡ S' n
        senders_at n f at true on = its_senders q w m l n f on (taken_at n f at on) ∙ makes.own_senders n f on (have.senders n f at)
        senders_at n f at false off = ap (λ (z : Facts). z.senders) (other_node q w m l n f off) ∙ have.senders n f at ∙ sym (makes.other_senders n off)

        wants_at : (n : ℕ) (f : Facts) → slice_get w.nodes n ≡ Some f → (b : Bool) → (m == n) ≡ b → (outcome q (At m l) w n f).facts.wants.rows ≡ R' n
        wants_at n f at true on =
            let rows = makes.own_wants n f on (have.wants n f at) in
            its_wants q w m l n f on (taken_at n f at on) (λ e i. makes.clear n e (subst (λ (es : List (WantKey × Want)). In e es) rows i)) ∙ rows
        wants_at n f at false off = ap (λ (z : Facts). z.wants.rows) (other_node q w m l n f off) ∙ have.wants n f at ∙ sym (makes.other_wants n off)
