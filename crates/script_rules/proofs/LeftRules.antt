-- A fact that is to be left over: what its node answers, as the rules of the grammar.
use Rattle.std.specs.Prelude.{◌≡◌, ℕ, ◌++◌, ◌∷◌, [], List, Result, Ok, Err, OnErr, OnOk, Some}
use Rattle.std.specs.List.{All}
use Rattle.std.proofs.lemmas.List.Elements.{All-append, All-cons, All-nil}
use Rattle.std.proofs.Common.{sym, subst}
use Rattle.rsvp_base.specs.declared.session.Session.{Session}
use Rattle.router_rules.specs.Bounds.{AreWithinLimits}
use Rattle.router_rules.specs.Facts.{Facts}
use Rattle.router_rules.specs.Inputs.{Stale}
use Rattle.stale_state.specs.AtNodes.{ifaces_at_node}
use Rattle.stale_state.specs.Standing.{IsAdmittedIn, IsLeftOut, Stands}
use Rattle.stale_state.specs.declared.refused.LeftErr.TheVariants as left_err
use Rattle.stale_state.proofs.Listing.{facts_more}
use Rattle.script_grammar.specs.Draft.{Draft}
use Rattle.script_grammar.specs.Rules.{HasRoomForSession}
use Rattle.network_model.specs.LeftFacts.{facts_at}
use Rattle.network_model.specs.Excesses.{excess_at}
use Rattle.network_model.specs.declared.excess.Excess.{Excess}
use Rattle.script_grammar.specs.declared.fault.Fault.TheVariants as fault
use Rattle.script_grammar.specs.declared.stop.Stop.TheVariants.{Bad}
use Rattle.script_rules.specs.LeftRefusals.{IsLeft, IsNotLeft}

module _ (d : Draft) (node : ℕ) (s : Session) (f : Stale) (room : HasRoomForSession d s) where
  pub is_left : (new : List (ℕ × Stale)) → new ≡ d.stale ++ (node, f) ∷ [] → Stands (ifaces_at_node d.net.ends node) f (facts_at d.stale node) (facts_at new node) → IsLeft d node s f
  is_left new e stands = record {
    session = room;
    tables = subst (λ (xs : List (ℕ × Stale)). AreWithinLimits (facts_at xs node)) e stands.limits;
    admitted = subst (λ (xs : List (ℕ × Stale)). IsAdmittedIn (ifaces_at_node d.net.ends node) f (facts_at xs node)) e stands.admitted;
  }

  pub is_full : IsLeftOut (ifaces_at_node d.net.ends node) f (facts_at d.stale node) left_err.Full → IsNotLeft d node s f (Bad fault.Limit)
  is_full out both = out (subst AreWithinLimits (facts_more d.stale node f) both.1)

  pub is_over : (much : Excess) → IsLeftOut (ifaces_at_node d.net.ends node) f (facts_at d.stale node) (left_err.Over much) → IsNotLeft d node s f (Bad (fault.Over much))
  is_over much out = (
    room,
    subst AreWithinLimits (sym (facts_more d.stale node f)) out.0,
    λ admitted. out.1 (subst (IsAdmittedIn (ifaces_at_node d.net.ends node) f) (facts_more d.stale node f) admitted),
    subst (λ (g : Facts). excess_at (ifaces_at_node d.net.ends node) f g ≡ Some much) (sym (facts_more d.stale node f)) out.2,
  )

-- what holds of all that was left over holds of all that is, whether one more was taken or not
pub all_still : {A E X : Type 0} (P : X → Type 0) (r : Result A E) (old new : List X) (x : X) → All P old → P x → OnOk r (new ≡ old ++ x ∷ []) → OnErr r (new ≡ old) → All P new
all_still P (Ok a) old new x fit one taken out = subst (All P) (sym taken) (All-append P old (x ∷ []) fit (All-cons P x [] one (All-nil P)))
all_still P (Err e) old new x fit one taken out = subst (All P) (sym out) fit
