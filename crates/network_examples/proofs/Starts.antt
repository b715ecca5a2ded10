-- The two starts: nobody sends, and nobody wants anything.
use Rattle.std.proofs.Common.{◌≡◌, ℕ, zero, suc, [], ◌∷◌, Some, arith, refl, ap, ◌∙◌}
use Rattle.std.specs.Prelude.{slice_get}
use Rattle.rsvp_base.specs.declared.style.StyleKind.{StyleKind}
use Rattle.rsvp_base.specs.Table.{get}
use Rattle.rsvp_base.specs.TokenBucket.{TokenBucket}
use Rattle.rsvp_messages.specs.declared.message.Message.TheVariants as message
use Rattle.style_rules.specs.Limits.{IsWithinLimits}
use Rattle.style_rules.specs.Lines.{held}
use Rattle.router_rules.specs.Facts.{Facts, SenderKey, no_facts}
use Rattle.router_rules.specs.Inputs.{Spelt}
use Rattle.router_examples.specs.ThreeRouters.{r1, s1}
use Rattle.tree_model.specs.Goals.{DemandsFit, demand_of}
use Rattle.tree_model.specs.Wants.{Locals}
use Rattle.network_model.specs.Bounds.{AreBounds, AreHosts}
use Rattle.network_model.specs.Steps.{Deliver, Inject}
use Rattle.laws_network.specs.Example.{pair_net, quiet_world}
use Rattle.laws_network.proofs.Calming.{calm_rounds}
use Rattle.laws_network.proofs.Example.{a_pair_stays_within_bounds}
use Rattle.laws_network.proofs.Keeping.{each_step_keeps_a_world_within_bounds}
use Rattle.laws_network.proofs.Known.{of_some}
use Rattle.settle_resvs.specs.BlockadeExample.{erring_world, refusing_world, the_error, the_resv}
use Rattle.settle_resvs.proofs.BlockadeExample.{something_is_refused}
use Rattle.network_examples.specs.Starts.{AStartRefuses}
use Rattle.network_examples.proofs.Ready.{in_scope, usual_sound}

no_sender : {X : Type 0} (n : ℕ) (f : Facts) (k : SenderKey) (t : TokenBucket) → slice_get (no_facts ∷ no_facts ∷ []) n ≡ Some f → get f.senders k ≡ Some t → X
no_sender zero f k t e h =
    let same : no_facts ≡ f = of_some _ _ e in
    let none : get no_facts.senders k ≡ Some t = ap (λ (z : Facts). get z.senders k) same ∙ h in
    absurd (cc)
no_sender (suc zero) f k t e h =
    let same : no_facts ≡ f = of_some _ _ e in
    let none : get no_facts.senders k ≡ Some t = ap (λ (z : Facts). get z.senders k) same ∙ h in
    absurd (cc)
no_sender (suc (suc n)) f k t e h = absurd (cc)

refusing_hosts : AreHosts refusing_world
refusing_hosts = record {
  placed = λ n f k t e h. no_sender n f k t e h;
  groups = λ n f k t e h. no_sender n f k t e h;
  few_senders = λ s. omega arith;
  few_sessions = omega arith;
}

erring_hosts : AreHosts erring_world
erring_hosts = record {
  placed = λ n f k t e h. no_sender n f k t e h;
  groups = λ n f k t e h. no_sender n f k t e h;
  few_senders = λ s. omega arith;
  few_sessions = omega arith;
}

-- nobody wants anything, so the demands fit
abbrev nobody : Locals
nobody = record { senders = []; wants = [] }

no_limits : (st : StyleKind) → IsWithinLimits st []
no_limits st = record { lines = omega arith; sessions = omega arith; next_hops = λ s. omega arith; names = λ s. omega arith }

fit : DemandsFit pair_net nobody
fit = record {
  capacity = λ e x is. let none : held (demand_of pair_net nobody e) ≡ 0 = refl in omega arith;
  mtu = λ e x k p is got. absurd (cc);
  one_style = λ v w i j same. absurd i;
  limits = λ n st. no_limits st;
}

refusing_bounds : AreBounds 7500 refusing_world
refusing_bounds = each_step_keeps_a_world_within_bounds 7500 quiet_world (Inject 0 s1 (Spelt (message.Resv the_resv)))
    (omega arith, record { scope_is = in_scope; flow_is = usual_sound }) a_pair_stays_within_bounds.quiet

erring_bounds : AreBounds 7500 erring_world
erring_bounds = each_step_keeps_a_world_within_bounds 7500 quiet_world (Inject 1 r1 (Spelt (message.ResvErr the_error))) (omega arith, (in_scope, usual_sound)) a_pair_stays_within_bounds.quiet

pub a_start_refuses : AStartRefuses
a_start_refuses = record {
  refusing = record { bounds = refusing_bounds; locals = refusing_hosts; fit = fit };
  erring = record { bounds = erring_bounds; locals = erring_hosts; fit = fit };
  rounds_of_refusing = λ k. calm_rounds 7500 k refusing_world;
  rounds_of_erring = λ k. calm_rounds 7500 k erring_world;
  enough = refl;
  not_taken = λ takes. something_is_refused.refused (takes (Deliver 0) refl);
  not_gone = something_is_refused.blamed;
}
