-- Three worlds that are ready: what they visit is computed.
use Rattle.std.proofs.Common.{◌≡◌, ℕ, [], ◌∷◌, true, None, Some, inl, inr, ⊎_elim, arith, sym, refl, ap, subst}
use Rattle.std.specs.Prelude.{slice_get}
use Rattle.std.specs.Option.{unwrap_or}
use Rattle.rsvp_base.specs.declared.session.Sender.{Sender}
use Rattle.rsvp_base.specs.declared.style.Unit.TheVariants.{One}
use Rattle.rsvp_base.specs.Orders.{senders}
use Rattle.rsvp_base.specs.Table.{has}
use Rattle.rsvp_base.specs.TokenBucket.{IsSound}
use Rattle.rsvp_base.proofs.Counts.{set_of_in}
use Rattle.rsvp_messages.specs.declared.message.Message.TheVariants as message
use Rattle.calm_rounds.proofs.Holding.{hold_both, hold_map}
use Rattle.router_rules.specs.Facts.{no_facts}
use Rattle.router_rules.specs.Inputs.{Spelt}
use Rattle.router_examples.specs.ThreeRouters.{r1, s1, scope, u1, usual}
use Rattle.tree_model.specs.Goals.{DemandsFit}
use Rattle.tree_model.specs.Networks.{Net}
use Rattle.tree_model.specs.Wants.{Locals}
use Rattle.network_model.specs.Bounds.{AreBounds}
use Rattle.network_model.specs.Sound.{ArePathsComplete, ArePathsSound, AreResvsSound, IsFreeOfBlockade}
use Rattle.network_model.specs.Steps.{Inject, machine}
use Rattle.network_model.specs.Worlds.{World}
use Rattle.laws_network.specs.Known.{IsSameNet}
use Rattle.laws_network.specs.Rounds.{rounds_of}
use Rattle.laws_network.proofs.Calming.{calm_rounds, rounds_is_calm}
use Rattle.laws_network.proofs.Computed.{Passes, in_rounds, through}
use Rattle.laws_network.proofs.Keeping.{each_step_keeps_a_world_within_bounds}
use Rattle.settle_resvs.specs.HopExample.{asking_world}
use Rattle.settle_resvs.proofs.HopExample.{a_pair_says_a_reservation}
use Rattle.settle_resvs.proofs.LeftOverExample.{nothing_is_reserved_yet}
use Rattle.settle_resvs.specs.BlockadeExample.{the_error, the_resv}
use Rattle.settle_resvs.proofs.Accepting.{locals_again}
use Rattle.network_examples.specs.Ready.{AResvGoesAstray, AReservationIsOnItsWay, AnErrorIsOnItsWay, IsReady, blaming_world, stray_world}
use Rattle.network_examples.proofs.Asking.{fit, free_told, hosts, is_free, is_so_far, so_far_through}

-- ---- what is injected is proper
pub in_scope : (x : Sender) → has scope x ≡ true → x.port ≡ 0
in_scope x h = ⊎_elim (λ (e : x ≡ record { addr = s1; port = 0 }). ap (λ (z : Sender). z.port) e) (λ (no : ⊥). absurd no) (set_of_in senders ((record { addr = s1; port = 0 }) ∷ []) x h)

pub usual_sound : IsSound usual
usual_sound = record { rate = omega arith; depth = omega arith; low = omega arith; most = omega arith }

stray_bounds : AreBounds 7500 stray_world
stray_bounds = each_step_keeps_a_world_within_bounds 7500 asking_world (Inject 0 u1 (Spelt (message.Resv the_resv)))
    (omega arith, record { scope_is = in_scope; flow_is = usual_sound }) a_pair_says_a_reservation.bounds

blaming_bounds : AreBounds 7500 blaming_world
blaming_bounds = each_step_keeps_a_world_within_bounds 7500 asking_world (Inject 1 r1 (Spelt (message.ResvErr the_error))) (omega arith, (in_scope, usual_sound)) a_pair_says_a_reservation.bounds

-- ---- the same is asked
pub asking_same : IsSameNet asking_world asking_world
asking_same = record { net = refl; trees = refl; senders = λ n. refl; advertised = λ n. refl; locals = refl }

stray_same : IsSameNet asking_world stray_world
stray_same = record { net = refl; trees = refl; senders = λ n. refl; advertised = λ n. refl; locals = refl }

blaming_same : IsSameNet asking_world blaming_world
blaming_same = record { net = refl; trees = refl; senders = λ n. refl; advertised = λ n. refl; locals = refl }

ready : (k : ℕ) (o : World) → AreBounds 7500 o → IsSameNet asking_world o → in_rounds 7500 is_so_far (rounds_of 7500 k o) o ≡ true → IsReady k o
ready k o bounds same t = record {
  hosts = locals_again asking_world o same hosts;
  fit = subst (λ (z : Net × Locals). DemandsFit z.0 z.1) (λ i. (sym same.net i, sym same.locals i)) fit;
  bounds = bounds;
  rounds = calm_rounds 7500 k o;
  number = (rounds_is_calm 7500 k o).number;
  so_far = so_far_through o bounds same (rounds_of 7500 k o) (calm_rounds 7500 k o) t;
}

stray_ready : IsReady 2 stray_world
stray_ready = ready 2 stray_world stray_bounds stray_same refl

blaming_ready : IsReady 3 blaming_world
blaming_ready = ready 3 blaming_world blaming_bounds blaming_same refl

asking_ready : IsReady 4 asking_world
asking_ready = ready 4 asking_world a_pair_says_a_reservation.bounds asking_same refl

-- ---- what is promised does not hold yet
pub a_resv_goes_astray : AResvGoesAstray
a_resv_goes_astray = record {
  ready = stray_ready;
  not_yet = λ takes.
      let r = takes (record { end = 0; dst = u1; arrival = Spelt (message.Resv the_resv); born = asking_world.made }) the_resv (unwrap_or (slice_get stray_world.nodes 0) no_facts)
      (record { unit = One; names = Some scope; flow = usual }) refl refl refl (inl refl) in
      let none : None ≡ Some r.0 = r.1 in
      absurd (cc);
}

pub an_error_is_on_its_way : AnErrorIsOnItsWay
an_error_is_on_its_way = record {
  ready = blaming_ready;
  enough = refl;
  not_yet = λ none. let no : None ≡ Some usual = sym (none (record { end = 1; dst = r1; arrival = Spelt (message.ResvErr the_error); born = asking_world.made }) the_error (inr (inl refl)) refl) in
      absurd (cc);
}

pub a_reservation_is_on_its_way : AReservationIsOnItsWay
a_reservation_is_on_its_way = record {
  ready = asking_ready;
  free = hold_both (machine 7500) (λ u. ArePathsSound u × (ArePathsComplete u × AreResvsSound u)) IsFreeOfBlockade 0 (rounds_of 7500 4 asking_world) asking_world asking_ready.so_far
      (hold_map (machine 7500) (Passes 7500 is_free) IsFreeOfBlockade free_told 0 (rounds_of 7500 4 asking_world) asking_world
      (through 7500 is_free (rounds_of 7500 4 asking_world) asking_world refl));
  enough = refl;
  not_yet = nothing_is_reserved_yet.not_exact;
}
