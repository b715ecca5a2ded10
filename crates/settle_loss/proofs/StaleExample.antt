-- A path that is left over, and a reservation that is: the premises of the laws on windows are met.
use Rattle.std.proofs.Common.{◌≡◌, ℕ, zero, suc, length, Some, arith, refl, ap, ◌∙◌}
use Rattle.std.specs.Option.{option_map}
use Rattle.rsvp_base.specs.Table.{Table, empty, get}
use Rattle.rsvp_base.specs.TokenBucket.{TokenBucket}
use Rattle.calm_rounds.proofs.FourRounds.{rounds_make_windows}
use Rattle.router_rules.specs.Facts.{Facts, SenderKey, sender_keys}
use Rattle.router_rules.specs.Rule.{facts_with}
use Rattle.network_model.specs.Bounds.{AreHosts}
use Rattle.network_model.specs.Locals.{locals_of, senders_at, sessions_of}
use Rattle.network_model.specs.Steps.{machine}
use Rattle.network_model.proofs.Machines.{items_are_numbered}
use Rattle.laws_network.specs.Example.{pair_net}
use Rattle.laws_network.specs.Rounds.{rounds_of}
use Rattle.laws_network.proofs.Known.{of_some}
use Rattle.settle_paths.specs.Example.{stale_world}
use Rattle.settle_paths.proofs.Example.{a_path_is_left_over}
use Rattle.settle_resvs.specs.LeftOverExample.{lost_world}
use Rattle.settle_resvs.specs.Said.{hop_over}
use Rattle.settle_resvs.proofs.LeftOverExample.{a_reservation_is_lost}
use Rattle.settle_resvs.proofs.UnderTheGoal.{want_needs}
use Rattle.settle_loss.specs.Example.{ALeftOverPathInWindows, ALeftOverReservationInWindows}

abbrev none_yet : Table sender_keys TokenBucket
none_yet = empty

none_stale : (n : ℕ) (m : Table sender_keys TokenBucket) → senders_at stale_world n ≡ Some m → none_yet ≡ m
unfolding facts_with
none_stale zero m e = of_some _ _ e
none_stale (suc zero) m e = of_some _ _ e
none_stale (suc (suc n)) m e = absurd (cc)

none_lost : (n : ℕ) (m : Table sender_keys TokenBucket) → senders_at lost_world n ≡ Some m → none_yet ≡ m
unfolding facts_with
none_lost zero m e = of_some _ _ e
none_lost (suc zero) m e = of_some _ _ e
none_lost (suc (suc n)) m e = absurd (cc)

nobody : (m : Table sender_keys TokenBucket) (k : SenderKey) (t : TokenBucket) → none_yet ≡ m → get m k ≡ Some t → ⊥
nobody m k t same h = let none : get none_yet k ≡ Some t = ap (λ (z : Table sender_keys TokenBucket). get z k) same ∙ h in cc

hosts : AreHosts stale_world
unfolding facts_with
hosts = record {
  placed = λ n f k t e h. absurd (nobody f.senders k t (none_stale n f.senders (ap (option_map (λ (g : Facts). g.senders)) e)) h);
  groups = λ n f k t e h. absurd (nobody f.senders k t (none_stale n f.senders (ap (option_map (λ (g : Facts). g.senders)) e)) h);
  few_senders = λ s. omega arith;
  few_sessions = let n : length (sessions_of stale_world) ≡ 0 = refl in omega (arith, n);
}

pub a_left_over_path_in_windows : ALeftOverPathInWindows
a_left_over_path_in_windows = record {
  hosts = hosts;
  bounds = a_path_is_left_over.bounds;
  windows = λ k. rounds_make_windows (machine 7500) (items_are_numbered 7500) (rounds_of 7500 k stale_world) stale_world (a_path_is_left_over.rounds k);
  refreshed = λ k x t h live there. absurd (nobody live.senders x t (none_stale live.node live.senders live.at) live.sends);
  not_yet = a_path_is_left_over.not_yet;
}

pub a_left_over_reservation_in_windows : ALeftOverReservationInWindows
unfolding facts_with
a_left_over_reservation_in_windows = record {
  start = a_reservation_is_lost.start;
  windows = λ k. rounds_make_windows (machine 7500) (items_are_numbered 7500) (rounds_of 7500 k lost_world) lost_world (a_reservation_is_lost.rounds k);
  paths = λ k x t h live there. absurd (nobody live.senders x t (none_lost live.node live.senders live.at) live.sends);
  resvs = λ k s h v of there wanted. absurd (want_needs h.style pair_net (locals_of lost_world) h.session (hop_over h) h.unit v wanted).there;
  not_sound_yet = a_reservation_is_lost.not_yet;
  not_settled_yet = λ h. a_reservation_is_lost.not_yet h.resvs_sound;
}
