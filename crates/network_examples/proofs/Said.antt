-- Rounds in which nothing is in flight, and the first Path of a host.
use Rattle.std.proofs.Common.{◌≡◌, List, [], ◌∷◌, Bool, true, false, inl, arith, refl}
use Rattle.rsvp_base.specs.Members.{In}
use Rattle.calm_rounds.specs.Hold.{Hold}
use Rattle.calm_rounds.specs.SoftStates.{KeepsOnly, SaysOnly}
use Rattle.calm_rounds.proofs.Holding.{hold_map}
use Rattle.router_rules.specs.Inputs.{Spelt}
use Rattle.router_rules.specs.Rule.{facts_with}
use Rattle.router_examples.specs.ThreeRouters.{first, group, path, s1, session, usual}
use Rattle.network_model.specs.Steps.{machine}
use Rattle.network_model.specs.Worlds.{World}
use Rattle.laws_network.specs.Rounds.{rounds_of}
use Rattle.laws_network.proofs.Calming.{calm_rounds}
use Rattle.laws_network.proofs.Computed.{Passes, through}
use Rattle.settle_paths.specs.Example.{stale_path, stale_world}
use Rattle.settle_paths.specs.SoftPaths.{soft_path, value_of}
use Rattle.settle_paths.proofs.Example.{a_path_is_left_over}
use Rattle.settle_resvs.specs.SoftResvs.{soft_resv}
use Rattle.settle_resvs.specs.LeftOverExample.{lost_world}
use Rattle.settle_resvs.proofs.LeftOverExample.{a_reservation_is_lost}
use Rattle.laws_network.specs.Beginning.{left_resv}
use Rattle.network_examples.specs.Said.{APathSaysItsHop, NobodyAsksForIt, NobodySaysThePath, lost}

abbrev is_none : {A : Type 0} → List A → Bool
is_none [] = true
is_none (x ∷ xs) = false

none_in : {A : Type 0} (xs : List A) (x : A) → is_none xs ≡ true → In x xs → ⊥
none_in [] x t i = i
none_in (y ∷ ys) x t i = cc

abbrev is_empty : World → Bool
is_empty u = is_none u.flight

paths_said : Hold (machine 7500) 0 (rounds_of 7500 6 stale_world) stale_world (SaysOnly (machine 7500) (soft_path 7500 stale_world (session, first) 1) (λ v. false ≡ true) stale_world.made)
unfolding facts_with
paths_said =
    hold_map (machine 7500) (Passes 7500 is_empty) (SaysOnly (machine 7500) (soft_path 7500 stale_world (session, first) 1) (λ v. false ≡ true) stale_world.made)
    (λ u t x v i born says. absurd (none_in u.flight x t i)) 0
    (rounds_of 7500 6 stale_world) stale_world (through 7500 is_empty (rounds_of 7500 6 stale_world) stale_world refl)

path_kept : KeepsOnly (machine 7500) (soft_path 7500 stale_world (session, first) 1) (λ v. false ≡ true) stale_world → ⊥
unfolding facts_with
path_kept keeps = let no : false ≡ true = keeps (value_of stale_path) 157500 refl in cc

pub nobody_says_the_path : NobodySaysThePath
nobody_says_the_path = record { bounds = a_path_is_left_over.bounds; end = omega arith; rounds = calm_rounds 7500 6 stale_world; said = paths_said; not_yet = path_kept }

resvs_said : Hold (machine 7500) 0 (rounds_of 7500 6 lost_world) lost_world (SaysOnly (machine 7500) (soft_resv 7500 lost_world lost) (λ v. false ≡ true) lost_world.made)
unfolding facts_with
resvs_said =
    hold_map (machine 7500) (Passes 7500 is_empty) (SaysOnly (machine 7500) (soft_resv 7500 lost_world lost) (λ v. false ≡ true) lost_world.made)
    (λ u t x v i born says. absurd (none_in u.flight x t i)) 0
    (rounds_of 7500 6 lost_world) lost_world (through 7500 is_empty (rounds_of 7500 6 lost_world) lost_world refl)

resv_kept : KeepsOnly (machine 7500) (soft_resv 7500 lost_world lost) (λ v. false ≡ true) lost_world → ⊥
unfolding facts_with
resv_kept keeps = let no : false ≡ true = keeps left_resv.part 157500 refl in cc

pub nobody_asks_for_it : NobodyAsksForIt
nobody_asks_for_it = record { bounds = a_reservation_is_lost.start.bounds; end = omega arith; cuts = λ x p cut t. t; rounds = calm_rounds 7500 6 lost_world; said = resvs_said; not_yet = resv_kept }

-- ---- the first Path
pub a_path_says_its_hop : APathSaysItsHop
a_path_says_its_hop = record {
  item = record { end = 1; dst = group; arrival = Spelt (path true s1 first usual); born = 0 };
  message = path true s1 first usual;
  sends = inl refl;
  spelt = refl;
  hop = refl;
}
