-- Rounds that are too few: each world is computed.
use Rattle.std.proofs.Common.{◌≡◌, List, [], ◌∷◌, Bool, true, false, arith, refl}
use Rattle.std.specs.Prelude.{slice_get}
use Rattle.std.specs.Option.{unwrap_or}
use Rattle.rsvp_base.specs.Members.{In}
use Rattle.rsvp_base.specs.Table.{size}
use Rattle.calm_rounds.specs.Machine.{run}
use Rattle.calm_rounds.specs.Rounds.{Calm, run_rounds}
use Rattle.calm_rounds.proofs.Holding.{hold_map}
use Rattle.router_rules.specs.Facts.{no_facts}
use Rattle.router_rules.specs.Rule.{facts_with}
use Rattle.network_model.specs.Sound.{HasNoFlowError, IsFreeOfBlockade}
use Rattle.network_model.specs.Steps.{machine}
use Rattle.network_model.specs.Worlds.{World}
use Rattle.laws_network.proofs.Computed.{Passes, through}
use Rattle.settle_resvs.specs.BlockadeExample.{wall_world}
use Rattle.settle_resvs.proofs.BlockadeExample.{a_blockade_is_left_over}
use Rattle.network_examples.specs.Tight.{TwoRoundsAreTooFew, still_round, two_rounds}

abbrev is_none : {A : Type 0} → List A → Bool
is_none [] = true
is_none (x ∷ xs) = false

none_in : {A : Type 0} (xs : List A) (x : A) → is_none xs ≡ true → In x xs → ⊥
none_in [] x t i = i
none_in (y ∷ ys) x t i = cc

-- ---- the blockade
abbrev v1 : World
v1 = run (machine 7500) still_round wall_world

abbrev v2 : World
v2 = run_rounds (machine 7500) two_rounds wall_world

wall_1 : Calm (machine 7500) still_round wall_world
unfolding facts_with
wall_1 = record { silent = (refl, (refl, (refl, tt))); long = omega arith; short = omega arith; flushed = λ x i. absurd i; crossed = λ x t i. absurd i }

wall_2 : Calm (machine 7500) still_round v1
unfolding facts_with
wall_2 = record { silent = (refl, (refl, (refl, tt))); long = omega arith; short = omega arith; flushed = λ x i. absurd i; crossed = λ x t i. absurd i }

abbrev is_empty : World → Bool
is_empty u = is_none u.flight

no_error : (u : World) → is_empty u ≡ true → HasNoFlowError u
no_error u t y m i spelt = absurd (none_in u.flight y t i)

wall_stands : IsFreeOfBlockade v2 → ⊥
unfolding facts_with
wall_stands free = let none : size (unwrap_or (slice_get v2.nodes 0) no_facts).walls ≡ 0 = free.walls 0 (unwrap_or (slice_get v2.nodes 0) no_facts) refl in absurd (cc)

pub two_rounds_are_too_few : TwoRoundsAreTooFew
unfolding facts_with
two_rounds_are_too_few = record {
  bounds = a_blockade_is_left_over.bounds;
  rounds = (wall_1, (wall_2, tt));
  no_error = hold_map (machine 7500) (Passes 7500 is_empty) HasNoFlowError no_error 0 two_rounds wall_world (through 7500 is_empty two_rounds wall_world refl);
  still = wall_stands;
}
