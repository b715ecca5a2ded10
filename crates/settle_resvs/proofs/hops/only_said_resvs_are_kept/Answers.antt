use Rattle.std.specs.Prelude.{◌≡◌, true}
use Rattle.laws_network.proofs.Keeping.{calm_rounds_keep_bounds}
use Rattle.settle_resvs.proofs.SoftResvs.{only_resvs_as_claimed_are_kept}
use Rattle.settle_resvs.proofs.hops.only_said_resvs_are_kept.Goals as goal

pub returns : goal.returns
returns c q w k lt allowed cuts rs calm bounds says = only_resvs_as_claimed_are_kept q w k lt (λ v. allowed v ≡ true) cuts rs calm (calm_rounds_keep_bounds q w rs calm bounds) says
