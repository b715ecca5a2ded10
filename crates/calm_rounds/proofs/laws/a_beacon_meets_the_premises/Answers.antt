use Rattle.calm_rounds.proofs.BeaconLaws.{meets_the_premises}
use Rattle.calm_rounds.proofs.laws.a_beacon_meets_the_premises.Goals as goal

pub returns : goal.returns
returns c = meets_the_premises
