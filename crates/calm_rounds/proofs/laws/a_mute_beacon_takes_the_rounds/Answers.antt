use Rattle.calm_rounds.proofs.BeaconLaws.{takes_the_rounds}
use Rattle.calm_rounds.proofs.laws.a_mute_beacon_takes_the_rounds.Goals as goal

pub returns : goal.returns
returns c = takes_the_rounds
