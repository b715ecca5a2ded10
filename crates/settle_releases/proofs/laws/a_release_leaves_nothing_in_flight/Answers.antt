use Rattle.settle_releases.proofs.Silence.{a_release_leaves_nothing_in_flight}
use Rattle.settle_releases.proofs.laws.a_release_leaves_nothing_in_flight.Goals as goal

pub returns : goal.returns
returns c q xs w start settled quiet unmarked = a_release_leaves_nothing_in_flight q xs w start settled quiet unmarked
