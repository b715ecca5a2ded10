use Rattle.settle_releases.proofs.Silence.{less_leaves_nothing_in_flight}
use Rattle.settle_releases.proofs.laws.less_leaves_nothing_in_flight.Goals as goal

pub returns : goal.returns
returns c q n s st names flow w start settled quiet unmarked list sound no_more = less_leaves_nothing_in_flight q n s st names flow w start settled quiet unmarked list sound no_more
