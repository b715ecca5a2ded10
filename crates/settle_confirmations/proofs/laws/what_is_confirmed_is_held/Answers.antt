use Rattle.settle_confirmations.proofs.Calling.{what_is_confirmed_is_held}
use Rattle.settle_confirmations.proofs.laws.what_is_confirmed_is_held.Goals as goal

pub returns : goal.returns
returns c q n s st names flow x w bounds hosts settled quiet only list sound no_less fit y i =
    what_is_confirmed_is_held q n s st names flow x w bounds hosts settled quiet only list sound no_less fit y i
