use Rattle.settle_confirmations.proofs.Calling.{a_receiver_is_answered}
use Rattle.settle_confirmations.proofs.laws.a_receiver_is_answered.Goals as goal

pub returns : goal.returns
returns c q n s st names flow x w bounds hosts settled quiet only list sound no_less fit y i =
    a_receiver_is_answered q n s st names flow x w bounds hosts settled quiet only list sound no_less fit y i
