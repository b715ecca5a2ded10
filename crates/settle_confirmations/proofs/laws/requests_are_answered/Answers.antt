use Rattle.settle_confirmations.proofs.Passing.{requests_are_answered}
use Rattle.settle_confirmations.proofs.laws.requests_are_answered.Goals as goal

pub returns : goal.returns
returns c q s st x flow e w r only lt y i least each = requests_are_answered q s st x e w r only lt flow y i least each
