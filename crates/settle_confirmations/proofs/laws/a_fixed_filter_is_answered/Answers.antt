use Rattle.settle_confirmations.proofs.Filtering.{a_fixed_filter_is_answered}
use Rattle.settle_confirmations.proofs.laws.a_fixed_filter_is_answered.Goals as goal

pub returns : goal.returns
returns c q n s names flow e w bounds hosts settled quiet one_end list sound no_less fit y i =
    a_fixed_filter_is_answered q n s names flow e w bounds hosts settled quiet one_end list sound no_less fit y i
