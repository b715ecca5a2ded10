use Rattle.settle_resvs.proofs.UnderTheGoal.{want_needs}
use Rattle.settle_resvs.proofs.WantStyles.{want_style}
use Rattle.settle_resvs.proofs.goals.wants_have_styles.Goals as goal

pub returns : goal.returns
returns c net l parts = record { shaped = λ st s h u p e. want_style st net l s parts h u p e; needs = λ st s h u p e. want_needs st net l s h u p e }
