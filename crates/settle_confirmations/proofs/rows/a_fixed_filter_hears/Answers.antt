use Rattle.settle_confirmations.proofs.Filtered.{a_fixed_filter_hears}
use Rattle.settle_confirmations.proofs.rows.a_fixed_filter_hears.Goals as goal

pub returns : goal.returns
returns c = a_fixed_filter_hears
