use Rattle.settle_releases.proofs.Worked.{another_style_is_wanted}
use Rattle.settle_releases.proofs.rows.another_style_is_wanted.Goals as goal

pub returns : goal.returns
returns c = another_style_is_wanted
