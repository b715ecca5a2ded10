use Rattle.script_theorem.proofs.AdvertRows.{a_drop_ends_the_advert}
use Rattle.script_theorem.proofs.rows.a_drop_ends_the_advert.Goals as goal

pub returns : goal.returns
returns c = a_drop_ends_the_advert
