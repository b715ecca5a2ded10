use Rattle.settle_senders.proofs.AdvertsWorked.{no_pass_is_spared_an_advert}
use Rattle.settle_senders.proofs.rows.no_pass_is_spared_an_advert.Goals as goal

pub returns : goal.returns
returns c = no_pass_is_spared_an_advert
