use Rattle.settle_senders.proofs.AdvertsThere.{adverts_that_are_there_have_settled}
use Rattle.settle_senders.proofs.laws.adverts_that_are_there_have_settled.Goals as goal

pub returns : goal.returns
returns c q w there = adverts_that_are_there_have_settled q w there
