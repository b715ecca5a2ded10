use Rattle.settle_senders.proofs.AdvertsThere.{adverts_that_are_there_are_said}
use Rattle.settle_senders.proofs.laws.adverts_that_are_there_are_said.Goals as goal

pub returns : goal.returns
returns c q w there = adverts_that_are_there_are_said q w there
