use Rattle.settle_releases.proofs.Releasing.{a_reserved_network_serves_less}
use Rattle.settle_releases.proofs.laws.a_reserved_network_serves_less.Goals as goal

pub returns : goal.returns
returns c q n d st names flow confirm w reserved list sound no_more s = a_reserved_network_serves_less q n d st names flow confirm w reserved list sound no_more s
