use Rattle.router_rounds.proofs.Clocks.{toward_clock}
use Rattle.router_rounds.proofs.laws.clocks_do_not_matter.Goals as goal

pub returns : goal.returns
returns c = toward_clock
