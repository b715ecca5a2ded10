use Rattle.std.proofs.Common.{arith}
use Rattle.grown_network.proofs.HostLists.{small_is_rate}
use Rattle.grown_network.proofs.hosts.flow_of.Goals as goal

pub unwrap-rate-requires : goal.unwrap-rate-requires
unwrap-rate-requires c = c.of.ensures.some.1 (small_is_rate c.args.rate (omega (arith, c.requires.1)))
