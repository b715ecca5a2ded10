-- What is grown is the network of a seed.
use Rattle.std.specs.Prelude.{◌≡◌, ℕ}
use Rattle.grown_network.specs.Grown.{grown_net, rounds_of}
use Rattle.grown_network.specs.Hosts.{senders, wants}
use Rattle.grown_network.specs.Nodes.{names_up_to}
use Rattle.grown_network.specs.declared.grown.Grown.{Grown}

pub record IsGrownBy (seed : ℕ) (grown : Grown) : Type 0 where
  pub routing : grown.routing ≡ grown_net seed
  pub names : grown.names.items ≡ names_up_to 63
  pub senders : grown.senders.items ≡ senders seed
  pub wants : grown.wants.items ≡ wants seed
  pub rounds : grown.rounds ≡ rounds_of seed
