-- What comes to the node itself: to its own address of the interface by which it came.
use Rattle.std.specs.Prelude.{ℕ}
use Rattle.rsvp_messages.specs.declared.message.Message.{Message}
use Rattle.router_rules.specs.Inputs.{Came, Input, Spelt}
use Rattle.router_rules.specs.NodeConfig.{NodeConfig, own}

abbrev pub to_node : NodeConfig → ℕ → Message → Input
to_node p e m = Came e (own p e) (Spelt m)
