-- What is sent is proper: the claim of the public law.
use Rattle.std.specs.Prelude.{ℕ}
use Rattle.rsvp_base.specs.Members.{In}
use Rattle.rsvp_messages.specs.Proper.{IsProper}
use Rattle.router_rules.specs.Bounds.{IsWithinBounds}
use Rattle.router_rules.specs.Facts.{Facts}
use Rattle.router_rules.specs.Inputs.{Input, Send}
use Rattle.router_rules.specs.NodeConfig.{NodeConfig}
use Rattle.router_rules.specs.Steps.{IsFit, IsSameNode, clock_after, sent_then}

-- a node within bounds to which something fit came sends proper messages
abbrev pub WhatIsSentIsProper : Type 0
WhatIsSentIsProper =
    (old p : NodeConfig) (b : ℕ) (i : Input) (f : Facts) → IsSameNode old p → IsFit p i → IsWithinBounds old b f → (s : Send) → In s (sent_then old p (clock_after b i) i f) → IsProper s.message
