-- How many messages a router sends for one input: the claim of the public law.
use Rattle.std.specs.Prelude.{ℕ, ◌≤◌, length}
use Rattle.rsvp_messages.specs.declared.message.Message.{Message}
use Rattle.rsvp_messages.specs.declared.message.Message.TheVariants.{Resv}
use Rattle.rsvp_messages.specs.Units.{asked_units}
use Rattle.router_rules.specs.Bounds.{IsWithinBounds}
use Rattle.router_rules.specs.Facts.{Facts}
use Rattle.router_rules.specs.Inputs.{Arrival, Came, Input, Spelt}
use Rattle.router_rules.specs.NodeConfig.{NodeConfig}
use Rattle.router_rules.specs.Rule.{sent_after}
use Rattle.router_rules.specs.Steps.{IsFit, clock_after}

-- the most sends for one input
abbrev pub most_sends : ℕ
most_sends = 37889

-- a Resv has at most 16 units
abbrev pub HasFewUnits : Message → Type 0
HasFewUnits (Resv m) = length (asked_units m.ask) ≤ 16
HasFewUnits _ = Unit {0}

abbrev pub IsFewArrival : Arrival → Type 0
IsFewArrival (Spelt m) = HasFewUnits m
IsFewArrival _ = Unit {0}

abbrev pub IsFewInput : Input → Type 0
IsFewInput (Came e dst a) = IsFewArrival a
IsFewInput _ = Unit {0}

abbrev pub FewAreSent : Type 0
FewAreSent =
    (p : NodeConfig) (b : ℕ) (i : Input) (f : Facts) → 1 ≤ p.quarter → length p.ifaces ≤ 16 → IsWithinBounds p b f → IsFit p i → IsFewInput i
    → length (sent_after p p (clock_after b i) i f) ≤ most_sends
