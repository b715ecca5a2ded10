-- What events ask of a network, and what they cost it.
use Rattle.std.specs.Prelude.{◌≤◌, Bool, true, length}
use Rattle.network_model.specs.Happenings.{IsReading}
use Rattle.network_model.specs.Moves.{CanMove}
use Rattle.network_model.specs.Steps.{rerouted}
use Rattle.network_model.specs.declared.event.Event.{Event}
use Rattle.network_model.specs.declared.event.Event.TheVariants as event
use Rattle.message_codec.specs.Spells.{Spells, IsFirstFault}
use Rattle.router_rules.specs.Inputs.{Arrival}
use Rattle.tree_model.specs.Networks.{Net}

-- what the bytes of an event are, if it has any
abbrev pub IsRead : Event → Arrival → Type 0
IsRead e a = IsReading Spells IsFirstFault e a

-- a tree that moves is one that the network can have
abbrev pub CanHappen : Net → Event → Type 0
CanHappen net (event.Reroute group source hops) = CanMove net group source hops.items
CanHappen net _ = Unit {0}

-- there is room for the hops of a tree that moves, beside those of the other trees
abbrev pub HasRoom : Net → Event → Type 0
HasRoom net (event.Reroute group source hops) = length (rerouted net group source hops.items).hops ≤ 8192
HasRoom net _ = Unit {0}

-- memory is taken for a report, for a tree that moves, and for trace lines
abbrev pub takes_memory : Bool → Event → Bool
takes_memory trace (event.Report end) = true
takes_memory trace event.Flags = true
takes_memory trace event.Adverts = true
takes_memory trace (event.Reroute group source hops) = true
takes_memory trace _ = trace
