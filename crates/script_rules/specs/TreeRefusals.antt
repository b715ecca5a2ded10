-- Why a tree was not put in the place of the one in force.
use Rattle.std.specs.Prelude.{◌≤◌, List, length}
use Rattle.rsvp_base.specs.declared.addr.Addr.{Addr}
use Rattle.tree_model.specs.declared.hops.LinkHop.{LinkHop}
use Rattle.tree_model.specs.Networks.{Net}
use Rattle.tree_model.specs.Ranks.{IsLoopFreeIn}
use Rattle.tree_model.specs.Trees.{IsGrown}
use Rattle.network_model.specs.Steps.{rerouted}
use Rattle.script_grammar.specs.Draft.{Draft, routing}
use Rattle.script_grammar.specs.Rules.{IsLoopOf, most_hops}
use Rattle.script_grammar.specs.declared.fault.Fault.TheVariants as fault
use Rattle.script_grammar.specs.declared.stop.Stop.{Stop}
use Rattle.script_grammar.specs.declared.stop.Stop.TheVariants.{Bad, Crowded, NoMemory}

-- the network in force, with these hops as the tree of the group and source
abbrev pub moved_to : Draft → Addr → Addr → List LinkHop → Net
moved_to d g s hops = rerouted (routing d) g s hops

abbrev pub HasRoomForTree : Draft → Addr → Addr → List LinkHop → Type 0
HasRoomForTree d g s hops = length (moved_to d g s hops).hops ≤ most_hops

-- there is no room for the hops; or there is, and they are no tree; or they are one, and a chain of the group is closed then, the
-- least hop on one being named by its ends
abbrev pub IsTreeRefused : Draft → Addr → Addr → List LinkHop → Stop → Type 0
IsTreeRefused d g s hops (Bad fault.Limit) = HasRoomForTree d g s hops → ⊥
IsTreeRefused d g s hops (Bad fault.NotTree) = HasRoomForTree d g s hops × (IsGrown (routing d) s hops → ⊥)
IsTreeRefused d g s hops (Bad (fault.Loop group from to)) =
    HasRoomForTree d g s hops × IsGrown (routing d) s hops × (IsLoopFreeIn (moved_to d g s hops) g → ⊥) × IsLoopOf d (moved_to d g s hops) g group from to
IsTreeRefused d g s hops (Bad why) = ⊥
IsTreeRefused d g s hops Crowded = ⊥
IsTreeRefused d g s hops NoMemory = Unit {0}
