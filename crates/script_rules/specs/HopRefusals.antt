-- Why a hop was not taken.
use Rattle.std.specs.Prelude.{◌≡◌}
use Rattle.rsvp_base.specs.declared.addr.Addr.{Addr}
use Rattle.tree_model.specs.declared.hops.LinkHop.{LinkHop}
use Rattle.tree_model.specs.declared.hops.TreeHop.{TreeHop}
use Rattle.tree_model.specs.Ranks.{IsLoopFreeIn}
use Rattle.tree_routing.specs.Answers.{Fits, with_hop}
use Rattle.script_grammar.specs.Draft.{Draft}
use Rattle.script_grammar.specs.Rules.{IsLoopOf, IsNamedHop}
use Rattle.script_grammar.specs.declared.fault.Fault.{Fault}
use Rattle.script_grammar.specs.declared.fault.Fault.TheVariants as fault
use Rattle.script_grammar.specs.declared.stop.Stop.{Stop}
use Rattle.script_grammar.specs.declared.stop.Stop.TheVariants.{Bad, Crowded, NoMemory}

-- its tree cannot grow by it; or it can, and a chain is closed then, the least hop on one being named by its ends
abbrev pub IsHopRefused : Draft → TreeHop → Stop → Type 0
IsHopRefused d r (Bad fault.NotTree) = Fits d.net r → ⊥
IsHopRefused d r (Bad (fault.Loop group from to)) = Fits d.net r × (IsLoopFreeIn (with_hop d.net r) r.group → ⊥) × IsLoopOf d (with_hop d.net r) r.group group from to
IsHopRefused d r (Bad why) = ⊥
IsHopRefused d r Crowded = ⊥
IsHopRefused d r NoMemory = Unit {0}

-- the hop of the group by the names of its ends
abbrev pub IsLoopNamed : Draft → Addr → LinkHop → Fault → Type 0
IsLoopNamed d group h (fault.Loop g from to) = (g ≡ group) × IsNamedHop d from to h
IsLoopNamed d group h why = ⊥
