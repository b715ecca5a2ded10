use Rattle.std.proofs.Common.{◌≡◌, drop}
use Rattle.tree_routing.specs.Known.{vertex_before}
use Rattle.tree_routing.proofs.ask.vertex_before.Given as goal

-- the hop before is among the rest
abbrev pub invariant-loop-known : goal.invariant-loop-known
invariant-loop-known l = vertex_before l.ends l.hop (drop l.known-index l.hops) ≡ vertex_before l.ends l.hop l.hops
