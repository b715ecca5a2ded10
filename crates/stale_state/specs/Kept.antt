-- What is left over at a node, as the rules of a router have it.
use Rattle.std.specs.Prelude.{ℕ, List, Option}
use Rattle.rsvp_base.specs.declared.iface.Iface.{Iface}
use Rattle.resv_state.specs.Resvs.{resv_key}
use Rattle.router_rules.specs.Facts.{Facts}
use Rattle.router_rules.specs.Inputs.{Stale, StalePath, StaleResv, StaleWall}
use Rattle.stale_state.specs.Reserved.{ifaces_in, resvs_in}
use Rattle.stale_state.specs.Tables.{learnt, paths_of, walls_of}
use Rattle.stale_state.specs.declared.at_node.AtNode.{AtNode}
use Rattle.stale_state.specs.declared.fact.Left.{Left}
use Rattle.stale_state.specs.declared.fact.Left.TheVariants as left

-- a fact that dies at this moment
abbrev pub stale_of : Left → ℕ → Stale
stale_of (left.Path f) dies = StalePath (f.session, f.sender) (record { iface = f.iface; hop = f.hop; tspec = f.tspec; police = f.police; adspec = f.adspec; dies = dies })
stale_of (left.Resv st f) dies = StaleResv st (resv_key st f) (record { part = f.part; confirm = f.confirm; dies = dies })
stale_of (left.Wall s t w) dies = StaleWall (s, t) (record { wall = w; dies = dies })

-- the facts of a node
abbrev pub facts_of : AtNode → Facts
facts_of n = learnt (paths_of n.paths) (resvs_in n.resvs) (walls_of n.walls)

abbrev pub ifaces_of : AtNode → Option (List Iface)
ifaces_of n = ifaces_in n.resvs
