-- The goal of a node with its lines by interface, as the lines of the node's own reservations are.
use Rattle.std.specs.Prelude.{ℕ, List, map as each}
use Rattle.rsvp_base.specs.declared.part.Part.{Part}
use Rattle.rsvp_base.specs.declared.session.Session.{Session}
use Rattle.rsvp_base.specs.declared.style.StyleKind.{StyleKind}
use Rattle.rsvp_base.specs.declared.style.Unit.{Unit as UnitOf}
use Rattle.style_rules.specs.Lines.{Line}
use Rattle.tree_model.specs.Goals.{addr_of, goal}
use Rattle.tree_model.specs.Wants.{Locals}
use Rattle.tree_model.specs.declared.hops.LinkHop.{LinkHop}
use Rattle.tree_model.specs.Networks.{Net, iface_of}

-- a line with the number of the interface in its node in place of that of the end in the network
abbrev pub at_iface : Net → Line → Line
at_iface net g = record { style = g.style; session = g.session; end = iface_of net.ends g.end; next = g.next; unit = g.unit; part = g.part }

abbrev pub goal_at : Net → Locals → ℕ → List Line
goal_at net l n = each (at_iface net) (goal net l n)

-- a part that is wanted over a hop, as a line at the end that the hop goes out of
abbrev pub line_over : Net → StyleKind → Session → LinkHop → UnitOf × Part → Line
line_over net st s h e = record { style = st; session = s; end = h.from; next = addr_of net h.to; unit = e.0; part = e.1 }
