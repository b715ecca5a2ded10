use Rattle.std.proofs.Common.{arith}
use Rattle.rsvp_base.specs.Orders.{sessions}
use Rattle.rsvp_base.specs.Table.{changed, same_rows}
use Rattle.rsvp_base.proofs.Rows.{are_rows}
use Rattle.router_rounds.specs.Nears.{hops_then, near_row}
use Rattle.router_rounds.proofs.nears.Nears.note.Goals as goal

pub invariant_of-self-inside : goal.invariant_of-self-inside
invariant_of-self-inside c = (
  are_rows sessions near_row c.note_all.new.rows.items (changed (hops_then c.args.paths.now.facts) c.args.due.now) c.note_all.ensures.rows,
  (c.note_all.ensures.few, (omega (arith, c.note_all.ensures.capacity, c.clear.ensures.capacity, c.self.inside.room), tt)),
)

pub returns : goal.returns
returns c = same_rows _ (changed (hops_then c.args.paths.now.facts) c.args.due.now) c.note_all.ensures.rows
