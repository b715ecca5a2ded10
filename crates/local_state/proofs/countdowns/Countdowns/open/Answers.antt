use Rattle.std.proofs.Common.{◌≡◌, [], ap, arith, map as each}
use Rattle.std.proofs.lemmas.Grind.{common_steps}
use Rattle.rsvp_base.specs.Orders.{sessions}
use Rattle.rsvp_base.specs.Table.{empty, same_rows}
use Rattle.local_state.specs.Rows.{count_row}
use Rattle.local_state.proofs.countdowns.Countdowns.open.Goals as goal

pub returns : goal.returns
returns c =
    let none : c.in_ok-rows.rows.items ≡ [] = grind (arith, common_steps) in
    same_rows _ (empty {o = sessions}) (ap (each count_row) none)
