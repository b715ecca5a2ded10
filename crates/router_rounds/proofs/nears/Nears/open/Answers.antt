use Rattle.std.proofs.Common.{◌≡◌, [], ap, arith, map as each}
use Rattle.std.proofs.lemmas.Grind.{common_steps}
use Rattle.rsvp_base.specs.Orders.{sessions}
use Rattle.rsvp_base.specs.Table.{empty, same_rows}
use Rattle.path_state.specs.Paths.{HopSet}
use Rattle.router_rounds.specs.Nears.{near_row}
use Rattle.router_rounds.proofs.nears.Nears.open.Goals as goal

pub returns : goal.returns
returns c =
    let none : c.in_ok-rows.rows.items ≡ [] = grind (arith, common_steps) in
    same_rows _ (empty {X = HopSet} {o = sessions}) (ap (each near_row) none)
