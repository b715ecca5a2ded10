use Rattle.std.proofs.Common.{◌≡◌, [], ap, arith, map as each}
use Rattle.std.proofs.lemmas.Grind.{common_steps}
use Rattle.rsvp_base.specs.Table.{empty, same_rows}
use Rattle.router_rules.specs.Facts.{sender_keys}
use Rattle.router_aging.specs.Passing.{dead_row}
use Rattle.router_aging.proofs.dead.DeadPaths.open.Goals as goal

pub returns : goal.returns
returns c =
    let none : c.in_ok-rows.rows.items ≡ [] = grind (arith, common_steps) in
    same_rows _ (empty {o = sender_keys}) (ap (each dead_row) none)
