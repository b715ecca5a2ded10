use Rattle.std.proofs.Common.{◌≡◌, [], ap, arith, map as each}
use Rattle.std.proofs.lemmas.Grind.{common_steps}
use Rattle.rsvp_base.specs.Table.{empty, same_rows}
use Rattle.router_rules.specs.Facts.{want_keys}
use Rattle.local_state.specs.Wants.{want_row}
use Rattle.local_state.proofs.wants.LocalWants.open.Goals as goal

pub returns : goal.returns
returns c =
    let none : c.in_ok-rows.rows.items ≡ [] = grind (arith, common_steps) in
    same_rows _ (empty {o = want_keys}) (ap (each want_row) none)
