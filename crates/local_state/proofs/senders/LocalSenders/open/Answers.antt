use Rattle.std.proofs.Common.{◌≡◌, [], ap, arith, map as each}
use Rattle.std.proofs.lemmas.Grind.{common_steps}
use Rattle.rsvp_base.specs.Table.{empty, same_rows}
use Rattle.router_rules.specs.Facts.{sender_keys}
use Rattle.local_state.specs.Rows.{sender_row}
use Rattle.local_state.proofs.Marks.{announced_is, marked}
use Rattle.local_state.proofs.senders.LocalSenders.open.Goals as goal

pub returns : goal.returns
returns c =
    let none : c.in_ok-rows.rows.items ≡ [] = grind (arith, common_steps) in
    announced_is _ (record { tspecs = empty; advertised = empty }) (same_rows _ (empty {o = sender_keys}) (ap (each sender_row) none)) (same_rows _ (empty {o = sender_keys}) (ap marked none))
