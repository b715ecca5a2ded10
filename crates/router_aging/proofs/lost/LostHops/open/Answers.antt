use Rattle.std.proofs.Common.{◌≡◌, ℕ, [], ap, arith, map as each}
use Rattle.std.proofs.lemmas.Grind.{common_steps}
use Rattle.rsvp_base.specs.Table.{empty, same_rows}
use Rattle.rsvp_base.specs.declared.addr.Addr.{Addr}
use Rattle.router_rules.specs.Facts.{sender_keys}
use Rattle.router_aging.specs.Lost.{lost_row}
use Rattle.router_aging.proofs.lost.LostHops.open.Goals as goal

pub returns : goal.returns
returns c =
    let none : c.in_ok-rows.rows.items ≡ [] = grind (arith, common_steps) in
    same_rows _ (empty {X = ℕ × Addr} {o = sender_keys}) (ap (each lost_row) none)
