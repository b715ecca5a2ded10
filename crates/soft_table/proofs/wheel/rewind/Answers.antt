use Rattle.std.proofs.Common.{◌-◌, ◌%◌, ap, sym, subst, ◌∙◌, map as each}
use Rattle.soft_table.specs.Wheel.{AreFiled, shown}
use Rattle.soft_table.proofs.Pools.{shown_back, filed_back}
use Rattle.soft_table.proofs.wheel.rewind.Goals as goal

pub returns-clause-shown : goal.returns-clause-shown
returns-clause-shown g c = ap (each (shown (c.args.clock % 262144))) c.set_all_back.ensures.entries ∙ shown_back c.args.clock c.args.soonest.now c.args.entries.now.items

pub returns-clause-lists : goal.returns-clause-lists
returns-clause-lists g c homes filed = subst (λ es. AreFiled (c.args.clock % 262144) (c.args.soonest.now - (c.args.clock - c.args.clock % 262144)) es homes) (sym c.set_all_back.ensures.entries)
    (filed_back c.args.clock c.args.soonest.now c.args.entries.now.items homes c.requires.ahead filed)
