use Rattle.std.proofs.Common.{◌++◌}
use Rattle.std.specs.Prelude.{codes}
use Rattle.script_demand.specs.Texts.{end_starves, name_at}
use Rattle.script_demand.proofs.Chains.{last, more}
use Rattle.script_demand.proofs.late_lines.put_end.Goals as goal

pub returns : goal.returns
unfolding end_starves
returns c =
    let old = c.args.out.now.items in
    let name = name_at c.args.names.now c.args.end in
    last c.put-2.result old c.put_name_at.new.out.items c.put-2.new.out.items (codes ", and starves what stood at end " ++ name) (codes "\n")
    (more old c.put.new.out.items c.put_name_at.new.out.items (codes ", and starves what stood at end ") name c.in_ok-put.ensures.text c.in_ok-put_name_at.ensures) c.put-2.ensures.text
