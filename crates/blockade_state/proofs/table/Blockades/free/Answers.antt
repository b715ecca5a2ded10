use Rattle.std.proofs.Common.{◌-◌, sym, ap, ◌∙◌}
use Rattle.rsvp_base.specs.Table.{size}
use Rattle.blockade_state.proofs.Walls.{many}
use Rattle.blockade_state.proofs.table.Blockades.free.Goals as goal

pub returns : goal.returns
returns c = ap (λ n. 512 - n) (c.len.ensures ∙ sym (many c.self.inside.table.facts c.self.inside.facts) ∙ ap size c.self.view_is)
