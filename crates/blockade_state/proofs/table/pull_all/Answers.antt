use Rattle.std.proofs.Common.{sym, ◌∙◌}
use Rattle.blockade_state.proofs.Walls.{pulled_one}
use Rattle.blockade_state.proofs.table.pull_all.Goals as goal

pub loop-smaller : goal.loop-smaller
loop-smaller c = pulled_one c.pull_dead.result c.loop.table.dead c.pull_dead.new.self.dead (sym c.is_some.ensures ∙ c.loop-test.true) c.pull_dead.ensures.dead c.pull_dead.ensures.pulled
