use Rattle.std.proofs.Common.{refl}
use Rattle.router_state.specs.Whole.{state_of}
use Rattle.router_core.proofs.Told.{walls_changed, walls_sound}
use Rattle.router_core.proofs.errors.block.Goals as goal

pub returns-clause-heard : goal.returns-clause-heard
returns-clause-heard c = λ clock said. c.set_blockades.ensures.heard clock (state_of c.args.tables.now said) refl refl refl

pub returns-clause-facts : goal.returns-clause-facts
returns-clause-facts c = λ clock said. c.set_blockades.ensures.facts clock (state_of c.args.tables.now said) refl refl refl

pub returns-clause-change : goal.returns-clause-change
returns-clause-change c = λ said x. walls_changed c.args.tables.now
    (record c.args.tables.now { walls = c.set_blockades.new.walls }) refl c.args.message.now.session c.set_blockades.ensures.others x said

pub returns-clause-sound : goal.returns-clause-sound
returns-clause-sound c = walls_sound c.args.tables.now (record c.args.tables.now { walls = c.set_blockades.new.walls }) refl c.requires
