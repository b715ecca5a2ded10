use Rattle.std.proofs.Common.{◌∙◌}
use Rattle.grown_network.proofs.Valid.{hung_first}
use Rattle.grown_network.proofs.growing.hang_all.Goals as goal

pub loop-node-init : goal.loop-node-init
loop-node-init c = c.requires ∙ hung_first
