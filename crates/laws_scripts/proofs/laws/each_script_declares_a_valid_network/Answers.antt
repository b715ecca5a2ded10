use Rattle.laws_scripts.proofs.DeclaredLines.{each_script_declares_a_valid_network}
use Rattle.laws_scripts.proofs.laws.each_script_declares_a_valid_network.Goals as goal

pub returns : goal.returns
returns c = each_script_declares_a_valid_network
