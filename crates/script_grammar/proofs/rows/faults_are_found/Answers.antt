use Rattle.script_grammar.proofs.FoundFaults.{found}
use Rattle.script_grammar.proofs.rows.faults_are_found.Goals as goal

pub returns : goal.returns
returns c = found
