use Rattle.script_overhead.proofs.Plain.{a_plain_script_stays_roomy}
use Rattle.script_overhead.proofs.laws.a_plain_script_stays_roomy.Goals as goal

pub returns : goal.returns
returns c = a_plain_script_stays_roomy
