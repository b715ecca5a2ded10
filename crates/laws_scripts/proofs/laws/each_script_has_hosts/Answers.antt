use Rattle.laws_scripts.proofs.HostLines.{each_script_has_hosts}
use Rattle.laws_scripts.proofs.laws.each_script_has_hosts.Goals as goal

pub returns : goal.returns
returns c = each_script_has_hosts
