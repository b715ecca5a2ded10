use Rattle.script_theorem.proofs.Example.{the_adverts_become_what_is_demanded}
use Rattle.script_theorem.proofs.reports.the_adverts_become_what_is_demanded.Goals as goal

pub returns : goal.returns
returns c = the_adverts_become_what_is_demanded
