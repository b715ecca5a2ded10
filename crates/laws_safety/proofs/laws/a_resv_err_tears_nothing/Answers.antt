use Rattle.laws_safety.specs.Blockades.{AResvErrTearsNothing}
use Rattle.laws_safety.proofs.Errors.{a_resv_err}
use Rattle.laws_safety.proofs.Runs.{at_every_step}
use Rattle.laws_safety.proofs.laws.a_resv_err_tears_nothing.Goals as goal

pub returns : goal.returns
returns c = at_every_step AResvErrTearsNothing a_resv_err
