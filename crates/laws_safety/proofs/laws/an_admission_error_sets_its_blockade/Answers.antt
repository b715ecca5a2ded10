use Rattle.laws_safety.specs.Blockades.{AnAdmissionErrorSetsItsBlockade}
use Rattle.laws_safety.proofs.Errors.{an_admission_error_sets_its_blockade}
use Rattle.laws_safety.proofs.Runs.{at_every_step}
use Rattle.laws_safety.proofs.laws.an_admission_error_sets_its_blockade.Goals as goal

pub returns : goal.returns
returns c = at_every_step AnAdmissionErrorSetsItsBlockade (λ q s w bounds. an_admission_error_sets_its_blockade q s w)
