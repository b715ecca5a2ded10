use Rattle.laws_safety.specs.Blockades.{EachResvSaysWhatGoesToward}
use Rattle.laws_safety.proofs.Speaking.{each_resv}
use Rattle.laws_safety.proofs.Runs.{at_every_step}
use Rattle.laws_safety.proofs.laws.each_resv_says_what_goes_toward.Goals as goal

pub returns : goal.returns
returns c = at_every_step EachResvSaysWhatGoesToward each_resv
