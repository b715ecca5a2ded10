use Rattle.laws_texts.proofs.Told.{script_tells}
use Rattle.laws_texts.proofs.laws.each_script_tells_within_capacity.Goals as goal

pub returns : goal.returns
returns c = script_tells
