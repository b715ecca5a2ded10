use Rattle.std.proofs.Common.{refl}
use Rattle.clap.proofs.OnLiterals.{clap_on_literals}
use Rattle.command_run.specs.CommandLine.{faults_at, value_at}
use Rattle.command_run.proofs.laws.each_verb_is_an_order.Goals as goal

pub returns : goal.returns
unfolding clap_on_literals faults_at value_at
returns c = record { replay = refl; demand = refl; show = refl; grow = refl; node = refl; police = refl; seeded = refl; zeros_first = refl; joined = refl }
