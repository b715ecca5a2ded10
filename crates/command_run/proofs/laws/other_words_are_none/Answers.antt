use Rattle.std.proofs.Common.{refl}
use Rattle.clap.proofs.OnLiterals.{clap_on_literals}
use Rattle.command_run.specs.CommandLine.{faults_at, value_at}
use Rattle.command_run.proofs.laws.other_words_are_none.Goals as goal

pub returns : goal.returns
unfolding clap_on_literals faults_at value_at
returns c = record {
  nothing = refl;
  help = refl;
  version = refl;
  unknown = refl;
  twice = refl;
  seed_of_another = refl;
  seed_of_a_router = refl;
  no_seed = refl;
  no_number = refl;
  signed = refl;
  too_long = refl;
  too_large =
      refl;
}
