use Rattle.std.proofs.Common.{arith, refl}
use Rattle.std.proofs.lemmas.Grind.{common_steps}
use Rattle.std.proofs.lemmas.List.Elements.{All-more}
use Rattle.script_words.specs.Sessions.{IsSender}
use Rattle.script_rules.proofs.sender_lists.sender_values.Goals as goal

pub loop-word-preserved : goal.loop-word-preserved
loop-word-preserved c =
    record {
      kept = grind (arith, common_steps);
      in_range = All-more IsSender c.args.words.now c.loop-word.word-index _ c.loop-word-test.true c.loop-word.invariant.in_range (c.in-Some.ensures.some.0 refl);
    }
