use Rattle.script_grammar.proofs.OutOf.{out_at}
use Rattle.script_grammar.proofs.blame.out_of_range.Goals as goal

pub range_blame-requires : goal.range_blame-requires
range_blame-requires c =
    record { out = rw (c.field_at.ensures, c.word_behind.ensures) (out_at c.args.period c.in-Some.kind _ c.in-Some-first_out.place c.in-Some-first_out.ensures.first) }
