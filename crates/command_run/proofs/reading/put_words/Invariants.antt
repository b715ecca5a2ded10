use Rattle.std.proofs.Common.{◌≡◌, ◌++◌, drop, map, string_bytes}
use Rattle.command_run.proofs.reading.put_words.Given as goal

-- what is there and what the rest brings is the whole line
abbrev pub invariant-loop-word : goal.invariant-loop-word
invariant-loop-word l = map (λ w. w.now) l.line.items ++ map string_bytes (drop l.word-index l.words) ≡ map (λ w. w.now) l.initial.line.items ++ map string_bytes l.words
