use Rattle.std.proofs.Common.{◌≡◌, ◌+◌, ◌++◌, option_map, length, map}
use Rattle.rsvp_base.specs.EndNames.{name_of}
use Rattle.script_words.specs.Steps.{each_of}
use Rattle.script_grammar.proofs.line_kinds.lists.names.Given as goal

-- what was read, and then what the rest reads as
abbrev pub invariant-loop-rest : goal.invariant-loop-rest
invariant-loop-rest l = (length l.names.items + length l.rest ≡ length l.words) × (option_map (λ xs. l.names.items ++ xs) (each_of name_of (map (λ w. w.now) l.rest))
    ≡ each_of name_of (map (λ w. w.now) l.words))

abbrev pub decreases-loop-rest : goal.decreases-loop-rest
decreases-loop-rest l = length l.rest
