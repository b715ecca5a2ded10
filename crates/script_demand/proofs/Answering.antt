-- How tasks end that take all of their input before they write.
use Rattle.std.proofs.Common.{◌≡◌, ℕ, ◌≤◌, List, [], ◌++◌, Option, None, Some, take, refl, sym, ap, ◌∙◌, append-nil, arith}
use Rattle.std.proofs.KnownBytes.{Appends-nil, Consumes-nil}
use Rattle.std.specs.Io.KnownBytes.{Appends, Consumes, IsAtEnd}
use Rattle.byte_streams.specs.Reading.{most_bytes}
use Rattle.script_run.specs.Advised.{IsAdvised}
use Rattle.script_run.specs.declared.ending.Ending.{Ending}
use Rattle.script_run.specs.declared.ending.Ending.TheVariants.{Done, BadLine, ReadFault, WriteFault, NoMemory, Crowded, TooLong}
use Rattle.script_grammar.specs.declared.fault.Fault.{Fault}
use Rattle.script_demand.specs.Answering.{CanTakeAll, IsAnswering, IsAnsweringOf, IsWrittenOrNot}

-- the answer was written, or a prefix of it
pub written_so : (Answers : List ℕ → List ℕ → Type 0) (IsBad : List ℕ → ℕ → Fault → Type 0) (e : Ending) (bytes text : List ℕ) (before after : Option (List ℕ)) → Answers bytes text → IsWrittenOrNot e
    → (e ≡ Done → Appends before after text) → (e ≡ WriteFault → (n : ℕ) × Appends before after (take n text)) → IsAnsweringOf Answers IsBad e bytes bytes before after
written_so Answers IsBad Done bytes text before after answers how done front = record { text = text; wrote = done refl; ended = (refl, answers) }
written_so Answers IsBad WriteFault bytes text before after answers how done front =
    let some = front refl in
    record { text = take some.0 text; wrote = some.1; ended = (refl, record { whole = text; answers = answers; count = some.0; text_is = refl }) }
written_so Answers IsBad (BadLine number why) bytes text before after answers how done front = absurd how
written_so Answers IsBad ReadFault bytes text before after answers how done front = absurd how
written_so Answers IsBad NoMemory bytes text before after answers how done front = absurd how
written_so Answers IsBad Crowded bytes text before after answers how done front = absurd how
written_so Answers IsBad TooLong bytes text before after answers how done front = absurd how

-- nothing was taken or written where memory ran out before
pub nothing_answered : (Answers : List ℕ → List ℕ → Type 0) (IsBad : List ℕ → ℕ → Fault → Type 0) (old before : Option (List ℕ)) → IsAnswering Answers IsBad NoMemory old old before before
nothing_answered Answers IsBad old before =
    record { taken = []; took = Consumes-nil old; counted = omega arith; wrote = record { text = []; wrote = Appends-nil before; ended = refl } }

-- what was taken to the end is all that was left
pub all_taken : (old new : Option (List ℕ)) (taken bytes : List ℕ) → Consumes old new taken → IsAtEnd new → old ≡ Some bytes → bytes ≡ taken
all_taken None new taken bytes took end is = cc
all_taken (Some xs) None taken bytes took end is = absurd took
all_taken (Some xs) (Some ys) taken bytes took end is =
    let same : xs ≡ bytes = cc is in
    sym same ∙ took ∙ ap (λ zs. taken ++ zs) end ∙ append-nil taken

-- an input that is not too long may have been taken, however the task ended
pub can_take_all : (e : Ending) (n : ℕ) → n ≤ most_bytes → CanTakeAll e n
can_take_all Done n few = few
can_take_all (BadLine number why) n few = few
can_take_all ReadFault n few = few
can_take_all WriteFault n few = few
can_take_all NoMemory n few = omega (arith, few)
can_take_all Crowded n few = few
can_take_all TooLong n few = omega (arith, few)

-- no line was bad, and nothing was told
pub written_quiet : (e : Ending) (bytes advice : List ℕ) → IsWrittenOrNot e → advice ≡ [] → IsAdvised e bytes advice
written_quiet Done bytes advice how quiet = quiet
written_quiet WriteFault bytes advice how quiet = quiet
written_quiet (BadLine number why) bytes advice how quiet = absurd how
written_quiet ReadFault bytes advice how quiet = absurd how
written_quiet NoMemory bytes advice how quiet = absurd how
written_quiet Crowded bytes advice how quiet = absurd how
written_quiet TooLong bytes advice how quiet = absurd how
