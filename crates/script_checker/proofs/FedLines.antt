-- A text that was read, and whose line was added or refused.
use Rattle.std.specs.Prelude.{◌≡◌, ℕ, ◌≤◌, List, [], ◌∷◌, Option, None, Some, Result, Ok, Err, IfErr, IfOk, OnOk, length, slice_get}
use Rattle.std.specs.Prelude.{◌==◌, Bool, true, false, ◌&&◌, if◌then◌else◌}
use Rattle.std.specs.List.{list_all}
use Rattle.std.specs.Str.{byte}
use Rattle.network_model.specs.declared.event.Event.{Event}
use Rattle.script_words.specs.Words.{words_of}
use Rattle.std.proofs.Common.{inr, refl}
use Rattle.script_grammar.specs.Adds.{Adds}
use Rattle.script_grammar.specs.Asking.{AsksMemory}
use Rattle.script_grammar.specs.Draft.{Draft}
use Rattle.script_grammar.specs.Grammar.{broken, most_line}
use Rattle.script_grammar.specs.LineKinds.{is_comment, said_by, script_line_of}
use Rattle.script_grammar.specs.Rules.{Keeps, KeepsAll}
use Rattle.script_grammar.specs.declared.line.ScriptLine.{ScriptLine}
use Rattle.script_grammar.specs.declared.line.ScriptLine.TheVariants.{Skipped}
use Rattle.script_run.specs.Checking.{Feeds, IsLineTaken}
use Rattle.script_grammar.specs.GivenEvents.{IsGiven}
use Rattle.script_grammar.specs.declared.stop.Stop.{Stop}
use Rattle.script_grammar.specs.declared.stop.Stop.TheVariants.{Bad, Crowded, NoMemory}
use Rattle.script_rules.specs.Refusals.{IsUntouched, Refuses}

pub fed : (d : Draft) (text : List ℕ) (said : ScriptLine) → length text ≤ most_line → script_line_of text ≡ Some said → (r : Result (Option Event) Stop) (new : Draft)
    → OnOk r (KeepsAll (Keeps d said) × Adds d said new)
    → IfOk r (λ e. IsGiven d.events e new.events) → IfErr r (Refuses d said) → (r ≡ Err NoMemory → AsksMemory d said) → IfErr r (IsUntouched d new) → Feeds d text r new
fed d text said short reads (Ok e) new added given refused asked same = record { follows = record { short = short; said = said; reads = reads; valid = added.0; adds = added.1 }; event = given }
fed d text said short reads (Err (Bad why)) new added given refused asked same = (broken said why short reads refused, same)
fed d text said short reads (Err Crowded) new added given refused asked same = absurd refused
fed d text said short reads (Err NoMemory) new added given refused asked same = inr (record { said = said; reads = reads; asks = asked refl })

-- ---- a line that says nothing
pub empty_said : (line : List ℕ) → None ≡ slice_get line 0 → script_line_of line ≡ Some Skipped
unfolding said_by
empty_said [] e = refl
empty_said (x ∷ xs) e = cc

-- ---- a line of spaces alone
blank_words : (line : List ℕ) → list_all (λ c. c == byte " ") line ≡ true → words_of line ≡ []
blank_words [] blank = refl
blank_words (c ∷ line) blank = by_first (c == byte " ") refl blank (λ more. blank_words line more)
  where
    by_first : (b : Bool) → (c == byte " ") ≡ b → (b && list_all (λ c. c == byte " ") line) ≡ true
        → (list_all (λ c. c == byte " ") line ≡ true → words_of line ≡ []) → words_of (c ∷ line) ≡ []
    by_first true is more rest = rw is (rest more)
    by_first false is more rest = absurd (cc)

pub blank_said : (line : List ℕ) → list_all (λ c. c == byte " ") line ≡ true → script_line_of line ≡ Some Skipped
unfolding said_by
blank_said line blank = by_comment (is_comment line)
  where
    by_comment : (b : Bool) → (if b then Some Skipped else said_by (words_of line)) ≡ Some Skipped
    by_comment true = refl
    by_comment false = rw (blank_words line blank) refl

pub skipped : (d : Draft) (text : List ℕ) → length text ≤ most_line → script_line_of text ≡ Some Skipped → IsLineTaken d text None d
skipped d text short reads = record {
  follows = record {
    short = short;
    said = Skipped;
    reads = reads;
    valid = record { in_time = tt; in_range = tt; known = tt; new = tt; of_style = tt; within_limits = tt; of_tree = tt; within_capacity = tt; loop_free = tt };
    adds = refl;
  };
  event = refl;
}
