-- What the run of a script writes, and what a run that goes line by line has written however it ends.
use Rattle.std.proofs.Common.{◌≡◌, ℕ, ◌+◌, List, [], ◌∷◌, ◌++◌, Option, length, take, refl, sym, subst, ◌∙◌, arith, append_assoc}
use Rattle.std.specs.Io.KnownBytes.{Appends}
use Rattle.std.proofs.Math.Seq.{take-append-add}
use Rattle.std.proofs.lemmas.List.{take_all}
use Rattle.byte_streams.specs.Reading.{most_bytes}
use Rattle.script_words.specs.Lines.{text_lines}
use Rattle.script_words.specs.Parts.{parts_of}
use Rattle.network_model.specs.Runs.{Plan, first_world, run_text, steps_of_run}
use Rattle.script_grammar.specs.Draft.{Draft, nothing, plan_of}
use Rattle.script_grammar.specs.Grammar.{IsScript, Leads}
use Rattle.laws_scripts.proofs.EventLines.{each_script_is_a_fit_run}
use Rattle.laws_safety.specs.Books.{AreBooksWithinCapacity}
use Rattle.laws_safety.proofs.Books.{books_within}
use Rattle.laws_safety.proofs.Runs.{in_every_world}
use Rattle.script_run.specs.Endings.{EndedSo, IsRun}
use Rattle.script_run.specs.Lines.{all_bytes, whole_lines, with_feeds}
use Rattle.script_run.specs.Written.{HasRun}
use Rattle.script_run.specs.declared.ending.Ending.{Ending}
use Rattle.script_run.specs.declared.ending.Ending.TheVariants.{Done, BadLine, ReadFault, WriteFault, NoMemory, Crowded, TooLong}
use Rattle.laws_texts.specs.Reading.{HeadsAreRead, TellsWithinCapacity}
use Rattle.laws_texts.proofs.Heads.{read_head}
use Rattle.laws_texts.proofs.Lines.{AllLack, IsTold, front_lacks, lines_again, lines_lack, parts_lack, told_front, whole_lack}
use Rattle.laws_texts.proofs.Names.{name_word, named_behind}
use Rattle.laws_texts.proofs.Reports.{AreNamed, told_steps}

-- ---- heads
pub heads_are_read : HeadsAreRead
heads_are_read name held capacity is few small = read_head name (name_word name is) held capacity few small

-- ---- a script
told_script : (bytes : List ℕ) (p : Plan) → IsScript bytes p → IsTold (run_text p)
told_script bytes p is =
    let named = subst (λ (z : Plan). AreNamed z.names z.net.ends) (sym is.says) (named_behind (text_lines bytes) is.lines is.leads) in
    told_steps p.quarter p.names (steps_of_run p) (first_world p) named (in_every_world AreBooksWithinCapacity books_within p (each_script_is_a_fit_run bytes p is))

told_all : (text : List ℕ) → IsTold text → TellsWithinCapacity text
told_all text t = subst TellsWithinCapacity (take_all (length text) text (omega arith)) (told_front text (length text) t)

pub script_tells : (bytes : List ℕ) (p : Plan) → IsScript bytes p → TellsWithinCapacity (run_text p)
script_tells bytes p is = told_all (run_text p) (told_script bytes p is)

-- ---- some lines that were run
told_run : (lines : List (List ℕ)) (text : List ℕ) → AllLack 10 lines → HasRun lines text → IsTold text
told_run lines text lack ran =
    let is : IsScript (with_feeds lines) (plan_of ran.draft) = record {
      lines = ran.draft;
      leads = subst (λ (ls : List (List ℕ)). Leads nothing ls ran.draft) (sym (lines_again lines lack)) ran.leads;
      says = refl;
    } in
    subst IsTold (sym ran.run.text_is) (told_script (with_feeds lines) (plan_of ran.draft) is)

run_tells : (lines : List (List ℕ)) (text : List ℕ) → AllLack 10 lines → HasRun lines text → TellsWithinCapacity text
run_tells lines text lack ran = told_all text (told_run lines text lack ran)

lacking : (bytes : List ℕ) → AllLack 10 (text_lines bytes)
lacking bytes = lines_lack (parts_of 10 bytes) (parts_lack 10 bytes)

lacking_whole : (bytes : List ℕ) → AllLack 10 (whole_lines bytes)
lacking_whole bytes = whole_lack (parts_of 10 bytes) (parts_lack 10 bytes)

lacking_before : (bytes : List ℕ) (before after : List (List ℕ)) → text_lines bytes ≡ before ++ after → AllLack 10 before
lacking_before bytes before after parts = front_lacks before after (subst (AllLack 10) parts (lacking bytes))

ended_tells : (stands : Draft → Type 0) (e : Ending) (bytes taken text : List ℕ) → EndedSo stands e bytes taken text → TellsWithinCapacity text
ended_tells stands Done bytes taken text e = run_tells (text_lines bytes) text (lacking bytes) e.ran
ended_tells stands (BadLine number why) bytes taken text e =
    let at = e.0.at in
    run_tells at.before text (lacking_before bytes at.before (at.line ∷ at.after) at.parts) at.ran
ended_tells stands ReadFault bytes taken text e = run_tells (whole_lines taken) text (lacking_whole taken) e
ended_tells stands WriteFault bytes taken text e =
    let parts : text_lines bytes ≡ (e.before ++ e.line ∷ []) ++ e.after = e.parts ∙ sym (append_assoc e.before (e.line ∷ []) e.after) in
    let whole = told_run (e.before ++ e.line ∷ []) (e.said ++ e.own) (lacking_before bytes (e.before ++ e.line ∷ []) e.after parts) e.ran_with in
    let front : take (length e.said + e.count) (e.said ++ e.own) ≡ text = take-append-add e.said e.own e.count ∙ sym e.text_is in
    subst TellsWithinCapacity front (told_front (e.said ++ e.own) (length e.said + e.count) whole)
ended_tells stands NoMemory bytes taken text e = run_tells e.before text (lacking_before bytes e.before e.after e.parts) e.ran
ended_tells stands Crowded bytes taken text e = run_tells e.0.before text (lacking_before bytes e.0.before (e.0.line ∷ e.0.after) e.0.parts) e.0.ran
ended_tells stands TooLong bytes taken text e = run_tells (whole_lines (take most_bytes taken)) text (lacking_whole (take most_bytes taken)) e

-- however it ended
pub tells_within : (stands : Draft → Type 0) (e : Ending) (old new before after : Option (List ℕ)) → IsRun stands e old new before after
    → (text : List ℕ) × Appends before after text × TellsWithinCapacity text
tells_within stands e old new before after run = (run.text, run.wrote, ended_tells stands e (all_bytes run.taken new) run.taken run.text run.ended)
