-- What is promised of a replay, by how its run ended: of a script that was replayed to its end by the theorem.
use Rattle.std.proofs.Common.{◌≡◌, ℕ, ◌≤◌, List, Option, None, Some, length, false, refl, sym, ap, subst, ◌∙◌}
use Rattle.std.specs.Prelude.{◌≢◌, IfSome}
use Rattle.std.specs.Io.KnownBytes.{Appends}
use Rattle.byte_streams.specs.Reading.{most_bytes}
use Rattle.script_words.specs.Lines.{text_lines}
use Rattle.network_model.specs.Runs.{is_crowded_run, run_text}
use Rattle.script_grammar.specs.Draft.{Draft, nothing, plan_of}
use Rattle.script_grammar.specs.Grammar.{IsScript, Leads}
use Rattle.script_grammar.proofs.Scripts.{one_script_law}
use Rattle.laws_grown.specs.ScriptTheorem.Theorem.{HealsItself}
use Rattle.laws_grown.proofs.ScriptTheorem.Safety.{first_lines_heal_themselves}
use Rattle.laws_grown.proofs.ScriptTheorem.WorldAdverts.{rounds_bring_the_adverts, the_last_adverts_are_demanded}
use Rattle.laws_grown.proofs.ScriptTheorem.WorldDemands.{rounds_bring_the_demand, the_last_report_is_the_demand}
use Rattle.network_replay.specs.Agreeing.{NetworkState}
use Rattle.network_replay.specs.Following.{Seen}
use Rattle.script_run.specs.Advised.{IsAdvised as IsEndAdvised}
use Rattle.script_run.specs.Endings.{ComesTo, IsOrNoMemory as EndsOrNoMemory, IsRun}
use Rattle.script_run.specs.Written.{HasRun}
use Rattle.script_run.specs.declared.ending.Ending.{Ending}
use Rattle.script_run.specs.declared.ending.Ending.TheVariants as ending
use Rattle.script_run.proofs.Spoken.{only_scripts_are_done}
use Rattle.laws_texts.proofs.Told.{tells_within}
use Rattle.command_run.specs.Commands.{Replayed, Stands}
use Rattle.command_run.specs.Healing.{EndsInItsDemand, IsHealingRun, LastAdvertsAreDemanded, LastReportIsTheDemand, LastRoundsBringTheAdverts, LastRoundsBringTheDemand}
use Rattle.command_run.specs.Ran.{Device, HasFailed, ran}
use Rattle.command_run.specs.Statuses.{status_of}
use Rattle.command_run.proofs.Answering.{advised_so, or_no_memory}
use Rattle.command_run.proofs.FirstLines.{ran_first_lines, safe_files}
use Rattle.command_run.specs.declared.status.Status.TheVariants.{Done}

-- ---- done
heals_done : (bytes text : List ℕ) (before after : Option (List ℕ)) → HasRun (text_lines bytes) text → Appends before after text → IsHealingRun bytes before after
heals_done bytes text before after ran wrote =
    let run = only_scripts_are_done bytes text ran in
    record {
      plan = run.plan;
      script = run.script;
      roomy = run.roomy;
      wrote = subst (λ t. Appends before after t) run.text_is wrote;
      heals =
          let lines = run.script.lines in
          let heal = first_lines_heal_themselves (text_lines bytes) lines run.script.leads (ap is_crowded_run (sym run.script.says) ∙ run.roomy) in
          subst HealsItself (sym run.script.says) heal;
    }

done_heals : (stands : Draft → Type 0) (old new before after : Option (List ℕ)) → IsRun stands ending.Done old new before after → IfSome old (λ bytes. IsHealingRun bytes before after)
done_heals stands None new before after run = tt
done_heals stands (Some bytes) None before after run = absurd run.took
done_heals stands (Some bytes) (Some left) before after run =
    heals_done bytes run.text before after (subst (λ bs. HasRun (text_lines bs) run.text) (sym run.took) run.ended.ran) run.wrote

pub healed_run : (stands : Draft → Type 0) (e : Ending) (old new before after : Option (List ℕ)) → status_of e ≡ Done → IsRun stands e old new before after
    → IfSome old (λ bytes. IsHealingRun bytes before after)
healed_run stands ending.Done old new before after is run = done_heals stands old new before after run
healed_run stands (ending.BadLine number why) old new before after is run = absurd (cc is)
healed_run stands ending.ReadFault old new before after is run = absurd (cc is)
healed_run stands ending.WriteFault old new before after is run = absurd (cc is)
healed_run stands ending.NoMemory old new before after is run = absurd (cc is)
healed_run stands ending.Crowded old new before after is run = absurd (cc is)
healed_run stands ending.TooLong old new before after is run = absurd (cc is)

-- ---- a report or an `adverts` line behind which the script only writes
module _ (bytes : List ℕ) (before after : Option (List ℕ)) (run : IsHealingRun bytes before after) (d : Draft) (leads : Leads nothing (text_lines bytes) d) where
  is_script : IsScript bytes (plan_of d)
  is_script = record { lines = d; leads = leads; says = refl }

  same_plan : run.plan ≡ plan_of d
  same_plan = one_script_law bytes run.plan (plan_of d) run.script is_script

  roomy : is_crowded_run (plan_of d) ≡ false
  roomy = ap is_crowded_run (sym same_plan) ∙ run.roomy

  -- what was appended is this text, if the run of the lines has it
  wrote : (text : List ℕ) → run_text (plan_of d) ≡ text → Appends before after text
  wrote text has = subst (λ (t : List ℕ). Appends before after t) (ap run_text same_plan ∙ has) run.wrote

  last_settled : LastReportIsTheDemand d before after
  last_settled ss still later e parts settled writes only fit = wrote _ (the_last_report_is_the_demand bytes d leads roomy ss still later e parts settled writes only fit)

  last_rounds : LastRoundsBringTheDemand d before after
  last_rounds es fs gs e events rounds enough writing none fit = wrote _ (rounds_bring_the_demand bytes d leads roomy es fs gs e events rounds enough writing none fit)

  last_adverts : LastAdvertsAreDemanded d before after
  last_adverts ss still later parts settled writes only = wrote _ (the_last_adverts_are_demanded bytes d leads roomy ss still later parts settled writes only)

  last_advert_rounds : LastRoundsBringTheAdverts d before after
  last_advert_rounds es fs gs events rounds enough writing none = wrote _ (rounds_bring_the_adverts bytes d leads roomy es fs gs events rounds enough writing none)

  ends_in_its_demand : EndsInItsDemand d before after
  ends_in_its_demand = record { settled = last_settled; rounds = last_rounds; adverts = last_adverts; advert_rounds = last_advert_rounds }

pub last_report : (left before after : Option (List ℕ)) → IfSome left (λ bytes. IsHealingRun bytes before after)
    → IfSome left (λ bytes. (d : Draft) → Leads nothing (text_lines bytes) d → EndsInItsDemand d before after)
last_report None before after run = tt
last_report (Some bytes) before after run = λ d leads. ends_in_its_demand bytes before after run d leads

-- ---- however it ended
module _ {R : Type 0} (see : Seen R) (last : Option (NetworkState R)) (e : Ending) (source sink : Device) (advice : List ℕ) where
  pub replayed_so : IsRun (Stands see last) e source.old source.new sink.old sink.new → (e ≢ ending.Done → last ≡ None)
      → ((bytes : List ℕ) → source.old ≡ Some bytes → IsEndAdvised e bytes advice)
      → ((bytes text : List ℕ) (wanted : Ending) → source.old ≡ Some bytes → length bytes ≤ most_bytes → ComesTo wanted bytes text
      → (HasFailed source → ⊥) → (HasFailed sink → ⊥) → EndsOrNoMemory wanted e)
      → Replayed see last (ran (status_of e) source sink advice)
  replayed_so run empty advised complete = record {
    how = e;
    status = refl;
    ending = run;
    ran = ran_first_lines see last e run.taken run.text source.new empty run.ended;
    safe = safe_files source.old;
    advised = λ bytes known. advised_so e bytes advice (advised bytes known);
    healed = λ done. healed_run (Stands see last) e source.old source.new sink.old sink.new done run;
    last_report = λ done. last_report source.old sink.old sink.new (healed_run (Stands see last) e source.old source.new sink.old sink.new done run);
    within_capacity = tells_within (Stands see last) e source.old source.new sink.old sink.new run;
    complete = λ bytes text wanted known short comes calm quiet. or_no_memory wanted e (complete bytes text wanted known short comes calm quiet);
  }
