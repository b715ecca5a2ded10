-- What was shown of a run, by how it ended.
use Rattle.std.proofs.Common.{◌≡◌, ℕ, List, Option, None, Some, subst, refl}
use Rattle.std.specs.Prelude.{IfSome}
use Rattle.byte_streams.proofs.Known.{all_known}
use Rattle.network_replay.specs.Sights.{Shows, Sight}
use Rattle.script_words.specs.Lines.{text_lines}
use Rattle.script_grammar.specs.Draft.{Draft, nothing, plan_of}
use Rattle.script_grammar.specs.Grammar.{Leads}
use Rattle.script_grammar.proofs.Scripts.{leads_one}
use Rattle.script_run.specs.Endings.{IsRun}
use Rattle.script_run.specs.Shown.{script_sights}
use Rattle.script_run.specs.declared.ending.Ending.{Ending}
use Rattle.script_run.specs.declared.ending.Ending.TheVariants as ending
use Rattle.command_run.specs.Shown.{ShowsScript}
use Rattle.command_run.specs.Statuses.{status_of}
use Rattle.command_run.specs.declared.status.Status.TheVariants.{Done}

-- a run ends as done where its status says so
pub is_done : (e : Ending) → status_of e ≡ Done → e ≡ ending.Done
is_done ending.Done is = refl
is_done (ending.BadLine number why) is = absurd (cc is)
is_done ending.ReadFault is = absurd (cc is)
is_done ending.WriteFault is = absurd (cc is)
is_done ending.NoMemory is = absurd (cc is)
is_done ending.Crowded is = absurd (cc is)
is_done ending.TooLong is = absurd (cc is)

module _ {W : Type 0} (saw : W → List Sight → Type 0) (old new : W) where
  shown_known : (left later before after : Option (List ℕ)) (bytes : List ℕ) → left ≡ Some bytes → IsRun (λ d. Shows saw old new (script_sights (plan_of d))) ending.Done left later before after
      → ShowsScript saw old new bytes
  shown_known left later before after bytes known r d leads =
      let all = all_known left later bytes r.taken known r.took in
      let ran = subst (λ (b : List ℕ). Leads nothing (text_lines b) r.ended.ran.draft) all.0 r.ended.ran.leads in
      subst (λ (x : Draft). Shows saw old new (script_sights (plan_of x))) (leads_one nothing (text_lines bytes) r.ended.ran.draft d ran leads) r.ended.stands_there

  pub shown_replayed : (e : Ending) (left later before after : Option (List ℕ)) → IsRun (λ d. Shows saw old new (script_sights (plan_of d))) e left later before after → status_of e ≡ Done
      → IfSome left (ShowsScript saw old new)
  shown_replayed e None later before after r is = tt
  shown_replayed e (Some bytes) later before after r is =
      shown_known (Some bytes) later before after bytes refl
      (subst (λ (x : Ending). IsRun (λ d. Shows saw old new (script_sights (plan_of d))) x (Some bytes) later before after) (is_done e is) r)
