-- What a replay wrote, by the theorem: the text of a run that heals itself, in which, behind enough calm rounds, a report behind which
-- the script only writes is the demand of the script, and such an `adverts` line has what its lines say.
use Rattle.std.specs.Prelude.{◌≡◌, ℕ, ◌+◌, ◌*◌, ◌≤◌, false, List, ◌∷◌, ◌++◌, Option}
use Rattle.std.specs.Io.KnownBytes.{Appends}
use Rattle.tree_model.specs.Goals.{DemandsFit}
use Rattle.tree_model.specs.Ranks.{longest}
use Rattle.network_model.specs.Bounds.{IsSettled}
use Rattle.network_model.specs.Events.{Event, Reports, ReportsAdverts}
use Rattle.network_model.specs.Runs.{Plan, first_world, is_crowded_run, run_text, steps_of_run, text_of}
use Rattle.network_model.specs.Steps.{Adverts, Report, Step, step}
use Rattle.network_model.specs.DemandTexts.{demand_text}
use Rattle.script_grammar.specs.Draft.{Draft, plan_of, routing}
use Rattle.script_grammar.specs.Grammar.{IsScript}
use Rattle.laws_grown.specs.ScriptTheorem.AdvertReports.{AreAdvertsSettled}
use Rattle.laws_grown.specs.ScriptTheorem.Demands.{moment}
use Rattle.laws_grown.specs.ScriptTheorem.Theorem.{HealsItself}
use Rattle.laws_grown.specs.ScriptTheorem.RoundsAmong.{AreRoundsAndWriting, rounds_among}
use Rattle.laws_grown.specs.ScriptTheorem.Standing.{asked_adverts, events_text, world_after}
use Rattle.laws_grown.specs.ScriptTheorem.Writing.{OnlyWrite}
use Rattle.laws_texts.specs.Reading.{TellsWithinCapacity}

-- no whole line of what was appended says of an end that it holds more than its capacity
abbrev pub WritesWithinCapacity : Option (List ℕ) → Option (List ℕ) → Type 0
WritesWithinCapacity before after = (text : List ℕ) × Appends before after text × TellsWithinCapacity text

-- the bytes are a script that is never crowded, its whole text was appended to what was there before, and it heals itself
pub record IsHealingRun (bytes : List ℕ) (before after : Option (List ℕ)) : Type 0 where
  pub plan : Plan
  pub script : IsScript bytes plan
  pub roomy : is_crowded_run plan ≡ false
  pub wrote : Appends before after (run_text plan)
  pub heals : HealsItself plan

-- ---- a report behind which the script only writes
-- where what the lines ask fits, the text that was appended is that of the steps before the report, then what `demand` writes of the
-- script but for the last line, and then the text of the steps behind the report, if there are any

-- at a settled moment, or behind steps that only write after one
abbrev pub LastReportIsTheDemand : Draft → Option (List ℕ) → Option (List ℕ) → Type 0
LastReportIsTheDemand d before after =
    (ss still later : List Step) (e : Option ℕ) → steps_of_run (plan_of d) ≡ (ss ++ still) ++ Report e ∷ later → IsSettled (plan_of d).quarter (first_world (plan_of d)) ss → OnlyWrite still
    → OnlyWrite later → DemandsFit (routing d) d.locals
    → Appends before after (text_of (plan_of d).quarter d.names (ss ++ still) (first_world (plan_of d))
    ++ (demand_text d.names (routing d) d.locals e ++ text_of (plan_of d).quarter d.names later (step (plan_of d).quarter (Report e) (moment (plan_of d) (ss ++ still)))))

-- behind at least 13 H + 13 rounds, H the longest chain of hops of the routing in force: in one line `rounds n`, or in several, among
-- lines that only write
abbrev pub LastRoundsBringTheDemand : Draft → Option (List ℕ) → Option (List ℕ) → Type 0
LastRoundsBringTheDemand d before after =
    (es fs gs : List Event) (e : Option ℕ) → d.events ≡ es ++ (fs ++ Reports e ∷ gs) → AreRoundsAndWriting fs → 13 * longest (routing d) + 13 ≤ rounds_among fs
    → AreRoundsAndWriting gs → rounds_among gs ≡ 0 → DemandsFit (routing d) d.locals
    → Appends before after (events_text d (es ++ fs) (first_world (plan_of d))
    ++ (demand_text d.names (routing d) d.locals e ++ events_text d gs (step (plan_of d).quarter (Report e) (world_after d (es ++ fs)))))

-- ---- an `adverts` line behind which the script only writes
-- whether or not what the lines ask fits, the text that was appended is that of the steps before the line, then the advertisements of the
-- routing in force, of the senders that the lines advertise, and then that of the steps behind the line, if there are any

-- behind 7 H + 4 calm rounds, or steps that only write after them
abbrev pub LastAdvertsAreDemanded : Draft → Option (List ℕ) → Option (List ℕ) → Type 0
LastAdvertsAreDemanded d before after =
    (ss still later : List Step) → steps_of_run (plan_of d) ≡ (ss ++ still) ++ Adverts ∷ later → AreAdvertsSettled (plan_of d).quarter (first_world (plan_of d)) ss → OnlyWrite still
    → OnlyWrite later
    → Appends before after (text_of (plan_of d).quarter d.names (ss ++ still) (first_world (plan_of d))
    ++ (asked_adverts d ++ text_of (plan_of d).quarter d.names later (step (plan_of d).quarter Adverts (moment (plan_of d) (ss ++ still)))))

-- behind at least so many rounds, in one line or in several, among lines that only write
abbrev pub LastRoundsBringTheAdverts : Draft → Option (List ℕ) → Option (List ℕ) → Type 0
LastRoundsBringTheAdverts d before after =
    (es fs gs : List Event) → d.events ≡ es ++ (fs ++ ReportsAdverts ∷ gs) → AreRoundsAndWriting fs → 7 * longest (routing d) + 4 ≤ rounds_among fs
    → AreRoundsAndWriting gs → rounds_among gs ≡ 0
    → Appends before after (events_text d (es ++ fs) (first_world (plan_of d)) ++ (asked_adverts d ++ events_text d gs (step (plan_of d).quarter Adverts (world_after d (es ++ fs)))))

-- ---- both
pub record EndsInItsDemand (d : Draft) (before after : Option (List ℕ)) : Type 0 where
  pub settled : LastReportIsTheDemand d before after
  pub rounds : LastRoundsBringTheDemand d before after
  pub adverts : LastAdvertsAreDemanded d before after
  pub advert_rounds : LastRoundsBringTheAdverts d before after
