-- What the program promises of a run: a record for each task, and the table of them, a row a task.
use Rattle.std.specs.Prelude.{◌≡◌, ℕ, ◌≤◌, List, length, Option, None, Some, IfSome}
use Rattle.std.specs.Io.KnownBytes.{Keeps}
use Rattle.byte_streams.specs.Reading.{most_bytes}
use Rattle.network_replay.specs.Agreeing.{NetworkState}
use Rattle.network_replay.specs.Following.{Seen}
use Rattle.byte_streams.specs.Lines.{all_bytes}
use Rattle.script_run.specs.Endings.{ComesTo, IsRun}
use Rattle.script_run.specs.declared.ending.Ending.{Ending}
use Rattle.script_run.specs.declared.ending.Ending.TheVariants as ends
use Rattle.script_grammar.specs.Draft.{Draft, nothing, plan_of}
use Rattle.script_grammar.specs.Grammar.{Leads}
use Rattle.script_words.specs.Lines.{text_lines}
use Rattle.script_demand.specs.Demanding.{DemandsTo}
use Rattle.script_run.specs.Standing.{IsNetworkOf}
use Rattle.grown_network.specs.Grown.{grown_plan}
use Rattle.laws_grown.specs.ScriptTheorem.Theorem.{IsSafe}
use Rattle.command_run.specs.Advised.{IsAdvised, IsShowAdvised}
use Rattle.command_run.specs.Demanding.{IsDemand}
use Rattle.command_run.specs.FirstLines.{HasRunFirstLines, IsLeftIn, IsSafeFile, lines_run}
use Rattle.command_run.specs.Growing.{EndsAsDemanded, IsEndOfGrowth, IsGrowth}
use Rattle.command_run.specs.Healing.{EndsInItsDemand, IsHealingRun, WritesWithinCapacity}
use Rattle.command_run.specs.Policing.{Policed}
use Rattle.command_run.specs.Ran.{Device, HasFailed, IsUnread, Ran}
use Rattle.command_run.specs.Serving.{Served}
use Rattle.command_run.specs.Showing.{IsShowing, ShowsTo}
use Rattle.command_run.specs.Statuses.{IsOrNoMemory, status_of}
use Rattle.command_run.specs.declared.status.Status.{Status}
use Rattle.command_run.specs.declared.status.Status.TheVariants.{Done, Usage}
use Rattle.command_run.specs.declared.task.Task.{Task}
use Rattle.command_run.specs.declared.task.Task.TheVariants.{Replay, Demand, Show, Grow, Node, Police}

-- `last`: the network that is left
module _ {R : Type 0} (see : Seen R) (last : Option (NetworkState R)) where
  -- it stands behind these lines
  abbrev pub Stands : Draft → Type 0
  Stands d = IsNetworkOf see last (plan_of d)

  pub record Replayed (r : Ran) : Type 0 where
    -- how it ended, and what it took, wrote and left then
    pub how : Ending
    pub status : r.status ≡ status_of how
    pub ending : IsRun Stands how r.source.old r.source.new r.sink.old r.sink.new
    -- however it ended: what it ran is the run of the first lines of its file, safe at each step, and each report that was written whole
    -- at a settled moment is the demand
    pub ran : HasRunFirstLines see (all_bytes ending.taken r.source.new) ending.text last (lines_run Stands how (all_bytes ending.taken r.source.new) ending.taken ending.text ending.ended)
    -- and so is each step of the run of any first lines of the file, also of lines that it did not come to
    pub safe : IfSome r.source.old IsSafeFile
    -- over known input: the advice on the bad line
    pub advised : (bytes : List ℕ) → r.source.old ≡ Some bytes → IsAdvised r.status bytes r.advice
    -- a script that was replayed to its end heals itself
    pub healed : r.status ≡ Done → IfSome r.source.old (λ bytes. IsHealingRun bytes r.sink.old r.sink.new)
    -- once all has settled, a report behind which the script only writes is what `demand` writes of the script, but for the last line; and
    -- once advertisements have settled, such an `adverts` line has what the lines say
    pub last_report : r.status ≡ Done → IfSome r.source.old (λ bytes. (d : Draft) → Leads nothing (text_lines bytes) d → EndsInItsDemand d r.sink.old r.sink.new)
    -- however it ended, no whole line that was written says of an end that it holds more than its capacity
    pub within_capacity : WritesWithinCapacity r.sink.old r.sink.new
    -- nothing else ends it over known input and devices that do not fail
    pub complete : (bytes text : List ℕ) (wanted : Ending) → r.source.old ≡ Some bytes → length bytes ≤ most_bytes → ComesTo wanted bytes text
        → (HasFailed r.source → ⊥) → (HasFailed r.sink → ⊥) → IsOrNoMemory (status_of wanted) r.status

pub record Demanded (r : Ran) : Type 0 where
  -- how it ended, and what it took and wrote then
  pub ending : IsDemand r.status r.source.old r.source.new r.sink.old r.sink.new
  pub advised : (bytes : List ℕ) → r.source.old ≡ Some bytes → IsAdvised r.status bytes r.advice
  pub complete : (bytes : List ℕ) (wanted : Ending) → r.source.old ≡ Some bytes → DemandsTo wanted bytes
      → (HasFailed r.source → ⊥) → (wanted ≡ ends.Done → HasFailed r.sink → ⊥) → IsOrNoMemory (status_of wanted) r.status

pub record Shown (r : Ran) : Type 0 where
  -- how it ended, and what it took and wrote then
  pub ending : IsShowing r.status r.source.old r.source.new r.sink.old r.sink.new
  pub advised : (bytes : List ℕ) → r.source.old ≡ Some bytes → IsShowAdvised r.status bytes r.advice
  pub complete : (bytes : List ℕ) (wanted : Status) → r.source.old ≡ Some bytes → ShowsTo wanted bytes
      → (HasFailed r.source → ⊥) → (wanted ≡ Done → HasFailed r.sink → ⊥) → IsOrNoMemory wanted r.status

-- `last`: the network that is left
pub record Grown {R : Type 0} (see : Seen R) (last : Option (NetworkState R)) (seed : ℕ) (status : Status) (sink : Device) : Type 0 where
  -- how it ended, and what it wrote and left then
  pub ending : IsGrowth (IsNetworkOf see last) status seed sink.old sink.new
  -- however it ended: each step of the run of this seed is safe, and the routers that are left are one of its worlds
  pub safe : IsSafe (grown_plan seed)
  pub left : IsLeftIn see last (grown_plan seed)
  -- a network that was grown and run to its end reports exactly what is demanded: the last line of its summary is `equal yes`
  pub as_demanded : status ≡ Done → EndsAsDemanded seed sink.old sink.new
  -- it is done, or the sink failed, or memory ran out: the run of no seed is crowded
  pub ends : IsEndOfGrowth status
  -- where the sink does not fail nothing but want of memory keeps it from being done
  pub complete : (HasFailed sink → ⊥) → IsOrNoMemory Done status

-- the words are no command: nothing is taken or written
pub record NotOrdered (r : Ran) : Type 0 where
  pub usage : IsOrNoMemory Usage r.status
  pub unread : IsUnread r
  pub unwritten : Keeps r.sink.old r.sink.new

-- ---- the table; `last`: the network that is left
module _ {R : Type 0} (see : Seen R) where
  abbrev pub Does : Option Task → Ran → Option (NetworkState R) → Type 0
  Does None r last = NotOrdered r
  Does (Some Replay) r last = Replayed see last r
  Does (Some Demand) r last = Demanded r × (last ≡ None)
  Does (Some Show) r last = Shown r × (last ≡ None)
  Does (Some (Grow seed)) r last = Grown see last seed r.status r.sink × IsUnread r
  Does (Some Node) r last = Served r × (last ≡ None)
  Does (Some Police) r last = Policed r × (last ≡ None)
