-- The demand of a script, by its status.
use Rattle.std.specs.Prelude.{◌≡◌, ℕ, List, Option}
use Rattle.script_run.specs.declared.ending.Ending.{Ending}
use Rattle.script_demand.specs.Demanding.{IsDemanding}
use Rattle.command_run.specs.Statuses.{status_of}
use Rattle.command_run.specs.declared.status.Status.{Status}

-- bytes were taken of a source and a text was written to a sink, and the demand of the script had this status
abbrev pub IsDemand : Status → Option (List ℕ) → Option (List ℕ) → Option (List ℕ) → Option (List ℕ) → Type 0
IsDemand status old new before after = (e : Ending) × (status ≡ status_of e) × IsDemanding e old new before after
