-- The exit status of a check.
use Rattle.std.specs.Prelude.{ℕ, Bool, if◌then◌else◌}
use Rattle.command_run.specs.Statuses.{code_of as code_of_status}
use Rattle.command_run.specs.declared.status.Status.{Status}
use Rattle.command_run.specs.declared.status.Status.TheVariants.{Done}

-- that of a demand, but 10 where it came to its end and saying something is an error
abbrev pub code_of : Bool → Status → ℕ
code_of failed Done = if failed then 10 else 0
code_of failed status = code_of_status status
