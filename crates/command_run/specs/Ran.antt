-- What a run of the program came to: how it ended, what it took of its source and wrote to its sink, and what it advises.
use Rattle.std.specs.Prelude.{◌≡◌, ℕ, List, [], Option}
use Rattle.std.specs.Io.KnownBytes.{Keeps}
use Rattle.byte_streams.specs.Faults.{Rose}
use Rattle.command_run.specs.declared.status.Status.{Status}

-- a source or a sink before and after: the bytes that it has left or holds, where they are known, and how many faults it has had
pub record Device : Type 0 where
  pub old : Option (List ℕ)
  pub new : Option (List ℕ)
  pub faults : ℕ
  pub later_faults : ℕ

-- by what is known of its bytes and its faults
abbrev pub device : {X : Type 0} → (X → Option (List ℕ)) → (X → ℕ) → X → X → Device
device bytes faults old new = record { old = bytes old; new = bytes new; faults = faults old; later_faults = faults new }

-- it had a fault
abbrev pub HasFailed : Device → Type 0
HasFailed d = Rose d.faults d.later_faults

pub record Ran : Type 0 where
  pub status : Status
  pub source : Device
  pub sink : Device
  pub advice : List ℕ

abbrev pub ran : Status → Device → Device → List ℕ → Ran
ran status source sink advice = record { status = status; source = source; sink = sink; advice = advice }

-- nothing was taken of the source, and nothing is advised
pub record IsUnread (r : Ran) : Type 0 where
  pub source : Keeps r.source.old r.source.new
  pub advice : r.advice ≡ []
