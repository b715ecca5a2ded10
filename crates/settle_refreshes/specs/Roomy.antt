-- A script that goes on.
use Rattle.std.specs.Prelude.{ℕ, [], ◌∷◌, ◌++◌}
use Rattle.network_model.specs.Events.{Rounds}
use Rattle.network_model.specs.Runs.{Plan}

-- the script with a line `rounds n` behind it
abbrev pub with_rounds : ℕ → Plan → Plan
with_rounds n p = record p { events = p.events ++ Rounds n ∷ [] }
