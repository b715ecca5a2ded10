-- Handles as the table of paths has them.
use Rattle.std.specs.Prelude.{ℕ, Option, Some, None}
use Rattle.path_state.specs.declared.fact.PathFact.{PathFact}

-- the handle that a path's hop gave
abbrev pub handle_in : Option PathFact → ℕ
handle_in None = 0
handle_in (Some f) = f.hop.handle
