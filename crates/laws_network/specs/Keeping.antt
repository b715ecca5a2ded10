-- What a step may be, so that a world within bounds stays so.
use Rattle.std.specs.Prelude.{ℕ, ◌*◌, ◌<◌, ◌≤◌, length}
use Rattle.rsvp_base.specs.Members.{In}
use Rattle.network_model.specs.RouterRules.Steps.{IsFitCall}
use Rattle.tree_model.specs.Valid.{IsValid}
use Rattle.network_model.specs.Bounds.{IsProperArrival}
use Rattle.network_model.specs.Steps.{Step, Piece, Deliver, Lose, Copy, At, ClearAt, Trace, Report, Flags, Inject, Reroute, rerouted, Adverts}
use Rattle.network_model.specs.Worlds.{World}

-- a piece is half a period at most, a call has sound flows, what is injected goes to an end that is there and is proper if it
-- is a message, and a tree that is replaced has a route and leaves the network valid
abbrev pub IsFitStep : ℕ → World → Step → Type 0
IsFitStep q w (Piece ms) = ms ≤ 2 * q
IsFitStep q w (Deliver k) = Unit {0}
IsFitStep q w (Lose k) = Unit {0}
IsFitStep q w (Copy k) = Unit {0}
IsFitStep q w (At n l) = IsFitCall l
IsFitStep q w (ClearAt n) = Unit {0}
IsFitStep q w (Trace on) = Unit {0}
IsFitStep q w (Report e) = Unit {0}
IsFitStep q w Flags = Unit {0}
IsFitStep q w Adverts = Unit {0}
IsFitStep q w (Inject e dst a) = (e < length w.net.ends) × IsProperArrival a
IsFitStep q w (Reroute g s hops) = In (g, s) w.trees × IsValid (rerouted w.net g s hops)
