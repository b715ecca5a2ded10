-- What the lines of a script do to a network: each event is its steps.
use Rattle.std.specs.Prelude.{ℕ, ◌*◌, ◌/◌, ◌%◌, nat_lt, Bool, cond, List, [], ◌∷◌, ◌++◌, length, Option}
use Rattle.std.proofs.Common.{zero, suc}
use Rattle.std.specs.List.{repeat}
use Rattle.rsvp_base.specs.declared.addr.Addr.{Addr}
use Rattle.calm_rounds.specs.Machine.{run}
use Rattle.router_examples.specs.RouterRules.Inputs.{Arrival, Local}
use Rattle.tree_model.specs.declared.hops.LinkHop.{LinkHop}
use Rattle.network_model.specs.Steps.{Step, Piece, Deliver, Lose, Copy, At, ClearAt, Trace, Report, Flags, Adverts, Inject, Reroute, step, machine}
use Rattle.network_model.specs.Worlds.{World}

-- Places count from 1. A datagram that is injected is what its bytes spell, or why they spell nothing.
pub data Event : Type 0 where
  -- send, drop, want and quit, at a node
  AtNode : ℕ → Local → Event
  -- milliseconds
  Waits : ℕ → Event
  Pass : ℕ → Event
  DeliverAt : ℕ → Event
  LoseAt : ℕ → Event
  CopyAt : ℕ → Event
  ClearNode : ℕ → Event
  Rounds : ℕ → Event
  Traces : Bool → Event
  -- of one end, or of all
  Reports : Option ℕ → Event
  ReportsFlags : Event
  -- what the paths offer that came by each end
  ReportsAdverts : Event
  Injects : ℕ → Addr → Arrival → Event
  Reroutes : Addr → Addr → List LinkHop → Event

-- the place from 0; there is none before the first
abbrev pub at_place : (ℕ → Step) → ℕ → List Step
at_place s zero = []
at_place s (suc k) = s k ∷ []

module _ (q : ℕ) where
  -- half periods, and what is left
  abbrev pub last_piece : ℕ → List Step
  last_piece ms = cond (nat_lt 0 ms) (Piece ms ∷ []) []

  abbrev pub pieces : ℕ → List Step
  pieces ms = repeat (ms / (2 * q)) (Piece (2 * q) ∷ []) ++ last_piece (ms % (2 * q))

  -- one after another, each in the world that the one before leaves
  abbrev pub then_steps : List Step → (World → List Step) → World → List Step
  then_steps ss next w = ss ++ next (run (machine q) ss w)

  -- what is in flight is delivered, each in its turn; what is sent meanwhile is not
  abbrev pub pass : World → List Step
  pass w = repeat (length w.flight) (Deliver 0 ∷ [])

  abbrev pub passes : ℕ → World → List Step
  passes zero w = []
  passes (suc n) w = then_steps (pass w) (passes n) w

  -- half a period, and a pass
  abbrev pub half : World → List Step
  half w = Piece (2 * q) ∷ pass (step q (Piece (2 * q)) w)

  abbrev pub halves : ℕ → World → List Step
  halves zero w = []
  halves (suc n) w = then_steps (half w) (halves n) w

  -- a round is four of these
  abbrev pub a_round : World → List Step
  a_round w = halves 4 w

  abbrev pub rounds : ℕ → World → List Step
  rounds zero w = []
  rounds (suc n) w = then_steps (a_round w) (rounds n) w

  abbrev pub steps_of : Event → World → List Step
  steps_of (AtNode n l) w = At n l ∷ []
  steps_of (Waits ms) w = pieces ms
  steps_of (Pass n) w = passes n w
  steps_of (DeliverAt k) w = at_place Deliver k
  steps_of (LoseAt k) w = at_place Lose k
  steps_of (CopyAt k) w = at_place Copy k
  steps_of (ClearNode n) w = ClearAt n ∷ []
  steps_of (Rounds n) w = rounds n w
  steps_of (Traces on) w = Trace on ∷ []
  steps_of (Reports e) w = Report e ∷ []
  steps_of ReportsFlags w = Flags ∷ []
  steps_of ReportsAdverts w = Adverts ∷ []
  steps_of (Injects e dst a) w = Inject e dst a ∷ []
  steps_of (Reroutes g s hops) w = Reroute g s hops ∷ []

  abbrev pub all_steps : List Event → World → List Step
  all_steps [] w = []
  all_steps (e ∷ es) w = then_steps (steps_of e w) (all_steps es) w
