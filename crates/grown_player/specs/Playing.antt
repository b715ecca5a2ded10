-- Events that are played behind those of a plan.
use Rattle.std.specs.Prelude.{◌≡◌, ℕ, true, false, List, ◌++◌, None, Result, Ok, Err}
use Rattle.network_model.specs.Events.{Event}
use Rattle.network_model.specs.Runs.{Plan, is_crowded_run, run_text}
use Rattle.router_rules.specs.Inputs.{Arrival, Unspelt}
use Rattle.rsvp_messages.specs.declared.fault.Fault.TheVariants as fault
use Rattle.network_replay.specs.Agreeing.{NetworkState}
use Rattle.network_replay.specs.Following.{Seen}
use Rattle.network_replay.specs.Sights.{Sight, plan_sights}
use Rattle.network_replay.specs.declared.world_err.WorldErr.{WorldErr}
use Rattle.network_replay.specs.declared.world_err.WorldErr.TheVariants.{Crowded, NoMemory}
use Rattle.script_run.specs.Standing.{StandsBehind}

-- the plan with more events
abbrev pub with_events : Plan → List Event → Plan
with_events p es = record p { events = p.events ++ es }

-- an event without bytes has these, which say nothing
abbrev pub no_bytes : Arrival
no_bytes = Unspelt (record { fault = fault.Short; kind = None; hint = record { session = None; hop = None; style = None; sender = None } })

-- behind what was shown of the plan, all that there is to be seen of these events was shown
abbrev pub ShowsMore : {W : Type 0} → (W → List Sight → Type 0) → W → W → Plan → List Event → Type 0
ShowsMore saw old new p es = (ss : List Sight) → saw old (ss ++ plan_sights p) → saw new (ss ++ plan_sights (with_events p es))

module _ {R : Type 0} (see : Seen R) where
  -- the plan was played: its run is not crowded, the network stands behind it, and it wrote this
  pub record IsPlayed (p : Plan) (v : NetworkState R) (out : List ℕ) : Type 0 where
    pub roomy : is_crowded_run p ≡ false
    pub stands : StandsBehind see v p
    pub text_is : out ≡ run_text p

  -- it was; or its run is crowded, or memory ran out
  abbrev pub EndsPlaying : Plan → Result (Unit {0}) WorldErr → NetworkState R → List ℕ → Type 0
  EndsPlaying p (Ok _) v out = IsPlayed p v out
  EndsPlaying p (Err Crowded) v out = is_crowded_run p ≡ true
  EndsPlaying p (Err NoMemory) v out = Unit {0}

  -- so many events more
  abbrev pub Plays : Plan → List Event → Result (Unit {0}) WorldErr → NetworkState R → List ℕ → Type 0
  Plays p es r v out = EndsPlaying (with_events p es) r v out
