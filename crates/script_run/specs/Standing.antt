-- Networks in code that stand behind a plan: they are where its run ends.
use Rattle.std.specs.Prelude.{◌≡◌, ◌≢◌, ◌⊎◌, ℕ, true, false, List, [], ◌++◌, Option, None, Some, Result, Ok, Err}
use Rattle.script_grammar.specs.Events.{Event}
use Rattle.script_grammar.specs.Runs.{Plan, is_crowded_run, last_world, run_text}
use Rattle.script_grammar.specs.Draft.{Draft, plan_of, routing}
use Rattle.network_replay.specs.Agreeing.{Agrees, NetworkState}
use Rattle.network_replay.specs.Following.{Seen}
use Rattle.network_replay.specs.declared.world_err.WorldErr.{WorldErr}
use Rattle.network_replay.specs.declared.world_err.WorldErr.TheVariants.{Crowded, NoMemory}
use Rattle.script_run.specs.Asking.{asks_memory}
use Rattle.script_run.specs.Written.{with_event}

module _ {R : Type 0} (see : Seen R) where
  -- the network agrees with the world in which the run of the plan ends
  pub record StandsBehind (v : NetworkState R) (p : Plan) : Type 0 where
    pub agrees : Agrees see p.quarter v (last_world p)
    pub names : v.names ≡ p.names

  -- before the first event there is none
  abbrev pub IsNetworkOf : Option (NetworkState R) → Plan → Type 0
  IsNetworkOf None p = p.events ≡ []
  IsNetworkOf (Some v) p = (p.events ≢ []) × StandsBehind v p

  -- the lines so far are those of the draft, the network is that of their plan, and where its run ends the routing is the one in force
  pub record IsAt (lines : Draft) (world : Option (NetworkState R)) (d : Draft) : Type 0 where
    pub same : lines ≡ d
    pub network : IsNetworkOf world (plan_of d)
    pub routed : (last_world (plan_of d)).net ≡ routing d

  -- an event was run behind a plan, and what it wrote was appended
  pub record HasRunOn (p : Plan) (e : Event) (before after : List ℕ) (v : NetworkState R) : Type 0 where
    pub own : List ℕ
    pub appended : after ≡ before ++ own
    pub roomy : is_crowded_run (with_event p e) ≡ false
    pub text_is : run_text (with_event p e) ≡ run_text p ++ own
    pub stands : StandsBehind v (with_event p e)

  -- or the run is crowded by it, or it asks for memory, which ran out
  abbrev pub RunsOn : Plan → Event → Result (Unit {0}) WorldErr → List ℕ → List ℕ → NetworkState R → Type 0
  RunsOn p e (Ok _) before after v = HasRunOn p e before after v
  RunsOn p e (Err Crowded) before after v = is_crowded_run (with_event p e) ≡ true
  RunsOn p e (Err NoMemory) before after v = asks_memory p e ≡ true

  -- the same of a network that may have been opened for it, which asks for memory
  abbrev pub RunsOnto : Plan → Event → Result (Unit {0}) WorldErr → List ℕ → List ℕ → Option (NetworkState R) → Type 0
  RunsOnto p e (Ok _) before after world = (v : NetworkState R) × (world ≡ Some v) × HasRunOn p e before after v
  RunsOnto p e (Err Crowded) before after world = is_crowded_run (with_event p e) ≡ true
  RunsOnto p e (Err NoMemory) before after world = (p.events ≡ []) ⊎ (asks_memory p e ≡ true)
