-- "Each request for a confirmation is answered": the claim, and a network that shows it wrong. All has settled, what is asked fits, nothing is
-- lost, and a host asks again for what it has, with a confirmation: nothing new goes on, and a mark waits for the next change. That it waits
-- is a rule of our own: RFC 2205, 2.6, is silent on a request that changes nothing.
use Rattle.std.specs.Prelude.{◌≡◌, ℕ, ◌*◌, ◌≤◌, ◌++◌, Bool, true, false, List, [], ◌∷◌, Some}
use Rattle.rsvp_base.specs.declared.session.Session.{Session}
use Rattle.rsvp_base.specs.declared.style.StyleKind.{StyleKind}
use Rattle.rsvp_base.specs.declared.style.StyleKind.TheVariants.{Wild}
use Rattle.rsvp_base.specs.Orders.{Names}
use Rattle.rsvp_base.specs.Table.{empty}
use Rattle.rsvp_base.specs.TokenBucket.{TokenBucket}
use Rattle.rsvp_messages.specs.declared.message.Message.TheVariants as message
use Rattle.rsvp_messages.specs.declared.message.ResvConfMsg.{ResvConfMsg}
use Rattle.calm_rounds.specs.Machine.{Happens, run}
use Rattle.router_rules.specs.Inputs.{SendAs, Spelt, WantAs}
use Rattle.router_rules.specs.NodeConfig.{is_own}
use Rattle.router_examples.specs.ThreeRouters.{first, session, usual}
use Rattle.tree_model.specs.Goals.{DemandsFit}
use Rattle.tree_model.specs.Networks.{node_of}
use Rattle.tree_model.specs.Ranks.{longest}
use Rattle.network_model.specs.Bounds.{IsSettled}
use Rattle.network_model.specs.Events.{AtNode, Event, Pass, Rounds, passes}
use Rattle.network_model.specs.Laws.{config_in}
use Rattle.network_model.specs.Locals.{locals_of}
use Rattle.network_model.specs.Runs.{Plan, first_world, steps_of_run}
use Rattle.network_model.specs.Steps.{At, Step, arrived, machine, step}
use Rattle.network_model.specs.Worlds.{Item, World}
use Rattle.laws_network.specs.Runs.{AreFitSenders, IsFitRun}
use Rattle.network_examples.specs.Kept.{pair_plan}

-- ---- the claim
-- a ResvConf of the session to an address of the node comes to the node by the step
pub record Hears (q n : ℕ) (s : Session) (t : Step) (w : World) : Type 0 where
  pub item : Item
  pub conf : ResvConfMsg
  pub arrives : arrived t w ≡ Some item
  pub says : item.arrival ≡ Spelt (message.ResvConf conf)
  pub there : node_of w.net.ends item.end ≡ n
  pub own : is_own (config_in q w n) conf.confirm ≡ true
  pub session : conf.session ≡ s

-- what a host asks for, with a confirmation
pub record Request : Type 0 where
  pub node : ℕ
  pub session : Session
  pub style : StyleKind
  pub names : Names
  pub flow : TokenBucket

abbrev pub asks : Request → Step
asks r = At r.node (WantAs r.session r.style r.names r.flow true)

-- the world in which it was asked for behind these steps of a run
abbrev pub asked_behind : Plan → List Step → Request → World
asked_behind p ss r = step p.quarter (asks r) (run (machine p.quarter) ss (first_world p))

-- where it is asked for in a settled network, and fits with all that is asked, the host hears of it within as many passes, in which nothing
-- is lost, as there are hops on the longest chain, there and back
abbrev pub EachRequestIsAnswered : Type 0
EachRequestIsAnswered =
    (p : Plan) → IsFitRun p → AreFitSenders p → (ss : List Step) (r : Request) (k : ℕ) → steps_of_run p ≡ ss ++ asks r ∷ passes p.quarter k (asked_behind p ss r)
    → IsSettled p.quarter (first_world p) ss → DemandsFit (asked_behind p ss r).net (locals_of (asked_behind p ss r)) → 2 * longest (asked_behind p ss r).net ≤ k
    → Happens (machine p.quarter) (Hears p.quarter r.node r.session) (passes p.quarter k (asked_behind p ss r)) (asked_behind p ss r)

-- ---- where it is wrong
-- one host sends, the other asks for its flow; 32 rounds later it asks for the same, with a confirmation
abbrev pub wants_usual : Bool → Event
wants_usual confirm = AtNode 1 (WantAs session Wild empty usual confirm)

abbrev pub asking_again : Plan
asking_again = pair_plan (AtNode 0 (SendAs session first usual) ∷ wants_usual false ∷ Rounds 32 ∷ wants_usual true ∷ Pass 2 ∷ [])

abbrev pub again : Request
again = record { node = 1; session = session; style = Wild; names = empty; flow = usual }

-- the steps before it does
abbrev pub begun_steps : List Step
begun_steps = At 0 (SendAs session first usual) ∷ At 1 (WantAs session Wild empty usual false) ∷ []

abbrev pub begun : World
begun = run (machine 7500) begun_steps (first_world asking_again)

pub record ARequestIsNotAnswered : Type 0 where
  -- nothing is in flight once it has asked
  pub silent : (run (machine 7500) (steps_of_run asking_again) (first_world asking_again)).flight ≡ []
  pub wrong : EachRequestIsAnswered → ⊥
