-- Confirmations in a small network: one that a host gets for what it asks for, one that was injected and says what is not so, and one
-- that says what is no longer so when it arrives.
use Rattle.std.specs.Prelude.{◌≡◌, ℕ, ◌++◌, false, true, List, [], ◌∷◌, None, slice_get}
use Rattle.std.specs.Option.{unwrap_or}
use Rattle.rsvp_base.specs.declared.style.StyleKind.TheVariants.{Wild}
use Rattle.rsvp_base.specs.Members.{In}
use Rattle.rsvp_base.specs.Table.{empty}
use Rattle.rsvp_messages.specs.declared.ask.Ask.TheVariants as ask
use Rattle.rsvp_messages.specs.declared.message.Message.TheVariants as message
use Rattle.rsvp_messages.specs.declared.message.ResvConfMsg.{ResvConfMsg}
use Rattle.style_rules.specs.Lines.{BookTable}
use Rattle.calm_rounds.specs.Machine.{Happens, run}
use Rattle.router_rules.specs.Books.{book}
use Rattle.router_rules.specs.Facts.{no_facts}
use Rattle.router_rules.specs.Inputs.{QuitAll, SendAs, Spelt, WantAs}
use Rattle.router_examples.specs.ThreeRouters.{error, first, r1, s1, session, usual}
use Rattle.network_model.specs.Events.{AtNode, DeliverAt, Event, Injects, Pass}
use Rattle.network_model.specs.Runs.{Plan, first_world, steps_of_run}
use Rattle.network_model.specs.Steps.{At, Deliver, Step, machine, sent}
use Rattle.network_model.specs.Worlds.{Item, World}
use Rattle.laws_network.specs.Runs.{IsFitRun}
use Rattle.laws_safety.specs.Confirmations.{Begins}
use Rattle.network_examples.specs.Kept.{pair_plan}

-- the host at 10.0.1.1 says that the usual flow stands, to the one at 10.0.1.2 that asked
abbrev pub usual_conf : ResvConfMsg
usual_conf = record { session = session; err = error s1 false 0 0; confirm = r1; ask = ask.Wild None usual }

-- on its way, sent by the step of this number
abbrev pub conf_item : ℕ → Item
conf_item born = record { end = 1; dst = r1; arrival = Spelt (message.ResvConf usual_conf); born = born }

-- one host sends, the other asks for its flow and for a confirmation, and the Resv is delivered
abbrev pub asking : List Event
asking = AtNode 0 (SendAs session first usual) ∷ Pass 1 ∷ AtNode 1 (WantAs session Wild empty usual true) ∷ []

abbrev pub asking_steps : List Step
asking_steps = At 0 (SendAs session first usual) ∷ Deliver 0 ∷ At 1 (WantAs session Wild empty usual true) ∷ []

abbrev pub confirming_plan : Plan
confirming_plan = pair_plan (asking ++ Pass 1 ∷ [])

-- the world of a run behind these steps
abbrev pub behind : Plan → List Step → World
behind p ss = run (machine 7500) ss (first_world p)

-- what the sending host has promised on its interface
abbrev pub promised : World → BookTable
promised w = book (unwrap_or (slice_get w.nodes 0) no_facts) 0

-- the premises of `a_confirmation_is_held` and `each_confirmation_has_begun` are met: a step sends a ResvConf; before it nothing
-- stands of what it confirms
pub record AConfirmationIsGiven : Type 0 where
  pub fit : IsFitRun confirming_plan
  pub parts : steps_of_run confirming_plan ≡ asking_steps ++ Deliver 0 ∷ []
  pub sends : In (conf_item 3, false) (sent 7500 (Deliver 0) (behind confirming_plan asking_steps))
  pub flies : In (conf_item 3) (behind confirming_plan (asking_steps ++ Deliver 0 ∷ [])).flight
  pub not_yet : promised (behind confirming_plan asking_steps) ≡ empty

-- ---- one that was injected begins nowhere
abbrev pub injected_plan : Plan
injected_plan = pair_plan (Injects 1 r1 (Spelt (message.ResvConf usual_conf)) ∷ [])

pub record AnInjectedOneBeginsNowhere : Type 0 where
  pub fit : IsFitRun injected_plan
  pub flies : In (conf_item 0) (behind injected_plan (steps_of_run injected_plan)).flight
  pub nowhere : Happens (machine 7500) (λ s w. Begins 7500 s w usual_conf) (steps_of_run injected_plan) (first_world injected_plan) → ⊥

-- ---- the host that asked quits while the ResvConf is on its way, and its ResvTear comes first
abbrev pub quitting_plan : Plan
quitting_plan = pair_plan (asking ++ Pass 1 ∷ AtNode 1 (QuitAll session) ∷ DeliverAt 2 ∷ [])

pub record AConfirmationComesLate : Type 0 where
  pub fit : IsFitRun quitting_plan
  pub flies : In (conf_item 3) (behind quitting_plan (steps_of_run quitting_plan)).flight
  pub gone : promised (behind quitting_plan (steps_of_run quitting_plan)) ≡ empty

-- ---- all of it
pub record ConfirmationsInAPair : Type 0 where
  pub given : AConfirmationIsGiven
  pub injected : AnInjectedOneBeginsNowhere
  pub late : AConfirmationComesLate
