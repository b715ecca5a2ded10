-- Scripts of whose lines one reads that nothing goes round in their runs, and what these have at their end.
use Rattle.std.specs.Prelude.{◌≡◌, ◌⊎◌, ◌++◌, ◌+◌, ◌*◌, ◌≤◌, ℕ, false, List, [], length}
use Rattle.rsvp_base.specs.declared.session.Sender.{Sender}
use Rattle.rsvp_base.specs.declared.session.Session.{Session}
use Rattle.rsvp_base.specs.Members.{In}
use Rattle.calm_rounds.specs.Hold.{Visited}
use Rattle.tree_model.specs.Ranks.{longest}
use Rattle.tree_model.specs.Wants.{live}
use Rattle.network_model.specs.Bounds.{EndsInCalm}
use Rattle.network_model.specs.Events.{Event, rounds}
use Rattle.network_model.specs.Runs.{Plan, first_world, is_crowded_run, steps_of_run}
use Rattle.network_model.specs.Steps.{machine}
use Rattle.script_demand.specs.Findings.{IsFindingsOf}
use Rattle.script_grammar.specs.Draft.{Draft, nothing, plan_of, routing}
use Rattle.script_grammar.specs.Grammar.{IsScript, Leads}
use Rattle.script_theorem.specs.RoundsAmong.{AreRoundsAndWriting, rounds_among}
use Rattle.script_words.specs.Lines.{text_lines}
use Rattle.settle_refreshes.specs.Roomy.{with_rounds}
use Rattle.settle_refreshes.specs.Plain.{IsPlainEvent, to_plain_refreshes}
use Rattle.script_overhead.specs.Roomy.{HasRoomFor, SaysRoomFor, end_of}

-- ---- what is read of the lines
-- none injects a datagram, and none asks for a confirmation
abbrev pub ArePlainEvents : List Event → Type 0
ArePlainEvents es = (e : Event) → In e es → IsPlainEvent e

-- behind them each session has one sender at most
abbrev pub HasOneSenderEach : Draft → Type 0
HasOneSenderEach d = (s : Session) (x y : Sender) → In x (live d.locals s) → In y (live d.locals s) → x ≡ y

-- they end in rounds, with lines that only write among them and behind them, and these rounds are enough together: 13 H + 15, H the longest
-- chain of hops of the routing in force, where none of the lines injects or asks for a confirmation; 14 H + 16 where each session has one
-- sender at most
pub record EndsInRounds (d : Draft) : Type 0 where
  pub before : List Event
  pub last : List Event
  pub parts : d.events ≡ before ++ last
  pub only : AreRoundsAndWriting last
  pub enough : (ArePlainEvents d.events × (13 * longest (routing d) + 15 ≤ rounds_among last)) ⊎ (HasOneSenderEach d × (14 * longest (routing d) + 16 ≤ rounds_among last))

-- ---- what is run
-- the run is not crowded, nothing is injected in it and no confirmation asked for, and it ends in 13 H + 14 calm rounds
pub record EndsPlainly (p : Plan) : Type 0 where
  pub uncrowded : is_crowded_run p ≡ false
  pub plain : ArePlainEvents p.events
  pub calm : EndsInCalm to_plain_refreshes p.quarter (first_world p) (steps_of_run p)

-- nothing is in flight at its end, rounds that follow have no more than n in flight, and are not crowded, however many they are
pub record StaysRoomy (n : ℕ) (p : Plan) : Type 0 where
  pub nothing : (end_of p).flight ≡ []
  pub most : (m : ℕ) → Visited (machine p.quarter) (λ w. length w.flight ≤ n) (rounds p.quarter m (end_of p)) (end_of p)
  pub never_crowded : (m : ℕ) → is_crowded_run (with_rounds m p) ≡ false

-- ---- the laws
abbrev pub APlainRunHasTheRoomThatIsSaid : Type 0
APlainRunHasTheRoomThatIsSaid =
    (bytes text : List ℕ) (p : Plan) (n : ℕ) → IsScript bytes p → IsFindingsOf bytes text → SaysRoomFor n text → EndsPlainly p → HasRoomFor n p

abbrev pub APlainScriptStaysRoomy : Type 0
APlainScriptStaysRoomy =
    (bytes text : List ℕ) (d : Draft) (n : ℕ) → Leads nothing (text_lines bytes) d → IsFindingsOf bytes text → SaysRoomFor n text → EndsInRounds d → is_crowded_run (plan_of d) ≡ false
    → StaysRoomy n (plan_of d)
