-- Laws of the script grammar.
use Rattle.std.specs.Prelude.{◌≡◌, ℕ, ◌+◌, ◌*◌, ◌/◌, ◌≢◌, ◌⊎◌, ◌++◌, List, [], ◌∷◌}
use Rattle.network_model.specs.Events.{Event}
use Rattle.network_model.specs.Runs.{Plan}
use Rattle.script_grammar.specs.Adds.{Adds}
use Rattle.script_grammar.specs.Draft.{Draft, lifetime_of_period, plan_of}
use Rattle.script_grammar.specs.Grammar.{Happens, IsScript, IsBadLine}
use Rattle.script_grammar.specs.Rules.{Keeps, KeepsAll}
use Rattle.script_grammar.specs.declared.fault.Fault.{Fault}
use Rattle.script_grammar.specs.Values.{IsPeriod}
use Rattle.script_grammar.specs.declared.line.ScriptLine.{ScriptLine}
use Rattle.script_grammar.specs.declared.line.ScriptLine.TheVariants as line

-- bytes are one script at most
abbrev pub OneScript : Type 0
OneScript = (bytes : List ℕ) (p q : Plan) → IsScript bytes p → IsScript bytes q → p ≡ q

-- bytes with a bad line are no script
abbrev pub BadIsNoScript : Type 0
BadIsNoScript = (bytes : List ℕ) (p : Plan) (number : ℕ) (why : Fault) → IsScript bytes p → IsBadLine bytes number why → ⊥

-- bytes have one first bad line, and it has one fault
pub record OneBadLine (bytes : List ℕ) (m n : ℕ) (a b : Fault) : Type 0 where
  pub line : m ≡ n
  pub fault : a ≡ b

abbrev pub BadLineIsOne : Type 0
BadLineIsOne = (bytes : List ℕ) (m n : ℕ) (a b : Fault) → IsBadLine bytes m a → IsBadLine bytes n b → OneBadLine bytes m n a b

-- state lives (K + 0.5) * 1.5 * R with K = 3, rounded up to whole milliseconds (RFC 2205, 3.7)
abbrev pub LifetimeIsRoundedUp : Type 0
LifetimeIsRoundedUp = (period : ℕ) → IsPeriod period → lifetime_of_period period ≡ (21 * period + 3) / 4

-- a line of part 3 adds one event to the plan, and changes nothing else of it
pub record AddsOneEvent (before now : Plan) : Type 0 where
  pub event : Event
  pub plan : now ≡ record before { events = before.events ++ event ∷ [] }

abbrev pub EventsAreAdded : Type 0
EventsAreAdded = (d : Draft) (said : ScriptLine) (new : Draft) → Happens said → Adds d said new → AddsOneEvent (plan_of d) (plan_of new)

-- behind an event nothing follows but events, and lines that are skipped
abbrev pub OnlyEventsFollowEvents : Type 0
OnlyEventsFollowEvents = (d : Draft) (said : ScriptLine) → d.events ≢ [] → KeepsAll (Keeps d said) → Happens said ⊎ (said ≡ line.Skipped)
