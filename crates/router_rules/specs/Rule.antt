-- The rule of a router (RFC 2209, 2): what it does with an input, forgets and settles, and sends. With other routes than before
-- it is that of a ROUTE CHANGE NOTIFICATION.
use Rattle.std.specs.Prelude.{ℕ, Bool, true, false, List, [], Option}
use Rattle.rsvp_base.specs.declared.addr.Addr.{Addr}
use Rattle.rsvp_base.specs.Table.{changed}
use Rattle.router_rules.specs.declared.answers.Heard.{Heard}
use Rattle.router_rules.specs.declared.answers.LocalErr.{LocalErr}
use Rattle.router_rules.specs.declared.answers.StaleErr.{StaleErr}
use Rattle.router_rules.specs.Act.{act}
use Rattle.router_rules.specs.Calls.{act_stale, call_refusal, stale_refusal}
use Rattle.router_rules.specs.Facts.{Facts}
use Rattle.router_rules.specs.Forgetting.{forget, settle}
use Rattle.router_rules.specs.Inputs.{Arrival, Input, Call, Wait, Clear, Came, Moved, Change, Local, Send, Stale}
use Rattle.router_rules.specs.NodeConfig.{NodeConfig}
use Rattle.router_rules.specs.Sends.{sends, unmarked, used_marks}

-- the facts after, what is sent, in order, and what was heard
pub record Outcome : Type 0 where
  pub facts : Facts
  pub sent : List Send
  pub heard : Heard

-- a node that is cleared says nothing
abbrev pub is_silent : Input → Bool
is_silent (Call l) = false
is_silent (Wait ms word) = false
is_silent Clear = true
is_silent (Came e dst a) = false
is_silent Moved = false

abbrev pub unless_silent : {X : Type 0} → Bool → X → X → X
unless_silent true quiet loud = quiet
unless_silent false quiet loud = loud

-- facts once names are forgotten and countdowns settled
abbrev pub settled : NodeConfig → ℕ → Facts → Facts → Facts
settled p c before after = settle p c (forget before after)

abbrev pub spoken : Bool → NodeConfig → NodeConfig → Facts → Facts → Change → Outcome
spoken silent old p before after k = record {
  facts = record after { wants = unless_silent silent after.wants (changed (unmarked (used_marks old p before after k.asked)) after.wants) };
  sent = unless_silent silent [] (sends old p before after k);
  heard = k.heard;
}

-- the routes before and after, the clock after the input, the facts before
abbrev pub rule : NodeConfig → NodeConfig → ℕ → Input → Facts → Outcome
rule old p c i f = let k = act p c i f in spoken (is_silent i) old p f (settled p c f k.facts) k

-- ---- shut fronts, which contracts cite
unfoldable pub facts_after : NodeConfig → NodeConfig → ℕ → Input → Facts → Facts
facts_after old p c i f = (rule old p c i f).facts

unfoldable pub sent_after : NodeConfig → NodeConfig → ℕ → Input → Facts → List Send
sent_after old p c i f = (rule old p c i f).sent

-- what is heard of what came by an interface, to an address
unfoldable pub heard_after : NodeConfig → ℕ → ℕ → Addr → Arrival → Facts → Heard
heard_after p c e dst a f = (act p c (Came e dst a) f).heard

unfoldable pub refusal_of_call : NodeConfig → Local → Facts → Option LocalErr
refusal_of_call p l f = call_refusal p l f

-- a left-over fact is put in its place, and nothing is sent
unfoldable pub facts_with : NodeConfig → ℕ → Stale → Facts → Facts
facts_with p c i f = settled p c f (act_stale p i f)

unfoldable pub refusal_of_stale : NodeConfig → Stale → Facts → Option StaleErr
refusal_of_stale p i f = stale_refusal p i f
