-- What a ResvConf does, as the tables are seen at a clock.
use Rattle.std.specs.Prelude.{ℕ, List, ◌++◌, []}
use Rattle.rsvp_messages.specs.declared.message.ResvConfMsg.{ResvConfMsg}
use Rattle.router_rules.specs.Confirming.{act_resv_conf}
use Rattle.router_rules.specs.Inputs.{Send}
use Rattle.router_rules.specs.Sends.{conf_sends}
use Rattle.router_rules.specs.declared.answers.Heard.{Heard}
use Rattle.laws_sends.specs.State.{State, facts_of}

unfoldable pub resv_conf_heard : ℕ → State → ResvConfMsg → Heard
resv_conf_heard c n m = (act_resv_conf n.place m (facts_of c n)).heard

-- a ResvConf has no confirmation of its own
unfoldable pub resv_conf_sent : ℕ → State → ResvConfMsg → List Send
resv_conf_sent c n m = conf_sends ((act_resv_conf n.place m (facts_of c n)).confs ++ [])
