-- What is sent of errors and confirmations where nothing else changes: the claim of a public law.
use Rattle.std.specs.Prelude.{◌≡◌, ◌++◌, [], List, None}
use Rattle.rsvp_base.specs.Table.{empty}
use Rattle.router_rules.specs.Facts.{Facts}
use Rattle.router_rules.specs.Inputs.{Change, ConfSend, ErrSend}
use Rattle.router_rules.specs.NodeConfig.{NodeConfig}
use Rattle.router_rules.specs.Sends.{conf_sends, error_sends, sends}
use Rattle.router_rules.specs.declared.answers.Heard.{Heard}

-- errors and confirmations, and what was heard, and nothing else
abbrev pub only_told : List ErrSend → List ConfSend → Heard → Facts → Change
only_told es cs h f = record { facts = f; errors = es; confs = cs; fired = empty; asked = None; heard = h }

abbrev pub AreSentAlone : Type 0
AreSentAlone = (p : NodeConfig) (f : Facts) (es : List ErrSend) (cs : List ConfSend) (h : Heard) → sends p p f f (only_told es cs h f) ≡ error_sends es ++ conf_sends (cs ++ [])
