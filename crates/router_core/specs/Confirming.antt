-- The confirmation of what was taken of a Resv that came by an interface, to whom it names.
use Rattle.std.specs.Prelude.{ℕ, false, List, [], Option, Some, None}
use Rattle.rsvp_base.specs.declared.addr.Addr.{Addr}
use Rattle.rsvp_messages.specs.declared.ask.Ask.{Ask}
use Rattle.rsvp_messages.specs.declared.message.ResvConfMsg.{ResvConfMsg}
use Rattle.rsvp_messages.specs.declared.message.ResvMsg.{ResvMsg}
use Rattle.router_rules.specs.Inputs.{Asked, ConfSend}
use Rattle.router_rules.specs.NodeConfig.{NodeConfig, own}
use Rattle.router_rules.specs.Sends.{conf_for, without_scope}

abbrev pub conf_of : NodeConfig → ℕ → ResvMsg → Addr → Ask → ResvConfMsg
conf_of p e m wish ask = record {
  session = m.session;
  err = record { node = own p e; in_place = false; not_guilty = false; code = 0; value = 0 };
  confirm = wish;
  ask = without_scope ask;
}

-- what is confirmed where nothing goes on
abbrev pub confirmed_here : NodeConfig → Option Asked → List ConfSend
confirmed_here p None = []
confirmed_here p (Some a) = conf_for p a a.taken
