-- An answer to a message that is not spelt, as the code has it: to whom it goes, what it says, and what is heard then.
use Rattle.std.specs.Prelude.{ℕ, false, cond, Option, Some, None}
use Rattle.rsvp_base.specs.declared.addr.Addr.{Addr}
use Rattle.rsvp_base.specs.declared.err_spec.ErrSpec.{ErrSpec}
use Rattle.rsvp_base.specs.declared.hop.Hop.{Hop}
use Rattle.rsvp_base.specs.declared.session.Sender.{Sender}
use Rattle.rsvp_base.specs.declared.session.Session.{Session}
use Rattle.rsvp_base.specs.declared.style.StyleKind.{StyleKind}
use Rattle.router_rules.specs.Asking.{answered}
use Rattle.router_rules.specs.Inputs.{ErrMsg, ErrSend, OfPath, OfResv}
use Rattle.router_rules.specs.NodeConfig.{is_addr}
use Rattle.router_rules.specs.Sends.{error_message}
use Rattle.error_sends.specs.declared.unspelt.Reply.{Reply}

abbrev pub reply_as : Addr → ErrMsg → Reply
reply_as dst m = record { dst = dst; message = error_message m; heard = answered m }

abbrev pub reply_of : ErrSend → Reply
reply_of s = reply_as s.dst s.error

-- an error of this node
abbrev pub own_err : Addr → ℕ × ℕ → ErrSpec
own_err own code = record { node = own; in_place = false; not_guilty = false; code = code.0; value = code.1 }

-- to a Path's hop, where it came to the group of its session
abbrev pub path_reply : Addr → Addr → ℕ × ℕ → Session → Hop → Option Sender → Option Reply
path_reply own dst code s h x = cond (is_addr dst s.group) (Some (reply_as h.addr (OfPath (record { session = s; err = own_err own code; sender = x })))) None

-- to a Resv's hop, where it came to the node
abbrev pub resv_reply : Addr → Addr → ℕ × ℕ → Session → Hop → StyleKind → Option Reply
resv_reply own dst code s h st =
    cond (is_addr dst own)
    (Some (reply_as h.addr (OfResv (record { session = s; hop = record { addr = own; handle = 0 }; err = own_err own code; blame = record { style = st; senders = None; flow = None } }))))
    None
