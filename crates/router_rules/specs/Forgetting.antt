-- What follows each input: senders that are known no more leave the reservations (RFC 2209, 2: PATH TEAR MESSAGE ARRIVES, an
-- RSB without a matching PSB), and countdowns start and go (the refresh timers of RFC 2205, 3.7).
use Rattle.std.specs.Prelude.{ℕ, ◌+◌, Bool, not, ◌&&◌, ◌++◌, map as each, Option, Some}
use Rattle.std.specs.Option.{unwrap_or}
use Rattle.rsvp_base.specs.declared.session.Sender.{Sender}
use Rattle.rsvp_base.specs.declared.session.Session.{Session}
use Rattle.rsvp_base.specs.declared.style.StyleKind.{StyleKind}
use Rattle.rsvp_base.specs.Orders.{sessions}
use Rattle.rsvp_base.specs.Sets.{Set, set_of}
use Rattle.rsvp_base.specs.Table.{get, has, keys, changed}
use Rattle.style_rules.specs.Lines.{LineKey}
use Rattle.router_rules.specs.Asking.{left_of}
use Rattle.router_rules.specs.Facts.{Facts, ResvState, each_table}
use Rattle.router_rules.specs.Known.{known, named_as}
use Rattle.router_rules.specs.NodeConfig.{NodeConfig, period}

-- ---- forgetting
-- a name is lost where a sender of it was known before and none is after
abbrev pub is_lost : StyleKind → Facts → Facts → Session → Sender → Bool
is_lost st before after s x = has (named_as st (known before s)) x && not (has (named_as st (known after s)) x)

abbrev pub remembered : StyleKind → Facts → Facts → LineKey → ResvState → Option ResvState
remembered st before after k r = left_of (λ x. not (is_lost st before after k.0 x)) r

abbrev pub forget : Facts → Facts → Facts
forget before after = record after { resvs = each_table (λ st t. changed (remembered st before after) t) after.resvs }

-- ---- countdowns
-- the sessions with a local sender or a path
abbrev pub counted : Facts → Set sessions
counted f = set_of (each (λ k. k.0) (keys f.senders) ++ each (λ k. k.0) (keys f.paths))

-- a countdown starts at R when its session gets the first of these, and goes with the last
abbrev pub settle : NodeConfig → ℕ → Facts → Facts
settle p c f = record f { due = changed (λ s u. Some (unwrap_or (get f.due s) (c + period p))) (counted f) }
