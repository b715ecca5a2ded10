-- A router within bounds with something in each table: router r of the line, with a sender and a receiver of its own, the
-- path of the first sender, the reservation of t, and a blockade.
use Rattle.std.specs.Prelude.{◌≡◌, true, false, Some, None}
use Rattle.rsvp_base.specs.declared.session.Sender.{Sender}
use Rattle.rsvp_base.specs.declared.style.StyleKind.TheVariants.{Wild}
use Rattle.rsvp_base.specs.Table.{empty, size}
use Rattle.router_rules.specs.Bounds.{IsWithinBounds}
use Rattle.router_rules.specs.Facts.{Facts, no_facts}
use Rattle.router_rules.specs.Inputs.{SendAs, WantAs}
use Rattle.router_examples.specs.ThreeRouters.{called, came, error, first, flow, group, node_r, path, r1, r2, resv, resv_err, s1, scope, session, t1, usual, wild}

-- ---- router r
-- a sender at r itself
abbrev pub own_sender : Sender
own_sender = record { addr = r2; port = 5004 }

-- its calls, a Path, a Resv, and an error that refuses what was asked for
abbrev pub with_calls : Facts
with_calls = (called (node_r 10000) 0 (WantAs session Wild empty (flow 500 2000 64 1500) false) (called (node_r 10000) 0 (SendAs session own_sender usual) no_facts).facts).facts

abbrev pub lived : Facts
lived = (came (node_r 10000) 0 0 r1 (resv_err s1 (error s1 false 1 2) Wild (Some scope) (Some usual))
    (came (node_r 10000) 0 1 r2 (resv t1 None (wild usual)) (came (node_r 10000) 0 0 group (path true s1 first usual) with_calls).facts).facts).facts

pub record LivedIsWithinBounds : Type 0 where
  pub bounds : IsWithinBounds (node_r 10000) 0 lived
  pub senders : size lived.senders ≡ 1
  pub wants : size lived.wants ≡ 1
  pub paths : size lived.paths ≡ 1
  pub resvs : size lived.resvs.wild ≡ 1
  pub walls : size lived.walls ≡ 1
  pub due : size lived.due ≡ 1
