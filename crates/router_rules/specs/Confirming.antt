-- A ResvConf goes on to those who wanted to hear (RFC 2205, 2.6 and 3.1.9; RFC 2209, 2: RESV
-- CONFIRM ARRIVES).
use Rattle.std.specs.Prelude.{Bool, true, false, cond, ◌&&◌, List, [], ◌∷◌, Option, Some, None}
use Rattle.std.specs.List.{list_any, filter_map}
use Rattle.rsvp_base.specs.declared.addr.Addr.{Addr}
use Rattle.rsvp_base.specs.declared.style.Unit.{Unit as UnitOf}
use Rattle.rsvp_base.specs.Orders.{Names}
use Rattle.rsvp_base.specs.Table.{empty, has, keys, values, with_rows}
use Rattle.rsvp_messages.specs.declared.ask.Ask.{Ask}
use Rattle.rsvp_messages.specs.declared.ask.Ask.TheVariants as ask
use Rattle.rsvp_messages.specs.declared.message.ResvConfMsg.{ResvConfMsg}
use Rattle.rsvp_messages.specs.Units.{ask_style}
use Rattle.style_rules.specs.Lines.{NextHop, next_hops}
use Rattle.router_rules.specs.declared.answers.Heard.{Heard}
use Rattle.router_rules.specs.declared.answers.Heard.TheVariants as heard
use Rattle.router_rules.specs.declared.answers.Why.TheVariants as why
use Rattle.router_rules.specs.Facts.{Facts, ResvState, resvs_in}
use Rattle.router_rules.specs.Inputs.{Change, only_heard, ConfSend}
use Rattle.router_rules.specs.NodeConfig.{NodeConfig, is_addr, is_own}

abbrev pub is_wish : Option Addr → Addr → Bool
is_wish None a = false
is_wish (Some b) a = is_addr a b

-- it speaks of one of these names; a wildcard one of all
abbrev pub speaks_of : Ask → Names → Bool
speaks_of (ask.Wild scope flow) names = true
speaks_of (ask.Fixed list) names = list_any (has names) (keys list)
speaks_of (ask.Shared part) names = list_any (has names) (keys part.senders)

abbrev pub conf_on : ResvConfMsg → (NextHop × UnitOf) × ResvState → Option (NextHop × ConfSend)
conf_on m r = cond (is_wish r.1.confirm m.confirm && speaks_of m.ask r.1.part.senders) (Some (r.0.0, record { iface = r.0.0.0; dst = r.0.0.1; conf = m })) None

-- one for each next hop
abbrev pub confs_on : ResvConfMsg → Facts → List ConfSend
confs_on m f = values (with_rows (empty {o = next_hops}) (filter_map (conf_on m) (resvs_in (ask_style m.ask) f m.session).rows))

abbrev pub ConfsHeard : Type 0
ConfsHeard = List ConfSend × Heard

-- it has come to its end, or goes on, or nobody wanted it
abbrev pub confs_heard : Bool → List ConfSend → ConfsHeard
confs_heard true ss = ([], heard.Taken)
confs_heard false [] = ([], heard.Dropped why.NoState)
confs_heard false (s ∷ ss) = (s ∷ ss, heard.Taken)

abbrev pub with_confs : Facts → ConfsHeard → Change
with_confs f r = record (only_heard r.1 f) { confs = r.0 }

abbrev pub act_resv_conf : NodeConfig → ResvConfMsg → Facts → Change
act_resv_conf p m f = with_confs f (confs_heard (is_own p m.confirm) (confs_on m f))
