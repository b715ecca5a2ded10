-- What goes on to the next hops of a session's reservations, by next hop.
use Rattle.std.specs.Prelude.{ℕ, Bool, true, false, cond, not, ◌&&◌, ◌||◌, List, [], ◌∷◌, Option, Some, None}
use Rattle.std.specs.List.{filter_map, list_any}
use Rattle.std.specs.Option.{option_map}
use Rattle.rsvp_base.specs.Table.{empty, get, keys, values, with_rows}
use Rattle.rsvp_base.specs.TokenBucket.{TokenBucket}
use Rattle.rsvp_base.specs.declared.addr.Addr.{Addr}
use Rattle.rsvp_base.specs.declared.part.Part.{Part}
use Rattle.rsvp_base.specs.declared.style.StyleKind.{StyleKind}
use Rattle.rsvp_messages.specs.declared.message.ResvConfMsg.{ResvConfMsg}
use Rattle.rsvp_messages.specs.declared.message.ResvErrMsg.{ResvErrMsg}
use Rattle.style_rules.specs.Lines.{NextHop, next_hops}
use Rattle.style_rules.specs.Toward.{is_walled}
use Rattle.style_rules.specs.Ways.{Way, WayTable}
use Rattle.resv_state.specs.Merging.{SessionRow, is_out}
use Rattle.router_rules.specs.Errors.{blamed, error_to, is_for_blockaded}
use Rattle.router_rules.specs.Inputs.{ErrSend, Send}
use Rattle.router_rules.specs.NodeConfig.{NodeConfig}
use Rattle.router_rules.specs.Sends.{conf_send, error_send, once}
use Rattle.error_sends.specs.Passing.{is_confirmed}
use Rattle.error_sends.specs.declared.outgoing.Outgoing.{Outgoing}

abbrev pub going_row : Outgoing → NextHop × Send
going_row x = ((x.iface, x.dst), once x.iface x.dst x.message)

-- one for each next hop: of those that its reservations give, in order, the last
abbrev pub one_each : (SessionRow → Option (NextHop × Send)) → List SessionRow → List Send
one_each g es = values (with_rows (empty {o = next_hops}) (filter_map g es))

-- ---- errors
-- a reservation is blockaded by any of its names whose tree goes out of its interface, and which has a blockade that keeps
-- its flow back
abbrev pub is_way_held : ℕ → TokenBucket → Option Way → Bool
is_way_held iface flow None = false
is_way_held iface flow (Some way) = is_out iface way && is_walled flow way.wall

abbrev pub is_held_back : WayTable → ℕ → Part → Bool
is_held_back up iface part = list_any (λ x. is_way_held iface part.flow (get up x)) (keys part.senders)

abbrev pub as_send : NextHop × ErrSend → NextHop × Send
as_send e = (e.0, error_send e.1)

-- the error that goes on to the next hop of a reservation with this part, if one does
abbrev pub error_row : NodeConfig → WayTable → ResvErrMsg → StyleKind → NextHop → Part → Option (NextHop × Send)
error_row p up m st hop part = option_map as_send (cond (not (is_for_blockaded m) || is_held_back up hop.0 part) (error_to p m hop (blamed st m.blame.senders part.senders)) None)

abbrev pub error_at : NodeConfig → WayTable → ResvErrMsg → StyleKind → SessionRow → Option (NextHop × Send)
error_at p up m st e = error_row p up m st e.0.0 e.1.0.part

abbrev pub errors_told : NodeConfig → WayTable → ResvErrMsg → StyleKind → List SessionRow → List Send
errors_told p up m st es = one_each (error_at p up m st) es

-- ---- confirmations
abbrev pub conf_row : ResvConfMsg → StyleKind → NextHop → Part → Option Addr → Option (NextHop × Send)
conf_row m st hop part kept = cond (is_confirmed part kept st m.confirm m.ask) (Some (hop, conf_send (record { iface = hop.0; dst = hop.1; conf = m }))) None

abbrev pub conf_at : ResvConfMsg → StyleKind → SessionRow → Option (NextHop × Send)
conf_at m st e = conf_row m st e.0.0 e.1.0.part e.1.0.confirm

abbrev pub confs_told : ResvConfMsg → StyleKind → List SessionRow → List Send
confs_told m st es = one_each (conf_at m st) es

-- whether there are some
abbrev pub are_some : {A : Type 0} → List A → Bool
are_some [] = false
are_some (x ∷ xs) = true
