-- What each input does by itself: one case for each event of RFC 2209, 2 (PATH MESSAGE ARRIVES and so on).
use Rattle.std.specs.Prelude.{ℕ, Bool, true, false}
use Rattle.rsvp_base.specs.declared.addr.Addr.{Addr}
use Rattle.rsvp_messages.specs.declared.message.Message.{Message}
use Rattle.rsvp_messages.specs.declared.message.Message.TheVariants as message
use Rattle.router_rules.specs.declared.answers.Heard.TheVariants as heard
use Rattle.router_rules.specs.declared.answers.Why.TheVariants as why
use Rattle.router_rules.specs.Asking.{act_resv, act_resv_tear}
use Rattle.router_rules.specs.Calls.{act_call, act_clear}
use Rattle.router_rules.specs.Confirming.{act_resv_conf}
use Rattle.router_rules.specs.Errors.{act_path_err, act_resv_err, act_unspelt}
use Rattle.router_rules.specs.Facts.{Facts}
use Rattle.router_rules.specs.Inputs.{Arrival, Spelt, Unspelt, Input, Call, Wait, Clear, Came, Moved, Change, only_heard}
use Rattle.router_rules.specs.Paths.{act_path, act_path_tear}
use Rattle.router_rules.specs.NodeConfig.{NodeConfig, own, is_addr}
use Rattle.router_rules.specs.Waiting.{act_wait}

-- a Path and a PathTear come to their group, the others to the node's own address of the interface
abbrev pub is_mine : NodeConfig → ℕ → Addr → Message → Bool
is_mine p e dst (message.Path m) = is_addr dst m.session.group
is_mine p e dst (message.Resv m) = is_addr dst (own p e)
is_mine p e dst (message.PathErr m) = is_addr dst (own p e)
is_mine p e dst (message.ResvErr m) = is_addr dst (own p e)
is_mine p e dst (message.PathTear m) = is_addr dst m.session.group
is_mine p e dst (message.ResvTear m) = is_addr dst (own p e)
is_mine p e dst (message.ResvConf m) = is_addr dst (own p e)

module _ (p : NodeConfig) (clock : ℕ) where
  abbrev pub act_message : ℕ → Message → Facts → Change
  act_message iface (message.Path m) f = act_path p clock iface m f
  act_message iface (message.Resv m) f = act_resv p clock iface m f
  act_message iface (message.PathErr m) f = act_path_err p iface m f
  act_message iface (message.ResvErr m) f = act_resv_err p clock iface m f
  act_message iface (message.PathTear m) f = act_path_tear iface m f
  act_message iface (message.ResvTear m) f = act_resv_tear iface m f
  act_message iface (message.ResvConf m) f = act_resv_conf p m f

  abbrev pub act_spelt : ℕ → Message → Bool → Facts → Change
  act_spelt iface m false f = only_heard (heard.Dropped why.NotMine) f
  act_spelt iface m true f = act_message iface m f

  abbrev pub act_arrival : ℕ → Addr → Arrival → Facts → Change
  act_arrival iface dst (Spelt m) f = act_spelt iface m (is_mine p iface dst m) f
  act_arrival iface dst (Unspelt m) f = act_unspelt p iface dst m f

  -- the clock is that after the input
  abbrev pub act : Input → Facts → Change
  act (Call l) f = act_call p l f
  act (Wait ms word) f = act_wait p clock word f
  act Clear f = only_heard heard.Taken (act_clear f)
  act (Came iface dst a) f = act_arrival iface dst a f
  act Moved f = only_heard heard.Taken f
