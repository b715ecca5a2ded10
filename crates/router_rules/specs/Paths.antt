-- A Path is learnt, and torn down (RFC 2209, 2: PATH MESSAGE ARRIVES, PATH TEAR MESSAGE ARRIVES).
use Rattle.std.specs.Prelude.{ℕ, ◌+◌, Bool, true, false, Option, Some, None}
use Rattle.rsvp_base.specs.declared.session.Sender.{Sender}
use Rattle.rsvp_base.specs.Orders.{senders}
use Rattle.rsvp_base.specs.SessionLimits.{has_room_at}
use Rattle.rsvp_base.specs.Table.{get, put_in, without}
use Rattle.rsvp_base.specs.TokenBucket.{TokenBucket}
use Rattle.rsvp_messages.specs.declared.message.PathMsg.{PathMsg}
use Rattle.rsvp_messages.specs.declared.message.PathTearMsg.{PathTearMsg}
use Rattle.style_rules.specs.Lines.{NextHop}
use Rattle.router_rules.specs.declared.answers.Heard.{Heard}
use Rattle.router_rules.specs.declared.answers.Heard.TheVariants as heard
use Rattle.router_rules.specs.declared.answers.Why.TheVariants as why
use Rattle.router_rules.specs.Facts.{Facts, PathState, Paths, SenderKey}
use Rattle.router_rules.specs.Inputs.{Change, only_heard}
use Rattle.router_rules.specs.Known.{came_by}
use Rattle.router_rules.specs.NodeConfig.{NodeConfig, lifetime, comes_in}

-- paths after, and what was heard
abbrev pub PathsHeard : Type 0
PathsHeard = Paths × Heard

abbrev pub with_paths : Facts → PathsHeard → Change
with_paths f r = only_heard r.1 (record f { paths = r.0 })

-- where the table has room for it
abbrev pub learnt : Bool → Paths → Paths → PathsHeard
learnt true new old = (new, heard.Taken)
learnt false new old = (old, heard.Dropped why.Full)

-- ---- Path
module _ (p : NodeConfig) (clock iface : ℕ) (m : PathMsg) where
  -- what a Path that came at this clock by this interface says of its sender
  abbrev pub path_state : TokenBucket → PathState
  path_state tspec = record { iface = iface; hop = m.hop; tspec = tspec; police = m.police; adspec = m.adspec; dies = clock + lifetime p m.period }

  -- by the interface that leads to the sender alone
  abbrev pub learn_inward : Sender → TokenBucket → Bool → Paths → PathsHeard
  learn_inward x tspec false t = (t, heard.Dropped why.NotInward)
  learn_inward x tspec true t =
      learnt (has_room_at senders (put_in t (m.session, x) (path_state tspec)) m.session) (put_in t (m.session, x) (path_state tspec)) t

  abbrev pub learn : Option (Sender × TokenBucket) → Paths → PathsHeard
  learn None t = (t, heard.Dropped why.NoSender)
  learn (Some x) t = learn_inward x.0 x.1 (comes_in p m.session iface x.0) t

  abbrev pub act_path : Facts → Change
  act_path f = with_paths f (learn m.sender f.paths)

-- ---- PathTear
abbrev pub is_path_by : NextHop → Option PathState → Bool
is_path_by hop None = false
is_path_by hop (Some x) = came_by hop x

abbrev pub torn_path : Bool → SenderKey → Paths → PathsHeard
torn_path false k t = (t, heard.Dropped why.NoState)
torn_path true k t = (without t k, heard.Taken)

-- from the hop that the path came from alone
abbrev pub tear_path : ℕ → PathTearMsg → Option Sender → Paths → PathsHeard
tear_path e m None t = (t, heard.Dropped why.NoSender)
tear_path e m (Some x) t = torn_path (is_path_by (e, m.hop.addr) (get t (m.session, x))) (m.session, x) t

abbrev pub act_path_tear : ℕ → PathTearMsg → Facts → Change
act_path_tear e m f = with_paths f (tear_path e m m.sender f.paths)
