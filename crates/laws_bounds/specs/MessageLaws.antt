-- What Paths, PathTears, ResvTears and ResvConfs do: the claims of the public laws.
use Rattle.std.specs.Prelude.{◌≡◌, ℕ, ◌⊎◌, ◌↔◌, true, false, map as each, Some, None}
use Rattle.rsvp_base.specs.declared.session.Sender.{Sender}
use Rattle.rsvp_base.specs.declared.style.Unit.{Unit as UnitOf}
use Rattle.rsvp_base.specs.Members.{In}
use Rattle.rsvp_base.specs.Orders.{senders}
use Rattle.rsvp_base.specs.SessionLimits.{has_room_at}
use Rattle.rsvp_base.specs.Table.{get, put_in, without}
use Rattle.rsvp_base.specs.TokenBucket.{TokenBucket}
use Rattle.router_rules.specs.RsvpMessages.declared.message.PathMsg.{PathMsg}
use Rattle.router_rules.specs.RsvpMessages.declared.message.PathTearMsg.{PathTearMsg}
use Rattle.router_rules.specs.RsvpMessages.declared.message.ResvConfMsg.{ResvConfMsg}
use Rattle.router_rules.specs.RsvpMessages.declared.message.ResvTearMsg.{ResvTearMsg}
use Rattle.router_rules.specs.RsvpMessages.Units.{ask_style, tear_names, tear_style}
use Rattle.router_rules.specs.Lines.{LineKey, NextHop, is_of_hop}
use Rattle.router_rules.specs.declared.answers.Heard.TheVariants as heard
use Rattle.router_rules.specs.declared.answers.Why.TheVariants as why
use Rattle.router_rules.specs.Asking.{act_resv_tear, left_of, names_one, stays}
use Rattle.router_rules.specs.Confirming.{act_resv_conf, confs_on, is_wish, speaks_of}
use Rattle.router_rules.specs.Facts.{Facts, PathState, ResvState, resvs_of}
use Rattle.router_rules.specs.Inputs.{ConfSend, only_heard}
use Rattle.router_rules.specs.Known.{came_by}
use Rattle.router_rules.specs.Paths.{act_path, act_path_tear, path_state}
use Rattle.router_rules.specs.NodeConfig.{NodeConfig, comes_in, is_own}
use Rattle.laws_bounds.specs.RuleLaws.{IsLeft}
use Rattle.laws_bounds.specs.ErrorLaws.{AreOnce}

-- ---- a Path is dropped for one of three reasons, and else learnt; a PathTear takes away the path of its hop
pub record PathsByTests : Type 0 where
  pub no_sender : (p : NodeConfig) (c e : ℕ) (m : PathMsg) (f : Facts) → m.sender ≡ None → act_path p c e m f ≡ only_heard (heard.Dropped why.NoSender) f
  pub not_inward : (p : NodeConfig) (c e : ℕ) (m : PathMsg) (f : Facts) (x : Sender) (tspec : TokenBucket) → m.sender ≡ Some (x, tspec)
      → comes_in p m.session e x ≡ false → act_path p c e m f ≡ only_heard (heard.Dropped why.NotInward) f
  pub full : (p : NodeConfig) (c e : ℕ) (m : PathMsg) (f : Facts) (x : Sender) (tspec : TokenBucket) → m.sender ≡ Some (x, tspec) → comes_in p m.session e x ≡ true
      → has_room_at senders (put_in f.paths (m.session, x) (path_state p c e m tspec)) m.session ≡ false → act_path p c e m f ≡ only_heard (heard.Dropped why.Full) f
  pub learnt : (p : NodeConfig) (c e : ℕ) (m : PathMsg) (f : Facts) (x : Sender) (tspec : TokenBucket) → m.sender ≡ Some (x, tspec) → comes_in p m.session e x ≡ true
      → has_room_at senders (put_in f.paths (m.session, x) (path_state p c e m tspec)) m.session ≡ true
      → act_path p c e m f ≡ only_heard heard.Taken (record f { paths = put_in f.paths (m.session, x) (path_state p c e m tspec) })
  pub tear_of_nobody : (e : ℕ) (m : PathTearMsg) (f : Facts) → m.sender ≡ None → act_path_tear e m f ≡ only_heard (heard.Dropped why.NoSender) f
  pub tear_of_none : (e : ℕ) (m : PathTearMsg) (f : Facts) (x : Sender) → m.sender ≡ Some x → get f.paths (m.session, x) ≡ None → act_path_tear e m f ≡ only_heard (heard.Dropped why.NoState) f
  pub tear_elsewhere : (e : ℕ) (m : PathTearMsg) (f : Facts) (x : Sender) (path : PathState) → m.sender ≡ Some x → get f.paths (m.session, x) ≡ Some path → came_by (e, m.hop.addr) path ≡ false
      → act_path_tear e m f ≡ only_heard (heard.Dropped why.NoState) f
  pub torn : (e : ℕ) (m : PathTearMsg) (f : Facts) (x : Sender) (path : PathState) → m.sender ≡ Some x → get f.paths (m.session, x) ≡ Some path → came_by (e, m.hop.addr) path ≡ true
      → act_path_tear e m f ≡ only_heard heard.Taken (record f { paths = without f.paths (m.session, x) })

-- ---- a ResvTear takes its names from the reservations of its hop, and changes no other
pub record ResvTearsByNames : Type 0 where
  pub none : (e : ℕ) (m : ResvTearMsg) (f : Facts) → names_one m.session (e, m.hop.addr) (tear_names m.tear) (resvs_of (tear_style m.tear) f) ≡ false
      → act_resv_tear e m f ≡ only_heard (heard.Dropped why.NoState) f
  -- where a name is found, each reservation of the hop keeps the names that stay
  pub own : (e : ℕ) (m : ResvTearMsg) (f : Facts) (k : LineKey) (r : ResvState)
      → names_one m.session (e, m.hop.addr) (tear_names m.tear) (resvs_of (tear_style m.tear) f) ≡ true → is_of_hop m.session (e, m.hop.addr) k ≡ true
      → get (resvs_of (tear_style m.tear) f) k ≡ Some r → get (resvs_of (tear_style m.tear) (act_resv_tear e m f).facts) k ≡ left_of (stays (tear_names m.tear)) r
  pub taken : (e : ℕ) (m : ResvTearMsg) (f : Facts) → names_one m.session (e, m.hop.addr) (tear_names m.tear) (resvs_of (tear_style m.tear) f) ≡ true → (act_resv_tear e m f).heard ≡ heard.Taken
  -- all else stays as it was
  pub rest : (e : ℕ) (m : ResvTearMsg) (f : Facts) → record (act_resv_tear e m f).facts { resvs = f.resvs } ≡ f
  pub source : (e : ℕ) (m : ResvTearMsg) (f : Facts) (k : LineKey) (x : ResvState) → get (resvs_of (tear_style m.tear) (act_resv_tear e m f).facts) k ≡ Some x
      → (r : ResvState) × (get (resvs_of (tear_style m.tear) f) k ≡ Some r) × ((x ≡ r) ⊎ IsLeft (stays (tear_names m.tear)) r x)
  pub others : (e : ℕ) (m : ResvTearMsg) (f : Facts) (k : LineKey) → is_of_hop m.session (e, m.hop.addr) k ≡ false
      → get (resvs_of (tear_style m.tear) (act_resv_tear e m f).facts) k ≡ get (resvs_of (tear_style m.tear) f) k

-- ---- a ResvConf goes to who wanted to hear
pub record IsConfOn (m : ResvConfMsg) (f : Facts) (s : ConfSend) : Type 0 where
  pub hop : NextHop
  pub unit : UnitOf
  pub resv : ResvState
  pub there : get (resvs_of (ask_style m.ask) f) (m.session, (hop, unit)) ≡ Some resv
  pub wanted : is_wish resv.confirm m.confirm ≡ true
  pub speaks : speaks_of m.ask resv.part.senders ≡ true
  pub is : s ≡ record { iface = hop.0; dst = hop.1; conf = m }

-- it ends at this node where the address is its own; else it goes to each who wanted to hear, once, and to nobody else; where
-- nobody did it is dropped
pub record ConfirmationsByWish : Type 0 where
  pub on : (m : ResvConfMsg) (f : Facts) (s : ConfSend) → In s (confs_on m f) ↔ IsConfOn m f s
  pub once : (m : ResvConfMsg) (f : Facts) → AreOnce (each (λ (s : ConfSend). (s.iface, s.dst)) (confs_on m f))
  pub own : (p : NodeConfig) (m : ResvConfMsg) (f : Facts) → is_own p m.confirm ≡ true → act_resv_conf p m f ≡ only_heard heard.Taken f
  pub nobody : (p : NodeConfig) (m : ResvConfMsg) (f : Facts) → is_own p m.confirm ≡ false → ((s : ConfSend) → IsConfOn m f s → ⊥) → act_resv_conf p m f ≡ only_heard (heard.Dropped why.NoState) f
  pub passed : (p : NodeConfig) (m : ResvConfMsg) (f : Facts) (s : ConfSend) → is_own p m.confirm ≡ false → IsConfOn m f s
      → act_resv_conf p m f ≡ record (only_heard heard.Taken f) { confs = confs_on m f }
