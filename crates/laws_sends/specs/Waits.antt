-- A wait: what it leaves alone, and what is sent after it.
use Rattle.std.specs.Prelude.{◌≡◌, ℕ, ◌<◌, ◌≤◌, true, false, List, ◌++◌, Some, None}
use Rattle.std.specs.List.{filter_map, flat_map}
use Rattle.rsvp_base.specs.Sets.{Set}
use Rattle.rsvp_base.specs.Table.{get, has, keys}
use Rattle.rsvp_base.specs.declared.session.Sender.{Sender}
use Rattle.rsvp_base.specs.declared.session.Session.{Session}
use Rattle.rsvp_base.specs.declared.style.StyleKind.{StyleKind}
use Rattle.rsvp_base.specs.declared.style.Unit.{Unit as UnitOf}
use Rattle.style_rules.specs.Lines.{NextHop}
use Rattle.style_rules.specs.declared.target.Target.{Target}
use Rattle.router_state.specs.RouterRules.Facts.{Blockade, Facts, PathState, ResvState, SenderKey, resvs_of, sender_keys}
use Rattle.router_state.specs.RouterRules.Known.{Lane, lanes}
use Rattle.router_state.specs.RouterRules.NodeConfig.{NodeConfig}
use Rattle.router_state.specs.RouterRules.Rule.{settled}
use Rattle.router_state.specs.RouterRules.Sends.{resv_send_to, resv_tear, sends}
use Rattle.router_state.specs.RouterRules.Waiting.{act_wait}
use Rattle.router_state.specs.State.{AreNamed}
use Rattle.laws_sends.specs.SendsHere.{AreSameOf}
use Rattle.laws_sends.specs.Several.{AreSessions, gone_told, is_among, lanes_for, refreshed}

-- the facts after a wait, at this clock, once names are forgotten and countdowns settled
abbrev pub waited : NodeConfig → ℕ → ℕ → Facts → Facts
waited p c word f = settled p c f (act_wait p c word f).facts

-- nothing of a session dies by a clock
pub record IsUnharmed (c : ℕ) (f : Facts) (s : Session) : Type 0 where
  pub paths : (x : Sender) (v : PathState) → get f.paths (s, x) ≡ Some v → c < v.dies
  pub resvs : (st : StyleKind) (k : NextHop × UnitOf) (r : ResvState) → get (resvs_of st f) (s, k) ≡ Some r → c < r.dies
  pub walls : (t : Target) (b : Blockade) → get f.walls (s, t) ≡ Some b → c < b.dies

-- a session of which nothing dies is left alone by a wait
abbrev pub UnharmedStays : Type 0
UnharmedStays = (p : NodeConfig) (c word : ℕ) (f : Facts) (s : Session) → AreNamed f → IsUnharmed c f s → AreSameOf s f (waited p c word f)

-- sessions, in order, among which are those that come due and those of which something dies, if they have previous hops;
-- and senders among which are all whose paths die
pub record IsWatched (ss : List Session) (dead : Set sender_keys) (p : NodeConfig) (c word : ℕ) (f : Facts) : Type 0 where
  pub sessions : AreSessions ss
  pub others : (l : Lane) → is_among ss l.session ≡ false → has (lanes f) l ≡ true → IsUnharmed c f l.session
  pub fired : (s : Session) → is_among ss s ≡ false → has (act_wait p c word f).fired s ≡ false
  pub dying : (k : SenderKey) (v : PathState) → get f.paths k ≡ Some v → v.dies ≤ c → has dead k ≡ true

-- then the senders that are offered no more are torn, in order, and the lanes of these sessions; the sessions that came due
-- are refreshed, and Resvs go toward the hops of these sessions where they changed or came due
abbrev pub WaitIsTold : Type 0
WaitIsTold =
    (p : NodeConfig) (c word : ℕ) (f : Facts) (ss : List Session) (dead : Set sender_keys) → AreNamed f → IsWatched ss dead p c word f
    → sends p p f (waited p c word f) (act_wait p c word f)
    ≡ gone_told p f (waited p c word f) (keys dead)
    ++ (flat_map (resv_tear p p f (waited p c word f)) (lanes_for ss f)
    ++ (flat_map (refreshed p (waited p c word f)) (keys (act_wait p c word f).fired)
    ++ filter_map (resv_send_to p p f (waited p c word f) (act_wait p c word f).fired None) (lanes_for ss (waited p c word f))))
