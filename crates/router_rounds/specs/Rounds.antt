-- Rounds over several sessions: what their lanes are told one session after another, and what is kept of it.
use Rattle.std.specs.Prelude.{◌≡◌, ℕ, nat_lt, Bool, true, false, not, ◌&&◌, ◌⊎◌, List, Option, Some, None}
use Rattle.std.specs.List.{flat_map}
use Rattle.rsvp_base.specs.Members.{In}
use Rattle.rsvp_base.specs.Orders.{units}
use Rattle.rsvp_base.specs.Sets.{Set}
use Rattle.rsvp_base.specs.Table.{changed, empty, get, has, keys, size}
use Rattle.rsvp_base.specs.declared.session.Session.{Session}
use Rattle.style_rules.specs.Lines.{next_hops}
use Rattle.style_rules.specs.Merge.{PartTable}
use Rattle.router_rules.specs.Facts.{Facts, Want, WantKey, Wants}
use Rattle.router_rules.specs.Inputs.{Send}
use Rattle.router_rules.specs.Known.{Lane, lanes}
use Rattle.router_rules.specs.NodeConfig.{NodeConfig}
use Rattle.router_rules.specs.Requests.{toward}
use Rattle.router_state.specs.State.{IsSaid, Said, State, facts_of, said_at}
use Rattle.laws_sends.specs.Before.{lanes_by}
use Rattle.laws_sends.specs.Marks.{unmarked_in, used_in}
use Rattle.laws_sends.specs.Saying.{SessionLane, lane_by, told_seen, torn_seen}
use Rattle.laws_sends.specs.SendsHere.{hops_in}
use Rattle.laws_sends.specs.Several.{AreSessions, is_among}

-- n is the node before, m after, and these are sessions in order: what was said is what went toward each hop before, and
-- toward the hops of other sessions goes what went there before
pub record AreRounds (ss : List Session) (n m : State) : Type 0 where
  pub sessions : AreSessions ss
  pub said : IsSaid m.said n
  pub others : (c : ℕ) (l : Lane) → is_among ss l.session ≡ false → toward n.place (facts_of c n) l ≡ toward m.place (facts_of c m) l

-- ---- a session with previous hops, as those that it had before
abbrev pub SessionHops : Type 0
SessionHops = Session × Set next_hops

abbrev pub with_hops : Facts → Session → SessionHops
with_hops f s = (s, hops_in f s)

-- ---- ResvTears of the lanes toward these hops, of what was said there
unfoldable pub torn_near : ℕ → State → Said → SessionHops → List Send
torn_near c m said e = flat_map (λ d. torn_seen c m (lane_by e.0 d) (said_at said (lane_by e.0 d))) (lanes_by (keys e.1))

-- what is kept once the lanes toward these hops from which no path comes any more are cleared
pub record AreCleared (m : State) (es : List SessionHops) (said : Said) : Type 0 where
  pub at : (c : ℕ) (l : Lane) → (said_at said l ≡ said_at m.said l) ⊎ ((said_at said l ≡ empty) × (has (lanes (facts_of c m)) l ≡ false))
  pub gone : (c : ℕ) (e : SessionHops) → In e es → (d : SessionLane) → In d (lanes_by (keys e.1)) → has (lanes (facts_of c m)) (lane_by e.0 d) ≡ false → said_at said (lane_by e.0 d) ≡ empty
  pub some : (l : Lane) (t : PartTable) → get said l ≡ Some t → nat_lt 0 (size t) ≡ true

-- ---- Resvs of a session's lanes, of what was said there, as those of a session that is due or not
unfoldable pub told_round : ℕ → State → Bool → Said → Session → List Send
told_round c m due said s = flat_map (λ d. told_seen c m (lane_by s d) None due (said_at said (lane_by s d))) (lanes_by (keys (hops_in (facts_of c m) s)))

-- what is kept once the lanes of these sessions are told what goes there now
pub record AreTold (m : State) (ss : List Session) (said : Said) : Type 0 where
  pub here : (c : ℕ) (l : Lane) → is_among ss l.session ≡ true → has (lanes (facts_of c m)) l ≡ true → said_at said l ≡ toward m.place (facts_of c m) l
  pub rest : (l : Lane) → is_among ss l.session ≡ false → said_at said l ≡ said_at m.said l

-- ---- marks that are used
-- those of a session's wants, by what was said to its lanes
abbrev pub used_of : NodeConfig → Facts → Said → Session → Set units
used_of p g said s = used_in p g s said (lanes_by (keys (hops_in g s)))

-- a want of one of these sessions without its mark, where that was used
abbrev pub unmarked_among : NodeConfig → Facts → Said → List Session → WantKey → Want → Option Want
unmarked_among p g said ss k w = Some (record w { confirm = w.confirm && not (is_among ss k.0 && has (used_of p g said k.0) k.1) })

unfoldable pub wants_told : ℕ → State → Said → List Session → Wants
wants_told c m said ss = changed (unmarked_among m.place (facts_of c m) said ss) m.wants

-- once the lanes of one session are told
unfoldable pub wants_once : ℕ → State → Said → Session → Wants
wants_once c m said s = changed (unmarked_in s (used_of m.place (facts_of c m) said s)) m.wants
