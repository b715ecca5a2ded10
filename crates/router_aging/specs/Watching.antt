-- Which sessions are to be looked at after a wait.
use Rattle.std.specs.Prelude.{◌≡◌, ℕ, ◌+◌, ◌≤◌, true, List, Some}
use Rattle.std.specs.List.{list_any}
use Rattle.std.specs.Ordering.{eq_by_cmp}
use Rattle.path_state.specs.declared.fact.PathFact.{PathFact}
use Rattle.resv_state.specs.declared.fact.ResvFact.{ResvFact}
use Rattle.rsvp_base.specs.Members.{In}
use Rattle.rsvp_base.specs.Orders.{sessions}
use Rattle.rsvp_base.specs.Table.{get, has}
use Rattle.rsvp_base.specs.declared.session.Session.{Session}
use Rattle.rsvp_base.specs.declared.style.StyleKind.{StyleKind}
use Rattle.style_rules.specs.Lines.{LineKey}
use Rattle.style_rules.specs.Targets.{WallKey}
use Rattle.style_rules.specs.declared.wall.Wall.{Wall}
use Rattle.router_rules.specs.Facts.{SenderKey}
use Rattle.path_sends.specs.RouterState.State.{IsCounted, State, facts_of, table_in}
use Rattle.laws_sends.specs.Several.{AreSessions, is_among}
use Rattle.laws_sends.specs.Waits.{IsWatched}
use Rattle.router_aging.specs.Passing.{dying_paths}

-- a list has each session of which something has at most so much left
pub record HasAllDying (ms : ℕ) (n : State) (all : List Session) : Type 0 where
  pub paths : (k : SenderKey) (e : PathFact × ℕ) → get n.paths k ≡ Some e → e.1 ≤ ms → In k.0 all
  pub resvs : (st : StyleKind) (k : LineKey) (e : ResvFact × ℕ) → get (table_in st n) k ≡ Some e → e.1 ≤ ms → In k.0 all
  pub walls : (k : WallKey) (e : Wall × ℕ) → get n.walls k ≡ Some e → e.1 ≤ ms → In k.0 all

-- then it is enough to look at those of them that have a countdown, and at those whose countdowns come due
abbrev pub DyingAreWatched : Type 0
DyingAreWatched =
    (n : State) (c ms word : ℕ) (all : List Session) → IsCounted n → HasAllDying ms n all → (ss : List Session) → AreSessions ss
    → ((s : Session) → has n.due s ≡ true → list_any (eq_by_cmp sessions.cmp s) all ≡ true → is_among ss s ≡ true)
    → ((s : Session) (left : ℕ) → get n.due s ≡ Some left → left ≤ ms → is_among ss s ≡ true)
    → IsWatched ss (dying_paths ms n.paths) n.place (c + ms) word (facts_of c n)
