-- What the tables of a node are seen as, and the facts that they stand for: what is left of a fact, seen at a clock, is the
-- moment of its death.
use Rattle.std.specs.Prelude.{◌≡◌, ℕ, ◌+◌, nat_lt, true, false, Option, Some}
use Rattle.std.specs.Option.{unwrap_or}
use Rattle.rsvp_base.specs.Orders.{sessions}
use Rattle.rsvp_base.specs.Sets.{Set}
use Rattle.rsvp_base.specs.Table.{Table, changed, empty, get, has, size}
use Rattle.rsvp_base.specs.TokenBucket.{TokenBucket}
use Rattle.rsvp_base.specs.declared.session.Session.{Session}
use Rattle.rsvp_base.specs.declared.style.StyleKind.{StyleKind}
use Rattle.rsvp_base.specs.declared.style.StyleKind.TheVariants.{Wild, Fixed, Shared}
use Rattle.resv_state.specs.StyleRules.Lines.{LineKey}
use Rattle.resv_state.specs.StyleRules.Merge.{PartTable}
use Rattle.resv_state.specs.StyleRules.Parts.{has_name}
use Rattle.resv_state.specs.StyleRules.declared.wall.Wall.{Wall}
use Rattle.path_state.specs.Paths.{path_keys}
use Rattle.path_state.specs.declared.fact.PathFact.{PathFact}
use Rattle.resv_state.specs.Resvs.{ResvFacts}
use Rattle.resv_state.specs.declared.fact.ResvFact.{ResvFact}
use Rattle.blockade_state.specs.Blockades.{WallMap}
use Rattle.laws_bounds.specs.RouterRules.Facts.{Facts, SenderKey, sender_keys, PathState, ResvState, Want, WantKey, Wants, Blockade, resvs_of}
use Rattle.resv_state.specs.StyleRules.Targets.{WallKey}
use Rattle.laws_bounds.specs.RouterRules.Forgetting.{counted}
use Rattle.laws_bounds.specs.RouterRules.Known.{Lane, lane_keys}
use Rattle.laws_bounds.specs.RouterRules.NodeConfig.{NodeConfig}
use Rattle.laws_bounds.specs.RouterRules.Requests.{toward}

-- what went last toward the hop of each lane, where something did
abbrev pub Said : Type 0
Said = Table lane_keys PartTable

abbrev pub said_at : Said → Lane → PartTable
said_at m l = unwrap_or (get m l) empty

pub record State : Type 0 where
  pub place : NodeConfig
  pub senders : Table sender_keys TokenBucket
  pub advertised : Set sender_keys
  pub wants : Wants
  pub paths : Table path_keys (PathFact × ℕ)
  pub wild : ResvFacts
  pub fixed : ResvFacts
  pub shared : ResvFacts
  pub walls : WallMap
  pub due : Table sessions ℕ
  pub said : Said

-- the reservations of a style
abbrev pub table_in : StyleKind → State → ResvFacts
table_in Wild n = n.wild
table_in Fixed n = n.fixed
table_in Shared n = n.shared

-- a node without facts
abbrev pub no_state : NodeConfig → State
no_state p = record { place = p; senders = empty; advertised = empty; wants = empty; paths = empty; wild = empty; fixed = empty; shared = empty; walls = empty; due = empty; said = empty }

-- ---- from what is left to moments, at clock c
abbrev pub path_at : ℕ → SenderKey → PathFact × ℕ → Option PathState
path_at c k e = Some (record { iface = e.0.iface; hop = e.0.hop; tspec = e.0.tspec; police = e.0.police; adspec = e.0.adspec; dies = c + e.1 })

abbrev pub resv_at : ℕ → LineKey → ResvFact × ℕ → Option ResvState
resv_at c k e = Some (record { part = e.0.part; confirm = e.0.confirm; dies = c + e.1 })

abbrev pub wall_at : ℕ → WallKey → Wall × ℕ → Option Blockade
wall_at c k e = Some (record { wall = e.0; dies = c + e.1 })

abbrev pub due_at : ℕ → Session → ℕ → Option ℕ
due_at c s left = Some (c + left)

abbrev pub facts_of : ℕ → State → Facts
facts_of c n = record {
  senders = n.senders;
  advertised = n.advertised;
  wants = n.wants;
  paths = changed (path_at c) n.paths;
  resvs = record { wild = changed (resv_at c) n.wild; fixed = changed (resv_at c) n.fixed; shared = changed (resv_at c) n.shared };
  walls = changed (wall_at c) n.walls;
  due = changed (due_at c) n.due;
}

-- the front that contracts cite
unfoldable pub facts_at : ℕ → State → Facts
facts_at c n = facts_of c n

-- ---- what holds of every node between two inputs, seen from any clock
-- exactly the sessions with a local sender or a path have a countdown
abbrev pub IsCounted : State → Type 0
IsCounted n = (c : ℕ) (s : Session) → has n.due s ≡ has (counted (facts_of c n)) s

-- each reservation names someone
abbrev pub AreNamed : Facts → Type 0
AreNamed f = (st : StyleKind) (k : LineKey) (r : ResvState) → get (resvs_of st f) k ≡ Some r → has_name r.part ≡ true

-- what was said is what goes toward each hop; of nothing nothing is kept
pub record IsSaid (m : Said) (n : State) : Type 0 where
  pub at : (c : ℕ) (l : Lane) → said_at m l ≡ toward n.place (facts_of c n) l
  pub some : (l : Lane) (t : PartTable) → get m l ≡ Some t → nat_lt 0 (size t) ≡ true

-- no want is to be confirmed
abbrev pub AreUnmarked : Wants → Type 0
AreUnmarked ws = (k : WantKey) (w : Want) → get ws k ≡ Some w → w.confirm ≡ false

-- names are forgotten, and countdowns are as they should be
pub record IsSettled (n : State) : Type 0 where
  pub counted : IsCounted n
  pub named : (c : ℕ) → AreNamed (facts_of c n)

pub record IsKept (n : State) : Type 0 where
  pub settled : IsSettled n
  pub said : IsSaid n.said n
  pub unmarked : AreUnmarked n.wants
