-- The blockades that stand in a node.
use Rattle.std.specs.Prelude.{◌≡◌, ◌-◌, ℕ, cond, nat_le, Option, Some, None, refl}
use Rattle.std.specs.Coded.{Coded, code_by, coded×, coded_ℕ, coded_option}
use Rattle.rsvp_base.specs.Orders.{addr_code, sender_code}
use Rattle.rsvp_base.specs.Table.{Table, table_code}
use Rattle.rsvp_base.specs.contracts.session.Session as session
use Rattle.rsvp_base.specs.declared.session.Sender.{Sender}
use Rattle.style_rules.specs.Lines.{NextHop}
use Rattle.style_rules.specs.Ways.{wall_code}
use Rattle.style_rules.specs.declared.wall.Wall.{Wall}
use Rattle.style_rules.specs.Targets.{WallKey, wall_keys, target_place}
use Rattle.style_rules.specs.declared.target.Target.{Target}
use Rattle.style_rules.specs.declared.target.Target.TheVariants as target
use Rattle.blockade_state.specs.declared.fact.Kept.{Kept}

-- by session and target the wall that stands there, with the milliseconds that are left of it
abbrev pub WallMap : Type 0
WallMap = Table wall_keys (Wall × ℕ)

abbrev pub wall_key : Kept → WallKey
wall_key f = (f.session, f.target)

abbrev pub fact_row : Kept × ℕ → WallKey × (Kept × ℕ)
fact_row e = (wall_key e.0, e)

-- what a fact says under its key
abbrev pub wall_of : WallKey → Kept × ℕ → Option (Wall × ℕ)
wall_of k e = Some (e.0.wall, e.1)

-- ---- time
-- a blockade with more left than this time has so much less left; the others are gone
abbrev pub later : ℕ → WallKey → Wall × ℕ → Option (Wall × ℕ)
later ms k e = cond (nat_le e.1 ms) None (Some (e.0, e.1 - ms))

-- ---- how blockades are stored as numbers
abbrev pub target_of : NextHop → Option Sender → Target
target_of hop None = target.Hop hop.0 hop.1
target_of hop (Some s) = target.Sender s

abbrev pub target_from : Option Sender × NextHop → Target
target_from p = target_of p.1 p.0

pub target_again : (t : Target) → target_from (target_place t) ≡ t
target_again (target.Hop i a) = refl
target_again (target.Sender s) = refl

abbrev pub target_code : Coded Target
target_code = code_by (Option Sender × NextHop) (coded× (coded_option sender_code) (coded× coded_ℕ addr_code)) target_place target_from target_again

abbrev pub wall_map_code : Coded WallMap
wall_map_code = table_code wall_keys (coded× (session.the_row).coded target_code) (coded× wall_code coded_ℕ)
