-- Facts that are left over, with so much left of them at a clock.
use Rattle.std.specs.Prelude.{ℕ, ◌+◌, ◌≤◌}
use Rattle.resv_state.specs.Resvs.{resv_key}
use Rattle.resv_state.specs.declared.fact.ResvFact.{ResvFact}
use Rattle.rsvp_base.specs.Table.{size}
use Rattle.rsvp_base.specs.declared.style.StyleKind.{StyleKind}
use Rattle.style_rules.specs.Targets.{WallKey}
use Rattle.style_rules.specs.declared.wall.Wall.{Wall}
use Rattle.router_rules.specs.Inputs.{Stale, StaleResv, StaleWall}
use Rattle.router_state.specs.State.{State, table_in}
use Rattle.resv_admission.specs.Placing.{stands}

abbrev pub resv_left : StyleKind → ℕ → ResvFact → ℕ → Stale
resv_left st c fact left = StaleResv st (resv_key st fact) (stands c fact left)

abbrev pub wall_left : WallKey → ℕ → Wall → ℕ → Stale
wall_left k c wall left = StaleWall k (record { wall = wall; dies = c + left })

-- no table of reservations has more than 1,024
abbrev pub AreFew : State → Type 0
AreFew n = (st : StyleKind) → size (table_in st n) ≤ 1024
