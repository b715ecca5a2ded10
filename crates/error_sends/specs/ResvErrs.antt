-- What a ResvErr does, as the tables are seen at a clock; and the blockades that it sets, with what is left of them.
use Rattle.std.specs.Prelude.{ℕ, nat_le, Bool, not, ◌||◌, cond, List, map as each, Option, Some, None}
use Rattle.blockade_state.specs.Blockades.{WallMap}
use Rattle.rsvp_base.specs.Table.{size, with_rows}
use Rattle.rsvp_base.specs.TokenBucket.{TokenBucket}
use Rattle.rsvp_base.specs.declared.session.Sender.{Sender}
use Rattle.rsvp_base.specs.declared.session.Session.{Session}
use Rattle.rsvp_messages.specs.declared.message.ResvErrMsg.{ResvErrMsg}
use Rattle.style_rules.specs.Targets.{WallKey}
use Rattle.style_rules.specs.declared.target.Target.TheVariants as target
use Rattle.style_rules.specs.declared.wall.Wall.{Wall}
use Rattle.router_rules.specs.Errors.{act_resv_err, is_admission, sets_walls, walled_by}
use Rattle.router_rules.specs.Facts.{Facts}
use Rattle.router_rules.specs.Inputs.{Send}
use Rattle.router_rules.specs.NodeConfig.{NodeConfig, wall_lifetime}
use Rattle.router_rules.specs.Sends.{error_sends}
use Rattle.router_rules.specs.declared.answers.Heard.{Heard}
use Rattle.laws_sends.specs.State.{State, facts_of}

unfoldable pub resv_err_heard : ℕ → State → ℕ → ResvErrMsg → Heard
resv_err_heard c n e m = (act_resv_err n.place c e m (facts_of c n)).heard

unfoldable pub resv_err_facts : ℕ → State → ℕ → ResvErrMsg → Facts
resv_err_facts c n e m = (act_resv_err n.place c e m (facts_of c n)).facts

unfoldable pub resv_err_sent : ℕ → State → ℕ → ResvErrMsg → List Send
resv_err_sent c n e m = error_sends (act_resv_err n.place c e m (facts_of c n)).errors

-- ---- blockades
-- the same wall at each of these places, with this much left
abbrev pub walls_put : WallMap → Wall → ℕ → List WallKey → WallMap
walls_put w wall left ks = with_rows w (each (λ k. (k, (wall, left))) ks)

abbrev pub walls_by : ℕ → NodeConfig → ℕ → ResvErrMsg → TokenBucket → WallMap → WallMap
walls_by sub p e m flow w = walls_put w (record { flow = flow; sub = sub }) (wall_lifetime p) (walled_by e m m.blame.style)

-- with those that a ResvErr sets
abbrev pub walls_set : NodeConfig → ℕ → ResvErrMsg → Option TokenBucket → WallMap → WallMap
walls_set p e m None w = w
walls_set p e m (Some flow) w = cond (is_admission m.err) (walls_by m.err.value p e m flow w) w

-- it sets none, or all have room
abbrev pub have_room : NodeConfig → ℕ → ResvErrMsg → WallMap → Bool
have_room p e m w = not (sets_walls m) || nat_le (size (walls_set p e m m.blame.flow w)) 512

abbrev pub sender_wall : Session → Sender → WallKey
sender_wall s x = (s, target.Sender x)
