use Rattle.std.proofs.Common.{◌≡◌, ℕ, false, take}
use Rattle.std.specs.List.{list_any}
use Rattle.laws_sends.specs.State.{Said}
use Rattle.router_state.specs.Whole.{state_of}
use Rattle.resv_sends.specs.Wishes.{lanes_in, new_by}
use Rattle.resv_sends.proofs.lane_marks.is_style_new.Given as goal

abbrev pub invariant-loop-i : goal.invariant-loop-i
invariant-loop-i l = (c : ℕ) (any : Said) → false ≡ list_any (new_by c (state_of l.tables any) l.said l.session) (lanes_in l.style (take l.i l.list))
