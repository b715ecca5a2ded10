use Rattle.std.proofs.Common.{◌≡◌, ◌++◌, ℕ, List, take}
use Rattle.laws_sends.specs.State.{Said}
use Rattle.laws_sends.specs.Saying.{SessionLane}
use Rattle.router_state.specs.Whole.{state_of}
use Rattle.resv_sends.specs.Wishes.{AreWanted, lanes_in, used_seen}
use Rattle.resv_sends.proofs.lane_marks.use_style.Given as goal

abbrev pub invariant-loop-i : goal.invariant-loop-i
invariant-loop-i l =
    record {
      used : (c : ℕ) (any : Said) (es : List SessionLane) → l.initial.used ≡ used_seen c (state_of l.tables any) l.session l.said es
          → l.used ≡ used_seen c (state_of l.tables any) l.session l.said (es ++ lanes_in l.style (take l.i l.list));
      wanted : AreWanted l.tables l.session l.used;
    }
