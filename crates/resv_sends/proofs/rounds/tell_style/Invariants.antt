use Rattle.std.proofs.Common.{◌≡◌, ℕ, fold, take}
use Rattle.std.specs.List.{flat_map}
use Rattle.rsvp_base.specs.Table.{empty}
use Rattle.laws_sends.specs.State.{Said}
use Rattle.laws_sends.specs.Saying.{IsRoomy, IsTold}
use Rattle.router_state.specs.Whole.{state_of}
use Rattle.resv_sends.specs.Rounds.{lanes_of, told_by}
use Rattle.resv_sends.proofs.rounds.tell_style.Given as goal

abbrev pub invariant-loop-i : goal.invariant-loop-i
invariant-loop-i g l =
    ((c : ℕ) (any : Said) → l.out ≡ fold g.O.Outbox.posted l.initial.out (flat_map (told_by c (state_of l.tables any) l.occasion.asked l.occasion.due l.initial.said l.session) (lanes_of l.style (take l.i l.list))))
    × IsTold (state_of l.tables l.initial.said) l.session (lanes_of l.style (take l.i l.list)) l.said
    × IsRoomy (state_of l.tables empty) l.said
