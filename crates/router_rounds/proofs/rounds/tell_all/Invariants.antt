use Rattle.std.proofs.Common.{◌≡◌, ℕ, fold, take, map as each}
use Rattle.std.specs.List.{flat_map}
use Rattle.laws_sends.specs.Saying.{IsRoomy}
use Rattle.laws_sends.specs.Several.{is_among}
use Rattle.router_state.specs.Whole.{state_of}
use Rattle.router_rounds.specs.Rounds.{AreTold, told_round, wants_told}
use Rattle.router_rounds.proofs.Loops.{session_of}
use Rattle.router_rounds.proofs.rounds.tell_all.Given as goal

abbrev pub invariant-loop-i : goal.invariant-loop-i
invariant-loop-i g l =
    record {
      sent : (c : ℕ) → l.out ≡ fold g.O.Outbox.posted l.initial.out (flat_map (λ e. told_round c (state_of l.initial.tables l.initial.said) (is_among l.due e.session) l.initial.said e.session)
          (take l.i l.list));
      told : AreTold (state_of l.initial.tables l.initial.said) (each session_of (take l.i l.list)) l.said;
      roomy : IsRoomy (state_of l.initial.tables l.initial.said) l.said;
      marks : (c : ℕ) → l.tables ≡ record l.initial.tables { wants = wants_told c (state_of l.initial.tables l.initial.said) l.initial.said (each session_of (take l.i l.list)) };
    }
