use Rattle.std.proofs.Common.{◌≡◌, ℕ, fold, take}
use Rattle.std.specs.List.{flat_map}
use Rattle.router_state.specs.Whole.{state_of}
use Rattle.router_rounds.specs.Rounds.{torn_near}
use Rattle.router_rounds.specs.Nears.{near_row}
use Rattle.router_rounds.proofs.rounds.tear_all.Given as goal

abbrev pub invariant-loop-i : goal.invariant-loop-i
invariant-loop-i g l = (c : ℕ) → l.out ≡ fold g.O.Outbox.posted l.initial.out (flat_map (λ e. torn_near c (state_of l.tables l.said) l.said (near_row e)) (take l.i l.list))
