use Rattle.std.proofs.Common.{◌≡◌, ℕ, fold, take}
use Rattle.std.specs.List.{flat_map}
use Rattle.rsvp_base.specs.Table.{empty}
use Rattle.router_state.specs.Whole.{state_of}
use Rattle.router_rounds.specs.RouteRounds.{new_ways}
use Rattle.router_rounds.proofs.moving.tell_ways.Given as goal

abbrev pub invariant-loop-i : goal.invariant-loop-i
invariant-loop-i g l = (c : ℕ) → l.out ≡ fold g.O.Outbox.posted l.initial.out (flat_map (λ e. new_ways (record l.tables.config { routes = l.old }) c (state_of l.tables empty) e.session)
    (take l.i l.list))
