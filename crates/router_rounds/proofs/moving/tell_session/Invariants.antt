use Rattle.std.proofs.Common.{◌≡◌, ℕ, fold, take}
use Rattle.std.specs.List.{flat_map}
use Rattle.rsvp_base.specs.Table.{empty}
use Rattle.router_state.specs.State.{facts_of}
use Rattle.laws_sends.specs.Told.{offered}
use Rattle.router_state.specs.Whole.{state_of}
use Rattle.router_rounds.specs.SenderMoves.{new_of}
use Rattle.router_rounds.proofs.moving.tell_session.Given as goal

abbrev pub invariant-loop-i : goal.invariant-loop-i
invariant-loop-i g l =
    (c : ℕ) → l.out ≡ fold g.O.Outbox.posted l.initial.out (flat_map (λ x. new_of (record l.tables.config { routes = l.old }) l.tables.config (l.session, x)
    (offered (facts_of c (state_of l.tables empty)) (l.session, x))) (take l.i l.list))
