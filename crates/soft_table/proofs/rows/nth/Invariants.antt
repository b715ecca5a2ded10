use Rattle.std.proofs.Common.{◌≡◌, ℕ}
use Rattle.std.specs.Prelude.{slice_get}
use Rattle.rsvp_base.specs.Orders.{sessions}
use Rattle.rsvp_base.specs.Under.{rows_under}
use Rattle.soft_table.specs.Lists.{slot_of}
use Rattle.soft_table.specs.Walks.{IsWalk}
use Rattle.soft_table.proofs.rows.nth.Given as goal

abbrev pub invariant-loop-step : goal.invariant-loop-step
invariant-loop-step g l =
    (j : ℕ) → l.fn.from ≡ slot_of (slice_get (rows_under sessions g.F.Fact.rests l.session l.rows.rows) j)
    → IsWalk l.pool (rows_under sessions g.F.Fact.rests l.session l.rows.rows) j l.k l.at l.left l._step
