use Rattle.std.proofs.Common.{◌≡◌, ◌≤◌, ◌+◌, drop}
use Rattle.rsvp_base.specs.Orders.{sessions}
use Rattle.soft_table.specs.Lists.{sessions_of}
use Rattle.soft_table.specs.Walks.{has_live}
use Rattle.soft_table.proofs.Walks.{passing}
use Rattle.soft_table.proofs.rows.count_sessions.Given as goal

abbrev pub invariant-loop-k : goal.invariant-loop-k
invariant-loop-k g l =
    let p = has_live g.F.Fact.rests l.pool l.rows.rows in
    let all = (sessions_of l.rows.rows).rows in
    record {
      counted : l.count + passing sessions p all (drop l.k all) ≡ passing sessions p all all;
      few : l.count ≤ l.k;
    }
