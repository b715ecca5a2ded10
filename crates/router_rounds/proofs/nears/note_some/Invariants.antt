use Rattle.std.proofs.Common.{◌≡◌, ◌≤◌, take, length, map as each}
use Rattle.std.specs.Prelude.{vec_capacity}
use Rattle.router_rounds.specs.Nears.{near_row}
use Rattle.router_rounds.proofs.Before.{noted}
use Rattle.router_rounds.proofs.nears.note_some.Given as goal

abbrev pub invariant-loop-k : goal.invariant-loop-k
invariant-loop-k l =
    record {
      rows : each near_row l.rows.items ≡ noted l.paths.facts l.lost l.touched l.fired (take l.k l.touched.rows);
      few : length l.rows.items ≤ l.k;
      capacity : vec_capacity l.initial.rows ≤ vec_capacity l.rows;
    }
