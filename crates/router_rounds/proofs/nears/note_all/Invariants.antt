use Rattle.std.proofs.Common.{◌≡◌, ◌≤◌, take, length, map as each}
use Rattle.std.specs.Prelude.{vec_capacity}
use Rattle.rsvp_base.specs.Table.{changed}
use Rattle.router_rounds.specs.Nears.{hops_then, near_row}
use Rattle.router_rounds.proofs.nears.note_all.Given as goal

abbrev pub invariant-loop-k : goal.invariant-loop-k
invariant-loop-k l =
    record {
      rows : each near_row l.rows.items ≡ take l.k (changed (hops_then l.paths.facts) l.due).rows;
      few : length l.rows.items ≤ l.k;
      capacity : vec_capacity l.initial.rows ≤ vec_capacity l.rows;
    }
