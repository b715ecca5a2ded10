use Rattle.std.proofs.Common.{◌≡◌, ◌≢◌, ℕ, ◌<◌}
use Rattle.node_stream.specs.Rules.{routes_to, tree_at}
use Rattle.node_stream.proofs.placing.rows_in.Given as goal

-- the rows of the routes so far, no two of one tree
abbrev pub invariant-loop-k : goal.invariant-loop-k
invariant-loop-k l =
    record {
      rows : l.rows.items ≡ (routes_to l.contents l.k).rows;
      once : (i j : ℕ) → i < j → j < l.k → tree_at l.contents i ≢ tree_at l.contents j;
    }
