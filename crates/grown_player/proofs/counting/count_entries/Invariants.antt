use Rattle.std.proofs.Common.{ℕ, ◌≤◌, length}
use Rattle.router_rules.specs.Flags.{entries_of}
use Rattle.grown_player.proofs.counting.count_entries.Given as goal

-- those so far are there
abbrev pub invariant-loop-k : goal.invariant-loop-k
invariant-loop-k g l =
    let see = g.R.Router.seen in
    (c : ℕ) → l.k ≤ length (entries_of (see.place l.node) (see.facts l.node c) l.iface)
