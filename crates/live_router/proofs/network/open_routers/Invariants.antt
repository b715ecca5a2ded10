use Rattle.std.proofs.Common.{◌≡◌}
use Rattle.std.specs.Prelude.{map as each}
use Rattle.std.specs.List.{range_with_len}
use Rattle.stale_state.specs.AtNodes.{list_of}
use Rattle.network_model.specs.Runs.{left_over}
use Rattle.router_state.specs.State.{facts_at}
use Rattle.router_rules.specs.Facts.{no_facts}
use Rattle.stale_state.specs.Fit.{place_of}
use Rattle.live_router.proofs.network.open_routers.Given as goal

-- those of the first nodes so far
abbrev pub invariant-loop-node : goal.invariant-loop-node
invariant-loop-node l = record {
  placed : each (λ r. r.place) l.routers.items ≡ each (place_of l.quarter l.routing) (range_with_len 0 l.node);
  first : each (λ r. facts_at 0 r) l.routers.items ≡ each (λ n. left_over (place_of l.quarter l.routing n) n (list_of l.left) no_facts) (range_with_len 0 l.node);
}
