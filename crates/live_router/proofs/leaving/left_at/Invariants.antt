use Rattle.std.proofs.Common.{◌≡◌, drop}
use Rattle.stale_state.specs.AtNodes.{list_of}
use Rattle.network_model.specs.Runs.{left_over}
use Rattle.router_state.specs.State.{facts_at}
use Rattle.live_router.proofs.leaving.left_at.Given as goal

-- what is still to come makes of it what all make of the first
abbrev pub invariant-loop-one : goal.invariant-loop-one
invariant-loop-one l = record {
  facts : left_over l.initial.router.place l.node (list_of (drop l.one-index l.left)) (facts_at 0 l.router) ≡ left_over l.initial.router.place l.node (list_of l.left) (facts_at 0 l.initial.router);
  place : l.router.place ≡ l.initial.router.place;
}
