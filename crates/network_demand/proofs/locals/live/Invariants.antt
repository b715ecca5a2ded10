use Rattle.std.proofs.Common.{◌≡◌, ◌++◌, map, drop}
use Rattle.std.specs.List.{filter}
use Rattle.tree_model.specs.Wants.{of_session}
use Rattle.network_demand.proofs.locals.live.Given as goal

-- those so far and of the rest are all
abbrev pub invariant-loop-one : goal.invariant-loop-one
invariant-loop-one l = l.all.items ++ map (λ x. x.sender) (filter (of_session l.session) (drop l.one-index l.senders)) ≡ map (λ x. x.sender) (filter (of_session l.session) l.senders)
