use Rattle.std.proofs.Common.{◌≡◌, drop}
use Rattle.std.specs.List.{list_any}
use Rattle.network_demand.specs.Late.{is_begun_of}
use Rattle.network_demand.proofs.late.asks.Given as goal

-- it is among the rest, if it is among all
abbrev pub invariant-loop-one : goal.invariant-loop-one
invariant-loop-one l = list_any (is_begun_of l.node l.session) (drop l.one-index l.begun) ≡ list_any (is_begun_of l.node l.session) l.begun
