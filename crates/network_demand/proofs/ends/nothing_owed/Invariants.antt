use Rattle.std.proofs.Common.{◌≡◌, ◌++◌, ◌-◌, replicate}
use Rattle.rsvp_base.specs.Table.{empty}
use Rattle.network_demand.proofs.ends.nothing_owed.Given as goal

-- those so far and the rest are all
abbrev pub invariant-loop-end : goal.invariant-loop-end
invariant-loop-end l = l.books.items ++ replicate (l.ends - l._end) empty ≡ replicate l.ends empty
