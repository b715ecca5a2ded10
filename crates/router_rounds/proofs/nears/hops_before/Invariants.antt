use Rattle.std.proofs.Common.{◌≡◌, take}
use Rattle.path_state.specs.Paths.{hops_by}
use Rattle.rsvp_base.specs.Orders.{senders, sessions}
use Rattle.rsvp_base.specs.Sets.{with_keys}
use Rattle.rsvp_base.specs.Under.{under}
use Rattle.router_rounds.proofs.Before.{lost_of}
use Rattle.router_rounds.proofs.nears.hops_before.Given as goal

abbrev pub invariant-loop-i : goal.invariant-loop-i
invariant-loop-i l = l.hops ≡ with_keys (hops_by (under sessions senders l.paths.facts l.session).rows) (lost_of l.session (take l.i l.list))
