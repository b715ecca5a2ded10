use Rattle.std.proofs.Common.{◌≡◌, ◌≤◌, drop}
use Rattle.std.specs.Prelude.{map as each}
use Rattle.rsvp_base.specs.Sets.{with_keys}
use Rattle.rsvp_base.specs.Table.{size}
use Rattle.message_codec.specs.Messages.{names_in}
use Rattle.message_codec.proofs.listing.names_of.Given as goal

abbrev pub invariant-loop-filter : goal.invariant-loop-filter
invariant-loop-filter l = record {
  names : with_keys l.senders (each (λ e. e.0) (drop l.filter-index l.filters)) ≡ names_in l.filters;
  few : size l.senders ≤ l.filter-index;
}
