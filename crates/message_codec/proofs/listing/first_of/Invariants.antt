use Rattle.std.proofs.Common.{◌≡◌, drop}
use Rattle.message_codec.specs.Messages.{pairs_in}
use Rattle.message_codec.proofs.listing.first_of.Given as goal

abbrev pub invariant-loop-filter : goal.invariant-loop-filter
invariant-loop-filter l = record {
  pairs : pairs_in (drop l.filter-index l.filters) ≡ pairs_in l.filters;
  place : l.behind ≡ l.filter-index;
}
