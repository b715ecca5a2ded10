use Rattle.std.proofs.Common.{◌≡◌, drop}
use Rattle.message_codec.specs.Places.{is_named}
use Rattle.message_codec.proofs.filters.is_named.Given as goal

abbrev pub invariant-loop-filter : goal.invariant-loop-filter
invariant-loop-filter l = is_named l.sender (drop l.filter-index l.filters) ≡ is_named l.sender l.filters
