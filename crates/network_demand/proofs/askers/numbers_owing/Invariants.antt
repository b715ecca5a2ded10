use Rattle.std.proofs.Common.{◌≡◌}
use Rattle.std.specs.List.{filter, range_with_len}
use Rattle.network_demand.specs.Books.{book_at}
use Rattle.network_demand.specs.Askers.{owes}
use Rattle.network_demand.proofs.askers.numbers_owing.Given as goal

-- those so far
abbrev pub invariant-loop-end : goal.invariant-loop-end
invariant-loop-end l = l.found.items ≡ filter (λ e. owes (book_at l.books e)) (range_with_len 0 l.end)
