use Rattle.std.proofs.Common.{◌≡◌, slice_get}
use Rattle.std.specs.List.{filter, range_with_len}
use Rattle.network_demand.specs.Books.{book_at}
use Rattle.network_demand.specs.Misfits.{is_over}
use Rattle.network_demand.proofs.misfits.ends_over.Given as goal

-- those so far
abbrev pub invariant-loop-end : goal.invariant-loop-end
invariant-loop-end l = l.found.items ≡ filter (λ e. is_over (slice_get l.ends e) (book_at l.books e)) (range_with_len 0 l.end)
