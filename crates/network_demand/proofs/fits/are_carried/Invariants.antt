use Rattle.std.proofs.Common.{◌≡◌, ◌<◌, ℕ, Some, slice_get}
use Rattle.tree_model.specs.declared.hops.End.{End}
use Rattle.network_demand.specs.Books.{book_at}
use Rattle.network_demand.specs.Fits.{IsCarried}
use Rattle.network_demand.proofs.fits.are_carried.Given as goal

-- those so far are
abbrev pub invariant-loop-end : goal.invariant-loop-end
invariant-loop-end l = (e : ℕ) (x : End) → e < l.end → slice_get l.ends e ≡ Some x → IsCarried (book_at l.books e) x.iface
