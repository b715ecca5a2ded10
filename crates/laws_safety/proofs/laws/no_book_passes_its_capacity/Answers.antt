use Rattle.laws_safety.specs.Books.{AreBooksWithinCapacity}
use Rattle.laws_safety.proofs.Books.{books_within}
use Rattle.laws_safety.proofs.Runs.{in_every_world}
use Rattle.laws_safety.proofs.laws.no_book_passes_its_capacity.Goals as goal

pub returns : goal.returns
returns c = in_every_world AreBooksWithinCapacity books_within
