-- Who asks at which end: where a want by itself asks for something.
use Rattle.std.specs.Prelude.{ℕ, not, Bool, ◌==◌, List, [], ◌∷◌, length}
use Rattle.std.specs.List.{filter, range_with_len}
use Rattle.network_demand.specs.Books.{book_at}
use Rattle.style_rules.specs.Lines.{BookTable}
use Rattle.tree_model.specs.Goals.{demand_of}
use Rattle.tree_model.specs.Networks.{Net}
use Rattle.tree_model.specs.Wants.{Locals}
use Rattle.tree_model.specs.declared.locals.LocalWant.{LocalWant}
use Rattle.network_demand.specs.declared.askers.Asker.{Asker}

-- the same senders, and this want alone
abbrev pub only_want : Locals → LocalWant → Locals
only_want l w = record { senders = l.senders; wants = w ∷ [] }

-- something is owed
abbrev pub owes : BookTable → Bool
owes b = not (length b.rows == 0)

-- the ends, by number, that owe something
abbrev pub numbers_owing : List BookTable → List ℕ
numbers_owing books = filter (λ e. owes (book_at books e)) (range_with_len 0 (length books))

-- those that owe something for this want by itself
abbrev pub reached : Net → Locals → LocalWant → List ℕ
reached net l w = filter (λ e. owes (demand_of net (only_want l w) e)) (range_with_len 0 (length net.ends))

-- a want and where it asks
abbrev pub asking : Net → Locals → LocalWant → LocalWant × List ℕ
asking net l w = (w, reached net l w)

abbrev pub what_it_asks : Asker → LocalWant × List ℕ
what_it_asks a = (a.want, a.ends.items)
