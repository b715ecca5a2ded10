-- What an end owes, as it is written: by its name, what it has, and its book.
use Rattle.std.specs.Prelude.{ℕ, List, [], Option, None, Some, slice_get}
use Rattle.network_demand.specs.Books.{book_at}
use Rattle.value_texts.specs.Reports.{book_text}
use Rattle.style_rules.specs.Lines.{BookTable}
use Rattle.tree_model.specs.declared.hops.End.{End}
use Rattle.network_model.specs.DemandTexts.{of_end}

abbrev pub named_owes : ℕ → BookTable → Option (List ℕ) → List ℕ
named_owes capacity book None = []
named_owes capacity book (Some name) = book_text name capacity book.rows

-- of the end of a number
abbrev pub end_owes : List (List ℕ) → List End → List BookTable → ℕ → List ℕ
end_owes names ends owed e = of_end (λ name x. book_text name x.iface.capacity (book_at owed e).rows) (slice_get names e) (slice_get ends e)
