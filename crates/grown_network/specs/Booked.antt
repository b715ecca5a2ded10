-- What the ends of a network hold in a world: how many have an entry, how many entries these are, and what all of them charge.
use Rattle.std.specs.Prelude.{ℕ, nat_lt, List, map as each, length, sum_by, Option, None, Some, slice_get, if◌then◌else◌}
use Rattle.std.specs.List.{range_with_len}
use Rattle.rsvp_base.specs.Table.{empty, size}
use Rattle.router_rules.specs.Books.{book}
use Rattle.router_rules.specs.Facts.{Facts}
use Rattle.style_rules.specs.Lines.{BookTable, held}
use Rattle.tree_model.specs.Networks.{Net, iface_of}
use Rattle.network_model.specs.Runs.{node_facts}
use Rattle.network_model.specs.Worlds.{World}
use Rattle.grown_network.specs.declared.summary.Booked.{Booked}

-- the book of an interface of a node that has these facts
abbrev pub book_there : Option Facts → ℕ → BookTable
book_there None iface = empty
book_there (Some f) iface = book f iface

-- 1 where it has an entry
abbrev pub one_booked : BookTable → ℕ
one_booked b = if nat_lt 0 (size b) then 1 else 0

module _ (net : Net) (w : World) where
  -- what an end holds: the book of its interface, by the facts of its node
  abbrev pub end_book : ℕ → BookTable
  end_book e = book_there (node_facts w (slice_get net.ends e)) (iface_of net.ends e)

  -- of the first ends
  abbrev pub books_up_to : ℕ → List BookTable
  books_up_to n = each end_book (range_with_len 0 n)

  abbrev pub booked_up_to : ℕ → Booked
  booked_up_to n = record { ends = sum_by one_booked (books_up_to n); entries = sum_by (λ (b : BookTable). size b) (books_up_to n); held = sum_by held (books_up_to n) }

  abbrev pub booked : Booked
  booked = booked_up_to (length net.ends)
