use Rattle.std.proofs.Common.{◌≡◌, ◌∙◌, slice_set, ap, sym}
use Rattle.rsvp_base.specs.Table.{get}
use Rattle.network_demand.specs.Books.{book_at, charged}
use Rattle.network_demand.proofs.BookLaws.{read_at}
use Rattle.network_demand.proofs.Pools.{on_ok}
use Rattle.network_demand.proofs.charging.charge_row.Goals as goal

pub charge-requires : goal.charge-requires
charge-requires g c =
    let at : c.index_mut-book.result.now ≡ book_at c.args.books.now.items c.args.end =
    read_at c.args.books.now.items c.args.end c.index_mut-book.result.now c.requires.there c.index_mut-book.ensures.value in
    λ q e. c.requires.room q ((λ i. get (sym at i) (record { session = c.args.session; style = sym c.kind.ensures i; unit = c.args.row.now.0 })) ∙ e)

pub returns-clause-books : goal.returns-clause-books
returns-clause-books g c =
    let at : c.index_mut-book.result.now ≡ book_at c.args.books.now.items c.args.end =
    read_at c.args.books.now.items c.args.end c.index_mut-book.result.now c.requires.there c.index_mut-book.ensures.value in
    on_ok c.charge.result (λ e. ap (slice_set c.args.books.now.items c.args.end) (e ∙ (λ i. charged (at i)
    (record { session = c.args.session; style = c.kind.ensures i; unit = c.args.row.now.0 }) c.args.row.now.1))) c.charge.ensures.ok
