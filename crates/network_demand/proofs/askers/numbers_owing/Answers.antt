use Rattle.std.proofs.Common.{◌≡◌, ◌∙◌, ◌++◌, ◌∷◌, [], cond, length, sym, ap, arith}
use Rattle.std.specs.List.{filter, range_with_len}
use Rattle.network_demand.proofs.BookLaws.{read_at}
use Rattle.network_demand.specs.Books.{book_at}
use Rattle.network_demand.specs.Askers.{owes}
use Rattle.network_demand.proofs.Ranges.{kept_more}
use Rattle.network_demand.proofs.askers.numbers_owing.Goals as goal

pub loop-end-preserved : goal.loop-end-preserved
loop-end-preserved c =
    let books = c.args.books.now in
    let end = c.loop-end.end in
    let here : c.owes.result ≡ owes (book_at books end) = c.owes.ensures ∙ ap owes (read_at books end c.index-books-end.result c.loop-end-test.true c.index-books-end.is) in
    c.in_ok-keep_if.ensures ∙ (λ i. c.loop-end.invariant i ++ cond (here i) (end ∷ []) []) ∙ sym (kept_more (λ e. owes (book_at books e)) end)

pub returns : goal.returns
returns c =
    let e : c.loop-end.end ≡ length c.args.books.now = omega (arith, c.loop-end-test.false, c.loop-end.auto.end-end) in
    c.loop-end.invariant ∙ ap (λ n. filter (λ e. owes (book_at c.args.books.now e)) (range_with_len 0 n)) e
