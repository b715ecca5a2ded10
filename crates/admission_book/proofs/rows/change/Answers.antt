use Rattle.std.proofs.Common.{arith, refl, sym, ap, ◌∙◌}
use Rattle.admission_book.specs.Book.{changed_at}
use Rattle.admission_book.specs.Rows.{entries_of}
use Rattle.admission_book.proofs.RowLemmas.{row_of, unchanged}
use Rattle.admission_book.proofs.rows.change.Goals as goal

pub index_mut-requires : goal.index_mut-requires
index_mut-requires c = let stands = c.requires.there c.in-Ok-Some.at c.in-Ok-Some.is-0 in omega (arith, stands.within)

pub remove-requires : goal.remove-requires
remove-requires c = let stands = c.requires.there c.in-Ok-None.at c.in-Ok-None.is-0 in omega (arith, stands.within)

pub returns-in-Ok-Some-clause-rows : goal.returns-in-Ok-Some-clause-rows
returns-in-Ok-Some-clause-rows c = λ up.
    let stands = c.requires.there c.in-Ok-Some.at c.in-Ok-Some.is-0 in
    sym (stands.replaced (row_of (c.args.iface, c.args.key) c.in-Ok-Some.flow) c.in-Ok-Some.flow refl)
    ∙ ap (λ now. (changed_at (entries_of c.args.rows.now.items up) c.args.iface c.args.key now).rows) (sym c.in-Ok-Some.is-1)

pub returns-in-Err-None-clause-rows : goal.returns-in-Err-None-clause-rows
returns-in-Err-None-clause-rows c = λ up.
    let goes = c.requires.absent c.in-Err-None.field-0-0 c.in-Err-None.is-0 in
    unchanged c.args.rows.now.items (c.args.iface, c.args.key) up goes.absent ∙ ap (λ now. (changed_at (entries_of c.args.rows.now.items up) c.args.iface c.args.key now).rows) (sym c.in-Err-None.is-1)
