use Rattle.std.proofs.Common.{◌↔◌, ◌∙◌, List, subst}
use Rattle.network_demand.specs.Asked.{locals_of}
use Rattle.network_demand.specs.Books.{book_at}
use Rattle.rsvp_base.specs.Members.{In}
use Rattle.rsvp_base.specs.declared.session.Session.{Session}
use Rattle.tree_model.specs.declared.locals.LocalWant.{LocalWant}
use Rattle.network_demand.specs.Misfits.{HasTwoStyles, is_large, is_over, numbers_with}
use Rattle.network_demand.proofs.Fit.{none_told, numbers_same, tables_told}
use Rattle.network_demand.proofs.misfits.misfits_of.Goals as goal

pub returns-clause-all : goal.returns-clause-all
returns-clause-all c =
    let net = c.args.routing.now in
    let l = locals_of c.args.locals.now in
    let books = c.args.demand.now.ends.items in
    record {
      over = c.in_ok-over.ensures ∙ (λ i. numbers_with is_over (c.ends.ensures.ends i) (book_at (c.as_slice.ensures.value i))) ∙ numbers_same is_over net l books c.requires.ends;
      large = c.in_ok-large.ensures ∙ (λ i. numbers_with is_large (c.ends-2.ensures.ends i) (book_at (c.as_slice-2.ensures.value i))) ∙ numbers_same is_large net l books c.requires.ends;
      once = c.in_ok-clashing.ensures.once;
      clashing = subst (λ (ws : List LocalWant). (s : Session) → In s c.in_ok-clashing.clashing.items ↔ HasTwoStyles ws s) c.as_slice-3.ensures.value c.in_ok-clashing.ensures.all;
      tables = tables_told (record { over = c.in_ok-over.over; large = c.in_ok-large.large; clashing = c.in_ok-clashing.clashing; tables = c.is_left-tables.result }) net l
          c.args.demand.now.fits c.are_empty.result c.is_left-tables.ensures c.are_empty.ensures c.requires.fits;
    }

pub returns-clause-none : goal.returns-clause-none
returns-clause-none c =
    let net = c.args.routing.now in
    let l = locals_of c.args.locals.now in
    let books = c.args.demand.now.ends.items in
    none_told (record { over = c.in_ok-over.over; large = c.in_ok-large.large; clashing = c.in_ok-clashing.clashing; tables = c.is_left-tables.result }) net l c.args.demand.now.fits c.are_empty.result c.is_left-tables.ensures c.are_empty.ensures c.requires.fits
    (record {
      over = c.in_ok-over.ensures ∙ (λ i. numbers_with is_over (c.ends.ensures.ends i) (book_at (c.as_slice.ensures.value i))) ∙ numbers_same is_over net l books c.requires.ends;
      large = c.in_ok-large.ensures ∙ (λ i. numbers_with is_large (c.ends-2.ensures.ends i) (book_at (c.as_slice-2.ensures.value i))) ∙ numbers_same is_large net l books c.requires.ends;
      once = c.in_ok-clashing.ensures.once;
      clashing = subst (λ (ws : List LocalWant). (s : Session) → In s c.in_ok-clashing.clashing.items ↔ HasTwoStyles ws s) c.as_slice-3.ensures.value c.in_ok-clashing.ensures.all;
      tables = tables_told (record { over = c.in_ok-over.over; large = c.in_ok-large.large; clashing = c.in_ok-clashing.clashing; tables = c.is_left-tables.result }) net l
          c.args.demand.now.fits c.are_empty.result c.is_left-tables.ensures c.are_empty.ensures c.requires.fits;
    })
