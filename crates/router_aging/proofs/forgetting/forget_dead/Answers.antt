use Rattle.std.proofs.Common.{refl, ap, ◌∙◌, arith, map as each}
use Rattle.std.proofs.lemmas.List.{take_all}
use Rattle.resv_admission.specs.Forgotten.{forgotten_all}
use Rattle.resv_admission.specs.State.{facts_of}
use Rattle.router_aging.specs.Losing.{lost_names}
use Rattle.router_aging.specs.Passing.{dead_key}
use Rattle.router_aging.proofs.Moves.{kept_after, moves_both, moves_not, next_lost}
use Rattle.router_aging.proofs.forgetting.forget_dead.Goals as goal

pub loop-i-init : goal.loop-i-init
loop-i-init g c = record { table = λ clock n own paths. refl; kept = c.requires.kept; book = moves_not g.S.Style.kind_is c.args.table.now.facts c.args.book.now.entries; ifaces = refl }

pub loop-i-preserved : goal.loop-i-preserved
loop-i-preserved g c =
    let st = g.S.Style.kind_is in
    record {
      table = λ clock n own paths.
          next_lost st (facts_of clock n) c.args.table.now c.loop-i.table c.forget_one.new.table c.as_slice-list.result.now c.loop-i.i _ c.loop-i-test.true (c.loop-i.invariant.table clock n own paths)
          (c.forget_one.ensures.table clock n own paths);
      kept = kept_after st c.loop-i.table.facts c.forget_one.new.table.facts c.loop-i.book.entries c.forget_one.new.book.entries c.loop-i.invariant.kept c.forget_one.ensures.book;
      book = moves_both st c.args.table.now.facts c.loop-i.table.facts c.forget_one.new.table.facts c.args.book.now.entries c.loop-i.book.entries c.forget_one.new.book.entries c.loop-i.invariant.book
          c.forget_one.ensures.book;
      ifaces = c.forget_one.ensures.ifaces ∙ c.loop-i.invariant.ifaces;
    }

pub returns-clause-table : goal.returns-clause-table
returns-clause-table g c = λ clock n own paths.
    let list = c.as_slice-list.result.now in
    c.loop-i.invariant.table clock n own paths
    ∙ (λ i. record c.args.table.now {
      facts = forgotten_all (lost_names g.S.Style.kind_is (facts_of clock n)
          ((ap (each dead_key) (take_all c.loop-i.i list (omega (arith, c.loop-i-test.false))) ∙ c.as_slice-list.ensures.keys) i)) c.args.table.now.facts;
    })
