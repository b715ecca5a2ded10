use Rattle.std.proofs.Common.{◌++◌, ◌∷◌, [], sym, ap, ◌∙◌, arith, length, map as each}
use Rattle.std.proofs.lemmas.List.{length-append, map-append}
use Rattle.router_rounds.specs.Nears.{near_row}
use Rattle.router_rounds.specs.declared.nears.Near.{Near}
use Rattle.router_rounds.proofs.Near.{noted_all, noted_more}
use Rattle.router_rounds.proofs.nears.note_all.Goals as goal

pub loop-k-init : goal.loop-k-init
loop-k-init c = record { rows = ap (each near_row) c.requires.none; few = omega (arith, ap length c.requires.none); capacity = omega arith }

pub add-requires : goal.add-requires
add-requires c = omega (arith, c.loop-k.invariant.few, c.loop-k.invariant.capacity, c.requires.room, c.len-k-end.ensures.few, c.loop-k-test.true)

pub loop-k-preserved : goal.loop-k-preserved
loop-k-preserved c =
    record {
      rows =
          ap (each near_row) c.add.ensures.rows ∙ map-append near_row c.loop-k.rows.items _ ∙ (λ i. c.loop-k.invariant.rows i ++ (c.in-Some.session, c.hops-hops.ensures i) ∷ [])
          ∙ sym (noted_more c.args.paths.now.facts c.args.due.now c.loop-k.k c.in-Some.session c.in-Some.field-0-1 (sym c.at.ensures ∙ c.in-Some.is));
      few = omega (arith, ap length c.add.ensures.rows, length-append {A = Near}, c.loop-k.invariant.few);
      capacity = omega (arith, c.add.ensures.capacity, c.loop-k.invariant.capacity);
    }

pub returns-clause-rows : goal.returns-clause-rows
returns-clause-rows c = c.loop-k.invariant.rows ∙ noted_all c.args.paths.now.facts c.args.due.now c.loop-k.k (omega (arith, c.len-k-end.ensures.size, c.loop-k-test.false))
