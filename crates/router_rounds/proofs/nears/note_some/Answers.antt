use Rattle.std.proofs.Common.{sym, ap, ◌∙◌, arith, length, map as each}
use Rattle.std.proofs.lemmas.List.{take_all}
use Rattle.rsvp_base.proofs.Fronts.{front_all}
use Rattle.router_rounds.specs.Nears.{near_row}
use Rattle.router_rounds.proofs.Before.{none_noted, noted, noted_step}
use Rattle.router_rounds.proofs.nears.note_some.Goals as goal

pub returns-then-is_calm-clause-rows : goal.returns-then-is_calm-clause-rows
returns-then-is_calm-clause-rows c = ap (each near_row) c.requires.none ∙ sym (none_noted c.args.paths.now.facts c.args.lost.now c.args.touched.now c.args.fired.now
    (c.is_calm.ensures c.if-is_calm.true))

pub loop-k-init : goal.loop-k-init
loop-k-init c = record { rows = ap (each near_row) c.requires.none; few = omega (arith, ap length c.requires.none); capacity = omega arith }

pub note_one-requires-clause-room : goal.note_one-requires-clause-room
note_one-requires-clause-room c = omega (arith, c.loop-k.invariant.few, c.loop-k.invariant.capacity, c.requires.room, c.loop-k-test.true)

pub note_one-requires-clause-near : goal.note_one-requires-clause-near
note_one-requires-clause-near c = c.requires.near c.in-Some.session

pub loop-k-preserved : goal.loop-k-preserved
loop-k-preserved c =
    record {
      rows =
          noted_step c.args.paths.now.facts c.args.lost.now c.args.touched.now c.args.fired.now c.loop-k.k c.in-Some.session c.in-Some.mark (sym c.at.ensures.mark ∙ c.in-Some.is)
          (each near_row c.loop-k.rows.items) (each near_row c.note_one.new.rows.items)
          c.loop-k.invariant.rows c.note_one.ensures.rows;
      few = omega (arith, c.note_one.ensures.few, c.loop-k.invariant.few);
      capacity = omega (arith, c.note_one.ensures.capacity, c.loop-k.invariant.capacity);
    }

pub returns-in_default-clause-rows : goal.returns-in_default-clause-rows
returns-in_default-clause-rows c =
    c.loop-k.invariant.rows ∙ ap (noted c.args.paths.now.facts c.args.lost.now c.args.touched.now c.args.fired.now)
    (front_all c.args.touched.now.rows c.loop-k.k (sym c.at.ensures.mark ∙ c.in_default.is))

pub returns-clause-rows : goal.returns-clause-rows
returns-clause-rows c =
    c.loop-k.invariant.rows ∙ ap (noted c.args.paths.now.facts c.args.lost.now c.args.touched.now c.args.fired.now)
    (take_all c.loop-k.k c.args.touched.now.rows (omega (arith, c.at-first.ensures.few, c.loop-k-test.false)))
