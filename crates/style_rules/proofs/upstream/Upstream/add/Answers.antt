use Rattle.std.proofs.Common.{◌≡◌, length, length-set, map as each, refl, sym, ap, ◌∙◌, arith}
use Rattle.std.proofs.lemmas.Bool.{eqb-true, eqb-false}
use Rattle.rsvp_base.specs.Orders.{senders}
use Rattle.rsvp_base.specs.Table.{put_in}
use Rattle.rsvp_base.proofs.Rows.{are_rows, table_is, put_over, put_new, size-put_new, size_rows, written_back}
use Rattle.style_rules.specs.Ways.{way_of}
use Rattle.style_rules.proofs.upstream.Upstream.add.Goals as goal

pub invariant_of-self-inside : goal.invariant_of-self-inside
invariant_of-self-inside c =
    let stands = rw c.as_slice.ensures.value at c.in-Ok.ensures.there in
    let rows = c.self.inside.lines.items in
    let line = c.args.line in
    let back = written_back rows c.deref_mut.result.now c.in-Ok.place line c.deref_mut.ensures.value in
    let put = put_over senders way_of rows c.self.inside.rising c.args.self.now c.self.view_is line.name (way_of line).1 line c.in-Ok.place refl stands in (
      are_rows senders way_of _ (put_in c.args.self.now line.name (way_of line).1) (ap (each way_of) back ∙ put),
      (omega (arith, ap length back, length-set rows c.in-Ok.place line, c.self.inside.few), tt),
    )

pub returns-in-Ok-clause-ok : goal.returns-in-Ok-clause-ok
returns-in-Ok-clause-ok c =
    let stands = rw c.as_slice.ensures.value at c.in-Ok.ensures.there in
    let rows = c.self.inside.lines.items in
    let line = c.args.line in
    let back = written_back rows c.deref_mut.result.now c.in-Ok.place line c.deref_mut.ensures.value in
    let put = put_over senders way_of rows c.self.inside.rising c.args.self.now c.self.view_is line.name (way_of line).1 line c.in-Ok.place refl stands in
    table_is senders way_of _ _ (put_in c.args.self.now line.name (way_of line).1) (ap (each way_of) back ∙ put)

pub returns-then-is_full-clause-full : goal.returns-then-is_full-clause-full
returns-then-is_full-clause-full c =
    let goes = rw c.as_slice.ensures.value at c.in-Err.ensures.absent in
    let line = c.args.line in
    let lines = c.self.inside.lines.items in
    let more = size-put_new senders way_of lines c.self.inside.rising c.args.self.now c.self.view_is line.name (way_of line).1 c.in-Err.place goes in
    let all = size_rows senders way_of lines c.self.inside.rising c.args.self.now c.self.view_is in
    let whole : length lines ≡ 16 = eqb-true _ _ (sym c.if-is_full.ensures.value) in
    (λ _. omega (arith, more, all, whole), λ _. refl)

pub invariant_of-self-inside-in-Err : goal.invariant_of-self-inside-in-Err
invariant_of-self-inside-in-Err c =
    let goes = rw c.as_slice.ensures.value at c.in-Err.ensures.absent in
    let line = c.args.line in
    let put = put_new senders way_of c.self.inside.lines.items c.self.inside.rising c.args.self.now c.self.view_is line.name (way_of line).1 line c.in-Err.place refl goes in
    let room = eqb-false _ _ (sym c.if-is_full.ensures.value) in (
      are_rows senders way_of c.insert.new.self.items (put_in c.args.self.now line.name (way_of line).1) (ap (each way_of) c.insert.ensures.items ∙ put),
      (omega (arith, c.self.inside.few, room, c.insert.ensures.len), tt),
    )

pub returns-else-is_full-clause-ok : goal.returns-else-is_full-clause-ok
returns-else-is_full-clause-ok c =
    let goes = rw c.as_slice.ensures.value at c.in-Err.ensures.absent in
    let line = c.args.line in
    let put = put_new senders way_of c.self.inside.lines.items c.self.inside.rising c.args.self.now c.self.view_is line.name (way_of line).1 line c.in-Err.place refl goes in
    table_is senders way_of c.insert.new.self.items _ (put_in c.args.self.now line.name (way_of line).1) (ap (each way_of) c.insert.ensures.items ∙ put)
