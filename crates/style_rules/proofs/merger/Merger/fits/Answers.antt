use Rattle.std.proofs.Common.{◌≡◌, ◌<◌, ◌+◌, length, take, map as each, refl, ap, ◌∙◌, arith}
use Rattle.std.proofs.Math.Seq.{take-length}
use Rattle.rsvp_base.specs.Orders.{units, senders, Names}
use Rattle.rsvp_base.specs.Sets.{union}
use Rattle.rsvp_base.specs.Table.{size}
use Rattle.rsvp_base.proofs.Rows.{rows_are}
use Rattle.rsvp_base.proofs.SetLaws.{union_comm}
use Rattle.style_rules.specs.Tally.{names_of_rows, names_of_tally}
use Rattle.style_rules.specs.TallyRows.{tally_row}
use Rattle.style_rules.proofs.MergerRows.{names_more, names_so_far}
use Rattle.style_rules.proofs.merger.Merger.fits.Goals as goal

pub returns-in-Err : goal.returns-in-Err
returns-in-Err g c =
    let part = c.args.part.now.senders in
    let rows = c.as_slice-row-items.result.now in
    let i = c.loop-row.row-index in
    let row = c.row-item.result in
    let big = c.in-Err.ensures.full.0 refl in
    let here : union c.loop-row.all row.part.senders ≡ union part (names_of_rows (each tally_row (take (i + 1) rows))) =
    (λ j. union (c.loop-row.invariant.names j) (c.row-item.is j).part.senders) ∙ names_more part rows i row c.loop-row-test.true in
    let less = names_so_far part rows (i + 1) in
    let all : names_of_rows (each tally_row rows) ≡ names_of_tally c.args.self.now = ap (λ zs. names_of_rows (each tally_row zs)) c.as_slice-row-items.ensures.value
    ∙ ap names_of_rows (rows_are units tally_row c.self.inside.rows.items c.self.inside.rising c.args.self.now c.self.view_is) in
    let whole = ap (λ (n : Names). size (union n part)) all in
    let one = ap size here in
    (λ h. cc, λ few. absurd (omega (arith, big, one, less, whole, few)))

pub loop-row-preserved : goal.loop-row-preserved
loop-row-preserved g c =
    let part = c.args.part.now.senders in
    let rows = c.as_slice-row-items.result.now in
    let row = c.row-item.result in
    let fits : 16 < size (union c.loop-row.all row.part.senders) → ⊥ = λ big. let e = c.in-Ok.ensures.full.1 big in cc in
    record {
      names = c.in-Ok.ensures.ok ∙ (λ j. union (c.loop-row.invariant.names j) (c.row-item.is j).part.senders) ∙ names_more part rows c.loop-row.row-index row c.loop-row-test.true;
      few = omega (arith, ap size c.in-Ok.ensures.ok, fits);
    }

pub returns : goal.returns
returns g c =
    let part = c.args.part.now.senders in
    let rows = c.as_slice-row-items.result.now in
    let end : c.loop-row.row-index ≡ length rows = omega arith in
    let all : names_of_rows (each tally_row rows) ≡ names_of_tally c.args.self.now = ap (λ zs. names_of_rows (each tally_row zs)) c.as_slice-row-items.ensures.value
    ∙ ap names_of_rows (rows_are units tally_row c.self.inside.rows.items c.self.inside.rising c.args.self.now c.self.view_is) in
    let named : c.loop-row.all ≡ union (names_of_tally c.args.self.now) part =
    c.loop-row.invariant.names ∙ ap (λ zs. union part (names_of_rows (each tally_row zs))) (ap (λ n. take n rows) end ∙ take-length rows) ∙ ap (union part) all
    ∙ union_comm senders part (names_of_tally c.args.self.now) in
    (λ h. omega (arith, ap size named, c.loop-row.invariant.few), λ h. refl)
