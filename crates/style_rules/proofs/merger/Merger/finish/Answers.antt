use Rattle.std.proofs.Common.{◌≡◌, length, sym, ap, ◌∙◌, arith}
use Rattle.rsvp_base.specs.Orders.{units}
use Rattle.rsvp_base.specs.Table.{get, same_rows}
use Rattle.rsvp_base.proofs.Rows.{are_rows, each_itself}
use Rattle.style_rules.specs.Tally.{parts_of_tally}
use Rattle.style_rules.proofs.Tallies.{parts-tally_of}
use Rattle.style_rules.specs.Merge.{PartTable}
use Rattle.style_rules.proofs.Towards.{toward_below, toward_open}
use Rattle.style_rules.proofs.Claims.{made}
use Rattle.style_rules.proofs.MergerRows.{finished}
use Rattle.style_rules.proofs.merger.Merger.finish.Goals as goal

pub of_rows-requires-clause-rising : goal.of_rows-requires-clause-rising
of_rows-requires-clause-rising g c =
    let rows = c.as_slice-row-items.result.now in
    let end : c.loop-row.row-index ≡ length rows = omega arith in
    let whole = finished c.self.inside.rows.items c.self.inside.rising c.args.self.now c.self.view_is rows c.loop-row.row-index c.loop-row.rows.items c.loop-row.invariant end
    c.as_slice-row-items.ensures.value in
    are_rows units (λ e. e) c.loop-row.rows.items (parts_of_tally c.args.self.now) (each_itself c.loop-row.rows.items ∙ whole)

pub returns-clause-kept : goal.returns-clause-kept
returns-clause-kept g c =
    let rows = c.as_slice-row-items.result.now in
    let end : c.loop-row.row-index ≡ length rows = omega arith in
    let whole = finished c.self.inside.rows.items c.self.inside.rising c.args.self.now c.self.view_is rows c.loop-row.row-index c.loop-row.rows.items c.loop-row.invariant end
    c.as_slice-row-items.ensures.value in
    same_rows c.of_rows.result (parts_of_tally c.args.self.now) (c.of_rows.ensures ∙ whole)

pub returns-clause-toward : goal.returns-clause-toward
returns-clause-toward g c = λ rs e.
    returns-clause-kept g c ∙ ap parts_of_tally e ∙ parts-tally_of g.S.Style.kind_is rs

pub returns-clause-below : goal.returns-clause-below
returns-clause-below g c = λ rs u t m e f h.
    let style = g.S.Style.kind_is in
    made g.S.Style.at_most g.met.S.Style.at_most_by_names_and_flow t m (toward_below style rs u t m (ap (λ (p : PartTable). get p u) (sym (returns-clause-toward g c rs e)) ∙ f) h)

pub returns-clause-unblockaded : goal.returns-clause-unblockaded
returns-clause-unblockaded g c = λ rs e h.
    returns-clause-toward g c rs e ∙ toward_open g.S.Style.kind_is rs h
