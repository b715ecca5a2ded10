use Rattle.std.proofs.Common.{◌≡◌, length, take, map as each, ap, ◌∙◌, arith}
use Rattle.std.proofs.Math.Seq.{take-length}
use Rattle.rsvp_base.specs.Orders.{senders}
use Rattle.rsvp_base.proofs.Rows.{rows_are, table_is}
use Rattle.style_rules.specs.Ways.{way_of}
use Rattle.style_rules.proofs.upstream.Upstream.copy.Goals as goal

pub returns : goal.returns
returns c =
    let lines = c.as_slice-line-items.result.now in
    let end : c.loop-line.line-index ≡ length lines = omega arith in
    let whole = c.loop-line.invariant ∙ ap (λ i. take i lines) end ∙ take-length lines ∙ c.as_slice-line-items.ensures.value in
    table_is senders way_of c.loop-line.lines.items _ c.args.self.now (ap (each way_of) whole ∙ rows_are senders way_of c.self.inside.lines.items c.self.inside.rising c.args.self.now c.self.view_is)
