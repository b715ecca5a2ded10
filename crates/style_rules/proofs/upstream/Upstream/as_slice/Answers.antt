use Rattle.std.proofs.Common.{map as each, ap, ◌∙◌}
use Rattle.rsvp_base.specs.Orders.{senders}
use Rattle.rsvp_base.proofs.Rows.{rows_are}
use Rattle.style_rules.specs.Ways.{way_of, up_line_of}
use Rattle.style_rules.proofs.WayRows.{lines_again}
use Rattle.style_rules.proofs.upstream.Upstream.as_slice.Goals as goal

pub returns-clause-lines : goal.returns-clause-lines
returns-clause-lines c =
    c.as_slice.ensures.value ∙ lines_again c.self.inside.lines.items
    ∙ ap (each up_line_of) (rows_are senders way_of c.self.inside.lines.items c.self.inside.rising c.args.self.now c.self.view_is)
