use Rattle.std.proofs.Common.{ap, ◌++◌, ◌∙◌}
use Rattle.std.specs.List.{filter_map}
use Rattle.style_rules.specs.Toward.{toward}
use Rattle.resv_state.specs.Resvs.{ResvMap}
use Rattle.resv_state.specs.Walks.{held_under}
use Rattle.resv_state.specs.Merging.{held_toward, resv_request, want_request}
use Rattle.resv_state.proofs.Facts.{rows_said}
use Rattle.resv_state.proofs.Merged.{said_rows}
use Rattle.resv_state.proofs.table.ResvTable.toward.Goals as goal

pub returns : goal.returns
returns g c =
    let up = c.args.up.now in
    let us = held_under c.args.session c.self.inside.table.facts in
    let wants = filter_map (want_request up) c.args.own.now.rows in
    c.finish.ensures.toward (filter_map (held_toward up) us ++ wants) c.merge_toward.ensures
    ∙ ap (λ rs. toward g.S.Style.kind_is (rs ++ wants)) (said_rows (resv_request up) us ∙ ap (filter_map (resv_request up))
    (rows_said c.self.inside.table.facts c.self.inside.facts _ (ap (λ (m : ResvMap). m.facts) c.self.view_is) c.args.session))
