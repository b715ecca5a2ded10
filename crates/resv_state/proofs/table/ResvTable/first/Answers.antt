use Rattle.std.proofs.Common.{ap, ◌∙◌}
use Rattle.std.specs.Prelude.{slice_get}
use Rattle.std.specs.Option.{option_map, option_copied}
use Rattle.resv_state.specs.Resvs.{ResvMap}
use Rattle.resv_state.specs.Walks.{held_under}
use Rattle.resv_state.proofs.Behind.{kth_said}
use Rattle.resv_state.proofs.Facts.{rows_said}
use Rattle.resv_state.proofs.table.ResvTable.first.Goals as goal

pub returns : goal.returns
returns g c =
    c.fact_in.ensures ∙ kth_said (held_under c.args.session c.self.inside.table.facts) 0 (option_copied c.at.result) c.at.ensures
    ∙ ap (λ es. option_map (λ e. e.1.0) (slice_get es 0)) (rows_said c.self.inside.table.facts c.self.inside.facts _ (ap (λ (m : ResvMap). m.facts) c.self.view_is) c.args.session)
