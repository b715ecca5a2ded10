use Rattle.std.proofs.Common.{Some, sym, ap, ◌∙◌}
use Rattle.std.specs.Prelude.{slice_get}
use Rattle.std.specs.Option.{option_map, option_copied}
use Rattle.resv_state.specs.Resvs.{ResvMap}
use Rattle.resv_state.proofs.Facts.{said, told, rows_said}
use Rattle.soft_table.proofs.Told.{kth-valued, kth_told}
use Rattle.resv_state.specs.Walks.{held_under}
use Rattle.resv_state.proofs.table.ResvTable.at.Goals as goal

pub returns-in-Some : goal.returns-in-Some
returns-in-Some g c = ap Some c.copy.ensures ∙ ap (λ r. option_map told (option_copied r)) (sym c.in-Some.is) ∙ kth_told told _ _ c.at.ensures
    ∙ ap (option_map (λ e. e.1.0)) (sym (kth-valued said (held_under c.args.session c.self.inside.table.facts) c.args.k)
    ∙ ap (λ es. slice_get es c.args.k) (rows_said c.self.inside.table.facts c.self.inside.facts _ (ap (λ (m : ResvMap). m.facts) c.self.view_is) c.args.session))

pub returns-in-None : goal.returns-in-None
returns-in-None g c = ap (λ r. option_map told (option_copied r)) (sym c.in-None.is) ∙ kth_told told _ _ c.at.ensures
    ∙ ap (option_map (λ e. e.1.0)) (sym (kth-valued said (held_under c.args.session c.self.inside.table.facts) c.args.k)
    ∙ ap (λ es. slice_get es c.args.k) (rows_said c.self.inside.table.facts c.self.inside.facts _ (ap (λ (m : ResvMap). m.facts) c.self.view_is) c.args.session))
