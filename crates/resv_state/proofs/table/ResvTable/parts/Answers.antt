use Rattle.std.proofs.Common.{ap, ◌∙◌}
use Rattle.std.specs.List.{filter_map}
use Rattle.style_rules.specs.Merge.{merge}
use Rattle.resv_state.specs.Resvs.{ResvMap}
use Rattle.resv_state.specs.Walks.{held_under}
use Rattle.resv_state.specs.Merging.{parts_on, held_on}
use Rattle.resv_state.proofs.Facts.{rows_said}
use Rattle.resv_state.proofs.Merged.{held_named, all_open, said_parts}
use Rattle.resv_state.proofs.table.ResvTable.parts.Goals as goal

pub merge_on-requires : goal.merge_on-requires
merge_on-requires g c = held_named g.S.Style.kind_is c.self.inside.table.facts c.self.inside.facts c.args.session c.self.inside.within

pub returns : goal.returns
returns g c =
    let us = held_under c.args.session c.self.inside.table.facts in
    c.finish.ensures.unblockaded (filter_map (held_on c.args.iface) us) c.merge_on.ensures (all_open c.args.iface us)
    ∙ ap (merge g.S.Style.kind_is) (said_parts c.args.iface us ∙ ap (parts_on c.args.iface)
    (rows_said c.self.inside.table.facts c.self.inside.facts _ (ap (λ (m : ResvMap). m.facts) c.self.view_is) c.args.session))
