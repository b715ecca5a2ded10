use Rattle.std.proofs.Common.{Some, sym, ap, subst, ◌∙◌, map as each}
use Rattle.rsvp_base.specs.declared.style.Unit.{Unit as UnitOf}
use Rattle.resv_state.specs.Merging.{held_said, joined_with}
use Rattle.resv_state.specs.Resvs.{ResvMap, AreOfStyle, resv_key}
use Rattle.resv_state.specs.Walks.{held_under}
use Rattle.resv_state.proofs.Entries.{each_said, entry_is}
use Rattle.resv_state.proofs.Facts.{rows_said}
use Rattle.resv_state.proofs.table.ResvTable.entry_with.Goals as goal

pub returns : goal.returns
returns g c = λ left.
    let f = c.args.fact.now in
    let us = held_under f.session c.self.inside.table.facts in
    entry_is g.S.Style.kind_is c.args.self.now.facts (subst (λ (m : ResvMap). AreOfStyle g.S.Style.kind_is m.facts) c.self.view_is c.self.inside.style) f c.requires left
    ∙ ap Some (sym (c.join_beside.ensures ∙ ap (λ (u : UnitOf). joined_with ((f.iface, f.next), u) f.part.flow (each held_said us)) c.unit_of.ensures
    ∙ ap (joined_with (resv_key g.S.Style.kind_is f).1 f.part.flow) (each_said us ∙ rows_said c.self.inside.table.facts c.self.inside.facts _
    (ap (λ (m : ResvMap). m.facts) c.self.view_is) f.session)))
