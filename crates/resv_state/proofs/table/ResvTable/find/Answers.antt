use Rattle.std.proofs.Common.{Some, sym, ap, subst, ◌∙◌}
use Rattle.std.specs.Option.{option_map, option_copied}
use Rattle.rsvp_base.specs.Rows.{table_of}
use Rattle.rsvp_base.specs.Table.{get}
use Rattle.style_rules.specs.Limits.{IsWithinLimits}
use Rattle.style_rules.specs.Lines.{LineKey, line_keys}
use Rattle.soft_table.proofs.Valued.{get-valued}
use Rattle.resv_state.specs.Resvs.{ResvMap, AreOfStyle, resv_lines, held_row}
use Rattle.resv_state.proofs.Facts.{said, told}
use Rattle.soft_table.proofs.Told.{looked_up}
use Rattle.resv_state.proofs.table.ResvTable.find.Goals as goal

pub returns-in-Some-clause-fact : goal.returns-in-Some-clause-fact
returns-in-Some-clause-fact g c =
    let k : LineKey = (c.args.session, ((c.args.iface, c.args.next), c.args.unit)) in
    ap Some c.copy.ensures ∙ ap (λ r. option_map told (option_copied r)) (sym c.in-Some.is) ∙ looked_up told _ _ c.find.ensures
    ∙ ap (option_map (λ e. e.0)) (sym (get-valued line_keys said (table_of line_keys held_row c.self.inside.table.facts c.self.inside.facts) k))
    ∙ ap (λ (m : ResvMap). option_map (λ e. e.0) (get m.facts k)) c.self.view_is

pub returns-in-None-clause-fact : goal.returns-in-None-clause-fact
returns-in-None-clause-fact g c =
    let k : LineKey = (c.args.session, ((c.args.iface, c.args.next), c.args.unit)) in
    ap (λ r. option_map told (option_copied r)) (sym c.in-None.is) ∙ looked_up told _ _ c.find.ensures
    ∙ ap (option_map (λ e. e.0)) (sym (get-valued line_keys said (table_of line_keys held_row c.self.inside.table.facts c.self.inside.facts) k))
    ∙ ap (λ (m : ResvMap). option_map (λ e. e.0) (get m.facts k)) c.self.view_is

pub returns-in-Some-clause-style : goal.returns-in-Some-clause-style
returns-in-Some-clause-style g c = subst (λ (m : ResvMap). AreOfStyle g.S.Style.kind_is m.facts) c.self.view_is c.self.inside.style

pub returns-in-None-clause-style : goal.returns-in-None-clause-style
returns-in-None-clause-style g c = subst (λ (m : ResvMap). AreOfStyle g.S.Style.kind_is m.facts) c.self.view_is c.self.inside.style

pub returns-in-Some-clause-within : goal.returns-in-Some-clause-within
returns-in-Some-clause-within g c = subst (λ (m : ResvMap). IsWithinLimits g.S.Style.kind_is (resv_lines g.S.Style.kind_is m.facts)) c.self.view_is c.self.inside.within

pub returns-in-None-clause-within : goal.returns-in-None-clause-within
returns-in-None-clause-within g c = subst (λ (m : ResvMap). IsWithinLimits g.S.Style.kind_is (resv_lines g.S.Style.kind_is m.facts)) c.self.view_is c.self.inside.within
