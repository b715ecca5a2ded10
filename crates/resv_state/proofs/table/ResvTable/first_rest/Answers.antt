use Rattle.std.proofs.Common.{◌≤◌, sym, ap, subst, ◌∙◌}
use Rattle.rsvp_base.specs.Orders.{sessions}
use Rattle.rsvp_base.specs.Rows.{table_of}
use Rattle.rsvp_base.specs.Table.{size, changed}
use Rattle.rsvp_base.specs.Under.{under}
use Rattle.style_rules.specs.Lines.{line_keys}
use Rattle.std.specs.Option.{option_map}
use Rattle.resv_state.specs.declared.fact.Held.{Held}
use Rattle.resv_state.specs.Resvs.{ResvMap, held_key, held_row, fact_of}
use Rattle.resv_state.specs.Walks.{rests}
use Rattle.resv_state.proofs.Facts.{rows_said}
use Rattle.resv_state.proofs.Forgets.{first_told}
use Rattle.resv_state.proofs.Limits.{few_of_session}
use Rattle.resv_state.proofs.table.ResvTable.first_rest.Goals as goal

pub returns-clause-first : goal.returns-clause-first
returns-clause-first g c =
    c.rest_of.ensures ∙ ap (option_map (λ (h : Held). (held_key h).1)) c.at.ensures
    ∙ first_told c.self.inside.table.facts c.self.inside.facts c.args.session (under sessions rests c.args.self.now.facts c.args.session)
    (sym (rows_said c.self.inside.table.facts c.self.inside.facts _ (ap (λ (m : ResvMap). m.facts) c.self.view_is) c.args.session))

pub returns-clause-few : goal.returns-clause-few
returns-clause-few g c =
    subst (λ (m : ResvMap). size (under sessions rests m.facts c.args.session) ≤ 1024) c.self.view_is
    (few_of_session g.S.Style.kind_is (changed fact_of (table_of line_keys held_row c.self.inside.table.facts c.self.inside.facts)) c.args.session c.self.inside.within)
