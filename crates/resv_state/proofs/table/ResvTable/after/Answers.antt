use Rattle.std.proofs.Common.{ℕ, Some, ap, subst, ◌∙◌}
use Rattle.std.specs.Prelude.{slice_get}
use Rattle.std.specs.Option.{option_map, option_copied}
use Rattle.rsvp_base.specs.declared.style.Unit.{Unit as UnitOf}
use Rattle.soft_table.specs.Facts.{rows_behind}
use Rattle.rsvp_base.specs.Table.{changed_rows}
use Rattle.resv_state.specs.declared.fact.ResvFact.{ResvFact}
use Rattle.resv_state.specs.Resvs.{ResvMap, AreOfStyle, resv_key}
use Rattle.resv_state.specs.Walks.{Rest, rests, held_under}
use Rattle.resv_state.proofs.Behind.{next_said, next_behind}
use Rattle.resv_state.proofs.Facts.{said, rows_said}
use Rattle.resv_state.proofs.table.ResvTable.after.Goals as goal

pub returns-clause-behind : goal.returns-clause-behind
returns-clause-behind g c =
    let f = c.args.fact.now in
    let us = held_under f.session c.self.inside.table.facts in
    c.fact_in.ensures ∙ next_said ((f.iface, f.next), c.unit_of.result) us (option_copied c.after.result) c.after.ensures
    ∙ ap (λ (u : UnitOf). option_map (λ (e : Rest × (ResvFact × ℕ)). e.1.0) (slice_get (rows_behind rests ((f.iface, f.next), u) (changed_rows (λ k e. Some (said e)) us)) 0)) c.unit_of.ensures
    ∙ ap (λ es. option_map (λ (e : Rest × (ResvFact × ℕ)). e.1.0) (slice_get (rows_behind rests (resv_key g.S.Style.kind_is f).1 es) 0))
    (rows_said c.self.inside.table.facts c.self.inside.facts _ (ap (λ (m : ResvMap). m.facts) c.self.view_is) f.session)

pub returns-clause-next : goal.returns-clause-next
returns-clause-next g c = λ k is.
    returns-clause-behind g c ∙ next_behind g.S.Style.kind_is c.args.self.now.facts (subst
    (λ (m : ResvMap). AreOfStyle g.S.Style.kind_is m.facts) c.self.view_is c.self.inside.style) c.args.fact.now k is
