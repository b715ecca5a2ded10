use Rattle.std.proofs.Common.{sym, ap, ◌∙◌}
use Rattle.std.specs.Option.{option_map}
use Rattle.rsvp_base.specs.Orders.{sessions}
use Rattle.rsvp_base.specs.Under.{under}
use Rattle.resv_state.specs.declared.fact.Held.{Held}
use Rattle.resv_state.specs.Resvs.{ResvMap, held_key}
use Rattle.resv_state.specs.Walks.{rests}
use Rattle.resv_state.proofs.Facts.{rows_said}
use Rattle.resv_state.proofs.Forgets.{behind_told}
use Rattle.resv_state.proofs.table.ResvTable.next_rest.Goals as goal

pub returns : goal.returns
returns g c =
    c.rest_of.ensures ∙ ap (option_map (λ (h : Held). (held_key h).1)) c.after.ensures
    ∙ behind_told c.self.inside.table.facts c.self.inside.facts c.args.session c.args.rest (under sessions rests c.args.self.now.facts c.args.session)
    (sym (rows_said c.self.inside.table.facts c.self.inside.facts _ (ap (λ (m : ResvMap). m.facts) c.self.view_is) c.args.session))
