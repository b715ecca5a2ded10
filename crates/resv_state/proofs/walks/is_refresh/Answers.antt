use Rattle.std.proofs.Common.{sym, ap, subst, ◌∙◌}
use Rattle.std.specs.FinMap.Entries.{find}
use Rattle.std.specs.Option.{option_copied}
use Rattle.rsvp_base.specs.Sets.{IsWithin}
use Rattle.style_rules.specs.Lines.{line_keys}
use Rattle.soft_table.specs.Facts.{facts_by}
use Rattle.resv_state.specs.declared.fact.Held.{Held}
use Rattle.resv_state.specs.Resvs.{held_key}
use Rattle.resv_state.proofs.Refresh.{held_by}
use Rattle.resv_state.proofs.walks.is_refresh.Goals as goal

pub returns-in-Some : goal.returns-in-Some
returns-in-Some c = λ yes.
    let e = held_by (find line_keys.cmp (c.args.session, c.args.key.now) (facts_by held_key c.args.table.now.facts)) c.in-Some.held.now (sym c.find.ensures ∙ ap option_copied c.in-Some.is) in
    (e.0, e.1, subst (λ (h : Held). IsWithin c.args.senders.now h.fact.part.senders) (sym e.2) (c.is_within.ensures.0 yes))
