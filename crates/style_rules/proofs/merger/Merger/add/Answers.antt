use Rattle.std.proofs.Common.{sym, ap, ◌∙◌}
use Rattle.rsvp_base.specs.declared.style.Unit.{Unit as UnitOf}
use Rattle.rsvp_base.specs.Table.{get, keys, put_in}
use Rattle.style_rules.specs.Tally.{TallyTable, first_or_with, with_request}
use Rattle.style_rules.proofs.Tallies.{tally_more}
use Rattle.style_rules.proofs.MergerRows.{unit_first, first_named, none_named, with_named, with_nobody}
use Rattle.style_rules.proofs.merger.Merger.add.Goals as goal

pub returns-in-Some-clause-list : goal.returns-in-Some-clause-list
returns-in-Some-clause-list g c = λ rs e.
    let style = g.S.Style.kind_is in
    let part = c.args.part.now in
    let unit = c.unit_of.ensures ∙ g.met.S.Style.unit_by_kind c.in-Some.first ∙ unit_first style (keys part.senders) c.in-Some.first (sym c.in-Some.ensures) in
    c.keep.ensures ∙ ap (λ (u : UnitOf). put_in c.args.self.now u (first_or_with (get c.args.self.now u) part c.args.blockaded)) unit
    ∙ with_named style c.args.self.now part c.args.blockaded (first_named part c.in-Some.first (sym c.in-Some.ensures))
    ∙ ap (λ (t : TallyTable). with_request style t part c.args.blockaded) e ∙ tally_more style rs part c.args.blockaded

pub returns-in_default-clause-list : goal.returns-in_default-clause-list
returns-in_default-clause-list g c = λ rs e.
    let style = g.S.Style.kind_is in
    let part = c.args.part.now in
    with_nobody style c.args.self.now part c.args.blockaded (none_named part (sym c.in_default.ensures))
    ∙ ap (λ (t : TallyTable). with_request style t part c.args.blockaded) e ∙ tally_more style rs part c.args.blockaded
