use Rattle.std.proofs.Common.{◌≡◌, Some, None, sym, ap, subst, ◌∙◌}
use Rattle.std.specs.FinMap.Entries.{find}
use Rattle.std.specs.Option.{option_copied}
use Rattle.rsvp_base.proofs.Tables.{either}
use Rattle.style_rules.specs.Lines.{LineKey, line_keys}
use Rattle.soft_table.specs.Facts.{facts_by}
use Rattle.resv_state.specs.Resvs.{held_key}
use Rattle.resv_state.specs.Leaving.{held_left}
use Rattle.resv_state.proofs.Left.{no_row, nothing_there, some_there_is, row_stays, row_less, row_gone, left_key, same_left}
use Rattle.resv_state.proofs.leaving.lessen.Goals as goal

pub returns-in_default-clause-facts : goal.returns-in_default-clause-facts
returns-in_default-clause-facts c =
    let k : LineKey = (c.args.session, c.args.rest) in
    no_row c.args.table.now.facts c.requires.rising k c.args.gone.now (nothing_there c.args.table.now.facts c.requires.rising k c.args.gone.now (option_copied c.find.result)
    (ap option_copied c.in_default.is) c.find.ensures)

pub returns-in_default-clause-order : goal.returns-in_default-clause-order
returns-in_default-clause-order c = (c.requires.rising, c.requires.waiting)

pub returns-then-not-has_one-clause-facts : goal.returns-then-not-has_one-clause-facts
returns-then-not-has_one-clause-facts c =
    let k : LineKey = (c.args.session, c.args.rest) in
    let r = some_there_is c.args.table.now.facts c.requires.rising k c.args.gone.now c.in-Some.held.now (sym (ap option_copied c.in-Some.is) ∙ c.find.ensures) in
    row_stays c.args.table.now.facts c.requires.rising k c.args.gone.now c.in-Some.held.now r.0 r.1 (sym c.has_one.ensures ∙ c.if-not-has_one.true) (c.requires.named (c.in-Some.held.now, r.0) r.1)

pub returns-then-not-has_one-clause-order : goal.returns-then-not-has_one-clause-order
returns-then-not-has_one-clause-order c = (c.requires.rising, c.requires.waiting)

pub returns-in-Some-less-clause-facts : goal.returns-in-Some-less-clause-facts
returns-in-Some-less-clause-facts c =
    let fs = c.args.table.now.facts in
    let k : LineKey = (c.args.session, c.args.rest) in
    let h = c.in-Some.held.now in
    let x = c.in-Some-less.left in
    let r = some_there_is fs c.requires.rising k c.args.gone.now h (sym (ap option_copied c.in-Some.is) ∙ c.find.ensures) in
    let is : held_left c.args.gone.now h ≡ Some x = sym c.less.ensures ∙ c.in-Some-less.is in
    let own = left_key fs c.requires.rising k c.args.gone.now h x r.0 r.1 is in
    let same : find line_keys.cmp k (facts_by held_key fs) ≡ find line_keys.cmp (held_key x) (facts_by held_key fs) = ap (λ z. find line_keys.cmp z (facts_by held_key fs)) (sym own) in
    either c.replace.result
    (λ so.
    let t = c.replace.ensures.there so in
    let left = same_left h t.0 r.0 t.1 (sym r.1 ∙ same ∙ t.2) in
    row_less fs c.requires.rising k c.args.gone.now h x t.1 (subst (λ n. find line_keys.cmp k (facts_by held_key fs) ≡ Some (h, n)) left r.1) is _ t.3 own)
    (λ no.
    let z : Some (h, r.0) ≡ None = sym r.1 ∙ same ∙ c.replace.ensures.absent no in
    absurd (cc))

pub returns-in-None-clause-facts : goal.returns-in-None-clause-facts
returns-in-None-clause-facts c =
    let k : LineKey = (c.args.session, c.args.rest) in
    let r = some_there_is c.args.table.now.facts c.requires.rising k c.args.gone.now c.in-Some.held.now (sym (ap option_copied c.in-Some.is) ∙ c.find.ensures) in
    c.remove.ensures.gone ∙ row_gone c.args.table.now.facts c.requires.rising k c.args.gone.now c.in-Some.held.now r.0 r.1 (sym c.less.ensures ∙ c.in-None.is)
