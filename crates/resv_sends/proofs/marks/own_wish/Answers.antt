use Rattle.std.proofs.Common.{sym, ◌∙◌}
use Rattle.std.proofs.lemmas.Bool.{both_ways}
use Rattle.rsvp_base.specs.Table.{keys}
use Rattle.resv_sends.proofs.Marked.{few_keys, no_keys, wish_none, wish_some}
use Rattle.resv_sends.proofs.marks.own_wish.Goals as goal

pub returns-then-is_empty : goal.returns-then-is_empty
returns-then-is_empty c = λ clock said.
    wish_none clock c.args.tables.now said c.args.session c.args.hop c.args.style (sym (no_keys c.marked_units.result (c.is_empty.ensures.0 c.if-is_empty.true)) ∙ c.marked_units.ensures clock said)

pub returns : goal.returns
returns c = λ clock said.
    wish_some clock c.args.tables.now said c.args.session c.args.hop c.args.style (keys c.marked_units.result) (c.marked_units.ensures clock said)
    (λ none. both_ways _ c.if-is_empty.false (c.is_empty.ensures.1 (few_keys c.marked_units.result none))) c.own.result c.own.ensures
