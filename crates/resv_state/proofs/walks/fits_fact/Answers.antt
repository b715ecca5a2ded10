use Rattle.std.proofs.Common.{length, sym, ◌∙◌}
use Rattle.std.specs.FinMap.Entries.{find}
use Rattle.style_rules.specs.Lines.{line_keys}
use Rattle.soft_table.specs.Facts.{facts_by}
use Rattle.resv_state.specs.Resvs.{held_key}
use Rattle.resv_state.proofs.Units.{known, fresh}
use Rattle.soft_table.proofs.Told.{some_copied}
use Rattle.resv_state.proofs.walks.fits_fact.Goals as goal

pub returns-then-is_some : goal.returns-then-is_some
returns-then-is_some c =
    known _ (length c.args.table.now.facts) 1024 (some_copied (λ e. e.0) c.find.result (find line_keys.cmp (c.args.session, c.args.key.now) (facts_by held_key c.args.table.now.facts)) c.find.ensures
    ∙ sym c.is_some.ensures ∙ c.if-is_some.true) c.requires.few

pub returns : goal.returns
returns c =
    fresh _ (length c.args.table.now.facts) c.len.result 1024 (some_copied (λ e. e.0) c.find.result
    (find line_keys.cmp (c.args.session, c.args.key.now) (facts_by held_key c.args.table.now.facts)) c.find.ensures ∙ sym c.is_some.ensures ∙ c.if-is_some.false) c.len.ensures
