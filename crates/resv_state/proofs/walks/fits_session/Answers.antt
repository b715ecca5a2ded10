use Rattle.std.proofs.Common.{sym, ◌∙◌}
use Rattle.std.specs.Prelude.{slice_get}
use Rattle.rsvp_base.specs.Table.{size}
use Rattle.soft_table.specs.Facts.{sessions_in}
use Rattle.resv_state.specs.Resvs.{held_key}
use Rattle.resv_state.specs.Walks.{held_under}
use Rattle.resv_state.proofs.Units.{first_full, known, fresh}
use Rattle.soft_table.proofs.Told.{some_copied}
use Rattle.resv_state.proofs.walks.fits_session.Goals as goal

pub returns-then-is_some : goal.returns-then-is_some
returns-then-is_some c =
    let us = held_under c.args.session c.args.table.now.facts in
    known _ (size (sessions_in held_key c.args.table.now.facts)) 32 (sym (first_full us) ∙ some_copied (λ e. e.1.0) c.at.result (slice_get us 0) c.at.ensures ∙ sym c.is_some.ensures
    ∙ c.if-is_some.true) c.requires

pub returns : goal.returns
returns c =
    let us = held_under c.args.session c.args.table.now.facts in
    fresh _ (size (sessions_in held_key c.args.table.now.facts)) c.sessions.result 32 (sym (first_full us) ∙ some_copied (λ e. e.1.0) c.at.result (slice_get us 0) c.at.ensures ∙ sym c.is_some.ensures
    ∙ c.if-is_some.false) c.sessions.ensures
