use Rattle.std.proofs.Common.{fold, sym, ◌∙◌}
use Rattle.rsvp_base.specs.Orders.{sessions}
use Rattle.rsvp_base.specs.Under.{under}
use Rattle.rsvp_base.specs.declared.style.StyleKind.TheVariants.{Wild, Fixed, Shared}
use Rattle.resv_state.specs.Walks.{rests}
use Rattle.laws_sends.specs.State.{table_in}
use Rattle.error_sends.specs.Going.{errors_told}
use Rattle.error_sends.proofs.resv_err.tell_by_style.Goals as goal

pub returns-in-Wild : goal.returns-in-Wild
returns-in-Wild g c = λ n wild fixed shared.
    let is = c.in-Wild.is in
    let same = sym wild in
    c.tell_errors.ensures ∙ (λ i. fold g.O.Outbox.posted c.args.out.now (errors_told c.args.tables.now.config c.args.up.now c.args.message.now Wild
    (under sessions rests (same i) c.args.message.now.session).rows))
    ∙ sym (λ i. fold g.O.Outbox.posted c.args.out.now (errors_told c.args.tables.now.config c.args.up.now c.args.message.now (is i)
    (under sessions rests (table_in (is i) n) c.args.message.now.session).rows))

pub returns-in-Fixed : goal.returns-in-Fixed
returns-in-Fixed g c = λ n wild fixed shared.
    let is = c.in-Fixed.is in
    let same = sym fixed in
    c.tell_errors-in-Fixed.ensures ∙ (λ i. fold g.O.Outbox.posted c.args.out.now (errors_told c.args.tables.now.config c.args.up.now c.args.message.now Fixed
    (under sessions rests (same i) c.args.message.now.session).rows))
    ∙ sym (λ i. fold g.O.Outbox.posted c.args.out.now (errors_told c.args.tables.now.config c.args.up.now c.args.message.now (is i)
    (under sessions rests (table_in (is i) n) c.args.message.now.session).rows))

pub returns-in-Shared : goal.returns-in-Shared
returns-in-Shared g c = λ n wild fixed shared.
    let is = c.in-Shared.is in
    let same = sym shared in
    c.tell_errors-in-Shared.ensures ∙ (λ i. fold g.O.Outbox.posted c.args.out.now (errors_told c.args.tables.now.config c.args.up.now c.args.message.now Shared
    (under sessions rests (same i) c.args.message.now.session).rows))
    ∙ sym (λ i. fold g.O.Outbox.posted c.args.out.now (errors_told c.args.tables.now.config c.args.up.now c.args.message.now (is i)
    (under sessions rests (table_in (is i) n) c.args.message.now.session).rows))
