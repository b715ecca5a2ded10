use Rattle.std.proofs.Common.{fold, sym, ◌∙◌}
use Rattle.rsvp_base.specs.Orders.{sessions}
use Rattle.rsvp_base.specs.Under.{under}
use Rattle.rsvp_base.specs.declared.style.StyleKind.TheVariants.{Wild, Fixed, Shared}
use Rattle.rsvp_messages.specs.Units.{ask_style}
use Rattle.resv_state.specs.Walks.{rests}
use Rattle.laws_sends.specs.State.{table_in}
use Rattle.error_sends.specs.Going.{are_some, confs_told}
use Rattle.error_sends.proofs.resv_conf.tell_by_style.Goals as goal

pub returns-in-Wild-clause-sent : goal.returns-in-Wild-clause-sent
returns-in-Wild-clause-sent g c = λ n wild fixed shared.
    let is = c.in-Wild.is in
    let same = sym wild in
    c.tell_confs.ensures.sent ∙ (λ i. fold g.O.Outbox.posted c.args.out.now (confs_told c.args.message.now Wild (under sessions rests (same i) c.args.message.now.session).rows))
    ∙ sym (λ i. fold g.O.Outbox.posted c.args.out.now (confs_told c.args.message.now (ask_style (is i)) (under sessions rests (table_in (ask_style (is i)) n) c.args.message.now.session).rows))

pub returns-in-Wild-clause-some : goal.returns-in-Wild-clause-some
returns-in-Wild-clause-some g c = λ n wild fixed shared.
    let is = c.in-Wild.is in
    let same = sym wild in
    c.tell_confs.ensures.some ∙ (λ i. are_some (confs_told c.args.message.now Wild (under sessions rests (same i) c.args.message.now.session).rows))
    ∙ sym (λ i. are_some (confs_told c.args.message.now (ask_style (is i)) (under sessions rests (table_in (ask_style (is i)) n) c.args.message.now.session).rows))

pub returns-in-Fixed-clause-sent : goal.returns-in-Fixed-clause-sent
returns-in-Fixed-clause-sent g c = λ n wild fixed shared.
    let is = c.in-Fixed.is in
    let same = sym fixed in
    c.tell_confs-in-Fixed.ensures.sent ∙ (λ i. fold g.O.Outbox.posted c.args.out.now (confs_told c.args.message.now Fixed (under sessions rests (same i) c.args.message.now.session).rows))
    ∙ sym (λ i. fold g.O.Outbox.posted c.args.out.now (confs_told c.args.message.now (ask_style (is i)) (under sessions rests (table_in (ask_style (is i)) n) c.args.message.now.session).rows))

pub returns-in-Fixed-clause-some : goal.returns-in-Fixed-clause-some
returns-in-Fixed-clause-some g c = λ n wild fixed shared.
    let is = c.in-Fixed.is in
    let same = sym fixed in
    c.tell_confs-in-Fixed.ensures.some ∙ (λ i. are_some (confs_told c.args.message.now Fixed (under sessions rests (same i) c.args.message.now.session).rows))
    ∙ sym (λ i. are_some (confs_told c.args.message.now (ask_style (is i)) (under sessions rests (table_in (ask_style (is i)) n) c.args.message.now.session).rows))

pub returns-in-Shared-clause-sent : goal.returns-in-Shared-clause-sent
returns-in-Shared-clause-sent g c = λ n wild fixed shared.
    let is = c.in-Shared.is in
    let same = sym shared in
    c.tell_confs-in-Shared.ensures.sent ∙ (λ i. fold g.O.Outbox.posted c.args.out.now (confs_told c.args.message.now Shared (under sessions rests (same i) c.args.message.now.session).rows))
    ∙ sym (λ i. fold g.O.Outbox.posted c.args.out.now (confs_told c.args.message.now (ask_style (is i)) (under sessions rests (table_in (ask_style (is i)) n) c.args.message.now.session).rows))

pub returns-in-Shared-clause-some : goal.returns-in-Shared-clause-some
returns-in-Shared-clause-some g c = λ n wild fixed shared.
    let is = c.in-Shared.is in
    let same = sym shared in
    c.tell_confs-in-Shared.ensures.some ∙ (λ i. are_some (confs_told c.args.message.now Shared (under sessions rests (same i) c.args.message.now.session).rows))
    ∙ sym (λ i. are_some (confs_told c.args.message.now (ask_style (is i)) (under sessions rests (table_in (ask_style (is i)) n) c.args.message.now.session).rows))
