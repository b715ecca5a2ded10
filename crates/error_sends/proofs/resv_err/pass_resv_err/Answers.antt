use Rattle.std.proofs.Common.{fold, sym, ap, ◌∙◌, refl}
use Rattle.laws_sends.specs.State.{State, table_in}
use Rattle.error_sends.specs.Going.{errors_told}
use Rattle.rsvp_base.specs.Orders.{sessions}
use Rattle.rsvp_base.specs.Under.{under}
use Rattle.resv_state.specs.Walks.{rests}
use Rattle.error_sends.proofs.Confs.{table_seen}
use Rattle.error_sends.proofs.Errs.{not_taken, taken_sent, was_taken}
use Rattle.error_sends.proofs.resv_err.pass_resv_err.Goals as goal

pub returns-in_default : goal.returns-in_default
returns-in_default g c = λ clock n place paths wild fixed shared heard facts.
    ap (fold g.O.Outbox.posted c.args.out.now) (not_taken clock n c.args.iface c.args.message.now (λ is. c.in_default.not-Taken (heard ∙ sym is)))

pub returns : goal.returns
returns g c = λ clock n place paths wild fixed shared heard facts.
    let m = c.args.message.now in
    let st = m.blame.style in
    let after : State = record n { walls = c.args.tables.now.walls } in
    let here = sym place in
    let t = was_taken clock n c.args.iface m c.args.tables.now.walls facts (sym c.in-Taken.is ∙ heard) in
    c.tell_by_style.ensures n wild fixed shared
    ∙ (λ i. fold g.O.Outbox.posted c.args.out.now (errors_told (here i) c.upstream-up.result m st (under sessions rests (table_in st n) m.session).rows))
    ∙ ap (fold g.O.Outbox.posted c.args.out.now)
    (taken_sent clock n c.args.iface m t.0 t.1 c.args.tables.now.walls t.2 st refl (table_in st n) (table_seen clock n st) c.upstream-up.result
    (c.upstream-up.ensures clock after place paths refl))
