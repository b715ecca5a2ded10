use Rattle.std.proofs.Common.{sym, ap, ◌∙◌}
use Rattle.style_rules.specs.Lines.{held}
use Rattle.router_rules.specs.Books.{book}
use Rattle.router_rules.specs.Facts.{Facts}
use Rattle.router_state.specs.State.{State, facts_at, facts_of}
use Rattle.router_state.specs.Whole.{state_of}
use Rattle.router_core.proofs.Booking.{front_is, held_is}
use Rattle.router_core.proofs.node.Node.held.Goals as goal

pub returns : goal.returns
returns c = λ clock.
    let n = state_of c.self.inside.tables c.self.inside.said in
    c.held.ensures.sum
    ∙ held_is (facts_of clock n) c.self.inside.tables.book.entries (record { at = c.self.inside.sound.booked clock }) c.args.iface
    ∙ ap (λ (f : Facts). held (book f c.args.iface)) (sym (front_is clock n))
    ∙ ap (λ (z : State). held (book (facts_at clock z) c.args.iface)) c.self.view_is
