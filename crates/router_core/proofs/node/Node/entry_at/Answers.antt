use Rattle.std.specs.Prelude.{◌≤◌, length, slice_get}
use Rattle.std.proofs.Common.{sym, ap, subst, ◌∙◌}
use Rattle.router_rules.specs.Facts.{Facts}
use Rattle.router_rules.specs.Flags.{entries_of}
use Rattle.router_state.specs.State.{State, facts_at}
use Rattle.router_state.specs.Whole.{state_of}
use Rattle.router_core.proofs.Booking.{front_is}
use Rattle.router_core.proofs.node.Node.entry_at.Goals as goal

pub returns-clause-entry : goal.returns-clause-entry
returns-clause-entry c = λ clock.
    let n = state_of c.self.inside.tables c.self.inside.said in
    c.entry_at.ensures.entry clock c.self.inside.said (record { at = c.self.inside.sound.booked clock })
    ∙ ap (λ (f : Facts). slice_get (entries_of n.place f c.args.iface) c.args.k) (sym (front_is clock n))
    ∙ ap (λ (z : State). slice_get (entries_of z.place (facts_at clock z) c.args.iface) c.args.k) c.self.view_is

pub returns-clause-few : goal.returns-clause-few
returns-clause-few c = λ clock.
    let n = state_of c.self.inside.tables c.self.inside.said in
    subst (λ (z : State). length (entries_of z.place (facts_at clock z) c.args.iface) ≤ 3072) c.self.view_is
    (subst (λ (f : Facts). length (entries_of n.place f c.args.iface) ≤ 3072) (sym (front_is clock n)) (c.entry_at.ensures.few clock c.self.inside.said))
