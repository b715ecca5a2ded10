use Rattle.std.proofs.Common.{cond, ap, ◌∙◌}
use Rattle.rsvp_base.specs.Table.{empty, without}
use Rattle.router_state.specs.State.{State}
use Rattle.router_state.specs.Whole.{state_of}
use Rattle.router_arrivals.specs.Coming.{stopped}
use Rattle.router_arrivals.proofs.withdrawal.let_go.Goals as goal

pub returns-clause-state : goal.returns-clause-state
returns-clause-state c =
    let t = c.forget_lost.new.tables in
    let due = c.stop_unless.ensures ∙ ap (λ b. cond b t.due (without t.due c.args.session)) c.is_counted-stays.ensures in
    (λ i. record (state_of t empty) { due = due i }) ∙ ap (λ (z : State). stopped z c.args.session) (c.forget_lost.ensures.state empty)

pub returns-clause-sound : goal.returns-clause-sound
returns-clause-sound c =
    let s = c.forget_lost.ensures.sound in
    record { pulled = record { paths = s.pulled.paths; wild = s.pulled.wild; fixed = s.pulled.fixed; shared = s.pulled.shared }; booked = s.booked; few = s.few }
