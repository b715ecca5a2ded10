use Rattle.std.proofs.Common.{false, ◌∙◌}
use Rattle.router_arrivals.proofs.telling.tell_refusal.Goals as goal

pub returns : goal.returns
returns g c = λ clock. c.post.ensures
    ∙ (λ i. g.O.Outbox.posted c.args.out.now (record { iface = c.args.iface; dst = c.args.message.now.hop.addr; message = c.error_of-error.ensures clock i; refresh = false }))
