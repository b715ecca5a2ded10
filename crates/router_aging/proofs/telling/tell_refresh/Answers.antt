use Rattle.std.proofs.Common.{ap, ◌∙◌}
use Rattle.std.specs.Prelude.{fold}
use Rattle.router_aging.proofs.Offers.{refreshed_same}
use Rattle.router_aging.proofs.telling.tell_refresh.Goals as goal

pub returns : goal.returns
returns g c = λ clock n place own paths. c.tell_session.ensures ∙ ap (fold g.O.Outbox.posted c.args.out.now) (refreshed_same clock n place own paths c.args.session)
