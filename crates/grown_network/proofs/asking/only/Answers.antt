use Rattle.std.proofs.Common.{ap, ◌∙◌}
use Rattle.rsvp_base.specs.Orders.{Names}
use Rattle.rsvp_base.specs.Table.{put_in}
use Rattle.grown_network.proofs.asking.only.Goals as goal

pub returns : goal.returns
returns c = c.in-Ok.ensures.ok ∙ ap (λ (s : Names). put_in s c.args.sender (tt {0})) c.new-names.ensures
