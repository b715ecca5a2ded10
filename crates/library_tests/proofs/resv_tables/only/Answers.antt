use Rattle.std.proofs.Common.{ap, ◌∙◌}
use Rattle.rsvp_base.specs.Orders.{Names}
use Rattle.rsvp_base.specs.Table.{put_in}
use Rattle.library_tests.proofs.resv_tables.only.Goals as goal

pub returns : goal.returns
returns c = c.in-Ok.ensures.ok ∙ ap (λ (s : Names). put_in s c.args.name (tt {0})) c.new-names.ensures
