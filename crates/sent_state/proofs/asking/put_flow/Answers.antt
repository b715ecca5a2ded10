use Rattle.std.proofs.Common.{sym, ap, ◌∙◌}
use Rattle.std.specs.Prelude.{Option}
use Rattle.rsvp_base.specs.Table.{put_in}
use Rattle.rsvp_messages.specs.FlowTable.{FlowTable}
use Rattle.sent_state.specs.Listed.{flows_in}
use Rattle.sent_state.proofs.asking.put_flow.Goals as goal

pub returns-in-None : goal.returns-in-None
returns-in-None c = c.new.ensures ∙ ap (λ (w : Option FlowTable). put_in (flows_in w) c.args.name c.args.flow) (sym c.in-None.is)
