use Rattle.std.proofs.Common.{ap, ◌∙◌, map as each}
use Rattle.std.specs.List.{list_any}
use Rattle.rsvp_base.specs.Table.{has}
use Rattle.error_sends.proofs.Named.{any_named}
use Rattle.error_sends.proofs.confirm.lists_one.Goals as goal

pub returns : goal.returns
returns c = c.any_listed.ensures ∙ any_named (has c.args.senders.now) c.as_slice.result.now ∙ ap (λ es. list_any (has c.args.senders.now) (each (λ e. e.0) es)) c.as_slice.ensures.rows
