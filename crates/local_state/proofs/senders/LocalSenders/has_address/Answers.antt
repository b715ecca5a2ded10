use Rattle.std.proofs.Common.{ap, ◌∙◌, map as each}
use Rattle.std.specs.List.{list_any}
use Rattle.router_rules.specs.NodeConfig.{is_addr}
use Rattle.local_state.proofs.Held.{any_named}
use Rattle.local_state.proofs.senders.LocalSenders.has_address.Goals as goal

pub returns : goal.returns
returns c = c.any_of_address.ensures ∙ any_named c.args.addr c.of.result.now ∙ ap (λ es. list_any (λ x. is_addr x.addr c.args.addr) (each (λ e. e.0) es)) c.of.ensures.rows
