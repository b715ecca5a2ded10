use Rattle.std.proofs.Common.{ap, ◌∙◌, map as each}
use Rattle.std.specs.Prelude.{not}
use Rattle.std.specs.List.{list_any}
use Rattle.router_rules.specs.Requests.{is_style}
use Rattle.local_state.proofs.Owned.{any_asked}
use Rattle.local_state.proofs.wants.LocalWants.has_other.Goals as goal

pub returns : goal.returns
returns c = c.any_of_other.ensures ∙ any_asked c.args.style c.of.result.now ∙ ap (λ es. list_any (λ w. not (is_style w.style c.args.style)) (each (λ e. e.1) es)) c.of.ensures.rows
