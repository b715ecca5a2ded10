use Rattle.std.specs.Prelude.{map as each}
use Rattle.std.specs.List.{list_any}
use Rattle.std.proofs.Common.{ap, ◌∙◌}
use Rattle.router_rules.specs.Requests.{is_style}
use Rattle.router_arrivals.proofs.Conflicts.{any_asked}
use Rattle.router_arrivals.proofs.styles.has_wants.Goals as goal

pub returns : goal.returns
returns c = c.any_of.ensures ∙ any_asked c.args.style c.of.result.now ∙ ap (λ es. list_any (λ w. is_style w.style c.args.style) (each (λ e. e.1) es)) c.of.ensures.rows
