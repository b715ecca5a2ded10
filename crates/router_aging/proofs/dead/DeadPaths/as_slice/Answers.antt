use Rattle.std.proofs.Common.{sym, ap, ◌∙◌, map as each}
use Rattle.rsvp_base.specs.Table.{keys}
use Rattle.rsvp_base.proofs.Filters.{each_each}
use Rattle.router_aging.specs.Passing.{dead_key, dead_row}
use Rattle.router_aging.proofs.dead.DeadPaths.as_slice.Goals as goal

pub returns-clause-keys : goal.returns-clause-keys
returns-clause-keys c = ap (each dead_key) c.as_slice.ensures.value ∙ sym (each_each dead_row (λ e. e.0) c.self.inside.rows.items) ∙ ap keys c.self.view_is
