use Rattle.std.proofs.Common.{ap, subst}
use Rattle.path_state.specs.Paths.{AreByKey, PathMap}
use Rattle.path_state.proofs.ByKey.{by_key}
use Rattle.path_state.proofs.table.PathTable.limits.Goals as goal

pub returns-clause-keyed : goal.returns-clause-keyed
returns-clause-keyed c = subst AreByKey (ap (λ (m : PathMap). m.facts) c.self.view_is) (by_key c.self.inside.table.facts)
