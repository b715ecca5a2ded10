use Rattle.std.proofs.Common.{subst}
use Rattle.style_rules.specs.Limits.{IsWithinLimits}
use Rattle.resv_state.specs.Resvs.{ResvMap, AreOfStyle, resv_lines}
use Rattle.resv_state.proofs.table.ResvTable.limits.Goals as goal

pub returns-clause-style : goal.returns-clause-style
returns-clause-style g c = subst (λ (m : ResvMap). AreOfStyle g.S.Style.kind_is m.facts) c.self.view_is c.self.inside.style

pub returns-clause-within : goal.returns-clause-within
returns-clause-within g c = subst (λ (m : ResvMap). IsWithinLimits g.S.Style.kind_is (resv_lines g.S.Style.kind_is m.facts)) c.self.view_is c.self.inside.within
