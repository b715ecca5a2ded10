use Rattle.std.proofs.Common.{◌≡◌, ◌==◌, drop}
use Rattle.std.specs.List.{list_any}
use Rattle.script_demand.proofs.misfit_lines.is_among.Given as goal

-- it is among the rest, if it is among them
abbrev pub invariant-loop-one : goal.invariant-loop-one
invariant-loop-one l = list_any (λ e. e == l.number) (drop l.one-index l.numbers) ≡ list_any (λ e. e == l.number) l.numbers
