-- Lifetimes in whole milliseconds.
use Rattle.std.proofs.Common.{◌≡◌, ℕ, ◌+◌, ◌*◌, ◌/◌, arith}
use Rattle.script_grammar.specs.Draft.{lifetime_of_period}
use Rattle.script_grammar.specs.Values.{IsPeriod}

pub lifetime_rounded_up : (period : ℕ) → IsPeriod period → lifetime_of_period period ≡ (21 * period + 3) / 4
lifetime_rounded_up period p = omega (arith, p.quarters)
