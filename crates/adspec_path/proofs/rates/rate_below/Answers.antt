-- By the lemmas on the largest rate.
use Rattle.std.specs.Prelude.{◌≡◌, ◌-◌, ◌^◌, ℕ, min}
use Rattle.std.proofs.Common.{arith, sym, subst}
use Rattle.adspec_path.specs.RateBelow.{IsRateBelow}
use Rattle.adspec_path.proofs.Largest.{below_of_least, one_below}
use Rattle.adspec_path.proofs.rates.rate_below.Goals as goal

pub returns-clause-largest : goal.returns-clause-largest
returns-clause-largest c =
    let least : c.min.result ≡ min c.args.n (2 ^ 46 - 1) = omega arith in
    let of_least : IsRateBelow (min c.args.n (2 ^ 46 - 1)) c.in-Some.rate =
    subst (λ (z : ℕ). IsRateBelow z c.in-Some.rate) least (subst (IsRateBelow c.min.result) (sym c.in-Some.ensures.value) c.top_bits.ensures) in
    below_of_least c.args.n c.in-Some.rate of_least

pub returns-clause-is : goal.returns-clause-is
returns-clause-is c = one_below c.args.n c.in-Some.rate (returns-clause-largest c)
