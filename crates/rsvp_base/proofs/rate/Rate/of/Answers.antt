use Rattle.std.proofs.Common.{◌<◌, ◌^◌, refl, arith}
use Rattle.rsvp_base.proofs.RateBits.{near_of_ends, ends_of_near}
use Rattle.rsvp_base.proofs.rate.Rate.of.Goals as goal

pub returns-then-highest-lowest-clause-some : goal.returns-then-highest-lowest-clause-some
returns-then-highest-lowest-clause-some c =
    let some : 0 < c.args.n = omega arith in
    let fits : c.args.n < 2 ^ 64 = omega arith in
    (λ n. cc, λ is. absurd (omega (arith, ends_of_near c.args.n some fits is.near)))

pub invariant_of-result-2 : goal.invariant_of-result-2
invariant_of-result-2 c =
    let some : 0 < c.args.n = omega arith in
    let fits : c.args.n < 2 ^ 64 = omega arith in
    record { small = omega arith; near = near_of_ends c.args.n some fits c.if-highest-lowest.false }

pub returns-clause-some : goal.returns-clause-some
returns-clause-some c = (λ n. invariant_of-result-2 c, λ is. refl)
