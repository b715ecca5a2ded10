use Rattle.std.proofs.Common.{refl, ◌≡◌, ◌+◌, ◌^◌, ◌<◌, ℕ, suc, subst, arith}
use Rattle.std.proofs.lemmas.Nat.{pow_pos}
use Rattle.std.proofs.lemmas.Bool.{le-leb, lt-leb}
use Rattle.rsvp_objects.proofs.Scaled.{left, right, top_below}
use Rattle.rsvp_objects.proofs.rate_word.mantissa_of.Goals as goal

fits : (n j : ℕ) → n < 2 ^ (j + 1) → n < 2 ^ suc j
fits n j h = let e : j + 1 ≡ suc j = omega arith in subst (λ x. n < 2 ^ x) e h

pub overflow_shr-result : goal.overflow_shr-result
overflow_shr-result c = omega (arith, top_below c.args.n c.args.highest c.requires.rate.small c.requires.top)

pub returns-then-highest-le-EXPONENT_AT : goal.returns-then-highest-le-EXPONENT_AT
returns-then-highest-le-EXPONENT_AT c =
    let r = left c.args.n c.args.highest c.requires.top (fits _ _ c.requires.fits) c.if-highest-le-EXPONENT_AT.true in
    record { low = rw r.0 r.1; short = rw r.0 r.2; scaled = rw r.0 r.3; is = rw (r.0, le-leb _ _ c.if-highest-le-EXPONENT_AT.true) refl }

pub returns-else-highest-le-EXPONENT_AT : goal.returns-else-highest-le-EXPONENT_AT
returns-else-highest-le-EXPONENT_AT c =
    let pos : 0 < c.args.n = omega (arith, pow_pos c.args.highest, c.requires.top) in
    let r = right c.args.n c.args.highest pos c.requires.rate c.requires.top (fits _ _ c.requires.fits) (omega arith) in
    record { low = r.0; short = r.1; scaled = r.2; is = rw (lt-leb _ _ c.if-highest-le-EXPONENT_AT.false) refl }
