use Rattle.std.proofs.Common.{◌≡◌, ◌+◌, ◌-◌, ◌^◌, ◌<◌, ◌≤◌, ℕ, suc, sym, subst, arith}
use Rattle.std.specs.Int.{leading_zeros, w64}
use Rattle.std.proofs.lemmas.Nat.{leading_top}
use Rattle.rsvp_objects.proofs.rate_word.number_word.Goals as goal

top : (n : ℕ) → 0 < n → n < 2 ^ 46 → (2 ^ (63 - leading_zeros w64 n) ≤ n) × (n < 2 ^ (63 - leading_zeros w64 n + 1))
top n pos below =
    let t = leading_top 64 n pos (omega arith) in
    let e : 63 - leading_zeros w64 n ≡ t.0 = omega (arith, t.1) in
    let f : 63 - leading_zeros w64 n + 1 ≡ suc t.0 = omega (arith, t.1) in
    (subst (λ x. 2 ^ x ≤ n) (sym e) t.2, subst (λ x. n < 2 ^ x) (sym f) t.3)

pub mantissa_of-mantissa-requires-clause-top : goal.mantissa_of-mantissa-requires-clause-top
mantissa_of-mantissa-requires-clause-top c = (top c.args.n c.requires.positive c.requires.rate.small).0

pub mantissa_of-mantissa-requires-clause-fits : goal.mantissa_of-mantissa-requires-clause-fits
mantissa_of-mantissa-requires-clause-fits c = (top c.args.n c.requires.positive c.requires.rate.small).1
