use Rattle.std.proofs.Common.{◌+◌, ◌*◌, ◌^◌, ◌<◌, ◌≤◌, ℕ, false, sym, subst, refl, arith}
use Rattle.std.proofs.lemmas.Nat.{shl_whole, shl_below}
use Rattle.std.proofs.lemmas.Bool.{both_ways}
use Rattle.std.proofs.Math.Nat.{pow-le-pow_right}
use Rattle.rsvp_base.specs.Rates.{IsRate}
use Rattle.rsvp_objects.proofs.Scaled.{rate_of_product}
use Rattle.rsvp_objects.proofs.rate_word.moved_up.Goals as goal

pub unreachable-requires : goal.unreachable-requires
unreachable-requires c =
    let m = c.args.mantissa in
    let k = c.args.up in
    let room : 24 + k ≤ 46 = omega arith in
    let wide : 24 + k ≤ 64 = omega arith in
    let two : 0 < 2 = omega arith in
    let e = shl_whole m 24 k 64 c.requires.short wide in
    let below : m * 2 ^ k < 2 ^ 46 = omega (arith, shl_below m 24 k c.requires.short, pow-le-pow_right two room) in
    let P : ℕ → Type 0 = λ n. IsRate n in
    both_ways false refl (c.in-None.ensures.some.1 (subst P (sym e) (rate_of_product m k c.requires.short below)))
