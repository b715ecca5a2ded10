-- The bytes of a source that are known.
use Rattle.std.proofs.Common.{◌≡◌, ℕ, ◌≤◌, List, Option, None, Some, length, sym, ap, ◌∙◌, arith, length-append}
use Rattle.std.specs.Io.KnownBytes.{Consumes}
use Rattle.byte_streams.specs.Lines.{all_bytes}

-- they are those that were taken, and those that are left
pub all_known : (old new : Option (List ℕ)) (bytes taken : List ℕ) → old ≡ Some bytes → Consumes old new taken → (all_bytes taken new ≡ bytes) × (length taken ≤ length bytes)
all_known None new bytes taken e t = absurd (cc)
all_known (Some xs) None bytes taken e t = absurd t
all_known (Some xs) (Some ys) bytes taken e t =
    let same : xs ≡ bytes = cc in
    (sym t ∙ same, omega (arith, ap (λ (l : List ℕ). length l) (sym same ∙ t), length-append taken ys))
