-- Lines and the ways that they stand for.
use Rattle.std.specs.Prelude.{◌≡◌, List, [], ◌∷◌, map as each, refl}
use Rattle.std.proofs.Common.{ap}
use Rattle.style_rules.specs.declared.wall.UpLine.{UpLine}
use Rattle.style_rules.specs.Ways.{way_of, up_line_of}

pub lines_again : (xs : List UpLine) → xs ≡ each up_line_of (each way_of xs)
lines_again [] = refl
lines_again (x ∷ xs) = ap (λ zs. x ∷ zs) (lines_again xs)
