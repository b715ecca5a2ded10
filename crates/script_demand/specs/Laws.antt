-- The law of findings and demands.
use Rattle.std.specs.Prelude.{◌≡◌, ◌↔◌, ℕ, List, ◌++◌, codes}
use Rattle.script_demand.specs.Demanding.{IsDemandOf}
use Rattle.script_demand.specs.Findings.{IsFindingsOf}

-- a text begins with a misfit
abbrev pub SaysAMisfit : List ℕ → Type 0
SaysAMisfit text = (rest : List ℕ) × (text ≡ codes "misfit: " ++ rest)

-- a text ends in `fits no`
abbrev pub EndsInFitsNo : List ℕ → Type 0
EndsInFitsNo text = (front : List ℕ) × (text ≡ front ++ codes " fits no\n")

-- of one script a misfit is said if and only if its demand ends in `fits no`
abbrev pub AMisfitIsSaidWhereTheDemandDoesNotFit : Type 0
AMisfitIsSaidWhereTheDemandDoesNotFit = (bytes findings demand : List ℕ) → IsFindingsOf bytes findings → IsDemandOf bytes demand → SaysAMisfit findings ↔ EndsInFitsNo demand
