-- What is written of packets.
use Rattle.std.specs.Prelude.{◌≡◌, ℕ, List, ◌++◌, codes, length}
use Rattle.std.specs.Fmt.{decimal}
use Rattle.std.specs.List.{flat_map}
use Rattle.load_policer.specs.declared.policer.Verdict.{Verdict}
use Rattle.load_policer.specs.declared.policer.Verdict.TheVariants.{Pass, Over, Big}
use Rattle.load_policer.specs.Drafts.{Draft}

-- a line for each packet
abbrev pub verdict_text : Verdict → List ℕ
verdict_text Pass = codes "pass\n"
verdict_text Over = codes "over\n"
verdict_text Big = codes "big\n"

abbrev pub verdicts_text : List Verdict → List ℕ
verdicts_text verdicts = flat_map verdict_text verdicts

abbrev pub Says : Draft → List ℕ → Type 0
Says d text = text ≡ verdicts_text d.verdicts

-- and one at the end: how many passed, of how many
unfoldable pub count_text : ℕ → ℕ → List ℕ
count_text passed offered = codes "passed " ++ decimal passed ++ codes " of " ++ decimal offered ++ codes "\n"

abbrev pub last_text : Draft → List ℕ
last_text d = count_text (length d.passed) (length d.verdicts)
