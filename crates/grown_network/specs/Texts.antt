-- The text of a summary, line by line.
use Rattle.std.specs.Prelude.{ℕ, Bool, List, ◌++◌, codes}
use Rattle.std.specs.Fmt.{decimal}
use Rattle.network_model.specs.DemandTexts.{yes_or_no}
use Rattle.grown_network.specs.declared.summary.Summary.{Summary}

unfoldable pub seed_line : ℕ → List ℕ
seed_line seed = codes "seed " ++ decimal seed ++ codes "\n"

unfoldable pub network_line : ℕ → ℕ → ℕ → List ℕ
network_line nodes hops longest = codes "nodes " ++ decimal nodes ++ codes " hops " ++ decimal hops ++ codes " longest " ++ decimal longest ++ codes "\n"

unfoldable pub rounds_line : ℕ → ℕ → List ℕ
rounds_line rounds delivered = codes "rounds " ++ decimal rounds ++ codes " delivered " ++ decimal delivered ++ codes "\n"

unfoldable pub counts_text : ℕ → ℕ → List ℕ
counts_text ends entries = codes "booked ends " ++ decimal ends ++ codes " entries " ++ decimal entries

unfoldable pub booked_line : ℕ → ℕ → ℕ → List ℕ
booked_line ends entries held = counts_text ends entries ++ codes " held " ++ decimal held ++ codes "\n"

-- the last line: equal yes, or no
abbrev pub equal_line : Bool → List ℕ
equal_line equal = codes "equal " ++ yes_or_no equal ++ codes "\n"

abbrev pub summary_text : Summary → List ℕ
summary_text s = seed_line s.seed ++ (network_line s.nodes s.hops s.longest ++ (rounds_line s.rounds s.delivered ++ (booked_line s.booked.ends s.booked.entries s.booked.held ++ equal_line s.equal)))
