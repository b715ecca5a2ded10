-- What was not taken has a fault, or memory ran out.
use Rattle.std.proofs.Common.{◌≡◌, ℕ, List, subst}
use Rattle.std.specs.Prelude.{Err}
use Rattle.script_grammar.specs.Asking.{AsksToBeTaken}
use Rattle.script_grammar.specs.Draft.{Draft}
use Rattle.script_grammar.specs.Grammar.{HasFault}
use Rattle.script_run.specs.Checking.{Feeds}
use Rattle.script_grammar.specs.declared.stop.Stop.{Stop}
use Rattle.script_grammar.specs.declared.stop.Stop.TheVariants.{Bad, Crowded, NoMemory}
use Rattle.script_demand.specs.Feeding.{MatchRefused}

pub fed_refused : (d : Draft) (line : List ℕ) (refused : Stop) (new : Draft) → Feeds d line (Err refused) new → MatchRefused (HasFault d line) refused
fed_refused d line (Bad why) new fed = fed.0
fed_refused d line Crowded new fed = absurd fed
fed_refused d line NoMemory new fed = tt

pub fed_same : (d : Draft) (line : List ℕ) (refused : Stop) (new : Draft) → Feeds d line (Err refused) new → MatchRefused (λ why. new ≡ d) refused
fed_same d line (Bad why) new fed = fed.1
fed_same d line Crowded new fed = absurd fed
fed_same d line NoMemory new fed = tt

pub fed_asked : (d : Draft) (line : List ℕ) (refused : Stop) (new : Draft) → Feeds d line (Err refused) new → refused ≡ NoMemory → AsksToBeTaken d line
fed_asked d line refused new fed is = subst (λ (s : Stop). Feeds d line (Err s) new) is fed
