-- What is left over at a node, as the node keeps it.
use Rattle.std.specs.Prelude.{ℕ, ◌==◌, List, [], ◌∷◌, map as each}
use Rattle.std.specs.List.{filter}
use Rattle.router_examples.specs.RouterRules.Calls.{with_left}
use Rattle.router_examples.specs.RouterRules.Facts.{Facts, no_facts}
use Rattle.router_examples.specs.RouterRules.Inputs.{Stale}

abbrev pub stale_at : ℕ → List (ℕ × Stale) → List Stale
stale_at node stale = each (λ s. s.1) (filter (λ s. s.0 == node) stale)

abbrev pub facts_with_all : List Stale → Facts → Facts
facts_with_all [] f = f
facts_with_all (s ∷ ss) f = facts_with_all ss (with_left s f)

abbrev pub facts_at : List (ℕ × Stale) → ℕ → Facts
facts_at stale node = facts_with_all (stale_at node stale) no_facts
