-- Steps that only write: reports, trace switches, flag reports and reports of what paths offer.
use Rattle.std.specs.Prelude.{◌≡◌, ℕ, ◌≤◌, ◌++◌, Bool, true, false, List, [], ◌∷◌}
use Rattle.calm_rounds.specs.Machine.{run}
use Rattle.network_model.specs.Bounds.{EndsInCalm}
use Rattle.network_model.specs.Steps.{Flags, Report, Step, Trace, machine, Adverts}
use Rattle.network_model.specs.Worlds.{World}
use Rattle.settle_network.specs.Settled.{HasSettled}

abbrev pub only_writes : Step → Bool
only_writes (Trace on) = true
only_writes (Report e) = true
only_writes Flags = true
only_writes Adverts = true
only_writes _ = false

abbrev pub OnlyWrite : List Step → Type 0
OnlyWrite [] = Unit {0}
OnlyWrite (s ∷ ss) = (only_writes s ≡ true) × OnlyWrite ss

-- a moment behind calm rounds stays one, where at least one round is wanted: the steps that write count as the end of the last round
abbrev pub AMomentStaysCalm : Type 0
AMomentStaysCalm =
    (wanted : ℕ → ℕ) → ((long : ℕ) → 1 ≤ wanted long) → (q : ℕ) (w : World) (ss still : List Step) → OnlyWrite still → EndsInCalm wanted q w ss → EndsInCalm wanted q w (ss ++ still)

-- and a settled network stays settled
abbrev pub ANetworkStaysSettled : Type 0
ANetworkStaysSettled = (q : ℕ) (u : World) (still : List Step) → OnlyWrite still → HasSettled q u → HasSettled q (run (machine q) still u)
