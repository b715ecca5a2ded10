-- What a settled network writes for `flags` is a function of what is asked of it; and at a settled moment its flags are settled.
use Rattle.std.proofs.Common.{ℕ, ◌+◌, ◌*◌, List, arith, sym, ◌∙◌}
use Rattle.calm_rounds.specs.Machine.{run}
use Rattle.calm_rounds.proofs.Holding.{hold_both, hold_later, hold_map}
use Rattle.tree_model.specs.Ranks.{longest}
use Rattle.network_model.specs.Bounds.{AreBounds, IsSettled, IsStart}
use Rattle.network_model.specs.Steps.{Step, machine}
use Rattle.network_model.specs.Worlds.{World}
use Rattle.laws_network.proofs.Keeping.{calm_rounds_keep_bounds}
use Rattle.settle_network.specs.DemandedFlags.{demanded_flags}
use Rattle.settle_network.specs.Flags.{ArePathsPoliced, FlagsAreAFunction, HasSettledFlags}
use Rattle.settle_network.specs.Settled.{HasSettled}
use Rattle.settle_network.proofs.DemandedFlags.{settled_flags_are_demanded}
use Rattle.settle_network.proofs.Police.{paths_are_policed}
use Rattle.settle_network.proofs.Settled.{a_network_settles, at_the_end}

pub flags_are_a_function : FlagsAreAFunction
flags_are_a_function q u v a b same names =
    settled_flags_are_demanded q u a names ∙ (λ j. demanded_flags names (same.net j) (same.locals j)) ∙ sym (settled_flags_are_demanded q v b names)

-- ---- at a settled moment
pub flags_settle : (q : ℕ) (w : World) (ss : List Step) (is : IsSettled q w ss) → IsStart q (run (machine q) is.before w) → HasSettledFlags q (run (machine q) ss w)
flags_settle q w ss is start =
    let o : World = run (machine q) is.before w in
    let k : ℕ = 13 * longest o.net + 13 in
    at_the_end q (HasSettledFlags q) w ss is
    (hold_map (machine q) (λ u. AreBounds q u × (HasSettled q u × ArePathsPoliced u)) (HasSettledFlags q) (λ u h. record { bounds = h.0; settled = h.1.0; policed = h.1.1 }) k is.rounds o
    (hold_both (machine q) (AreBounds q) (λ u. HasSettled q u × ArePathsPoliced u) k is.rounds o
    (hold_later (machine q) (AreBounds q) 0 k is.rounds o (omega arith) (calm_rounds_keep_bounds q o is.rounds is.calm start.bounds))
    (hold_both (machine q) (HasSettled q) ArePathsPoliced k is.rounds o (a_network_settles q o is.rounds is.calm start)
    (hold_later (machine q) ArePathsPoliced 5 k is.rounds o (omega arith) (paths_are_policed q o is.rounds is.calm start.bounds)))))
