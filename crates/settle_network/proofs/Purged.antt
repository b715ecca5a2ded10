-- Nothing stale is left: where reservations are sound, each book lies below its demand.
use Rattle.std.proofs.Common.{◌≡◌, ℕ, ◌+◌, ◌*◌, List, arith, ap, subst, sym, ◌∙◌}
use Rattle.std.specs.Prelude.{◌++◌}
use Rattle.style_rules.specs.Lines.{AreUnder, BookTable, at_end}
use Rattle.style_rules.proofs.Books.{book_below, held_below, under_at_end}
use Rattle.calm_rounds.specs.Hold.{Hold, Visited}
use Rattle.calm_rounds.specs.Machine.{run}
use Rattle.calm_rounds.specs.Rounds.{Rounds}
use Rattle.calm_rounds.proofs.Holding.{hold_both, hold_end, hold_later, hold_map}
use Rattle.router_rules.specs.Books.{book, lines}
use Rattle.tree_model.specs.Networks.{iface_of, node_of}
use Rattle.tree_model.specs.Ranks.{longest}
use Rattle.tree_model.proofs.Ifaces.{interfaces_are_ends}
use Rattle.network_model.specs.Bounds.{AreBounds, IsPurged, all_of}
use Rattle.network_model.specs.Locals.{locals_of}
use Rattle.network_model.specs.Runs.{Plan, first_world, steps_of_run}
use Rattle.network_model.specs.Sound.{ArePathsSound, AreResvsSound}
use Rattle.network_model.specs.Steps.{Step, machine}
use Rattle.network_model.specs.Worlds.{World}
use Rattle.laws_network.specs.Runs.{IsFitRun}
use Rattle.laws_network.proofs.Keeping.{calm_rounds_keep_bounds}
use Rattle.laws_network.proofs.Runs.{each_world_of_a_run_is_within_bounds}
use Rattle.settle_resvs.specs.GoalByIface.{goal_at}
use Rattle.settle_resvs.proofs.GoalByIface.{book_at}
use Rattle.settle_resvs.proofs.SoundPaths.{paths_are_sound}
use Rattle.settle_resvs.proofs.UnderTheGoal.{sound_under}
use Rattle.settle_resvs.proofs.SoundUnits.{reservations_become_sound}
use Rattle.settle_network.specs.Purged.{AreBooksAtMostDemands, HasNothingStale, IsBookAtMost}
use Rattle.settle_network.proofs.RunsSettle.{joined, visited_at}
use Rattle.settle_network.proofs.Settled.{run_all, run_then}

-- ---- a book lies below its demand
pub books_below : (q : ℕ) (u : World) → AreBounds q u → AreResvsSound u → AreBooksAtMostDemands u
books_below q u bounds resvs e f lt at =
    let n : ℕ = node_of u.net.ends e in
    let i : ℕ = iface_of u.net.ends e in
    let goals = goal_at u.net (locals_of u) n in
    let under : AreUnder (lines f) goals = sound_under u n f (λ st k r h. resvs.facts st n f k r at h) in
    let there = under_at_end i (lines f) goals under in
    let same = book_at u.net bounds.net (locals_of u) n i e ((interfaces_are_ends u.net).end_of_iface e lt) in
    subst (λ (d : BookTable). IsBookAtMost (book f i) d) same
    (record { entries = book_below (at_end i (lines f)) (at_end i goals) there; sum = held_below (at_end i (lines f)) (at_end i goals) there })

-- ---- so many rounds on
pub nothing_stale_is_left : (q : ℕ) (w : World) (rs : List (List Step)) → Rounds (machine q) rs w → AreBounds q w → Hold (machine q) (10 * longest w.net + 9) rs w HasNothingStale
nothing_stale_is_left q w rs calm start =
    let long : ℕ = longest w.net in
    let k : ℕ = (4 + 5 * long) + (5 + 5 * long) in
    let e : k ≡ 10 * long + 9 = omega arith in
    let bounds : Hold (machine q) 0 rs w (AreBounds q) = calm_rounds_keep_bounds q w rs calm start in
    let paths : Hold (machine q) (4 + 5 * long) rs w ArePathsSound = paths_are_sound q w rs calm bounds in
    subst (λ (z : ℕ). Hold (machine q) z rs w HasNothingStale) e
    (hold_map (machine q) (λ u. AreBounds q u × (ArePathsSound u × AreResvsSound u)) HasNothingStale
    (λ u h. record { paths = h.1.0; resvs = h.1.1; books = books_below q u h.0 h.1.1 }) k rs w
    (hold_both (machine q) (AreBounds q) (λ u. ArePathsSound u × AreResvsSound u) k rs w (hold_later (machine q) (AreBounds q) 0 k rs w (omega arith) bounds)
    (hold_both (machine q) ArePathsSound AreResvsSound k rs w (hold_later (machine q) ArePathsSound (4 + 5 * long) k rs w (omega arith) paths) (reservations_become_sound q w rs calm bounds))))

pub a_purged_moment : (q : ℕ) (w : World) (ss : List Step) (is : IsPurged q w ss) → AreBounds q (run (machine q) is.before w) → HasNothingStale (run (machine q) ss w)
a_purged_moment q w ss is start =
    let o : World = run (machine q) is.before w in
    let clean = hold_end (machine q) HasNothingStale (10 * longest o.net + 9) is.rounds o is.enough (nothing_stale_is_left q o is.rounds is.calm start) in
    subst HasNothingStale (sym (ap (λ (z : List Step). run (machine q) z w) is.parts ∙ run_then q is.before (all_of is.rounds) w ∙ run_all q is.rounds o)) clean

pub a_run_is_purged : (p : Plan) → IsFitRun p → (ss ts : List Step) → steps_of_run p ≡ ss ++ ts → IsPurged p.quarter (first_world p) ss → HasNothingStale (run (machine p.quarter) ss (first_world p))
a_run_is_purged p fit ss ts front is =
    let parts : steps_of_run p ≡ is.before ++ (all_of is.rounds ++ ts) = front ∙ ap (λ (z : List Step). z ++ ts) is.parts ∙ joined is.before (all_of is.rounds) ts in
    a_purged_moment p.quarter (first_world p) ss is
    (visited_at p.quarter (AreBounds p.quarter) is.before (all_of is.rounds ++ ts) (first_world p)
    (subst (λ (z : List Step). Visited (machine p.quarter) (AreBounds p.quarter) z (first_world p)) parts (each_world_of_a_run_is_within_bounds p fit)))
