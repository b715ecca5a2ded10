-- A reservation over a hop never dies, and stands after two windows, where of any three successive Resvs one arrives in time.
use Rattle.std.proofs.Common.{ℕ, ◌*◌, List, arith}
use Rattle.rsvp_base.specs.declared.part.Part.{Part}
use Rattle.rsvp_base.specs.Members.{In}
use Rattle.calm_rounds.specs.Hold.{Visited, Hold}
use Rattle.calm_rounds.specs.Rounds.{AreQuiet}
use Rattle.calm_rounds.specs.SoftStates.{Good, Stands}
use Rattle.calm_rounds.proofs.Holding.{visited_map, visited_both, visited_keep, hold_map, hold_both}
use Rattle.calm_rounds.specs.Pace.{PaceLaws}
use Rattle.calm_rounds.specs.Windows.{Windows, joined}
use Rattle.calm_rounds.proofs.Renewed.{never_dies}
use Rattle.calm_rounds.proofs.Windows.{windows_keep, kept_in_two}
use Rattle.tree_model.specs.Networks.{node_of}
use Rattle.tree_model.specs.Trees.{hops_of}
use Rattle.tree_model.specs.Valid.{IsValid}
use Rattle.network_model.specs.Bounds.{AreBounds}
use Rattle.network_model.specs.Steps.{Step, machine}
use Rattle.network_model.specs.Worlds.{World}
use Rattle.network_model.proofs.Machines.{quiet_of, time_passes, items_are_numbered}
use Rattle.laws_network.specs.Known.{IsKnown}
use Rattle.settle_resvs.specs.Said.{HopKey, hop_over, IsSaid, resv_key}
use Rattle.settle_resvs.specs.SoftResvs.{soft_resv}
use Rattle.settle_resvs.proofs.Said.{AreFull, full_step, IsFirm, line, good, moves, falls_due}
use Rattle.settle_loss.specs.RefreshedResvs.{IsResvRefreshed, DoesResvLast, AreResvsFull}
use Rattle.settle_loss.proofs.KnownWorlds.{known_visited}
use Rattle.settle_loss.proofs.Pace.{due_paces}
use Rattle.settle_loss.proofs.WindowPaths.{known_windows}

resv_paces : (q : ℕ) (o : World) (k : HopKey) (valid : IsValid o.net) (there : In (hop_over k) (hops_of o.net.hops k.session.group)) (v : Part) (b : ℕ)
    → PaceLaws (machine q) (line q o k valid there v b)
resv_paces q o k valid there v b = record {
  pace = λ s u t t' calm a a' e e'. due_paces q s u (node_of o.net.ends k.from) k.session t t' (quiet_of q s calm) a.known.bounds e e';
}

pub a_reservation_never_dies : (q : ℕ) (w : World) (k : HopKey) (v : Part) → In (hop_over k) (hops_of w.net.hops k.session.group) → (ss : List Step) → AreQuiet (machine q) ss → AreBounds q w
    → AreResvsFull q w → DoesResvLast q w k v → IsResvRefreshed q w.net k ss w → Visited (machine q) (IsSaid q w.net k v 0) ss w
    → Visited (machine q) (Stands (machine q) (soft_resv q w (resv_key w.net k)) v) ss w
a_reservation_never_dies q w k v there ss quiet bounds full lasts refreshed said =
    let valid : IsValid w.net = bounds.net in
    let known = known_visited q w ss quiet bounds in
    let all_full : Visited (machine q) (AreFull q 0) ss w =
    visited_keep (machine q) (IsKnown q w) (AreFull q 0) (λ s u c a a' j. full_step q 0 s u (quiet_of q s c) a.bounds j) ss w quiet known
    (λ y m i born spelt. full y m i spelt) in
    let firm : Visited (machine q) (IsFirm q w k valid there v 0) ss w =
    visited_map (machine q) (λ u. (IsKnown q w u × IsSaid q w.net k v 0 u) × AreFull q 0 u) (IsFirm q w k valid there v 0)
    (λ u g. record { known = g.0.0; said = g.0.1; full = g.1 }) ss w
    (visited_both (machine q) (λ u. IsKnown q w u × IsSaid q w.net k v 0 u) (AreFull q 0) ss w
    (visited_both (machine q) (IsKnown q w) (IsSaid q w.net k v 0) ss w known said) all_full) in
    never_dies (machine q) (time_passes q) (items_are_numbered q) (line q w k valid there v 0) (falls_due q w k valid there v 0)
    (resv_paces q w k valid there v 0) v 0 (moves q w k valid there v 0)
    (3 * q) 2 (omega arith) ss w quiet refreshed (omega arith) (λ y i. omega arith)
    (visited_map (machine q) (IsFirm q w k valid there v 0) (Good (machine q) (line q w k valid there v 0) v 0) (λ u g. good q w k valid there v 0 u g) ss w firm)
    lasts.dies lasts.kept lasts.moment lasts.due (omega (arith, lasts.long))

pub said_resvs_are_kept_in_windows : (q : ℕ) (w : World) (k : HopKey) (v : Part) → In (hop_over k) (hops_of w.net.hops k.session.group) → (rs : List (List Step)) → Windows (machine q) rs w
    → AreBounds q w → IsResvRefreshed q w.net k (joined rs) w → Hold (machine q) 0 rs w (IsSaid q w.net k v w.made)
    → Hold (machine q) 2 rs w (Stands (machine q) (soft_resv q w (resv_key w.net k)) v)
said_resvs_are_kept_in_windows q w k v there rs ws bounds refreshed said =
    let valid : IsValid w.net = bounds.net in
    let known = known_windows q w rs ws bounds in
    let full : Hold (machine q) 0 rs w (AreFull q w.made) =
    windows_keep (machine q) (IsKnown q w) (AreFull q w.made) (λ s u c a a' j. full_step q w.made s u (quiet_of q s c) a.bounds j) rs w ws known
    (λ y m i born spelt. let old = (bounds.flight y i).born in absurd (omega (arith, born, old))) in
    let firm : Hold (machine q) 0 rs w (IsFirm q w k valid there v w.made) =
    hold_map (machine q) (λ u. (IsKnown q w u × IsSaid q w.net k v w.made u) × AreFull q w.made u) (IsFirm q w k valid there v w.made)
    (λ u g. record { known = g.0.0; said = g.0.1; full = g.1 }) 0 rs w
    (hold_both (machine q) (λ u. IsKnown q w u × IsSaid q w.net k v w.made u) (AreFull q w.made) 0 rs w
    (hold_both (machine q) (IsKnown q w) (IsSaid q w.net k v w.made) 0 rs w known said) full) in
    kept_in_two (machine q) (time_passes q) (items_are_numbered q) (line q w k valid there v w.made) (falls_due q w k valid there v w.made)
    (resv_paces q w k valid there v w.made) v rs w ws refreshed
    (moves q w k valid there v w.made)
    (hold_map (machine q) (IsFirm q w k valid there v w.made) (Good (machine q) (line q w k valid there v w.made) v w.made) (λ u g. good q w k valid there v w.made u g) 0 rs w firm)
