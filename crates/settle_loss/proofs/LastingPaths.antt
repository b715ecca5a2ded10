-- Paths never die, where of any three successive Paths over a hop one arrives in time.
use Rattle.std.proofs.Common.{◌≡◌, ℕ, zero, suc, ◌*◌, ◌≤◌, List, true, ⊎_elim, arith, sym, ap, subst, ◌∙◌}
use Rattle.rsvp_base.specs.declared.session.Session.{Session}
use Rattle.rsvp_base.specs.Members.{In}
use Rattle.rsvp_base.specs.TokenBucket.{TokenBucket}
use Rattle.calm_rounds.specs.Rounds.{AreQuiet}
use Rattle.calm_rounds.specs.Hold.{Visited}
use Rattle.calm_rounds.specs.SoftStates.{Good, Stands}
use Rattle.calm_rounds.proofs.Holding.{visited_map, visited_both, visited_all, visited_keep}
use Rattle.calm_rounds.specs.Pace.{PaceLaws}
use Rattle.calm_rounds.proofs.Renewed.{never_dies}
use Rattle.tree_model.specs.declared.hops.LinkHop.{LinkHop}
use Rattle.tree_model.specs.Goals.{addr_of}
use Rattle.tree_model.specs.Networks.{node_of}
use Rattle.tree_model.specs.Ranks.{longest}
use Rattle.tree_model.specs.Trees.{tree, depth}
use Rattle.tree_model.specs.Valid.{IsValid}
use Rattle.tree_model.proofs.Depths.{depth_and_rank_within_longest}
use Rattle.router_rules.specs.Facts.{SenderKey}
use Rattle.network_model.specs.Bounds.{AreBounds, AreHosts}
use Rattle.network_model.specs.Links.{is_group}
use Rattle.network_model.specs.Locals.{IsLive}
use Rattle.network_model.specs.Sound.{ArePathsComplete, ArePathsSound}
use Rattle.network_model.specs.Steps.{Step, machine}
use Rattle.network_model.specs.Worlds.{World}
use Rattle.network_model.proofs.Machines.{quiet_of, time_passes, items_are_numbered}
use Rattle.laws_network.specs.Known.{IsKnown}
use Rattle.settle_paths.specs.SoftPaths.{PathValue, soft_path}
use Rattle.settle_paths.specs.Telling.{IsCompleteTo, IsSure}
use Rattle.settle_paths.proofs.Letters.{IsPathLetter, IsTearLetter, letter_found}
use Rattle.settle_paths.proofs.SaidPaths.{AreFull, full_step, IsFirm, line, good, moves, falls_due}
use Rattle.settle_paths.proofs.CompletePaths.{AreClean, clean_step, said, of_group, HopTo, all_complete}
use Rattle.settle_loss.specs.RefreshedPaths.{ArePathsRefreshed, DoesPathLast, DoPathsLast, IsInOrder}
use Rattle.settle_loss.proofs.KnownWorlds.{known_visited}
use Rattle.settle_loss.proofs.Pace.{due_paces}
use Rattle.settle_loss.proofs.SoundPaths.{sound_visited}

-- the refreshes of a hop follow one another within 1.5 periods
pub hop_paces : (q : ℕ) (o : World) (valid : IsValid o.net) (k : SenderKey) (h : LinkHop) (there : In h (tree o.net.hops k.0.group k.1.addr)) (group : is_group k.0.group ≡ true)
    (v : PathValue) (b : ℕ) → PaceLaws (machine q) (line q o valid k h there group v b)
hop_paces q o valid k h there group v b = record {
  pace = λ s u t t' calm a a' e e'. due_paces q s u (node_of o.net.ends h.from) k.0 t t' (quiet_of q s calm) a.known.bounds e e';
}

module _ (q : ℕ) (o : World) (valid : IsValid o.net) (locals : AreHosts o) (ss : List Step) (quiet : AreQuiet (machine q) ss) (order : IsInOrder q o) where
  -- ---- one hop of a live sender's tree, where the node before it knows the sender
  module _ (d : ℕ) (k : SenderKey) (t : TokenBucket) (h : LinkHop) (live : IsLive o k t) (there : In h (tree o.net.hops k.0.group k.1.addr))
      (deep : depth o.net k.0.group k.1.addr (node_of o.net.ends h.to) ≤ suc d) where
    abbrev value : PathValue
    value = (addr_of o.net h.from, t)

    group : is_group k.0.group ≡ true
    group = of_group q o valid locals d k t h live there deep

    clean_first : AreClean q o valid locals d k t h live there deep 0 o
    clean_first y i born is =
        let f = letter_found k h.to y is in
        ⊎_elim
        (λ (l : IsPathLetter k y). record { letter = l; dst = (order.paths y l.path i l.spelt).1 ∙ ap (λ (z : Session). z.group) l.session })
        (λ (l : IsTearLetter k y).
        absurd (order.tears y l.tear k.1 t h i l.spelt l.sender (subst (λ (z : Session). IsLive o (z, k.1) t) (sym l.session) live)
        (subst (λ (z : Session). In h (tree o.net.hops z.group k.1.addr)) (sym l.session) there) f.0)) f.1

    firm : Visited (machine q) (IsSure q o d) ss o → Visited (machine q) (IsFirm q o valid k h there group value 0) ss o
    firm sure =
        let clean : Visited (machine q) (AreClean q o valid locals d k t h live there deep 0) ss o =
        visited_keep (machine q) (IsSure q o d) (AreClean q o valid locals d k t h live there deep 0)
        (λ s u calm a a' j. clean_step q o valid locals d k t h live there deep 0 s u (quiet_of q s calm) a a' j) ss o quiet sure clean_first in
        let full : Visited (machine q) (AreFull q o 0) ss o =
        visited_keep (machine q) (IsSure q o d) (AreFull q o 0) (λ s u calm a a' j. full_step q o 0 s u (quiet_of q s calm) a.known j) ss o quiet sure
        (λ y m i born spelt. (order.paths y m i spelt).0) in
        visited_map (machine q) (λ u. (IsSure q o d u × AreClean q o valid locals d k t h live there deep 0 u) × AreFull q o 0 u) (IsFirm q o valid k h there group value 0)
        (λ u g. record { known = g.0.0.known; said = said q o valid locals d k t h live there deep 0 u g.0.0 g.0.1; full = g.1 }) ss o
        (visited_both (machine q) (λ u. IsSure q o d u × AreClean q o valid locals d k t h live there deep 0 u) (AreFull q o 0) ss o
        (visited_both (machine q) (IsSure q o d) (AreClean q o valid locals d k t h live there deep 0) ss o sure clean) full)

    hop_stands : ArePathsRefreshed q ss o → DoPathsLast q o → Visited (machine q) (IsSure q o d) ss o → Visited (machine q) (Stands (machine q) (soft_path q o k h.to) value) ss o
    hop_stands refreshed last sure =
        let lasts : DoesPathLast q o k t h = last k t h live there in
        never_dies (machine q) (time_passes q) (items_are_numbered q) (line q o valid k h there group value 0) (falls_due q o valid k h there group value 0)
        (hop_paces q o valid k h there group value 0) value 0 (moves q o valid k h there group value 0) (3 * q) 2 (omega arith) ss o quiet (refreshed k t h live there) (omega arith)
        (λ y i. omega arith)
        (visited_map (machine q) (IsFirm q o valid k h there group value 0) (Good (machine q) (line q o valid k h there group value 0) value 0)
        (λ u g. good q o valid k h there group value 0 u g) ss o (firm sure))
        lasts.dies lasts.kept lasts.moment lasts.due (omega (arith, lasts.long))

  -- ---- hop by hop from the roots
  complete_to : ArePathsRefreshed q ss o → DoPathsLast q o → Visited (machine q) (λ u. IsKnown q o u × ArePathsSound u) ss o → (d : ℕ) → Visited (machine q) (IsCompleteTo o d) ss o
  complete_to refreshed last start zero =
      visited_map (machine q) (λ u. IsKnown q o u × ArePathsSound u) (IsCompleteTo o 0)
      (λ u g k t h live there le. let along = (depth_and_rank_within_longest o.net valid).along k.0.group k.1.addr h there in absurd (omega (arith, along, le))) ss o start
  complete_to refreshed last start (suc d) =
      let sure : Visited (machine q) (IsSure q o d) ss o =
      visited_map (machine q) (λ u. (IsKnown q o u × ArePathsSound u) × IsCompleteTo o d u) (IsSure q o d) (λ u g. record { known = g.0.0; sound = g.0.1; complete = g.1 }) ss o
      (visited_both (machine q) (λ u. IsKnown q o u × ArePathsSound u) (IsCompleteTo o d) ss o start (complete_to refreshed last start d)) in
      visited_map (machine q) (λ u. (a : HopTo q o valid locals (suc d)) → Stands (machine q) (soft_path q o a.0 a.2.to) (addr_of o.net a.2.from, a.1) u) (IsCompleteTo o (suc d))
      (λ u g k t h live there le. g (k, t, h, live, there, le)) ss o
      (visited_all (machine q) (λ (a : HopTo q o valid locals (suc d)) u. Stands (machine q) (soft_path q o a.0 a.2.to) (addr_of o.net a.2.from, a.1) u) ss o
      (λ a. hop_stands d a.0 a.1 a.2 a.3 a.4 a.5 refreshed last sure))

pub paths_never_die : (q : ℕ) (w : World) (ss : List Step) → AreHosts w → AreBounds q w → ArePathsSound w → IsInOrder q w → DoPathsLast q w
    → AreQuiet (machine q) ss → ArePathsRefreshed q ss w → Visited (machine q) (λ u. ArePathsSound u × ArePathsComplete u) ss w
paths_never_die q w ss locals bounds sound order last quiet refreshed =
    let valid : IsValid w.net = bounds.net in
    let known = known_visited q w ss quiet bounds in
    let start : Visited (machine q) (λ u. IsKnown q w u × ArePathsSound u) ss w =
    visited_both (machine q) (IsKnown q w) ArePathsSound ss w known (sound_visited q w valid ss w quiet known sound) in
    visited_map (machine q) (λ u. (IsKnown q w u × ArePathsSound u) × IsCompleteTo w (longest w.net) u) (λ u. ArePathsSound u × ArePathsComplete u)
    (λ u g. (g.0.1, all_complete q w valid locals u g.0.0 g.1)) ss w
    (visited_both (machine q) (λ u. IsKnown q w u × ArePathsSound u) (IsCompleteTo w (longest w.net)) ss w start
    (complete_to q w valid locals ss quiet order refreshed last start (longest w.net)))
