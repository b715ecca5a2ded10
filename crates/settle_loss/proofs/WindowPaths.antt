-- Paths settle in windows: they become sound whatever is lost, and complete where of any three successive Paths one arrives in time.
use Rattle.std.proofs.Common.{◌≡◌, ℕ, zero, suc, ◌+◌, ◌*◌, ◌≤◌, List, ◌∷◌, true, Some, arith, sym, subst}
use Rattle.rsvp_base.specs.Members.{In}
use Rattle.rsvp_base.specs.TokenBucket.{TokenBucket}
use Rattle.calm_rounds.specs.Hold.{Hold}
use Rattle.calm_rounds.specs.Machine.{Fresh, run}
use Rattle.calm_rounds.specs.SoftStates.{KeepsOnly, SaysOnly, Good, Stands}
use Rattle.calm_rounds.proofs.Holding.{hold_map, hold_both, hold_all, hold_later, hold_start}
use Rattle.calm_rounds.specs.Windows.{Windows, joined}
use Rattle.calm_rounds.proofs.Windows.{windows_keep, windows_always, windows_flush, windows_stack, any_back, dies_in_one, settles_in_two, kept_in_two}
use Rattle.tree_model.specs.declared.hops.LinkHop.{LinkHop}
use Rattle.tree_model.specs.Goals.{addr_of}
use Rattle.tree_model.specs.Networks.{node_of}
use Rattle.tree_model.specs.Ranks.{longest}
use Rattle.tree_model.specs.Trees.{tree, depth}
use Rattle.tree_model.specs.Valid.{IsValid}
use Rattle.tree_model.proofs.Depths.{depth_and_rank_within_longest}
use Rattle.router_rules.specs.Facts.{SenderKey}
use Rattle.network_model.specs.Bounds.{AreBounds, AreHosts}
use Rattle.network_model.specs.Links.{is_group}
use Rattle.network_model.specs.Locals.{IsLive}
use Rattle.network_model.specs.Sound.{IsSoundAt, ArePathsComplete, ArePathsSound}
use Rattle.network_model.specs.Steps.{Step, machine}
use Rattle.network_model.specs.Worlds.{World}
use Rattle.network_model.proofs.Machines.{quiet_of, time_passes, items_are_numbered}
use Rattle.laws_network.specs.Known.{IsKnown}
use Rattle.laws_network.specs.Refreshes.{due_at}
use Rattle.settle_paths.specs.SoftPaths.{PathValue, soft_path}
use Rattle.settle_paths.specs.Telling.{IsCompleteTo, IsSure}
use Rattle.settle_paths.proofs.SoftPaths.{path_keeps}
use Rattle.settle_paths.proofs.SoundPaths.{Spot, SoundIn, Level, no_one, says_step, AreNamed, named_step, all_sound}
use Rattle.settle_paths.proofs.SaidPaths.{AreFull, full_step, IsFirm, line, good, moves, falls_due}
use Rattle.settle_paths.proofs.CompletePaths.{AreClean, clean_step, said, of_group, HopTo, all_complete}
use Rattle.settle_loss.specs.RefreshedPaths.{path_over, ArePathsRefreshedIn, ArePathsRefreshed}
use Rattle.settle_loss.proofs.KnownWorlds.{known_step, known_at_first}
use Rattle.settle_loss.proofs.LastingPaths.{hop_paces}

pub known_windows : (q : ℕ) (w : World) (rs : List (List Step)) → Windows (machine q) rs w → AreBounds q w → Hold (machine q) 0 rs w (IsKnown q w)
known_windows q w rs ws bounds = windows_always (machine q) (IsKnown q w) (λ s u calm a. known_step q w s u calm a) rs w ws (known_at_first q w bounds)

-- ---- sound, whatever is lost
module _ (q : ℕ) (o : World) (valid : IsValid o.net) where
  abbrev Any : List (List Step) → World → Type 0
  Any rs w = Unit {0}

  level_0 : (rs : List (List Step)) (w : World) → Windows (machine q) rs w → Hold (machine q) 0 rs w (IsKnown q o) → Hold (machine q) 1 rs w (Level q o valid 0)
  level_0 rs w ws known =
      hold_all (machine q) (λ (a : Spot q o valid 0) u. SoundIn q o valid a.0 a.1 u) 1 rs w
      (λ a.
      hold_map (machine q) (KeepsOnly (machine q) (soft_path q o a.0 a.1) (λ _. ⊥)) (SoundIn q o valid a.0 a.1)
      (λ u none. ((λ v d h. absurd (none v d h)), (λ y v i le says. absurd (no_one q o valid a.0 a.1 a.3 y v says)))) 1 rs w
      (dies_in_one (machine q) (time_passes q) (items_are_numbered q) (soft_path q o a.0 a.1) (path_keeps q o a.0 a.1 a.2) (λ _. ⊥) (λ v v0 b f. f) rs w ws known
      (hold_map (machine q) (IsKnown q o) (SaysOnly (machine q) (soft_path q o a.0 a.1) (λ _. ⊥) 0) (λ u g y v i le says. no_one q o valid a.0 a.1 a.3 y v says) 0 rs w known)))

  level_up : (d : ℕ) (rs : List (List Step)) (w : World) → Windows (machine q) rs w → Any rs w → Hold (machine q) 0 rs w (λ u. IsKnown q o u × Level q o valid d u)
      → Hold (machine q) 2 rs w (Level q o valid (suc d))
  level_up d rs w ws any both =
      let known : Hold (machine q) 0 rs w (IsKnown q o) = hold_map (machine q) (λ u. IsKnown q o u × Level q o valid d u) (IsKnown q o) (λ u h. h.0) 0 rs w both in
      hold_all (machine q) (λ (a : Spot q o valid (suc d)) u. SoundIn q o valid a.0 a.1 u) 2 rs w
      (λ a.
      settles_in_two (machine q) (time_passes q) (items_are_numbered q) (soft_path q o a.0 a.1) (path_keeps q o a.0 a.1 a.2) (IsSoundAt o a.0 a.1)
      (λ v v0 b f. subst (IsSoundAt o a.0 a.1) (sym b) f) rs w ws known
      (windows_keep (machine q) (λ u. IsKnown q o u × Level q o valid d u) (SaysOnly (machine q) (soft_path q o a.0 a.1) (IsSoundAt o a.0 a.1) w.made)
      (λ s u quiet b b' j. says_step q o valid d w.made a.0 a.1 a.3 s u (quiet_of q s quiet) b b' j) rs w ws both
      (λ y v i born says. let old = ((hold_start (machine q) (IsKnown q o) rs w known).bounds.flight y i).born in absurd (omega (arith, born, old)))))

  levels : (d : ℕ) (rs : List (List Step)) (w : World) → Windows (machine q) rs w → Hold (machine q) 0 rs w (IsKnown q o) → Hold (machine q) (1 + 2 * d) rs w (Level q o valid d)
  levels zero rs w ws known = level_0 rs w ws known
  levels (suc d) rs w ws known =
      let e : (1 + 2 * d) + 2 ≡ 1 + 2 * suc d = omega arith in
      rw (← e)
      (windows_stack (machine q) Any (λ r rs' w' p. tt) (λ u. IsKnown q o u × Level q o valid d u) (Level q o valid (suc d)) 2 (level_up d) (1 + 2 * d) rs w ws tt
      (hold_both (machine q) (IsKnown q o) (Level q o valid d) (1 + 2 * d) rs w
      (hold_later (machine q) (IsKnown q o) 0 (1 + 2 * d) rs w (omega arith) known) (levels d rs w ws known)))

  named : (rs : List (List Step)) (w : World) → Windows (machine q) rs w → Hold (machine q) 0 rs w (IsKnown q o) → Hold (machine q) 1 rs w (AreNamed q o valid 0)
  named rs w ws known =
      hold_map (machine q) (λ u. AreNamed q o valid w.made u × Fresh (machine q) w.made u) (AreNamed q o valid 0) (λ u h y m i le. h.0 y m i (h.1 y i)) 1 rs w
      (hold_both (machine q) (AreNamed q o valid w.made) (Fresh (machine q) w.made) 1 rs w
      (hold_later (machine q) (AreNamed q o valid w.made) 0 1 rs w (omega arith)
      (windows_keep (machine q) (IsKnown q o) (AreNamed q o valid w.made) (λ s u quiet a a' j. named_step q o valid w.made s u (quiet_of q s quiet) a j) rs w ws known
      (λ y m i born. let old = ((hold_start (machine q) (IsKnown q o) rs w known).bounds.flight y i).born in absurd (omega (arith, born, old)))))
      (windows_flush (machine q) (items_are_numbered q) rs w ws))

pub paths_become_sound_in_windows : (q : ℕ) (w : World) (rs : List (List Step)) → Windows (machine q) rs w → AreBounds q w → Hold (machine q) (1 + 2 * longest w.net) rs w ArePathsSound
paths_become_sound_in_windows q w rs ws bounds =
    let valid : IsValid w.net = bounds.net in
    let known = known_windows q w rs ws bounds in
    let k : ℕ = 1 + 2 * longest w.net in
    hold_map (machine q) (λ u. (IsKnown q w u × Level q w valid (longest w.net) u) × AreNamed q w valid 0 u) ArePathsSound (λ u h. all_sound q w valid u h.0.0 h.0.1 h.1) k rs w
    (hold_both (machine q) (λ u. IsKnown q w u × Level q w valid (longest w.net) u) (AreNamed q w valid 0) k rs w
    (hold_both (machine q) (IsKnown q w) (Level q w valid (longest w.net)) k rs w (hold_later (machine q) (IsKnown q w) 0 k rs w (omega arith) known)
    (levels q w valid (longest w.net) rs w ws known))
    (hold_later (machine q) (AreNamed q w valid 0) 1 k rs w (omega arith) (named q w valid rs w ws known)))

-- ---- complete, where of any three successive Paths one arrives in time
module _ (q : ℕ) (o : World) (valid : IsValid o.net) (locals : AreHosts o) where
  abbrev AreRefreshed : List (List Step) → World → Type 0
  AreRefreshed rs w = ArePathsRefreshedIn q o (joined rs) w

  later_ones : (r : List Step) (rs : List (List Step)) (w : World) → AreRefreshed (r ∷ rs) w → AreRefreshed rs (run (machine q) r w)
  later_ones r rs w h k t i live there =
      any_back (machine q) (λ u. due_at u (node_of o.net.ends i.from) k.0) (Some (path_over o.net k i)) (3 * q) 3 r (joined rs) w (h k t i live there)

  hop_stands : (d : ℕ) (k : SenderKey) (t : TokenBucket) (h : LinkHop) (live : IsLive o k t) (there : In h (tree o.net.hops k.0.group k.1.addr))
      (deep : depth o.net k.0.group k.1.addr (node_of o.net.ends h.to) ≤ suc d) (rs : List (List Step)) (w : World)
      → Windows (machine q) rs w → AreRefreshed rs w → Hold (machine q) 0 rs w (IsSure q o d) → Hold (machine q) 2 rs w (Stands (machine q) (soft_path q o k h.to) (addr_of o.net h.from, t))
  hop_stands d k t h live there deep rs w ws refreshed sure =
      let value : PathValue = (addr_of o.net h.from, t) in
      let first = (hold_start (machine q) (IsSure q o d) rs w sure).known in
      let group : is_group k.0.group ≡ true = of_group q o valid locals d k t h live there deep in
      let clean : Hold (machine q) 0 rs w (AreClean q o valid locals d k t h live there deep w.made) =
      windows_keep (machine q) (IsSure q o d) (AreClean q o valid locals d k t h live there deep w.made)
      (λ s u calm a a' j. clean_step q o valid locals d k t h live there deep w.made s u (quiet_of q s calm) a a' j) rs w ws sure
      (λ y i born is. let old = (first.bounds.flight y i).born in absurd (omega (arith, born, old))) in
      let full : Hold (machine q) 0 rs w (AreFull q o w.made) =
      windows_keep (machine q) (IsSure q o d) (AreFull q o w.made) (λ s u calm a a' j. full_step q o w.made s u (quiet_of q s calm) a.known j) rs w ws sure
      (λ y m i born spelt. let old = (first.bounds.flight y i).born in absurd (omega (arith, born, old))) in
      let firm : Hold (machine q) 0 rs w (IsFirm q o valid k h there group value w.made) =
      hold_map (machine q) (λ u. (IsSure q o d u × AreClean q o valid locals d k t h live there deep w.made u) × AreFull q o w.made u) (IsFirm q o valid k h there group value w.made)
      (λ u g. record { known = g.0.0.known; said = said q o valid locals d k t h live there deep w.made u g.0.0 g.0.1; full = g.1 }) 0 rs w
      (hold_both (machine q) (λ u. IsSure q o d u × AreClean q o valid locals d k t h live there deep w.made u) (AreFull q o w.made) 0 rs w
      (hold_both (machine q) (IsSure q o d) (AreClean q o valid locals d k t h live there deep w.made) 0 rs w sure clean) full) in
      kept_in_two (machine q) (time_passes q) (items_are_numbered q) (line q o valid k h there group value w.made) (falls_due q o valid k h there group value w.made)
      (hop_paces q o valid k h there group value w.made) value rs w ws (refreshed k t h live there) (moves q o valid k h there group value w.made)
      (hold_map (machine q) (IsFirm q o valid k h there group value w.made) (Good (machine q) (line q o valid k h there group value w.made) value w.made)
      (λ u g. good q o valid k h there group value w.made u g) 0 rs w firm)

  complete_up : (d : ℕ) (rs : List (List Step)) (w : World) → Windows (machine q) rs w → AreRefreshed rs w → Hold (machine q) 0 rs w (IsSure q o d) → Hold (machine q) 2 rs w (IsCompleteTo o (suc d))
  complete_up d rs w ws refreshed sure =
      hold_map (machine q) (λ u. (a : HopTo q o valid locals (suc d)) → Stands (machine q) (soft_path q o a.0 a.2.to) (addr_of o.net a.2.from, a.1) u) (IsCompleteTo o (suc d))
      (λ u g k t h live there le. g (k, t, h, live, there, le)) 2 rs w
      (hold_all (machine q) (λ (a : HopTo q o valid locals (suc d)) u. Stands (machine q) (soft_path q o a.0 a.2.to) (addr_of o.net a.2.from, a.1) u) 2 rs w
      (λ a. hop_stands d a.0 a.1 a.2 a.3 a.4 a.5 rs w ws refreshed sure))

  abbrev IsStarted : World → Type 0
  IsStarted u = IsKnown q o u × ArePathsSound u

  levels_complete : (d : ℕ) (rs : List (List Step)) (w : World) → Windows (machine q) rs w → AreRefreshed rs w → Hold (machine q) 0 rs w IsStarted → Hold (machine q) (2 * d) rs w (IsCompleteTo o d)
  levels_complete zero rs w ws refreshed start =
      hold_map (machine q) IsStarted (IsCompleteTo o 0)
      (λ u g k t h live there le. let along = (depth_and_rank_within_longest o.net valid).along k.0.group k.1.addr h there in absurd (omega (arith, along, le))) 0 rs w start
  levels_complete (suc d) rs w ws refreshed start =
      let e : 2 * d + 2 ≡ 2 * suc d = omega arith in
      rw (← e)
      (windows_stack (machine q) AreRefreshed later_ones (λ u. IsStarted u × IsCompleteTo o d u) (IsCompleteTo o (suc d)) 2
      (λ rs' w' ws' p both. complete_up d rs' w' ws' p (hold_map (machine q) (λ u. IsStarted u × IsCompleteTo o d u) (IsSure q o d)
      (λ u g. record { known = g.0.0; sound = g.0.1; complete = g.1 }) 0 rs' w' both)) (2 * d) rs w ws refreshed
      (hold_both (machine q) IsStarted (IsCompleteTo o d) (2 * d) rs w (hold_later (machine q) IsStarted 0 (2 * d) rs w (omega arith) start) (levels_complete d rs w ws refreshed start)))

pub paths_settle_in_windows : (q : ℕ) (w : World) (rs : List (List Step)) → Windows (machine q) rs w → AreHosts w → AreBounds q w → ArePathsRefreshed q (joined rs) w
    → Hold (machine q) ((1 + 2 * longest w.net) + 2 * longest w.net) rs w (λ u. ArePathsSound u × ArePathsComplete u)
paths_settle_in_windows q w rs ws locals bounds refreshed =
    let valid : IsValid w.net = bounds.net in
    let known = known_windows q w rs ws bounds in
    let sound = paths_become_sound_in_windows q w rs ws bounds in
    let k : ℕ = 1 + 2 * longest w.net in
    let n : ℕ = 2 * longest w.net in
    hold_map (machine q) (λ u. ArePathsSound u × (IsKnown q w u × IsCompleteTo w (longest w.net) u)) (λ u. ArePathsSound u × ArePathsComplete u)
    (λ u g. (g.0, all_complete q w valid locals u g.1.0 g.1.1)) (k + n) rs w
    (hold_both (machine q) ArePathsSound (λ u. IsKnown q w u × IsCompleteTo w (longest w.net) u) (k + n) rs w
    (hold_later (machine q) ArePathsSound k (k + n) rs w (omega arith) sound)
    (hold_both (machine q) (IsKnown q w) (IsCompleteTo w (longest w.net)) (k + n) rs w
    (hold_later (machine q) (IsKnown q w) 0 (k + n) rs w (omega arith) known)
    (windows_stack (machine q) (AreRefreshed q w valid locals) (later_ones q w valid locals) (λ u. IsKnown q w u × ArePathsSound u) (IsCompleteTo w (longest w.net)) n
    (λ rs' w' ws' p start. levels_complete q w valid locals (longest w.net) rs' w' ws' p start) k rs w ws refreshed
    (hold_both (machine q) (IsKnown q w) ArePathsSound k rs w (hold_later (machine q) (IsKnown q w) 0 k rs w (omega arith) known) sound))))
