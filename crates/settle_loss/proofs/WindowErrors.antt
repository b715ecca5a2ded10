-- Errors with a flow and blockades are gone in windows: an error goes on one hop a window, and a blockade dies in one.
use Rattle.std.proofs.Common.{◌≡◌, ℕ, zero, suc, ◌+◌, ◌*◌, ◌≤◌, List, inl, arith}
use Rattle.rsvp_base.specs.declared.session.Session.{Session}
use Rattle.calm_rounds.specs.Hold.{Hold}
use Rattle.calm_rounds.specs.Machine.{Fresh}
use Rattle.calm_rounds.proofs.Holding.{hold_map, hold_both, hold_later, hold_start}
use Rattle.calm_rounds.specs.Windows.{Windows}
use Rattle.calm_rounds.proofs.Windows.{windows_keep, windows_flush, windows_pass, windows_stack}
use Rattle.tree_model.specs.Ranks.{longest}
use Rattle.network_model.specs.Bounds.{AreBounds}
use Rattle.network_model.specs.Locals.{locals_of}
use Rattle.network_model.specs.Steps.{Step, machine}
use Rattle.network_model.specs.Worlds.{World}
use Rattle.network_model.proofs.Machines.{quiet_of, time_passes, items_are_numbered}
use Rattle.settle_resvs.specs.Sessions.{HasNoFlowErrorOf, IsFreeOfBlockadesOf}
use Rattle.settle_resvs.proofs.Blockades.{DiesBy, walls_step, free}
use Rattle.settle_resvs.proofs.Errors.{AreLow, IsCalmed, Low, new_low, none_left}

-- ---- one window a hop
module _ (q : ℕ) (which : Session) (o : World) where
  abbrev pub Any : List (List Step) → World → Type 0
  Any rs w = Unit {0}

  abbrev IsNear : ℕ → World → Type 0
  IsNear j u = IsCalmed q which o u × Low q which o j u

  one_window : (j : ℕ) (rs : List (List Step)) (w : World) → Windows (machine q) rs w → Hold (machine q) 0 rs w (IsNear (suc j)) → Hold (machine q) 1 rs w (Low q which o j)
  one_window j rs w ws near =
      hold_map (machine q) (λ u. AreLow which o.net (locals_of o) j w.made u × Fresh (machine q) w.made u) (Low q which o j)
      (λ u h y m flow i born spelt of has_flow. h.0 y m flow i (h.1 y i) spelt of has_flow) 1 rs w
      (hold_both (machine q) (AreLow which o.net (locals_of o) j w.made) (Fresh (machine q) w.made) 1 rs w
      (hold_later (machine q) (AreLow which o.net (locals_of o) j w.made) 0 1 rs w (omega arith)
      (windows_keep (machine q) (IsNear (suc j)) (AreLow which o.net (locals_of o) j w.made) (λ s u calm a a' k. new_low q which o j w.made s u (quiet_of q s calm) a.0 a.1 k) rs w ws near
      (λ y m flow i born spelt of has_flow. let old = ((hold_start (machine q) (IsNear (suc j)) rs w near).0.known.bounds.flight y i).born in absurd (omega (arith, born, old)))))
      (windows_flush (machine q) (items_are_numbered q) rs w ws))

  -- after d windows each error with a flow has d hops fewer to go
  fewer : (d j : ℕ) → d + j ≡ suc (longest o.net) → (rs : List (List Step)) (w : World) → Windows (machine q) rs w → Hold (machine q) 0 rs w (IsCalmed q which o)
      → Hold (machine q) d rs w (Low q which o j)
  fewer zero j e rs w ws c = hold_map (machine q) (IsCalmed q which o) (Low q which o j) (λ u h y m flow i born spelt of has_flow. inl (omega (arith, e))) 0 rs w c
  fewer (suc d) j e rs w ws c =
      let n : d + 1 ≡ suc d = omega arith in
      rw (← n)
      (windows_stack (machine q) Any (λ f fs u any. tt) (IsNear (suc j)) (Low q which o j) 1 (λ rs' w' ws' any near. one_window j rs' w' ws' near) d rs w ws tt
      (hold_both (machine q) (IsCalmed q which o) (Low q which o (suc j)) d rs w (hold_later (machine q) (IsCalmed q which o) 0 d rs w (omega arith) c) (fewer d (suc j) (omega (arith, e)) rs w ws c)))

  pub errors_go_in_windows : (rs : List (List Step)) (w : World) → Windows (machine q) rs w → Hold (machine q) 0 rs w (IsCalmed q which o)
      → Hold (machine q) (suc (longest o.net)) rs w (HasNoFlowErrorOf which)
  errors_go_in_windows rs w ws c =
      let k : ℕ = suc (longest o.net) in
      let e : k + 0 ≡ suc (longest o.net) = omega arith in
      hold_map (machine q) (IsNear 0) (HasNoFlowErrorOf which) (λ u h. none_left q which o u h.0 h.1) k rs w
      (hold_both (machine q) (IsCalmed q which o) (Low q which o 0) k rs w (hold_later (machine q) (IsCalmed q which o) 0 k rs w (omega arith) c) (fewer k 0 e rs w ws c))

-- ---- one window for blockades
pub blockades_go_in_windows : (q : ℕ) (which : Session) (rs : List (List Step)) (w : World) → Windows (machine q) rs w → Hold (machine q) 0 rs w (λ u. AreBounds q u × HasNoFlowErrorOf which u)
    → Hold (machine q) 1 rs w (IsFreeOfBlockadesOf which)
blockades_go_in_windows q which rs w ws both =
    let IsMet : World → Type 0 = λ u. AreBounds q u × HasNoFlowErrorOf which u in
    let c : ℕ = w.clock + 16 * q in
    let first : AreBounds q w = (hold_start (machine q) IsMet rs w both).0 in
    let dies : Hold (machine q) 0 rs w (DiesBy which c) =
    windows_keep (machine q) IsMet (DiesBy which c) (λ s u calm a a' j. walls_step q which s u (quiet_of q s calm) a.0 a.1 c j) rs w ws both
    (λ n f t b a h. let soon = ((first.facts n f a).alive.walls (which, t) b h).soon in omega (arith, soon)) in
    hold_map (machine q) (λ u. (IsMet u × DiesBy which c u) × (w.clock + 21 * q ≤ u.clock)) (IsFreeOfBlockadesOf which) (λ u g. free q which w u g.0.0.0 g.0.1 (omega (arith, g.1))) 1 rs w
    (hold_both (machine q) (λ u. IsMet u × DiesBy which c u) (λ u. w.clock + 21 * q ≤ u.clock) 1 rs w
    (hold_later (machine q) (λ u. IsMet u × DiesBy which c u) 0 1 rs w (omega arith) (hold_both (machine q) IsMet (DiesBy which c) 0 rs w both dies))
    (windows_pass (machine q) (time_passes q) rs w ws))
