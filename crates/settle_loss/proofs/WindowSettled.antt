-- A session settles in windows, row by row: once reservations are sound, its errors go, then its blockades, and then its reservations become
-- exact.
use Rattle.std.proofs.Common.{◌≡◌, ℕ, suc, ◌+◌, ◌*◌, List, arith, subst}
use Rattle.rsvp_base.specs.declared.session.Session.{Session}
use Rattle.calm_rounds.specs.Hold.{Hold}
use Rattle.calm_rounds.proofs.Holding.{hold_all, hold_map, hold_both, hold_later}
use Rattle.calm_rounds.specs.Windows.{Windows, joined}
use Rattle.calm_rounds.proofs.Windows.{windows_stack}
use Rattle.tree_model.specs.Ranks.{longest}
use Rattle.network_model.specs.Bounds.{AreBounds, AreHosts, IsStart}
use Rattle.network_model.specs.Locals.{locals_of}
use Rattle.network_model.specs.Sound.{ArePathsSound, AreResvsSound}
use Rattle.network_model.specs.Steps.{Step, machine}
use Rattle.network_model.specs.Worlds.{World}
use Rattle.laws_network.specs.Known.{IsKnown}
use Rattle.settle_resvs.specs.Sessions.{AreExactOf, HasNoFlowErrorOf, IsFreeOfBlockadesOf, SessionFits}
use Rattle.settle_resvs.proofs.Errors.{IsCalmed}
use Rattle.settle_resvs.proofs.GoalByIface.{each_fits}
use Rattle.settle_network.specs.Purged.{HasNothingStale}
use Rattle.settle_network.specs.Sessions.{HasSettledFor}
use Rattle.settle_network.specs.Settled.{HasSettled}
use Rattle.settle_network.proofs.Purged.{books_below}
use Rattle.settle_network.proofs.Settled.{all_settled, settled_for}
use Rattle.settle_loss.specs.RefreshedPaths.{ArePathsRefreshed}
use Rattle.settle_loss.specs.RefreshedResvs.{AreResvsRefreshed}
use Rattle.settle_loss.proofs.WindowErrors.{Any, errors_go_in_windows, blockades_go_in_windows}
use Rattle.settle_loss.proofs.WindowExact.{AreRefreshed, later_ones, IsStarted, exact_in_windows}
use Rattle.settle_loss.proofs.WindowPaths.{known_windows}
use Rattle.settle_loss.proofs.WindowResvs.{reservations_become_sound_in_windows}
use Rattle.settle_loss.proofs.WindowTaking.{IsReadied, IsSoundSoFar, ready_in_windows, sound_so_far, to_resvs}

-- ---- whatever is lost and whatever is asked for, nothing stale is left
pub nothing_stale_is_left_in_windows : (q : ℕ) (w : World) (rs : List (List Step)) → Windows (machine q) rs w → AreBounds q w → Hold (machine q) (3 + 4 * longest w.net) rs w HasNothingStale
nothing_stale_is_left_in_windows q w rs ws start =
    let k : ℕ = 3 + 4 * longest w.net in
    hold_map (machine q) (λ u. IsKnown q w u × (ArePathsSound u × AreResvsSound u)) HasNothingStale
    (λ u h. record { paths = h.1.0; resvs = h.1.1; books = books_below q u h.0.bounds h.1.1 }) k rs w
    (hold_both (machine q) (IsKnown q w) (λ u. ArePathsSound u × AreResvsSound u) k rs w (hold_later (machine q) (IsKnown q w) 0 k rs w (omega arith) (known_windows q w rs ws start))
    (reservations_become_sound_in_windows q w rs ws start))

module _ (q : ℕ) (w : World) (rs : List (List Step)) (ws : Windows (machine q) rs w) (hosts : AreHosts w) (start : AreBounds q w) (paths : ArePathsRefreshed q (joined rs) w) where
  -- ---- a session that fits
  module _ (s : Session) (fit : SessionFits w.net (locals_of w) s) where
    -- the length of the longest chain, and the windows until errors and blockades are gone
    abbrev long : ℕ
    long = longest w.net

    abbrev to_errors : ℕ
    to_errors = to_resvs w + suc long

    abbrev to_walls : ℕ
    to_walls = to_errors + 1

    ready : Hold (machine q) (to_resvs w) rs w (IsReadied q s w)
    ready = ready_in_windows q s w rs ws hosts fit start paths

    no_errors : Hold (machine q) to_errors rs w (HasNoFlowErrorOf s)
    no_errors =
        windows_stack (machine q) (Any q s w) (λ f fs u any. tt) (IsCalmed q s w) (HasNoFlowErrorOf s) (suc long)
        (λ us u c any h. errors_go_in_windows q s w us u c h) (to_resvs w) rs w ws tt
        (hold_map (machine q) (IsReadied q s w) (IsCalmed q s w) (λ u h. record { known = h.known; ready = h.ready }) (to_resvs w) rs w ready)

    no_walls : Hold (machine q) to_walls rs w (IsFreeOfBlockadesOf s)
    no_walls =
        windows_stack (machine q) (Any q s w) (λ f fs u any. tt) (λ u. AreBounds q u × HasNoFlowErrorOf s u) (IsFreeOfBlockadesOf s) 1
        (λ us u c any h. blockades_go_in_windows q s us u c h) to_errors rs w ws tt
        (hold_both (machine q) (AreBounds q) (HasNoFlowErrorOf s) to_errors rs w
        (hold_map (machine q) (IsReadied q s w) (AreBounds q) (λ u h. h.known.bounds) to_errors rs w
        (hold_later (machine q) (IsReadied q s w) (to_resvs w) to_errors rs w (omega arith) ready)) no_errors)

    pub errors_are_gone_in_windows : Hold (machine q) (4 + 5 * long) rs w (HasNoFlowErrorOf s)
    errors_are_gone_in_windows = let e : to_errors ≡ 4 + 5 * long = omega arith in subst (λ (z : ℕ). Hold (machine q) z rs w (HasNoFlowErrorOf s)) e no_errors

    pub blockades_are_gone_in_windows : Hold (machine q) (5 + 5 * long) rs w (IsFreeOfBlockadesOf s)
    blockades_are_gone_in_windows = let e : to_walls ≡ 5 + 5 * long = omega arith in subst (λ (z : ℕ). Hold (machine q) z rs w (IsFreeOfBlockadesOf s)) e no_walls

    -- ---- its reservations are the wants
    steady : Hold (machine q) to_walls rs w (IsStarted q s w)
    steady =
        hold_map (machine q) (λ u. IsReadied q s w u × IsFreeOfBlockadesOf s u) (IsStarted q s w)
        (λ u h. (h.0.known, record { ready = h.0.ready; free = h.1; addressed = h.0.addressed })) to_walls rs w
        (hold_both (machine q) (IsReadied q s w) (IsFreeOfBlockadesOf s) to_walls rs w (hold_later (machine q) (IsReadied q s w) (to_resvs w) to_walls rs w (omega arith) ready) no_walls)

    exact : AreResvsRefreshed q s (joined rs) w → Hold (machine q) (to_walls + 2 * long) rs w (AreExactOf s)
    exact resvs =
        windows_stack (machine q) (AreRefreshed q s w) (later_ones q s w) (IsStarted q s w) (AreExactOf s) (2 * long) (λ us u c p h. exact_in_windows q s w us u c p h) to_walls rs w ws resvs steady

    pub a_session_settles_in_windows : AreResvsRefreshed q s (joined rs) w → Hold (machine q) (5 + 7 * long) rs w (HasSettledFor q s)
    a_session_settles_in_windows resvs =
        let k : ℕ = to_walls + 2 * long in
        let e : k ≡ 5 + 7 * long = omega arith in
        subst (λ (z : ℕ). Hold (machine q) z rs w (HasSettledFor q s)) e
        (hold_map (machine q) (λ u. (IsStarted q s w u × AreExactOf s u) × HasNoFlowErrorOf s u) (HasSettledFor q s) (λ u h. settled_for q s u h.0.0.1 h.0.1 h.1) k rs w
        (hold_both (machine q) (λ u. IsStarted q s w u × AreExactOf s u) (HasNoFlowErrorOf s) k rs w
        (hold_both (machine q) (IsStarted q s w) (AreExactOf s) k rs w (hold_later (machine q) (IsStarted q s w) to_walls k rs w (omega arith) steady) (exact resvs))
        (hold_later (machine q) (HasNoFlowErrorOf s) to_errors k rs w (omega arith) no_errors)))

-- ---- a network settles where its demands fit
pub a_network_settles_in_windows : (q : ℕ) (w : World) (rs : List (List Step)) → Windows (machine q) rs w → IsStart q w → ArePathsRefreshed q (joined rs) w
    → ((s : Session) → AreResvsRefreshed q s (joined rs) w) → Hold (machine q) (5 + 7 * longest w.net) rs w (HasSettled q)
a_network_settles_in_windows q w rs ws start paths resvs =
    let k : ℕ = 5 + 7 * longest w.net in
    hold_map (machine q) (λ u. IsSoundSoFar q w u × ((s : Session) → HasSettledFor q s u)) (HasSettled q) (λ u h. all_settled q u h.0.so_far h.1) k rs w
    (hold_both (machine q) (IsSoundSoFar q w) (λ u. (s : Session) → HasSettledFor q s u) k rs w
    (hold_later (machine q) (IsSoundSoFar q w) (to_resvs w) k rs w (omega arith) (sound_so_far q w rs ws start.locals start.bounds paths))
    (hold_all (machine q) (λ (s : Session) u. HasSettledFor q s u) k rs w
    (λ s. a_session_settles_in_windows q w rs ws start.locals start.bounds paths s (each_fits w.net (locals_of w) start.fit s) (resvs s))))
