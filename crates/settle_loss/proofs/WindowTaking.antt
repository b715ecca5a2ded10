-- Once reservations are sound, each arrival of a session that fits is taken: in windows, whatever Resvs are lost.
use Rattle.std.proofs.Common.{◌≡◌, ℕ, ◌+◌, ◌*◌, List, true, arith, subst}
use Rattle.rsvp_base.specs.declared.session.Session.{Session}
use Rattle.calm_rounds.specs.Hold.{Hold}
use Rattle.calm_rounds.proofs.Holding.{hold_map, hold_both, hold_later}
use Rattle.calm_rounds.specs.Windows.{Windows, joined}
use Rattle.tree_model.specs.Ranks.{longest}
use Rattle.network_model.specs.Bounds.{AreBounds, AreHosts}
use Rattle.network_model.specs.Locals.{locals_of}
use Rattle.network_model.specs.Sound.{ArePathsComplete, ArePathsSound, AreResvsSound}
use Rattle.network_model.specs.Steps.{Step, is_quiet, machine}
use Rattle.network_model.specs.Worlds.{World}
use Rattle.laws_network.specs.Known.{IsKnown}
use Rattle.settle_resvs.specs.Sessions.{SessionFits, TakesAllOf}
use Rattle.settle_resvs.proofs.Accepting.{IsReady, IsSettledSoFar, fits_again, locals_again, takes_all}
use Rattle.settle_resvs.proofs.SoundUnits.{IsAddressed}
use Rattle.settle_loss.specs.RefreshedPaths.{ArePathsRefreshed}
use Rattle.settle_loss.proofs.WindowPaths.{known_windows, paths_settle_in_windows}
use Rattle.settle_loss.proofs.WindowResvs.{all_sound_in_windows}

-- ---- a world with the network of o of which the same is asked: paths are sound and complete, reservations sound, and Resvs go to the ends
-- whose addresses they are sent to
pub record IsSoundSoFar (q : ℕ) (o u : World) : Type 0 where
  pub known : IsKnown q o u
  pub so_far : IsSettledSoFar u
  pub addressed : IsAddressed 0 u

-- the windows until it is so
abbrev pub to_resvs : World → ℕ
to_resvs w = (1 + 2 * longest w.net) + (2 + 2 * longest w.net)

pub sound_so_far : (q : ℕ) (w : World) (rs : List (List Step)) → Windows (machine q) rs w → AreHosts w → AreBounds q w → ArePathsRefreshed q (joined rs) w
    → Hold (machine q) (to_resvs w) rs w (IsSoundSoFar q w)
sound_so_far q w rs ws hosts bounds refreshed =
    let p : ℕ = (1 + 2 * longest w.net) + 2 * longest w.net in
    let k : ℕ = to_resvs w in
    hold_map (machine q) (λ u. IsKnown q w u × ((ArePathsSound u × ArePathsComplete u) × (AreResvsSound u × IsAddressed 0 u))) (IsSoundSoFar q w)
    (λ u h. record { known = h.0; so_far = (h.1.0.0, (h.1.0.1, h.1.1.0)); addressed = h.1.1.1 }) k rs w
    (hold_both (machine q) (IsKnown q w) (λ u. (ArePathsSound u × ArePathsComplete u) × (AreResvsSound u × IsAddressed 0 u)) k rs w
    (hold_later (machine q) (IsKnown q w) 0 k rs w (omega arith) (known_windows q w rs ws bounds))
    (hold_both (machine q) (λ u. ArePathsSound u × ArePathsComplete u) (λ u. AreResvsSound u × IsAddressed 0 u) k rs w
    (hold_later (machine q) (λ u. ArePathsSound u × ArePathsComplete u) p k rs w (omega arith) (paths_settle_in_windows q w rs ws hosts bounds refreshed))
    (all_sound_in_windows q w rs ws bounds)))

-- ---- so it is ready for a session that fits
pub record IsReadied (q : ℕ) (s : Session) (o u : World) : Type 0 where
  pub known : IsKnown q o u
  pub ready : IsReady q s u
  pub addressed : IsAddressed 0 u

pub ready_in_windows : (q : ℕ) (s : Session) (w : World) (rs : List (List Step)) → Windows (machine q) rs w → AreHosts w → SessionFits w.net (locals_of w) s → AreBounds q w
    → ArePathsRefreshed q (joined rs) w → Hold (machine q) (to_resvs w) rs w (IsReadied q s w)
ready_in_windows q s w rs ws hosts fit bounds refreshed =
    hold_map (machine q) (IsSoundSoFar q w) (IsReadied q s w)
    (λ u h. record {
      known = h.known;
      ready = record {
        bounds = h.known.bounds;
        locals = locals_again w u h.known.same hosts;
        fit = fits_again s w u h.known.same fit;
        sound = h.so_far.0;
        complete = h.so_far.1.0;
        resvs = h.so_far.1.1;
      };
      addressed = h.addressed;
    }) (to_resvs w) rs w (sound_so_far q w rs ws hosts bounds refreshed)

pub arrivals_are_taken_in_windows : (q : ℕ) (s : Session) (w : World) (rs : List (List Step)) → Windows (machine q) rs w → AreHosts w → SessionFits w.net (locals_of w) s → AreBounds q w
    → ArePathsRefreshed q (joined rs) w → Hold (machine q) (3 + 4 * longest w.net) rs w (λ u. (t : Step) → is_quiet t ≡ true → TakesAllOf s q t u)
arrivals_are_taken_in_windows q s w rs ws hosts fit bounds refreshed =
    let e : to_resvs w ≡ 3 + 4 * longest w.net = omega arith in
    subst (λ (z : ℕ). Hold (machine q) z rs w (λ u. (t : Step) → is_quiet t ≡ true → TakesAllOf s q t u)) e
    (hold_map (machine q) (IsReadied q s w) (λ u. (t : Step) → is_quiet t ≡ true → TakesAllOf s q t u)
    (λ u h t quiet. takes_all q s t u quiet h.ready (λ y m i spelt. h.addressed y m i (omega arith) spelt)) (to_resvs w) rs w
    (ready_in_windows q s w rs ws hosts fit bounds refreshed))
