-- The pair of nodes meets the premises of the laws: with a path that stands, while two of any three Paths are lost; and with a path
-- and with a reservation that are left over, in windows.
use Rattle.std.specs.Prelude.{◌≤◌, ℕ, List, [], ◌∷◌}
use Rattle.calm_rounds.specs.Windows.{Windows, joined, four_by_four}
use Rattle.calm_rounds.specs.Machine.{run}
use Rattle.calm_rounds.specs.Rounds.{AreQuiet}
use Rattle.tree_model.specs.Trees.{tree}
use Rattle.rsvp_base.specs.declared.session.Session.{Session}
use Rattle.rsvp_base.specs.Members.{In}
use Rattle.network_model.specs.Bounds.{AreBounds, AreHosts, IsStart}
use Rattle.network_model.specs.Locals.{IsLive}
use Rattle.network_model.specs.Sound.{ArePathsSound, AreResvsSound}
use Rattle.network_model.specs.Steps.{Step, Piece, Deliver, Lose, machine, step}
use Rattle.network_model.specs.ThreeRouters.{group, s1, session, first, usual}
use Rattle.network_model.specs.Worlds.{World}
use Rattle.laws_network.specs.Example.{pair_net, sending_world}
use Rattle.laws_network.specs.Rounds.{rounds_of}
use Rattle.settle_paths.specs.Example.{stale_world}
use Rattle.settle_paths.specs.Sure.{forth}
use Rattle.settle_resvs.specs.LeftOverExample.{lost_world}
use Rattle.settle_network.specs.Settled.{HasSettled}
use Rattle.settle_loss.specs.RefreshedPaths.{ArePathsRefreshed, DoPathsLast, IsInOrder}
use Rattle.settle_loss.specs.RefreshedResvs.{AreResvsRefreshed}

-- the first Path has arrived
abbrev pub lit_pair : World
lit_pair = step 7500 (Deliver 0) sending_world

-- 165 seconds, in which the first two refreshes are lost: the third arrives 14.463 seconds after it was due, and 37.5 before the path
-- would die
abbrev pub two_lost : List Step
two_lost =
    Piece 15000 ∷ Piece 15000 ∷ Lose 0 ∷ Piece 15000 ∷ Piece 15000 ∷ Piece 15000 ∷ Lose 0 ∷ Piece 15000 ∷ Piece 15000 ∷ Piece 15000 ∷ Deliver 0
    ∷ Piece 15000 ∷ Piece 15000 ∷ Piece 15000 ∷ []

pub record ALossyPair : Type 0 where
  pub hosts : AreHosts lit_pair
  pub bounds : AreBounds 7500 lit_pair
  pub sound : ArePathsSound lit_pair
  pub order : IsInOrder 7500 lit_pair
  pub live : IsLive lit_pair (session, first) usual
  pub there : In forth (tree pair_net.hops group s1)
  pub last : DoPathsLast 7500 lit_pair
  pub quiet : AreQuiet (machine 7500) two_lost
  pub refreshed : ArePathsRefreshed 7500 two_lost lit_pair
  -- in the end a lifetime has passed
  pub long : 157500 ≤ (run (machine 7500) two_lost lit_pair).clock

-- the windows of so many rounds of a script, by four
abbrev pub windows_of : ℕ → World → List (List Step)
windows_of k w = four_by_four (rounds_of 7500 k w)

pub record ALeftOverPathInWindows : Type 0 where
  pub hosts : AreHosts stale_world
  pub bounds : AreBounds 7500 stale_world
  -- however many windows
  pub windows : (k : ℕ) → Windows (machine 7500) (windows_of k stale_world) stale_world
  -- nobody sends, so each live sender's Paths arrive in time
  pub refreshed : (k : ℕ) → ArePathsRefreshed 7500 (joined (windows_of k stale_world)) stale_world
  -- what is promised does not hold yet
  pub not_yet : ArePathsSound stale_world → ⊥

pub record ALeftOverReservationInWindows : Type 0 where
  pub start : IsStart 7500 lost_world
  pub windows : (k : ℕ) → Windows (machine 7500) (windows_of k lost_world) lost_world
  -- nobody sends or wants, so what is asked for arrives in time
  pub paths : (k : ℕ) → ArePathsRefreshed 7500 (joined (windows_of k lost_world)) lost_world
  pub resvs : (k : ℕ) (s : Session) → AreResvsRefreshed 7500 s (joined (windows_of k lost_world)) lost_world
  -- what is promised does not hold yet
  pub not_sound_yet : AreResvsSound lost_world → ⊥
  pub not_settled_yet : HasSettled 7500 lost_world → ⊥
