-- Reservations become sound in windows, whatever is lost: names first, then by the longest chain that begins with the hop, two windows each.
use Rattle.std.proofs.Common.{◌≡◌, ℕ, zero, suc, ◌+◌, ◌*◌, ◌<◌, List, length, arith, subst}
use Rattle.calm_rounds.specs.Hold.{Hold, Keep}
use Rattle.calm_rounds.specs.Machine.{Fresh}
use Rattle.calm_rounds.specs.SoftStates.{KeepsOnly, SaysOnly}
use Rattle.calm_rounds.proofs.Holding.{hold_map, hold_both, hold_all, hold_later, hold_start}
use Rattle.calm_rounds.specs.Windows.{Windows}
use Rattle.calm_rounds.proofs.Windows.{windows_keep, windows_flush, windows_stack, settles_in_two}
use Rattle.tree_model.specs.Ranks.{longest}
use Rattle.tree_model.specs.Valid.{IsValid}
use Rattle.network_model.specs.Bounds.{AreBounds}
use Rattle.network_model.specs.Sound.{ArePathsSound, AreResvsSound}
use Rattle.network_model.specs.Steps.{Step, machine}
use Rattle.network_model.specs.Worlds.{World}
use Rattle.network_model.proofs.Machines.{quiet_of, time_passes, items_are_numbered}
use Rattle.laws_network.specs.Known.{IsKnown}
use Rattle.settle_resvs.specs.SoftResvs.{ResvKey, soft_resv}
use Rattle.settle_resvs.proofs.SoftResvs.{resv_keeps}
use Rattle.settle_resvs.proofs.SoundResvs.{IsFirm, IsGood, Level, good_cut, first_step, next_step, all_facts_sound}
use Rattle.settle_resvs.proofs.SoundUnits.{IsAddressed, addressed_step, unit_sound}
use Rattle.settle_loss.proofs.WindowPaths.{known_windows, paths_become_sound_in_windows}

module _ (q : ℕ) (o : World) (valid : IsValid o.net) where
  abbrev Any : List (List Step) → World → Type 0
  Any rs w = Unit {0}

  -- a session, style, unit and next hop, at an end
  abbrev Spot : Type 0
  Spot = (k : ResvKey) × (k.to < length o.net.ends)

  abbrev GoodIn : ℕ → ResvKey → World → Type 0
  GoodIn r k u = KeepsOnly (machine q) (soft_resv q o k) (IsGood o r k) u × SaysOnly (machine q) (soft_resv q o k) (IsGood o r k) 0 u

  -- ---- where what is sent is good, two windows on what is kept is
  good_in_two : (r : ℕ) (A : World → Type 0) → ((u : World) → A u → IsFirm q o u) → ((n : ℕ) (k : ResvKey) → Keep (machine q) A (SaysOnly (machine q) (soft_resv q o k) (IsGood o r k) n))
      → (rs : List (List Step)) (w : World) → Windows (machine q) rs w → Hold (machine q) 0 rs w A → Hold (machine q) 2 rs w (Level q o valid r)
  good_in_two r A firm keeps rs w ws holds =
      hold_all (machine q) (λ (a : Spot) u. GoodIn r a.0 u) 2 rs w
      (λ a.
      settles_in_two (machine q) (time_passes q) (items_are_numbered q) (soft_resv q o a.0) (resv_keeps q o a.0 a.1) (IsGood o r a.0) (λ v v0 b f. good_cut o r a.0 v v0 b f) rs w ws
      (hold_map (machine q) A (IsKnown q o) (λ u h. (firm u h).known) 0 rs w holds)
      (windows_keep (machine q) A (SaysOnly (machine q) (soft_resv q o a.0) (IsGood o r a.0) w.made) (keeps w.made a.0) rs w ws holds
      (λ y v i born says. let old = ((firm w (hold_start (machine q) A rs w holds)).known.bounds.flight y i).born in absurd (omega (arith, born, old)))))

  abbrev IsUp : ℕ → World → Type 0
  IsUp r u = IsFirm q o u × Level q o valid r u

  levels : (r : ℕ) (rs : List (List Step)) (w : World) → Windows (machine q) rs w → Hold (machine q) 0 rs w (IsFirm q o) → Hold (machine q) (2 + 2 * r) rs w (Level q o valid r)
  levels zero rs w ws firm = good_in_two 0 (IsFirm q o) (λ u h. h) (λ n k s u calm a a' j. first_step q o valid n k s u (quiet_of q s calm) a a' j) rs w ws firm
  levels (suc r) rs w ws firm =
      let e : (2 + 2 * r) + 2 ≡ 2 + 2 * suc r = omega arith in
      rw (← e)
      (windows_stack (machine q) Any (λ f fs u any. tt) (IsUp r) (Level q o valid (suc r)) 2
      (λ rs' w' ws' any up. good_in_two (suc r) (IsUp r) (λ u h. h.0) (λ n k s u calm a a' j. next_step q o valid r n k s u (quiet_of q s calm) a.0 a' j) rs' w' ws' up)
      (2 + 2 * r) rs w ws tt
      (hold_both (machine q) (IsFirm q o) (Level q o valid r) (2 + 2 * r) rs w (hold_later (machine q) (IsFirm q o) 0 (2 + 2 * r) rs w (omega arith) firm) (levels r rs w ws firm)))

  -- ---- one window on each Resv goes to the end whose address it is sent to
  addressed : (rs : List (List Step)) (w : World) → Windows (machine q) rs w → Hold (machine q) 0 rs w (IsFirm q o) → Hold (machine q) 1 rs w (IsAddressed 0)
  addressed rs w ws firm =
      hold_map (machine q) (λ u. IsAddressed w.made u × Fresh (machine q) w.made u) (IsAddressed 0) (λ u h y m i le. h.0 y m i (h.1 y i)) 1 rs w
      (hold_both (machine q) (IsAddressed w.made) (Fresh (machine q) w.made) 1 rs w
      (hold_later (machine q) (IsAddressed w.made) 0 1 rs w (omega arith)
      (windows_keep (machine q) (IsFirm q o) (IsAddressed w.made) (λ s u calm a a' j. addressed_step q o valid w.made s u (quiet_of q s calm) a a' j) rs w ws firm
      (λ y m i born. let old = ((hold_start (machine q) (IsFirm q o) rs w firm).known.bounds.flight y i).born in absurd (omega (arith, born, old)))))
      (windows_flush (machine q) (items_are_numbered q) rs w ws))

  -- ---- so reservations are sound
  pub sound_and_addressed : (rs : List (List Step)) (w : World) → Windows (machine q) rs w → Hold (machine q) 0 rs w (IsFirm q o)
      → Hold (machine q) (2 + 2 * longest o.net) rs w (λ u. AreResvsSound u × IsAddressed 0 u)
  sound_and_addressed rs w ws firm =
      let h : ℕ = longest o.net in
      let k : ℕ = 2 + 2 * h in
      hold_map (machine q) (λ u. IsUp h u × IsAddressed 0 u) (λ u. AreResvsSound u × IsAddressed 0 u)
      (λ u g. (
        record {
          facts = all_facts_sound q o valid u g.0.0 g.0.1;
          items = λ y m v i spelt asks. unit_sound q o valid u g.0.0 g.0.1 y m v i spelt asks (g.1 y m i (omega arith) spelt);
        },
        g.1,
      )) k rs w
      (hold_both (machine q) (IsUp h) (IsAddressed 0) k rs w
      (hold_both (machine q) (IsFirm q o) (Level q o valid h) k rs w (hold_later (machine q) (IsFirm q o) 0 k rs w (omega arith) firm) (levels h rs w ws firm))
      (hold_later (machine q) (IsAddressed 0) 1 k rs w (omega arith) (addressed rs w ws firm)))

-- ---- from any world within bounds: first paths, then reservations
pub all_sound_in_windows : (q : ℕ) (w : World) (rs : List (List Step)) → Windows (machine q) rs w → AreBounds q w
    → Hold (machine q) ((1 + 2 * longest w.net) + (2 + 2 * longest w.net)) rs w (λ u. AreResvsSound u × IsAddressed 0 u)
all_sound_in_windows q w rs ws bounds =
    let valid : IsValid w.net = bounds.net in
    let k : ℕ = 1 + 2 * longest w.net in
    let n : ℕ = 2 + 2 * longest w.net in
    windows_stack (machine q) (Any q w valid) (λ f fs u any. tt) (IsFirm q w) (λ u. AreResvsSound u × IsAddressed 0 u) n
    (λ rs' w' ws' any firm. sound_and_addressed q w valid rs' w' ws' firm) k rs w ws tt
    (hold_map (machine q) (λ u. IsKnown q w u × ArePathsSound u) (IsFirm q w) (λ u h. record { known = h.0; paths = h.1 }) k rs w
    (hold_both (machine q) (IsKnown q w) ArePathsSound k rs w (hold_later (machine q) (IsKnown q w) 0 k rs w (omega arith) (known_windows q w rs ws bounds))
    (paths_become_sound_in_windows q w rs ws bounds)))

pub reservations_become_sound_in_windows : (q : ℕ) (w : World) (rs : List (List Step)) → Windows (machine q) rs w → AreBounds q w
    → Hold (machine q) (3 + 4 * longest w.net) rs w (λ u. ArePathsSound u × AreResvsSound u)
reservations_become_sound_in_windows q w rs ws bounds =
    let k : ℕ = 1 + 2 * longest w.net in
    let n : ℕ = 2 + 2 * longest w.net in
    let e : k + n ≡ 3 + 4 * longest w.net = omega arith in
    subst (λ (z : ℕ). Hold (machine q) z rs w (λ u. ArePathsSound u × AreResvsSound u)) e
    (hold_both (machine q) ArePathsSound AreResvsSound (k + n) rs w
    (hold_later (machine q) ArePathsSound k (k + n) rs w (omega arith) (paths_become_sound_in_windows q w rs ws bounds))
    (hold_map (machine q) (λ u. AreResvsSound u × IsAddressed 0 u) AreResvsSound (λ u h. h.0) (k + n) rs w (all_sound_in_windows q w rs ws bounds)))
