-- Reservations of a session become exact in windows, where of any three successive Resvs over each hop one arrives in time: two windows for
-- each rank, that is by the longest chain that begins with the hop.
use Rattle.std.proofs.Common.{◌≡◌, ℕ, zero, suc, ◌+◌, ◌*◌, ◌≤◌, List, ◌∷◌, Some, arith, sym, refl, ap, subst}
use Rattle.rsvp_base.specs.declared.session.Session.{Session}
use Rattle.rsvp_base.specs.Members.{In}
use Rattle.rsvp_base.specs.Table.{get}
use Rattle.calm_rounds.specs.Hold.{Hold}
use Rattle.calm_rounds.specs.Machine.{run}
use Rattle.calm_rounds.specs.SoftStates.{Stands}
use Rattle.calm_rounds.proofs.Holding.{hold_map, hold_both, hold_all, hold_later, hold_start}
use Rattle.calm_rounds.specs.Windows.{Windows, joined}
use Rattle.calm_rounds.proofs.Windows.{windows_keep, windows_stack, any_back}
use Rattle.tree_model.specs.Networks.{Net, node_of}
use Rattle.tree_model.specs.Ranks.{longest}
use Rattle.tree_model.specs.Trees.{hops_of}
use Rattle.tree_model.specs.Wants.{Locals, want}
use Rattle.tree_model.proofs.RankLaws.{rank_falls, rank_some}
use Rattle.network_model.specs.Bounds.{AreBounds}
use Rattle.network_model.specs.Locals.{locals_of}
use Rattle.network_model.specs.Steps.{Step, step, machine}
use Rattle.network_model.specs.Worlds.{Item, World}
use Rattle.network_model.proofs.Machines.{quiet_of}
use Rattle.laws_network.specs.Known.{IsKnown}
use Rattle.laws_network.specs.Refreshes.{due_at}
use Rattle.settle_resvs.specs.Said.{IsSaid, resv_key}
use Rattle.settle_resvs.specs.Sessions.{AreExactOf}
use Rattle.settle_resvs.specs.SoftResvs.{soft_resv}
use Rattle.settle_resvs.proofs.ExactResvs.{IsSteady, AreExactTo, over, AreLetters, AreSpared, letters_step, spared_step, IsMet, wanted_at, said_at, Spot, exact_at}
use Rattle.settle_loss.specs.RefreshedResvs.{AreResvsRefreshedIn, IsResvRefreshed, resv_over}
use Rattle.settle_loss.proofs.LastingResvs.{said_resvs_are_kept_in_windows}
use Rattle.settle_loss.proofs.WindowPaths.{known_windows}

module _ (q : ℕ) (s : Session) (o : World) where
  abbrev pub AreRefreshed : List (List Step) → World → Type 0
  AreRefreshed rs w = AreResvsRefreshedIn q s o (joined rs) w

  pub later_ones : (r : List Step) (rs : List (List Step)) (w : World) → AreRefreshed (r ∷ rs) w → AreRefreshed rs (run (machine q) r w)
  later_ones r rs w h k v of there wanted =
      any_back (machine q) (λ u. due_at u (node_of o.net.ends k.from) k.session) (Some (resv_over o.net k)) (3 * q) 3 r (joined rs) w (h k v of there wanted)

  -- ---- steady worlds with the network of o of which the same is asked, in which reservations are exact to a rank
  abbrev IsUp : ℕ → World → Type 0
  IsUp k u = (IsKnown q o u × IsSteady q s u) × AreExactTo s k u

  -- ---- one unit over one hop is kept two windows on
  module _ (k : ℕ) (rs : List (List Step)) (w : World) (ws : Windows (machine q) rs w) (refreshed : AreRefreshed rs w) (up : Hold (machine q) 0 rs w (IsUp k)) where
    first : IsUp k w
    first = hold_start (machine q) (IsUp k) rs w up

    bounds : AreBounds q w
    bounds = first.0.1.ready.bounds

    same : ◌≡◌ {A = Net × Locals} (w.net, locals_of w) (o.net, locals_of o)
    same = λ j. (first.0.0.same.net j, first.0.0.same.locals j)

    known : Hold (machine q) 0 rs w (IsKnown q w)
    known = known_windows q w rs ws bounds

    unit_kept : (a : Spot q s k w) → Hold (machine q) 2 rs w (Stands (machine q) (soft_resv q w (resv_key w.net (over q s k a.st a.h a.uu a.v))) a.v)
    unit_kept a =
        let Met : World → Type 0 = IsMet q s k a.st a.h a.uu a.v w in
        let met : Hold (machine q) 0 rs w Met =
        hold_both (machine q) (IsKnown q w) (λ u. IsSteady q s u × AreExactTo s k u) 0 rs w known
        (hold_map (machine q) (IsUp k) (λ u. IsSteady q s u × AreExactTo s k u) (λ u g. (g.0.1, g.1)) 0 rs w up) in
        let none : (y : Item) → In y w.flight → w.made ≤ y.born → ⊥ = (λ y i born. let old = (bounds.flight y i).born in omega (arith, old, born)) in
        let letters : Hold (machine q) 0 rs w (AreLetters q s k a.st a.h a.uu a.v w.made) =
        windows_keep (machine q) Met (AreLetters q s k a.st a.h a.uu a.v w.made)
        (λ t u c b b' j. letters_step q s k a.st a.h a.uu a.v w t u (quiet_of q t c) b.0 b'.0 b.1.0 b'.1.0 b.1.1 b'.1.1 (wanted_at q s k a.st a.h a.uu a.v w u b.0 a.is)
        (wanted_at q s k a.st a.h a.uu a.v w (step q t u) b'.0 a.is) w.made j) rs w ws met
        (λ y m i born spelt is. absurd (none y i born)) in
        let spared : Hold (machine q) 0 rs w (AreSpared q s k a.st a.h a.uu a.v w.made) =
        windows_keep (machine q) Met (AreSpared q s k a.st a.h a.uu a.v w.made)
        (λ t u c b b' j. spared_step q s k a.st a.h a.uu a.v w t u (quiet_of q t c) b.0 b'.0 b.1.0 b'.1.0 b.1.1 b'.1.1 (wanted_at q s k a.st a.h a.uu a.v w u b.0 a.is)
        (wanted_at q s k a.st a.h a.uu a.v w (step q t u) b'.0 a.is) w.made j) rs w ws met
        (λ y m i born spelt is. none y i born) in
        said_resvs_are_kept_in_windows q w (over q s k a.st a.h a.uu a.v) a.v a.is.there rs ws bounds
        (subst (λ (z : Net). IsResvRefreshed q z (over q s k a.st a.h a.uu a.v) (joined rs) w) (sym first.0.0.same.net)
        (refreshed (over q s k a.st a.h a.uu a.v) a.v refl (subst (λ (z : Net). In a.h (hops_of z.hops s.group)) first.0.0.same.net a.is.there)
        (subst (λ (z : Net × Locals). get (want a.st z.0 z.1 s a.h) a.uu ≡ Some a.v) same a.is.wanted)))
        (hold_map (machine q) (λ u. Met u × (AreLetters q s k a.st a.h a.uu a.v w.made u × AreSpared q s k a.st a.h a.uu a.v w.made u)) (IsSaid q w.net (over q s k a.st a.h a.uu a.v) a.v w.made)
        (λ u h. said_at q s k a.st a.h a.uu a.v w u w.made h.0 a.is h.1) 0 rs w
        (hold_both (machine q) Met (λ u. AreLetters q s k a.st a.h a.uu a.v w.made u × AreSpared q s k a.st a.h a.uu a.v w.made u) 0 rs w met
        (hold_both (machine q) (AreLetters q s k a.st a.h a.uu a.v w.made) (AreSpared q s k a.st a.h a.uu a.v w.made) 0 rs w letters spared)))

    -- ---- all units over all hops of the next rank
    exact_up : Hold (machine q) 2 rs w (AreExactTo s (suc k))
    exact_up =
        hold_map (machine q) (λ u. (IsKnown q w u × IsSteady q s u) × ((a : Spot q s k w) → Stands (machine q) (soft_resv q w (resv_key w.net (over q s k a.st a.h a.uu a.v))) a.v u))
        (AreExactTo s (suc k))
        (λ u h. exact_at q s k w u h.0.0 h.0.1 h.1) 2 rs w
        (hold_both (machine q) (λ u. IsKnown q w u × IsSteady q s u) (λ u. (a : Spot q s k w) → Stands (machine q) (soft_resv q w (resv_key w.net (over q s k a.st a.h a.uu a.v))) a.v u) 2 rs w
        (hold_later (machine q) (λ u. IsKnown q w u × IsSteady q s u) 0 2 rs w (omega arith)
        (hold_both (machine q) (IsKnown q w) (IsSteady q s) 0 rs w known (hold_map (machine q) (IsUp k) (IsSteady q s) (λ u h. h.0.1) 0 rs w up)))
        (hold_all (machine q) (λ (a : Spot q s k w) u. Stands (machine q) (soft_resv q w (resv_key w.net (over q s k a.st a.h a.uu a.v))) a.v u) 2 rs w (λ a. unit_kept a)))

  -- ---- two windows at each rank
  abbrev pub IsStarted : World → Type 0
  IsStarted u = IsKnown q o u × IsSteady q s u

  exact_to : (k : ℕ) (rs : List (List Step)) (w : World) → Windows (machine q) rs w → AreRefreshed rs w → Hold (machine q) 0 rs w IsStarted → Hold (machine q) (2 * k) rs w (AreExactTo s k)
  exact_to zero rs w ws refreshed start =
      hold_map (machine q) IsStarted (AreExactTo s 0)
      (λ u g st h there near. let some = rank_some u.net g.1.ready.bounds.net.loop_free s.group h there in absurd (omega (arith, some, near))) 0 rs w start
  exact_to (suc k) rs w ws refreshed start =
      let e : 2 * k + 2 ≡ 2 * suc k = omega arith in
      rw (← e)
      (windows_stack (machine q) AreRefreshed later_ones (IsUp k) (AreExactTo s (suc k)) 2 (λ rs' w' ws' p up. exact_up k rs' w' ws' p up) (2 * k) rs w ws refreshed
      (hold_both (machine q) IsStarted (AreExactTo s k) (2 * k) rs w (hold_later (machine q) IsStarted 0 (2 * k) rs w (omega arith) start) (exact_to k rs w ws refreshed start)))

  pub exact_in_windows : (rs : List (List Step)) (w : World) → Windows (machine q) rs w → AreRefreshed rs w → Hold (machine q) 0 rs w IsStarted
      → Hold (machine q) (2 * longest o.net) rs w (AreExactOf s)
  exact_in_windows rs w ws refreshed start =
      let k : ℕ = longest o.net in
      hold_map (machine q) (λ u. IsStarted u × AreExactTo s k u) (AreExactOf s)
      (λ u h st hop there.
      let most = (rank_falls u.net h.0.1.ready.bounds.net.loop_free).hops s.group hop there in
      let net : longest u.net ≡ k = ap longest h.0.0.same.net in
      h.1 st hop there (omega (arith, most.1, net))) (2 * k) rs w
      (hold_both (machine q) IsStarted (AreExactTo s k) (2 * k) rs w (hold_later (machine q) IsStarted 0 (2 * k) rs w (omega arith) start) (exact_to k rs w ws refreshed start))
