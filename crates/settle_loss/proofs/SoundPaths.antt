-- Sound paths stay sound by each quiet step.
use Rattle.std.proofs.Common.{◌≡◌, ℕ, zero, suc, ◌<◌, ◌≤◌, length, List, true, Some, ⊎_elim, arith, sym, ap, subst, ◌∙◌}
use Rattle.rsvp_base.specs.declared.session.Session.{Session}
use Rattle.rsvp_base.specs.Members.{In}
use Rattle.calm_rounds.specs.Rounds.{AreQuiet}
use Rattle.calm_rounds.specs.Hold.{Visited}
use Rattle.calm_rounds.specs.SoftStates.{KeepsOnly}
use Rattle.calm_rounds.proofs.Holding.{visited_keep}
use Rattle.tree_model.specs.Goals.{addr_of}
use Rattle.tree_model.specs.Networks.{Net, node_of, iface_of, end_at}
use Rattle.tree_model.specs.Ranks.{longest}
use Rattle.tree_model.specs.Trees.{tree, inward}
use Rattle.tree_model.specs.Valid.{IsValid}
use Rattle.tree_model.proofs.Ifaces.{interfaces_are_ends}
use Rattle.router_rules.specs.Facts.{SenderKey}
use Rattle.network_model.specs.Sound.{IsSoundAt, ArePathsSound}
use Rattle.network_model.specs.Steps.{Step, is_calm, step, machine}
use Rattle.network_model.specs.Worlds.{Item, World}
use Rattle.network_model.proofs.Machines.{quiet_of, in_arrived}
use Rattle.laws_network.specs.Known.{IsSameNet, IsKnown}
use Rattle.laws_network.proofs.Known.{of_some}
use Rattle.settle_paths.specs.SoftPaths.{PathValue, path_at, by_iface, SaysPath, soft_path}
use Rattle.settle_paths.proofs.SoftPaths.{path_found, iface_found, path_keeps}
use Rattle.settle_paths.proofs.SoundPaths.{SoundIn, Level, no_one, says_step, named_step, all_sound}
use Rattle.settle_paths.proofs.CompletePaths.{live_back}
use Rattle.settle_loss.proofs.KnownWorlds.{known_step}

module _ (q : ℕ) (o : World) (valid : IsValid o.net) where
  -- ---- what is kept after a step was kept, or arrived
  kept_step : (k : SenderKey) (e : ℕ) → e < length o.net.ends → (s : Step) (u : World) → is_calm q s ≡ true → IsKnown q o u → SoundIn q o valid k e u
      → KeepsOnly (machine q) (soft_path q o k e) (IsSoundAt o k e) (step q s u)
  kept_step k e lt s u calm a sound v d h =
      ⊎_elim
      (λ (old : (v0 : PathValue) × (by_iface (iface_of o.net.ends e) (path_at u (node_of o.net.ends e) k) ≡ Some (v0, d)) × (v ≡ v0)).
      subst (IsSoundAt o k e) (sym old.2) (sound.0 old.0 d old.1))
      (λ (new : (y : Item) × (v0 : PathValue) × ((machine q).arrived s u ≡ Some y) × SaysPath o.net k e y v0 × (v ≡ v0)).
      subst (IsSoundAt o k e) (sym new.4) (sound.1 new.0 new.1 (in_arrived s u new.0 new.2) (omega arith) new.3))
      ((path_keeps q o k e lt).set s u v d calm a (known_step q o s u calm a) h)

  level_step : (d : ℕ) (s : Step) (u : World) → is_calm q s ≡ true → IsKnown q o u → Level q o valid d u → Level q o valid d (step q s u)
  level_step zero s u calm a level =
      λ x. (kept_step x.0 x.1 x.2 s u calm a (level x), λ y v i le says. absurd (no_one q o valid x.0 x.1 x.3 y v says))
  level_step (suc d) s u calm a level =
      let low : Level q o valid d u = λ x. level (x.0, x.1, x.2, omega (arith, x.3)) in
      let low' : Level q o valid d (step q s u) = level_step d s u calm a low in
      λ x. (
        kept_step x.0 x.1 x.2 s u calm a (level x),
        says_step q o valid d 0 x.0 x.1 x.3 s u (quiet_of q s calm) (a, low) (known_step q o s u calm a, low') (level x).1,
      )

  -- ---- sound paths are sound at each end
  sound_back : (u : World) (k : SenderKey) (e : ℕ) (v : PathValue) → IsSameNet o u → IsSoundAt u k e v → IsSoundAt o k e v
  sound_back u k e v same s = record {
    hop = s.hop;
    there = subst (λ (z : Net). In s.hop (tree z.hops k.0.group k.1.addr)) same.net s.there;
    to = s.to;
    from = s.from ∙ ap (λ (z : Net). addr_of z s.hop.from) same.net;
    live = live_back o u k v.1 same s.live;
  }

  sound_in : (u : World) → IsKnown q o u → ArePathsSound u → (k : SenderKey) (e : ℕ) → e < length o.net.ends → SoundIn q o valid k e u
  sound_in u a sound k e lt = (kept, said)
    where
      kept : (v : PathValue) (d : ℕ) → by_iface (iface_of o.net.ends e) (path_at u (node_of o.net.ends e) k) ≡ Some (v, d) → IsSoundAt o k e v
      kept v d h =
          let x = iface_found (iface_of o.net.ends e) (path_at u (node_of o.net.ends e) k) v d h in
          let f = path_found u (node_of o.net.ends e) k x.0 x.1 in
          let p = sound.facts (node_of o.net.ends e) f.0 k x.0 f.1 f.2 in
          let at : end_at o.net.ends (node_of o.net.ends e) (iface_of o.net.ends e) ≡ Some p.end =
          subst (λ (i : ℕ). end_at o.net.ends (node_of o.net.ends e) i ≡ Some p.end) x.2 (subst (λ (z : Net). end_at z.ends (node_of o.net.ends e) x.0.iface ≡ Some p.end) a.same.net p.at) in
          let same : p.end ≡ e = of_some p.end e (sym at ∙ (interfaces_are_ends o.net).end_of_iface e lt) in
          subst (λ (z : PathValue). IsSoundAt o k e z) (sym x.3)
          (subst (λ (z : ℕ). IsSoundAt o k z (x.0.hop.addr, x.0.tspec)) same (sound_back u k p.end (x.0.hop.addr, x.0.tspec) a.same p.sound))

      said : (y : Item) (v : PathValue) → In y u.flight → 0 ≤ y.born → SaysPath o.net k e y v → IsSoundAt o k e v
      said y v i le says =
          let w1 : inward o.net (node_of o.net.ends y.end) k.0.group k.1.addr ≡ Some y.end =
          subst (λ (z : ℕ). inward o.net (node_of o.net.ends z) k.0.group k.1.addr ≡ Some z) (sym says.end) says.inward in
          let w2 : inward o.net (node_of o.net.ends y.end) says.path.session.group k.1.addr ≡ Some y.end =
          subst (λ (z : Session). inward o.net (node_of o.net.ends y.end) z.group k.1.addr ≡ Some y.end) (sym says.session) w1 in
          let w3 : inward u.net (node_of u.net.ends y.end) says.path.session.group k.1.addr ≡ Some y.end =
          subst (λ (z : Net). inward z (node_of z.ends y.end) says.path.session.group k.1.addr ≡ Some y.end) (sym a.same.net) w2 in
          let s : IsSoundAt u (says.path.session, k.1) y.end (says.path.hop.addr, v.1) = sound.items y says.path k.1 v.1 i says.spelt says.sender w3 in
          let key : ◌≡◌ {A = SenderKey} (says.path.session, k.1) k = (λ j. (says.session j, k.1)) in
          let s1 : IsSoundAt u k y.end (says.path.hop.addr, v.1) = subst (λ (z : SenderKey). IsSoundAt u z y.end (says.path.hop.addr, v.1)) key s in
          sound_back u k e v a.same (record { hop = s1.hop; there = s1.there; to = s1.to ∙ says.end; from = says.hop ∙ s1.from; live = s1.live })

  -- ---- so they stay sound
  pub sound_step : (s : Step) (u : World) → is_calm q s ≡ true → IsKnown q o u → ArePathsSound u → ArePathsSound (step q s u)
  sound_step s u calm a sound =
      all_sound q o valid (step q s u) (known_step q o s u calm a)
      (level_step (longest o.net) s u calm a (λ x. sound_in u a sound x.0 x.1 x.2))
      (named_step q o valid 0 s u (quiet_of q s calm) a (λ y m i born spelt none. sound.named y m i spelt none))

  pub sound_visited : (ss : List Step) (w : World) → AreQuiet (machine q) ss → Visited (machine q) (IsKnown q o) ss w → ArePathsSound w → Visited (machine q) ArePathsSound ss w
  sound_visited ss w quiet known sound = visited_keep (machine q) (IsKnown q o) ArePathsSound (λ s u calm a _ j. sound_step s u calm a j) ss w quiet known sound
