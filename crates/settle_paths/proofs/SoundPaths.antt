-- Paths are sound: five rounds for each hop, after the first four.
use Rattle.std.proofs.Common.{◌≡◌, ℕ, zero, suc, ◌+◌, ◌*◌, ◌<◌, ◌≤◌, List, length, Bool, true, None, Some, ⊎_elim, arith, sym, refl, ap, subst, ◌∙◌}
use Rattle.std.specs.Prelude.{slice_get}
use Rattle.std.specs.Option.{option_map}
use Rattle.rsvp_base.specs.declared.session.Sender.{Sender}
use Rattle.rsvp_base.specs.Members.{In}
use Rattle.rsvp_base.specs.Table.{get}
use Rattle.rsvp_base.specs.TokenBucket.{TokenBucket}
use Rattle.rsvp_messages.specs.declared.message.Message.TheVariants as message
use Rattle.rsvp_messages.specs.declared.message.PathMsg.{PathMsg}
use Rattle.calm_rounds.specs.Machine.{Fresh}
use Rattle.calm_rounds.specs.Rounds.{Rounds}
use Rattle.calm_rounds.specs.Hold.{Hold}
use Rattle.calm_rounds.specs.SoftStates.{SaysOnly, KeepsOnly}
use Rattle.calm_rounds.proofs.Holding.{hold_map, hold_both, hold_all, hold_later, hold_start, hold_stack, hold_keep, hold_flush}
use Rattle.calm_rounds.proofs.Settling.{dies_out, only_what_is_said_is_kept}
use Rattle.tree_model.specs.Goals.{addr_of}
use Rattle.router_rules.specs.Facts.{Facts, SenderKey, PathState}
use Rattle.router_rules.specs.Inputs.{Spelt}
use Rattle.tree_model.specs.Networks.{Net, node_of, end_at, iface_of, peers}
use Rattle.tree_model.specs.Ranks.{longest}
use Rattle.tree_model.specs.Trees.{tree, inward, outward, depth}
use Rattle.tree_model.specs.Valid.{IsValid}
use Rattle.tree_model.proofs.Depths.{depth_and_rank_within_longest}
use Rattle.tree_model.proofs.Ifaces.{interfaces_are_ends}
use Rattle.tree_model.proofs.Links.{one_sending_end_on_a_link}
use Rattle.tree_model.proofs.TreeLaws.{way_in_told}
use Rattle.network_model.specs.Bounds.{AreBounds}
use Rattle.network_model.specs.Locals.{IsLive}
use Rattle.network_model.specs.Sound.{IsSoundAt, ArePathsSound}
use Rattle.network_model.specs.Steps.{Step, is_quiet, sent, step, machine}
use Rattle.network_model.specs.Worlds.{Item, World}
use Rattle.network_model.proofs.Machines.{quiet_of, time_passes, items_are_numbered, in_flight_after}
use Rattle.laws_network.specs.Known.{IsSameNet, IsKnown}
use Rattle.laws_network.proofs.Known.{of_some, known_hold}
use Rattle.settle_paths.specs.SoftPaths.{PathValue, value_of, path_at, SaysPath, soft_path}
use Rattle.settle_paths.proofs.SoftPaths.{path_made, iface_made, path_keeps}
use Rattle.settle_paths.proofs.PathSends.{IsPathSent, path_sent}
use Rattle.laws_network.proofs.Standing.{end_of, inward_there}

-- a sender that is live in the one is so in the other
pub live_again : (o u : World) (k : SenderKey) (t : TokenBucket) → IsSameNet o u → IsLive o k t → IsLive u k t
live_again o u k t same l = record { node = l.node; senders = l.senders; at = same.senders l.node ∙ l.at; sends = l.sends }

pub sound_again : (o u : World) (k : SenderKey) (e : ℕ) (v : PathValue) → IsSameNet o u → IsSoundAt o k e v → IsSoundAt u k e v
sound_again o u k e v same s = record {
  hop = s.hop;
  there = subst (λ (z : Net). In s.hop (tree z.hops k.0.group k.1.addr)) (sym same.net) s.there;
  to = s.to;
  from = s.from ∙ ap (λ (z : Net). addr_of z s.hop.from) (sym same.net);
  live = live_again o u k v.1 same s.live;
}

-- a path is on an interface of its node, which is an end
pub path_end : (q : ℕ) (o u : World) (n : ℕ) (f : Facts) (k : SenderKey) (x : PathState) → IsKnown q o u → slice_get u.nodes n ≡ Some f → get f.paths k ≡ Some x
    → (e : ℕ) × (end_at o.net.ends n x.iface ≡ Some e) × (e < length o.net.ends) × (node_of o.net.ends e ≡ n) × (iface_of o.net.ends e ≡ x.iface)
path_end q o u n f k x a there h =
    let e = end_of q u.net u.trees n x.iface ((a.bounds.facts n f there).shapes.paths k x h).iface in
    let at : end_at o.net.ends n x.iface ≡ Some e.0 = subst (λ (z : Net). end_at z.ends n x.iface ≡ Some e.0) a.same.net e.1 in
    let of = (interfaces_are_ends o.net).iface_of_end n x.iface e.0 at in
    (e.0, at, of.0, of.1, of.2)

module _ (q : ℕ) (o : World) (valid : IsValid o.net) where
  -- ---- spots: a sender's key at an end whose node is so many hops from the root at most
  abbrev pub Spot : ℕ → Type 0
  Spot d = (k : SenderKey) × (e : ℕ) × (e < length o.net.ends) × (depth o.net k.0.group k.1.addr (node_of o.net.ends e) ≤ d)

  abbrev pub SoundIn : SenderKey → ℕ → World → Type 0
  SoundIn k e u = KeepsOnly (machine q) (soft_path q o k e) (IsSoundAt o k e) u × SaysOnly (machine q) (soft_path q o k e) (IsSoundAt o k e) 0 u

  abbrev pub Level : ℕ → World → Type 0
  Level d u = (a : Spot d) → SoundIn a.0 a.1 u

  -- to the root comes no Path
  pub no_one : (k : SenderKey) (e : ℕ) → depth o.net k.0.group k.1.addr (node_of o.net.ends e) ≤ 0 → (y : Item) (v : PathValue) → SaysPath o.net k e y v → ⊥
  no_one k e le y v says =
      let h = way_in_told o.net valid (node_of o.net.ends e) e k.0.group k.1.addr says.inward in
      let along = (depth_and_rank_within_longest o.net valid).along k.0.group k.1.addr h.0 h.1 in
      let same = ap (λ (z : ℕ). depth o.net k.0.group k.1.addr (node_of o.net.ends z)) h.2 in
      omega arith

  level_0 : (rs : List (List Step)) (w : World) → Rounds (machine q) rs w → Hold (machine q) 0 rs w (IsKnown q o) → Hold (machine q) 4 rs w (Level 0)
  level_0 rs w calm known =
      hold_all (machine q) (λ (a : Spot 0) u. SoundIn a.0 a.1 u) 4 rs w
      (λ a.
      hold_map (machine q) (KeepsOnly (machine q) (soft_path q o a.0 a.1) (λ _. ⊥)) (SoundIn a.0 a.1)
      (λ u none. ((λ v d h. absurd (none v d h)), (λ y v i le says. absurd (no_one a.0 a.1 a.3 y v says)))) 4 rs w
      (dies_out (machine q) (time_passes q) (items_are_numbered q) (soft_path q o a.0 a.1) (path_keeps q o a.0 a.1 a.2) (λ _. ⊥) (λ v v0 b f. f) rs w calm known
      (hold_map (machine q) (IsKnown q o) (SaysOnly (machine q) (soft_path q o a.0 a.1) (λ _. ⊥) 0) (λ u g y v i le says. no_one a.0 a.1 a.3 y v says) 0 rs w known)))

  -- ---- what a node sends that is less far from the root is sound
  sent_sound : (d : ℕ) (k : SenderKey) (e : ℕ) → depth o.net k.0.group k.1.addr (node_of o.net.ends e) ≤ suc d → (u' : World) → IsKnown q o u' → Level d u'
      → (y : Item) (v : PathValue) (says : SaysPath o.net k e y v) → IsPathSent q o.net u' y says.path → IsSoundAt o k e v
  sent_sound d k e le u' a' level y v says p =
      let both : ◌≡◌ {A = Sender × TokenBucket} (p.sender, p.tspec) (k.1, v.1) = of_some (p.sender, p.tspec) (k.1, v.1) (sym p.of ∙ says.sender) in
      let key : (says.path.session, p.sender) ≡ k = (let x : p.sender ≡ k.1 = ap (λ (z : Sender × TokenBucket). z.0) both in λ i. (says.session i, x i)) in
      let flow : p.tspec ≡ v.1 = ap (λ (z : Sender × TokenBucket). z.1) both in
      let leaves : In p.end (outward o.net (node_of o.net.ends p.end) k.0.group k.1.addr) =
      subst (λ (z : ℕ). In p.end (outward o.net z k.0.group k.1.addr)) (sym p.at) (subst (λ (z : SenderKey). In p.end (outward o.net p.node z.0.group z.1.addr)) key p.leaves) in
      let to : In e (peers o.net.links p.end) = subst (λ (z : ℕ). In z (peers o.net.links p.end)) says.end p.to in
      let h = (one_sending_end_on_a_link o.net valid).hop k.0.group k.1.addr p.end e leaves to says.inward in
      let along = (depth_and_rank_within_longest o.net valid).along k.0.group k.1.addr h.0 h.1 in
      let low : depth o.net k.0.group k.1.addr p.node ≤ d =
      (let x = ap (λ (z : ℕ). depth o.net k.0.group k.1.addr (node_of o.net.ends z)) h.2 in
      let y = ap (λ (z : ℕ). depth o.net k.0.group k.1.addr (node_of o.net.ends z)) h.3 in
      let z = ap (λ (z : ℕ). depth o.net k.0.group k.1.addr z) p.at in
      omega arith) in
      record {
        hop = h.0;
        there = h.1;
        to = h.3;
        from = says.hop ∙ p.hop ∙ ap (addr_of o.net) (sym h.2);
        live = ⊎_elim
            (λ (local : get p.facts.senders (says.path.session, p.sender) ≡ Some p.tspec).
            record {
              node = p.node;
              senders = p.facts.senders;
              at = sym (a'.same.senders p.node) ∙ ap (option_map (λ (f : Facts). f.senders)) p.after;
              sends = ap (λ (z : SenderKey). get p.facts.senders z) (sym key) ∙ local ∙ ap Some flow;
            })
            (λ (path : (x : PathState) × (get p.facts.paths (says.path.session, p.sender) ≡ Some x) × (p.tspec ≡ x.tspec)).
            let there : get p.facts.paths k ≡ Some path.0 = ap (λ (z : SenderKey). get p.facts.paths z) (sym key) ∙ path.1 in
            let b = path_end q o u' p.node p.facts k path.0 a' p.after there in
            let sound : IsSoundAt o k b.0 (value_of path.0) =
            (level (k, b.0, b.2, subst (λ (z : ℕ). depth o.net k.0.group k.1.addr z ≤ d) (sym b.3) low)).0 (value_of path.0) path.0.dies
            (iface_made (iface_of o.net.ends b.0) (path_at u' (node_of o.net.ends b.0) k) path.0 (ap (λ (z : ℕ). path_at u' z k) b.3 ∙ path_made u' p.node k path.0 p.facts p.after there) (sym b.4)) in
            subst (λ (z : TokenBucket). IsLive o k z) (sym path.2 ∙ flow) sound.live) p.source;
      }

  pub says_step : (d n : ℕ) (k : SenderKey) (e : ℕ) → depth o.net k.0.group k.1.addr (node_of o.net.ends e) ≤ suc d → (s : Step) (u : World) → is_quiet s ≡ true
      → IsKnown q o u × Level d u → IsKnown q o (step q s u) × Level d (step q s u)
      → SaysOnly (machine q) (soft_path q o k e) (IsSoundAt o k e) n u → SaysOnly (machine q) (soft_path q o k e) (IsSoundAt o k e) n (step q s u)
  says_step d n k e le s u quiet a a' j y v i born says =
      ⊎_elim
      (λ (old : In y u.flight). j y v old born says)
      (λ (new : (b : Bool) × In (y, b) (sent q s u)).
      sent_sound d k e le (step q s u) a'.0 a'.1 y v says
      (subst (λ (z : Net). IsPathSent q z (step q s u) y says.path) a.0.same.net (path_sent q s u quiet a.0.bounds y new.0 says.path new.1 says.spelt)))
      (in_flight_after q s u y quiet i)

  level_up : (d : ℕ) (rs : List (List Step)) (w : World) → Rounds (machine q) rs w → Hold (machine q) 0 rs w (λ u. IsKnown q o u × Level d u) → Hold (machine q) 5 rs w (Level (suc d))
  level_up d rs w calm both =
      let known : Hold (machine q) 0 rs w (IsKnown q o) = hold_map (machine q) (λ u. IsKnown q o u × Level d u) (IsKnown q o) (λ u h. h.0) 0 rs w both in
      hold_all (machine q) (λ (a : Spot (suc d)) u. SoundIn a.0 a.1 u) 5 rs w
      (λ a.
      only_what_is_said_is_kept (machine q) (time_passes q) (items_are_numbered q) (soft_path q o a.0 a.1) (path_keeps q o a.0 a.1 a.2) (IsSoundAt o a.0 a.1)
      (λ v v0 b f. subst (IsSoundAt o a.0 a.1) (sym b) f) rs w calm known
      (hold_keep (machine q) (λ u. IsKnown q o u × Level d u) (SaysOnly (machine q) (soft_path q o a.0 a.1) (IsSoundAt o a.0 a.1) w.made)
      (λ s u quiet b b' j. says_step d w.made a.0 a.1 a.3 s u (quiet_of q s quiet) b b' j) rs w calm both
      (λ y v i born says. let old = ((hold_start (machine q) (IsKnown q o) rs w known).bounds.flight y i).born in absurd (omega arith))))

  levels : (d : ℕ) (rs : List (List Step)) (w : World) → Rounds (machine q) rs w → Hold (machine q) 0 rs w (IsKnown q o) → Hold (machine q) (4 + 5 * d) rs w (Level d)
  levels zero rs w calm known = level_0 rs w calm known
  levels (suc d) rs w calm known =
      let e : (4 + 5 * d) + 5 ≡ 4 + 5 * suc d = omega arith in
      rw (← e)
      (hold_stack (machine q) (λ u. IsKnown q o u × Level d u) (Level (suc d)) 5 (level_up d) (4 + 5 * d) rs w calm
      (hold_both (machine q) (IsKnown q o) (Level d) (4 + 5 * d) rs w
      (hold_later (machine q) (IsKnown q o) 0 (4 + 5 * d) rs w (omega arith) known) (levels d rs w calm known)))

  -- ---- each Path has a sender, once what was in flight is gone
  abbrev pub AreNamed : ℕ → World → Type 0
  AreNamed n u = (y : Item) (m : PathMsg) → In y u.flight → n ≤ y.born → y.arrival ≡ Spelt (message.Path m) → m.sender ≡ None → ⊥

  pub named_step : (n : ℕ) (s : Step) (u : World) → is_quiet s ≡ true → IsKnown q o u → AreNamed n u → AreNamed n (step q s u)
  named_step n s u quiet a j y m i born spelt none =
      ⊎_elim
      (λ (old : In y u.flight). j y m old born spelt none)
      (λ (new : (b : Bool) × In (y, b) (sent q s u)).
      let p = path_sent q s u quiet a.bounds y new.0 m new.1 spelt in
      let no : Some (p.sender, p.tspec) ≡ None = sym p.of ∙ none in absurd (cc))
      (in_flight_after q s u y quiet i)

  named : (rs : List (List Step)) (w : World) → Rounds (machine q) rs w → Hold (machine q) 0 rs w (IsKnown q o) → Hold (machine q) 1 rs w (AreNamed 0)
  named rs w calm known =
      hold_map (machine q) (λ u. AreNamed w.made u × Fresh (machine q) w.made u) (AreNamed 0) (λ u h y m i le. h.0 y m i (h.1 y i)) 1 rs w
      (hold_both (machine q) (AreNamed w.made) (Fresh (machine q) w.made) 1 rs w
      (hold_later (machine q) (AreNamed w.made) 0 1 rs w (omega arith)
      (hold_keep (machine q) (IsKnown q o) (AreNamed w.made) (λ s u quiet a a' j. named_step w.made s u (quiet_of q s quiet) a j) rs w calm known
      (λ y m i born. let old = ((hold_start (machine q) (IsKnown q o) rs w known).bounds.flight y i).born in absurd (omega arith))))
      (hold_flush (machine q) (items_are_numbered q) rs w calm))

  -- ---- all together
  pub all_sound : (u : World) → IsKnown q o u → Level (longest o.net) u → AreNamed 0 u → ArePathsSound u
  all_sound u a level names = record {
    facts = λ n f k x there h.
        let b = path_end q o u n f k x a there h in
        let deep = (depth_and_rank_within_longest o.net valid).every k.0.group k.1.addr (node_of o.net.ends b.0) in
        record {
          end = b.0;
          at = subst (λ (z : Net). end_at z.ends n x.iface ≡ Some b.0) (sym a.same.net) b.1;
          sound = sound_again o u k b.0 (value_of x) a.same
              ((level (k, b.0, b.2, deep)).0 (value_of x) x.dies (iface_made (iface_of o.net.ends b.0) (path_at u (node_of o.net.ends b.0) k) x
              (ap (λ (z : ℕ). path_at u z k) b.3 ∙ path_made u n k x f there h) (sym b.4)));
        };
    items = λ y m x t i spelt sender way.
        let inside : inward o.net (node_of o.net.ends y.end) m.session.group x.addr ≡ Some y.end =
        subst (λ (z : Net). inward z (node_of z.ends y.end) m.session.group x.addr ≡ Some y.end) a.same.net way in
        let deep = (depth_and_rank_within_longest o.net valid).every m.session.group x.addr (node_of o.net.ends y.end) in
        sound_again o u (m.session, x) y.end (m.hop.addr, t) a.same
        ((level ((m.session, x), y.end, (inward_there o.net valid (node_of o.net.ends y.end) y.end m.session.group x.addr inside).0, deep)).1 y (m.hop.addr, t) i (omega arith)
        (record { end = refl; path = m; spelt = spelt; session = refl; sender = sender; hop = refl; inward = inside }));
    named = λ y m i spelt none. names y m i (omega arith) spelt none;
  }

pub paths_are_sound : (q : ℕ) (w : World) (rs : List (List Step)) → Rounds (machine q) rs w → Hold (machine q) 0 rs w (AreBounds q) → Hold (machine q) (4 + 5 * longest w.net) rs w ArePathsSound
paths_are_sound q w rs calm bounds =
    let valid : IsValid w.net = (hold_start (machine q) (AreBounds q) rs w bounds).net in
    let known = known_hold q w rs calm bounds in
    let k : ℕ = 4 + 5 * longest w.net in
    hold_map (machine q) (λ u. (IsKnown q w u × Level q w valid (longest w.net) u) × AreNamed q w valid 0 u) ArePathsSound (λ u h. all_sound q w valid u h.0.0 h.0.1 h.1) k rs w
    (hold_both (machine q) (λ u. IsKnown q w u × Level q w valid (longest w.net) u) (AreNamed q w valid 0) k rs w
    (hold_both (machine q) (IsKnown q w) (Level q w valid (longest w.net)) k rs w (hold_later (machine q) (IsKnown q w) 0 k rs w (omega arith) known)
    (levels q w valid (longest w.net) rs w calm known))
    (hold_later (machine q) (AreNamed q w valid 0) 1 k rs w (omega arith) (named q w valid rs w calm known)))

-- ---- one hop of a Path: only what is said is kept
pub only_said_paths_are_kept : (q : ℕ) (w : World) (k : SenderKey) (e : ℕ) → e < length w.net.ends → (allowed : PathValue → Bool) (rs : List (List Step)) → Rounds (machine q) rs w
    → Hold (machine q) 0 rs w (AreBounds q)
    → Hold (machine q) 0 rs w (SaysOnly (machine q) (soft_path q w k e) (λ v. allowed v ≡ true) w.made)
    → Hold (machine q) 5 rs w (λ u. KeepsOnly (machine q) (soft_path q w k e) (λ v. allowed v ≡ true) u × SaysOnly (machine q) (soft_path q w k e) (λ v. allowed v ≡ true) 0 u)
only_said_paths_are_kept q w k e lt allowed rs calm bounds says =
    only_what_is_said_is_kept (machine q) (time_passes q) (items_are_numbered q) (soft_path q w k e) (path_keeps q w k e lt) (λ v. allowed v ≡ true)
    (λ v v0 b f. ap allowed b ∙ f) rs w calm (known_hold q w rs calm bounds) says
