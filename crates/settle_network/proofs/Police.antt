-- Paths come to say E_Police exactly where the sender's own node sends them.
use Rattle.std.proofs.Common.{◌≡◌, ℕ, zero, suc, ◌+◌, ◌<◌, List, [], ◌∷◌, length, Bool, true, false, cond, Option, None, Some, inl, inr, ⊎_elim, arith, refl, sym, ap, subst, ◌∙◌}
use Rattle.std.specs.Prelude.{◌↔◌, ◌==◌, slice_get, map as each}
use Rattle.rsvp_base.specs.declared.addr.Addr.{Addr}
use Rattle.rsvp_base.specs.declared.session.Sender.{Sender}
use Rattle.rsvp_base.specs.Members.{In}
use Rattle.rsvp_base.specs.Table.{get, keys}
use Rattle.rsvp_base.specs.TokenBucket.{TokenBucket}
use Rattle.rsvp_base.proofs.Counts.{found_in}
use Rattle.rsvp_base.proofs.Members.{in_left, in_right, to_each}
use Rattle.rsvp_messages.specs.declared.message.Message.TheVariants as message
use Rattle.rsvp_messages.specs.declared.message.PathMsg.{PathMsg}
use Rattle.calm_rounds.specs.Hold.{Hold}
use Rattle.calm_rounds.specs.Rounds.{Rounds}
use Rattle.calm_rounds.specs.SoftStates.{KeepLaws, KeepsOnly, SaysOnly, SoftState}
use Rattle.calm_rounds.proofs.Holding.{hold_all, hold_both, hold_keep, hold_later, hold_map, hold_start}
use Rattle.calm_rounds.proofs.Settling.{only_what_is_said_is_kept}
use Rattle.router_rules.specs.Facts.{Facts, PathState, SenderKey, sender_keys}
use Rattle.router_rules.specs.Inputs.{Spelt}
use Rattle.router_rules.specs.NodeConfig.{NodeConfig}
use Rattle.router_rules.specs.Rule.{Outcome}
use Rattle.router_rules.specs.Steps.{node_step}
use Rattle.laws_network.specs.Known.{IsKnown}
use Rattle.laws_network.specs.Sources.{IsLocalOffer, IsPathOffer}
use Rattle.laws_network.specs.SpeakingLaws.{IsOfOffer}
use Rattle.laws_network.proofs.Keeping.{calm_rounds_keep_bounds}
use Rattle.laws_network.proofs.Known.{known_hold, of_some}
use Rattle.laws_network.proofs.Sends.{sent_by_rule}
use Rattle.laws_network.proofs.Speaking.{what_a_path_sent_says}
use Rattle.laws_network.proofs.Standing.{own_end, same_end, some_at, way_out}
use Rattle.tree_model.specs.declared.locals.LocalSender.{LocalSender}
use Rattle.tree_model.specs.Goals.{addr_of, addr_of_end}
use Rattle.tree_model.specs.Networks.{Net, iface_of, node_of}
use Rattle.tree_model.specs.Valid.{IsValid}
use Rattle.tree_model.specs.Wants.{Locals}
use Rattle.tree_model.proofs.Following.{number_same, same_number}
use Rattle.tree_model.proofs.Ifaces.{interfaces_are_ends}
use Rattle.network_model.specs.Bounds.{AreBounds}
use Rattle.network_model.specs.Locals.{locals_of, sender_at, senders_from}
use Rattle.network_model.specs.Steps.{Step, Track, is_quiet, machine, ms_of, outcome, sent, step}
use Rattle.network_model.specs.Worlds.{Item, World, config_of}
use Rattle.network_model.proofs.Machines.{in_flight_after, items_are_numbered, quiet_of, time_passes}
use Rattle.network_model.proofs.NodeLocals.{sender_of_node}
use Rattle.network_model.proofs.Stepping.{facts_after_made}
use Rattle.settle_paths.specs.SoftPaths.{path_at}
use Rattle.settle_paths.proofs.SoftPaths.{IsBrought, path_made, path_room, path_source}
use Rattle.settle_paths.proofs.SoundPaths.{path_end}
use Rattle.settle_network.specs.Flags.{ArePathsPoliced, IsPoliced}

-- ---- the local senders of a network are those of its nodes
placed : (j n : ℕ) (fs : List Facts) (f : Facts) (k : SenderKey) → slice_get fs n ≡ Some f → In k (keys f.senders) → In (sender_at (j + n) k) (senders_from j fs)
placed j n [] f k e i = absurd (cc)
placed j zero (g ∷ fs) f k e i =
    let same : f ≡ g = cc in
    let z : j ≡ j + 0 = omega arith in
    subst (λ (m : ℕ). In (sender_at m k) (senders_from j (g ∷ fs))) z
    (in_left (sender_at j k) (each (sender_at j) (keys g.senders)) (senders_from (suc j) fs) (to_each (sender_at j) k (keys g.senders) (subst (λ (h : Facts). In k (keys h.senders)) same i)))
placed j (suc n) (g ∷ fs) f k e i =
    let z : suc j + n ≡ j + suc n = omega arith in
    subst (λ (m : ℕ). In (sender_at m k) (senders_from j (g ∷ fs))) z
    (in_right (sender_at (suc j + n) k) (each (sender_at j) (keys g.senders)) (senders_from (suc j) fs) (placed (suc j) n fs f k e i))

pub node_sends : (w : World) (n : ℕ) (f : Facts) (k : SenderKey) (t : TokenBucket) → slice_get w.nodes n ≡ Some f → get f.senders k ≡ Some t → In (sender_at n k) (locals_of w).senders
node_sends w n f k t at there =
    let z : 0 + n ≡ n = omega arith in
    subst (λ (m : ℕ). In (sender_at m k) (locals_of w).senders) z
    (placed 0 n w.nodes f k at (to_each (λ (e : SenderKey × TokenBucket). e.0) (k, t) f.senders.rows (found_in sender_keys f.senders k t there)))

pub sends_at : (w : World) (n : ℕ) (f : Facts) (k : SenderKey) → slice_get w.nodes n ≡ Some f → In (sender_at n k) (locals_of w).senders → (t : TokenBucket) × (get f.senders k ≡ Some t)
sends_at w n f k at i =
    let r = sender_of_node w (sender_at n k) i in
    let same : r.0 ≡ f = of_some r.0 f (sym r.3 ∙ at) in
    let session : r.1.0 ≡ k.0 = ap (λ (z : LocalSender). z.session) (sym r.5) in
    let sender : r.1.1 ≡ k.1 = ap (λ (z : LocalSender). z.sender) (sym r.5) in
    let key : r.1 ≡ k = (λ j. (session j, sender j)) in
    (r.2, sym (λ j. get (same j).senders (key j)) ∙ r.4)

-- ---- an address is of one end
one_end : (net : Net) → IsValid net → (a b : ℕ) → a < length net.ends → b < length net.ends → addr_of net a ≡ addr_of net b → a ≡ b
one_end net valid a b in_a in_b same =
    let x = some_at net.ends a in_a in
    let y = some_at net.ends b in_b in
    valid.one_address a b x.0 y.0 x.1 y.1 (sym (ap addr_of_end x.1) ∙ same ∙ ap addr_of_end y.1)

-- ---- what is kept of E_Police at an end, as soft state
abbrev PoliceValue : Type 0
PoliceValue = Addr × Bool

abbrev police_of : PathState → PoliceValue
police_of x = (x.hop.addr, x.police)

abbrev police_by : ℕ → Option PathState → Option (PoliceValue × ℕ)
police_by i None = None
police_by i (Some x) = cond (x.iface == i) (Some (police_of x, x.dies)) None

-- the item is a Path of the key that comes to the end
record SaysPolice (k : SenderKey) (e : ℕ) (y : Item) (v : PoliceValue) : Type 0 where
  end : y.end ≡ e
  path : PathMsg
  tspec : TokenBucket
  spelt : y.arrival ≡ Spelt (message.Path path)
  session : path.session ≡ k.0
  sender : path.sender ≡ Some (k.1, tspec)
  hop : v.0 ≡ path.hop.addr
  police : v.1 ≡ path.police

abbrev soft_police : ℕ → World → SenderKey → ℕ → SoftState World Step Item Track PoliceValue
soft_police q w k e = record {
  sane = IsKnown q w;
  kept = λ u. police_by (iface_of w.net.ends e) (path_at u (node_of w.net.ends e) k);
  says = SaysPolice k e;
  letter = λ y. false;
  life = λ y. 0;
  below = λ v v0. v ≡ v0;
  due = λ u. None;
  fires = λ s u. ⊥;
  track = None;
}

found : (i : ℕ) (o : Option PathState) (v : PoliceValue) (d : ℕ) → police_by i o ≡ Some (v, d) → (x : PathState) × (o ≡ Some x) × (x.iface ≡ i) × (v ≡ police_of x) × (d ≡ x.dies)
found i None v d e = absurd (cc)
found i (Some x) v d e = by (x.iface == i) refl e
  where
    by : (b : Bool) → (x.iface == i) ≡ b → ◌≡◌ {A = Option (PoliceValue × ℕ)} (cond b (Some (police_of x, x.dies)) None) (Some (v, d))
        → (y : PathState) × (Some x ≡ Some y) × (y.iface ≡ i) × (v ≡ police_of y) × (d ≡ y.dies)
    by true t h =
        let same : ◌≡◌ {A = PoliceValue × ℕ} (police_of x, x.dies) (v, d) = cc in
        (x, refl, same_number x.iface i t, sym (ap (λ (z : PoliceValue × ℕ). z.0) same), sym (ap (λ (z : PoliceValue × ℕ). z.1) same))
    by false t h = absurd (cc)

made : (i : ℕ) (o : Option PathState) (x : PathState) → o ≡ Some x → x.iface ≡ i → police_by i o ≡ Some (police_of x, x.dies)
made i o x e at = ap (police_by i) e ∙ ap (λ (b : Bool). cond {A = Option (PoliceValue × ℕ)} b (Some (police_of x, x.dies)) None) (number_same x.iface i at)

police_keeps : (q : ℕ) (w : World) (k : SenderKey) (e : ℕ) → e < length w.net.ends → KeepLaws (machine q) (soft_police q w k e)
police_keeps q w k e lt = record {
  set = λ s u v d quiet a a' h.
      let n : ℕ = node_of w.net.ends e in
      let x = found (iface_of w.net.ends e) (path_at (step q s u) n k) v d h in
      ⊎_elim
      (λ (old : path_at u n k ≡ Some x.0). inl (v, made (iface_of w.net.ends e) (path_at u n k) x.0 old x.2 ∙ (λ i. Some (sym x.3 i, sym x.4 i)), refl))
      (λ (new : IsBrought q u.net s u n k x.0).
      let b : IsBrought q w.net s u n k x.0 = subst (λ (z : Net). IsBrought q z s u n k x.0) a.same.net new in
      let end : b.item.end ≡ e = same_end w.net b.item.end e b.there lt b.node (sym (ap (λ (z : PathState). z.iface) b.is) ∙ x.2) in
      let says : v ≡ (b.path.hop.addr, b.path.police) = x.3 ∙ ap police_of b.is in
      inr (
        b.item,
        v,
        b.arrives,
        record {
          end = end;
          path = b.path;
          tspec = b.tspec;
          spelt = b.spelt;
          session = b.session;
          sender = b.sender;
          hop = ap (λ (z : PoliceValue). z.0) says;
          police = ap (λ (z : PoliceValue). z.1) says;
        },
        refl,
      ))
      (path_source q s u (quiet_of q s quiet) a.bounds n k x.0 x.1);
  room = λ u v d a h.
      let x = found (iface_of w.net.ends e) (path_at u (node_of w.net.ends e) k) v d h in
      let r = path_room q u (node_of w.net.ends e) k x.0 a.bounds x.1 in
      (omega (arith, r.0, x.4), omega (arith, r.1, x.4));
}

-- ---- what a Path says that a quiet step sends
module _ (q : ℕ) (s : Step) (u : World) (quiet : is_quiet s ≡ true) (bounds : AreBounds q u) (y : Item) (b : Bool) (m : PathMsg) (i : In (y, b) (sent q s u))
    (spelt : y.arrival ≡ Spelt (message.Path m)) (k : SenderKey) (t : TokenBucket) (session : m.session ≡ k.0) (sender : m.sender ≡ Some (k.1, t)) where
  -- its node, and the end by which it left
  record IsSent : Type 0 where
    node : ℕ
    end : ℕ
    there : end < length u.net.ends
    at : node_of u.net.ends end ≡ node
    hop : m.hop.addr ≡ addr_of u.net end
    police : (m.police ≡ true) ↔ In (sender_at node k) (locals_of (step q s u)).senders

  said : IsSent
  said =
      let r = sent_by_rule q s u y b (message.Path m) quiet i spelt in
      let p : NodeConfig = config_of q u.net u.trees r.node in
      let after : Facts = (outcome q s u r.node r.facts).facts in
      let there : slice_get (step q s u).nodes r.node ≡ Some after = facts_after_made q s u r.node r.facts r.there in
      let o : IsOfOffer p after r.send m =
      subst (λ (z : Outcome). IsOfOffer p z.facts r.send m) (sym r.by.is) (what_a_path_sent_says.says (node_step p p u.clock (u.clock + ms_of s) r.by.input r.facts)
      (bounds.facts r.node r.facts r.there) r.send m r.sent r.says) in
      let e = way_out q u.net u.trees r.node bounds.net o.key.session o.key.iface o.key.sender o.there o.way in
      let both : ◌≡◌ {A = Sender × TokenBucket} (o.key.sender, o.offer.tspec) (k.1, t) =
      of_some (o.key.sender, o.offer.tspec) (k.1, t) (sym (ap (λ (z : PathMsg). z.sender) o.is) ∙ sender) in
      let first : o.key.session ≡ k.0 = sym (ap (λ (z : PathMsg). z.session) o.is) ∙ session in
      let second : o.key.sender ≡ k.1 = ap (λ (z : Sender × TokenBucket). z.0) both in
      let key : ◌≡◌ {A = SenderKey} (o.key.session, o.key.sender) k = (λ j. (first j, second j)) in
      let police : m.police ≡ o.offer.local = ap (λ (z : PathMsg). z.police) o.is in
      record {
        node = r.node;
        end = e.0;
        there = ((interfaces_are_ends u.net).iface_of_end r.node o.key.iface e.0 e.1).0;
        at = e.2;
        hop = ap (λ (z : PathMsg). z.hop.addr) o.is ∙ own_end q u.net u.trees r.node o.key.iface e.0 e.1;
        police = ⊎_elim
            (λ (l : IsLocalOffer after o.key o.offer). (
              λ yes. node_sends (step q s u) r.node after k o.offer.tspec there (ap (λ (z : SenderKey). get after.senders z) (sym key) ∙ l.there),
              λ sends. police ∙ l.local,
            ))
            (λ (l : IsPathOffer after o.key o.offer). (
              λ yes. let no : true ≡ false = sym yes ∙ police ∙ l.local in absurd (cc),
              λ sends.
                  let own = sends_at (step q s u) r.node after k there sends in
                  let no : Some own.0 ≡ None = sym own.1 ∙ ap (λ (z : SenderKey). get after.senders z) (sym key) ∙ l.no_local in
                  absurd (cc),
            ))
            o.source;
      }

module _ (q : ℕ) (o : World) (k : SenderKey) (e : ℕ) where
  says_step : (n : ℕ) (s : Step) (u : World) → is_quiet s ≡ true → IsKnown q o u → IsKnown q o (step q s u) → SaysOnly (machine q) (soft_police q o k e) (IsPoliced o k) n u
      → SaysOnly (machine q) (soft_police q o k e) (IsPoliced o k) n (step q s u)
  says_step n s u quiet a a' j y v i born says =
      ⊎_elim
      (λ (old : In y u.flight). j y v old born says)
      (λ (new : (b : Bool) × In (y, b) (sent q s u)).
      let x = said q s u quiet a.bounds y new.0 says.path new.1 says.spelt k says.tspec says.session says.sender in
      λ c inside from.
      let there : x.end < length o.net.ends = subst (λ (z : Net). x.end < length z.ends) a.same.net x.there in
      let addr : addr_of o.net c ≡ addr_of o.net x.end = from ∙ says.hop ∙ x.hop ∙ ap (λ (z : Net). addr_of z x.end) a.same.net in
      let valid : IsValid o.net = subst IsValid a.same.net a.bounds.net in
      let same : c ≡ x.end = one_end o.net valid c x.end inside there addr in
      let node : node_of o.net.ends c ≡ x.node = ap (λ (z : ℕ). node_of o.net.ends z) same ∙ ap (λ (z : Net). node_of z.ends x.end) (sym a.same.net) ∙ x.at in (
        λ yes. subst (λ (z : ℕ). In (sender_at z k) (locals_of o).senders) (sym node)
            (subst (λ (z : Locals). In (sender_at x.node k) z.senders) a'.same.locals (x.police.0 (sym says.police ∙ yes))),
        λ sends. says.police ∙ x.police.1 (subst (λ (z : Locals). In (sender_at x.node k) z.senders) (sym a'.same.locals)
            (subst (λ (z : ℕ). In (sender_at z k) (locals_of o).senders) node sends)),
      ))
      (in_flight_after q s u y quiet i)

  policed_at : (rs : List (List Step)) → Rounds (machine q) rs o → Hold (machine q) 0 rs o (IsKnown q o) → e < length o.net.ends
      → Hold (machine q) 5 rs o (KeepsOnly (machine q) (soft_police q o k e) (IsPoliced o k))
  policed_at rs calm known lt =
      hold_map (machine q) (λ u. KeepsOnly (machine q) (soft_police q o k e) (IsPoliced o k) u × SaysOnly (machine q) (soft_police q o k e) (IsPoliced o k) 0 u)
      (KeepsOnly (machine q) (soft_police q o k e) (IsPoliced o k)) (λ u h. h.0) 5 rs o
      (only_what_is_said_is_kept (machine q) (time_passes q) (items_are_numbered q) (soft_police q o k e) (police_keeps q o k e lt) (IsPoliced o k)
      (λ v v0 b f. subst (IsPoliced o k) (sym b) f) rs o calm known
      (hold_keep (machine q) (IsKnown q o) (SaysOnly (machine q) (soft_police q o k e) (IsPoliced o k) o.made)
      (λ s u quiet a a' j. says_step o.made s u (quiet_of q s quiet) a a' j) rs o calm known
      (λ y v i born says. let old = ((hold_start (machine q) (IsKnown q o) rs o known).bounds.flight y i).born in absurd (omega arith))))

-- ---- in a known world
policed_again : (q : ℕ) (o u : World) (k : SenderKey) (v : Addr × Bool) → IsKnown q o u → IsPoliced o k v → IsPoliced u k v
policed_again q o u k v a h c inside from =
    let x = h c (subst (λ (z : Net). c < length z.ends) a.same.net inside) (ap (λ (z : Net). addr_of z c) (sym a.same.net) ∙ from) in (
      λ yes. subst (λ (z : Net × Locals). In (sender_at (node_of z.0.ends c) k) z.1.senders) (λ j. (sym a.same.net j, sym a.same.locals j)) (x.0 yes),
      λ sends. x.1 (subst (λ (z : Net × Locals). In (sender_at (node_of z.0.ends c) k) z.1.senders) (λ j. (a.same.net j, a.same.locals j)) sends),
    )

pub paths_are_policed : (q : ℕ) (w : World) (rs : List (List Step)) → Rounds (machine q) rs w → AreBounds q w → Hold (machine q) 5 rs w ArePathsPoliced
paths_are_policed q w rs calm bounds =
    let known : Hold (machine q) 0 rs w (IsKnown q w) = known_hold q w rs calm (calm_rounds_keep_bounds q w rs calm bounds) in
    hold_map (machine q) (λ u. IsKnown q w u × ((a : SenderKey × ((e : ℕ) × (e < length w.net.ends))) → KeepsOnly (machine q) (soft_police q w a.0 a.1.0) (IsPoliced w a.0) u)) ArePathsPoliced
    (λ u h n f k x at there.
    let b = path_end q w u n f k x h.0 at there in
    policed_again q w u k (police_of x) h.0
    (h.1 (k, (b.0, b.2)) (police_of x) x.dies
    (made (iface_of w.net.ends b.0) (path_at u (node_of w.net.ends b.0) k) x (ap (λ (z : ℕ). path_at u z k) b.3 ∙ path_made u n k x f at there) (sym b.4)))) 5 rs w
    (hold_both (machine q) (IsKnown q w) (λ u. (a : SenderKey × ((e : ℕ) × (e < length w.net.ends))) → KeepsOnly (machine q) (soft_police q w a.0 a.1.0) (IsPoliced w a.0) u) 5 rs w
    (hold_later (machine q) (IsKnown q w) 0 5 rs w (omega arith) known)
    (hold_all (machine q) (λ (a : SenderKey × ((e : ℕ) × (e < length w.net.ends))) u. KeepsOnly (machine q) (soft_police q w a.0 a.1.0) (IsPoliced w a.0) u) 5 rs w
    (λ a. policed_at q w a.0 a.1.0 rs calm known a.1.1)))
