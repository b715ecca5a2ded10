-- The small network is within bounds.
use Rattle.std.proofs.Common.{◌≡◌, ℕ, zero, suc, ◌<◌, ◌≤◌, List, [], ◌∷◌, length, Bool, true, false, Option, None, Some, ◌⊎◌, inl, inr, ⊎_elim, arith, sym, refl, ap, subst, ◌∙◌}
use Rattle.std.specs.Prelude.{slice_get, map as each, ◌==◌, ◌&&◌, nat_le, if◌then◌else◌}
use Rattle.std.specs.List.{list_all}
use Rattle.std.proofs.lemmas.Bool.{leb-true}
use Rattle.rsvp_base.specs.declared.addr.Addr.{Addr}
use Rattle.rsvp_base.specs.Members.{In}
use Rattle.rsvp_base.specs.declared.session.Sender.{Sender}
use Rattle.rsvp_messages.specs.Proper.{WhereThere}
use Rattle.rsvp_messages.specs.RsvpObjects.AdspecLaws.{IsAdspec}
use Rattle.rsvp_messages.specs.RsvpObjects.declared.adspec.Adspec.{Adspec}
use Rattle.rsvp_messages.specs.declared.message.Message.{Message}
use Rattle.rsvp_messages.specs.declared.message.Message.TheVariants as message
use Rattle.rsvp_base.specs.TokenBucket.{TokenBucket, IsSound}
use Rattle.rsvp_base.proofs.Members.{all_in}
use Rattle.rsvp_base.proofs.SetLaws.{and_both}
use Rattle.calm_rounds.specs.Rounds.{AreQuiet}
use Rattle.calm_rounds.specs.Hold.{Visited}
use Rattle.calm_rounds.proofs.Holding.{visited_end}
use Rattle.network_model.specs.RouterRules.Bounds.{IsWithinBounds}
use Rattle.network_model.specs.RouterRules.Facts.{Facts, no_facts}
use Rattle.network_model.specs.RouterRules.Inputs.{Arrival, Spelt, Unspelt, SendAs}
use Rattle.network_model.specs.ThreeRouters.{s1, r1, session, first, usual}
use Rattle.network_model.proofs.RouterRules.Bounding.{no_facts_are_within_bounds}
use Rattle.tree_model.specs.declared.hops.End.{End}
use Rattle.tree_model.specs.declared.hops.LinkHop.{LinkHop}
use Rattle.tree_model.specs.declared.hops.TreeHop.{TreeHop}
use Rattle.tree_model.specs.Networks.{node_of, among, link_of}
use Rattle.tree_model.specs.Ranks.{Follows, followers}
use Rattle.tree_model.specs.Trees.{of_tree, tree, Grows, IsGrown}
use Rattle.tree_model.specs.Valid.{IsValid, AreRising}
use Rattle.tree_model.proofs.Following.{addr_same, in_tree, followers_follow}
use Rattle.network_model.specs.Bounds.{AreBounds, IsProperArrival}
use Rattle.network_model.specs.Events.{a_round}
use Rattle.network_model.specs.Links.{is_group, NoEndIsAGroup}
use Rattle.network_model.specs.Rows.{end_of, hop_of}
use Rattle.network_model.specs.Steps.{Step, At, sent, step, machine}
use Rattle.network_model.specs.Worlds.{Item, World, config_of}
use Rattle.laws_network.specs.Example.{pair_net, quiet_world, sending_world, APairStaysWithinBounds}
use Rattle.laws_network.proofs.Calming.{calm_rounds}
use Rattle.laws_network.proofs.Keeping.{calm_fit, step_keeps}
use Rattle.laws_network.proofs.Known.{of_some}

-- ---- the network is valid
abbrev zero_one : List ℕ
zero_one = 0 ∷ 1 ∷ []

abbrev one_only : List ℕ
one_only = 1 ∷ []

few_of : (b c : Bool) → length (if b then 0 ∷ (if c then one_only else []) else (if c then one_only else [])) ≤ 16
few_of true true = omega arith
few_of true false = omega arith
few_of false true = omega arith
few_of false false = omega arith

placed : (e : End) → In e pair_net.ends → e.node < 2
placed e (inl same) = let n = ap (λ (z : End). z.node) same in omega arith
placed e (inr (inl same)) = let n = ap (λ (z : End). z.node) same in omega arith
placed e (inr (inr never)) = absurd never

pub hosts : NoEndIsAGroup pair_net
hosts zero x a = let same : end_of 0 s1 ≡ x = of_some _ x a in ap (λ (z : End). is_group z.iface.addr) (sym same)
hosts (suc zero) x a = let same : end_of 1 r1 ≡ x = of_some _ x a in ap (λ (z : End). is_group z.iface.addr) (sym same)
hosts (suc (suc e)) x a = absurd (cc)

other_addr : (d e : End) → end_of 0 s1 ≡ d → end_of 1 r1 ≡ e → d.iface.addr ≡ e.iface.addr → ⊥
other_addr d e a b same =
    let x = ap (λ (z : End). z.iface.addr.0) a in
    let y = ap (λ (z : End). z.iface.addr.0) b in
    let n = ap (λ (z : Addr). z.0) same in
    omega arith

one_address : (i j : ℕ) (d e : End) → slice_get pair_net.ends i ≡ Some d → slice_get pair_net.ends j ≡ Some e → d.iface.addr ≡ e.iface.addr → i ≡ j
one_address zero zero d e a b same = refl
one_address zero (suc zero) d e a b same = absurd (other_addr d e (of_some _ _ a) (of_some _ _ b) same)
one_address (suc zero) zero d e a b same = absurd (other_addr e d (of_some _ _ b) (of_some _ _ a) (sym same))
one_address (suc zero) (suc zero) d e a b same = refl
one_address zero (suc (suc j)) d e a b same = absurd (cc)
one_address (suc zero) (suc (suc j)) d e a b same = absurd (cc)
one_address (suc (suc i)) j d e a b same = absurd (cc)

on_link : (l : List ℕ) → In l pair_net.links → l ≡ 0 ∷ 1 ∷ []
on_link l (inl same) = same
on_link l (inr never) = absurd never

two_ends : (l : List ℕ) (a : ℕ) → In l pair_net.links → In a l → (a ≡ 0) ⊎ (a ≡ 1)
two_ends l a i j = by (subst (λ (z : List ℕ). In a z) (on_link l i) j)
  where
    by : In a (0 ∷ 1 ∷ []) → (a ≡ 0) ⊎ (a ≡ 1)
    by (inl same) = inl same
    by (inr (inl same)) = inr same
    by (inr (inr never)) = absurd never

nodes_apart : (l : List ℕ) (a b : ℕ) → In l pair_net.links → In a l → In b l → node_of pair_net.ends a ≡ node_of pair_net.ends b → a ≡ b
nodes_apart l a b i j k same = by (two_ends l a i j) (two_ends l b i k)
  where
    by : (a ≡ 0) ⊎ (a ≡ 1) → (b ≡ 0) ⊎ (b ≡ 1) → a ≡ b
    by (inl x) (inl y) = x ∙ sym y
    by (inr x) (inr y) = x ∙ sym y
    by (inl x) (inr y) = let no : ◌≡◌ {A = ℕ} 0 1 = sym (ap (node_of pair_net.ends) x) ∙ same ∙ ap (node_of pair_net.ends) y in absurd (omega arith)
    by (inr x) (inl y) = let no : ◌≡◌ {A = ℕ} 1 0 = sym (ap (node_of pair_net.ends) x) ∙ same ∙ ap (node_of pair_net.ends) y in absurd (omega arith)

apart : (i j : ℕ) (l m : List ℕ) (e : ℕ) → slice_get pair_net.links i ≡ Some l → slice_get pair_net.links j ≡ Some m → In e l → In e m → i ≡ j
apart zero zero l m e a b x y = refl
apart zero (suc j) l m e a b x y = absurd (cc)
apart (suc i) j l m e a b x y = absurd (cc)

one_link : (a b : ℕ) → among b (link_of pair_net.links a) ≡ true → link_of pair_net.links b ≡ link_of pair_net.links a
one_link a b on = by (among a (0 ∷ 1 ∷ [])) (among b (0 ∷ 1 ∷ [])) refl refl on
  where
    by : (x y : Bool) → among a (0 ∷ 1 ∷ []) ≡ x → among b (0 ∷ 1 ∷ []) ≡ y → among b (if x then zero_one else []) ≡ true → (if y then zero_one else []) ≡ (if x then zero_one else [])
    by true true h k on = refl
    by true false h k on = absurd (cc)
    by false y h k on = absurd (cc)

grown : (g s : Addr) → IsGrown pair_net s (tree pair_net.hops g s)
grown g s = by (of_tree g s (hop_of 0 1)) refl
  where
    by : (b : Bool) → of_tree g s (hop_of 0 1) ≡ b → IsGrown pair_net s (each (λ (r : TreeHop). r.hop) (if b then hop_of 0 1 ∷ [] else []))
    by false t = tt
    by true t =
        let source : s1 ≡ s = addr_same s1 s (and_both _ _ t).1 in
        (subst (λ (z : Addr). Grows pair_net z [] (record { from = 0; to = 1 })) source (record { linked = refl; from_reached = refl; to_new = refl; alone = refl }), tt)

the_hop : (g s : Addr) (h : LinkHop) → In h (tree pair_net.hops g s) → (h.from ≡ 0) × (h.to ≡ 1)
the_hop g s h i =
    let r = in_tree pair_net.hops g s h i in
    by r.0 r.1 r.4
  where
    by : (r : TreeHop) → In r pair_net.hops → r.hop ≡ h → (h.from ≡ 0) × (h.to ≡ 1)
    by r (inl same) e = (sym (ap (λ (z : LinkHop). z.from) e) ∙ ap (λ (z : TreeHop). z.hop.from) same, sym (ap (λ (z : LinkHop). z.to) e) ∙ ap (λ (z : TreeHop). z.hop.to) same)
    by r (inr never) e = absurd never

none_follows : (g : Addr) (h h' : LinkHop) → In h' (followers pair_net g h) → ⊥
none_follows g h h' i =
    let f : Follows pair_net g h h' = (followers_follow pair_net g h h').0 i in
    let a = the_hop g f.source h f.first in
    let b = the_hop g f.source h' f.second in
    let no : ◌≡◌ {A = ℕ} 0 1 = sym (ap (node_of pair_net.ends) b.0) ∙ f.meet ∙ ap (node_of pair_net.ends) a.1 in
    absurd (omega arith)

pub valid : IsValid pair_net
valid = record {
  few_nodes = omega arith;
  few_ends = λ n. few_of (0 == n) (1 == n);
  few_links = omega arith;
  few_hops = omega arith;
  placed = placed;
  one_address = one_address;
  linked = λ l i. subst (λ (z : List ℕ). (2 ≤ length z) × (length z ≤ 8)) (sym (on_link l i)) (omega arith, omega arith);
  nodes_apart = nodes_apart;
  ends_of_links = λ l e i j. ⊎_elim (λ (a : e ≡ 0). omega arith) (λ (a : e ≡ 1). omega arith) (two_ends l e i j);
  rising = λ l i. subst AreRising (sym (on_link l i)) (omega arith, tt);
  apart = apart;
  one_link = one_link;
  grown = grown;
  loop_free = λ g h c closed. none_follows g _ h closed.1;
}

-- ---- the worlds are within bounds
nothing_there : (n : ℕ) (f : Facts) → slice_get quiet_world.nodes n ≡ Some f → no_facts ≡ f
nothing_there zero f e = of_some _ _ e
nothing_there (suc zero) f e = of_some _ _ e
nothing_there (suc (suc n)) f e = absurd (cc)

quiet : AreBounds 7500 quiet_world
quiet = record {
  period = omega arith;
  net = valid;
  hosts = hosts;
  routed = λ r i. ⊎_elim (λ (same : r ≡ hop_of 0 1). inl (ap (λ (z : TreeHop). (z.group, z.source)) same)) (λ (never : ⊥). absurd never) i;
  nodes = refl;
  facts = λ n f e. subst (λ (z : Facts). IsWithinBounds (config_of 7500 pair_net quiet_world.trees n) 0 z) (nothing_there n f e)
      (no_facts_are_within_bounds (config_of 7500 pair_net quiet_world.trees n) 0);
  flight = λ x i. absurd i;
}

-- ---- a Path with a sound tspec and no ADSPEC is proper
abbrev sound_flow : TokenBucket → Bool
sound_flow f = (nat_le 1 f.r && nat_le 1 f.b) && (nat_le 1 f.low && nat_le 1 f.most)

abbrev sound_sender : {X : Type 0} → Option (X × TokenBucket) → Bool
sound_sender None = true
sound_sender (Some x) = sound_flow x.1

abbrev is_missing : {X : Type 0} → Option X → Bool
is_missing None = true
is_missing (Some x) = false

abbrev proper_path : Message → Bool
proper_path (message.Path m) = sound_sender m.sender && is_missing m.adspec
proper_path _ = false

abbrev proper_arrival : Arrival → Bool
proper_arrival (Spelt m) = proper_path m
proper_arrival (Unspelt e) = true

proper_ok : (a : Arrival) → proper_arrival a ≡ true → IsProperArrival a
proper_ok (Unspelt e) t = tt
proper_ok (Spelt (message.Path m)) t = let both = and_both _ _ t in (by m.sender both.0, missing m.adspec both.1)
  where
    missing : (o : Option Adspec) → is_missing o ≡ true → WhereThere IsAdspec o
    missing None t = tt
    missing (Some x) t = absurd (cc)

    by : (o : Option (Sender × TokenBucket)) → sound_sender o ≡ true → WhereThere (λ (e : Sender × TokenBucket). IsSound e.1) o
    by None t = tt
    by (Some x) t =
        let both = and_both _ _ t in
        let a = and_both _ _ both.0 in
        let b = and_both _ _ both.1 in
        record { rate = leb-true 1 x.1.r a.0; depth = leb-true 1 x.1.b a.1; low = leb-true 1 x.1.low b.0; most = leb-true 1 x.1.most b.1 }
proper_ok (Spelt (message.Resv m)) t = absurd (cc)
proper_ok (Spelt (message.PathErr m)) t = absurd (cc)
proper_ok (Spelt (message.ResvErr m)) t = absurd (cc)
proper_ok (Spelt (message.PathTear m)) t = absurd (cc)
proper_ok (Spelt (message.ResvTear m)) t = absurd (cc)
proper_ok (Spelt (message.ResvConf m)) t = absurd (cc)

-- all that a step sends, and all that steps send
abbrev all_proper : List (Item × Bool) → Bool
all_proper xs = list_all (λ (y : Item × Bool). proper_arrival y.0.arrival) xs

abbrev all_sends : List Step → World → Bool
all_sends [] w = true
all_sends (s ∷ ss) w = all_proper (sent 7500 s w) && all_sends ss (step 7500 s w)

proper_all : (s : Step) (w : World) → all_proper (sent 7500 s w) ≡ true → (x : Item) (b : Bool) → In (x, b) (sent 7500 s w) → IsProperArrival x.arrival
proper_all s w t x b i = proper_ok x.arrival (all_in (λ (y : Item × Bool). proper_arrival y.0.arrival) (sent 7500 s w) t (x, b) i)

bounds : AreBounds 7500 sending_world
bounds =
    step_keeps 7500 (At 0 (SendAs session first usual)) quiet_world quiet (record { rate = omega arith; depth = omega arith; low = omega arith; most = omega arith })
    (proper_all (At 0 (SendAs session first usual)) quiet_world refl)

visited : (ss : List Step) (w : World) → AreBounds 7500 w → AreQuiet (machine 7500) ss → all_sends ss w ≡ true → Visited (machine 7500) (AreBounds 7500) ss w
visited [] w b q t = b
visited (s ∷ ss) w b q t =
    let both = and_both (all_proper (sent 7500 s w)) (all_sends ss (step 7500 s w)) t in
    (b, visited ss (step 7500 s w) (step_keeps 7500 s w b (calm_fit 7500 s w q.0) (proper_all s w both.0)) q.1 both.1)

one_round : Visited (machine 7500) (AreBounds 7500) (a_round 7500 sending_world) sending_world
one_round = visited (a_round 7500 sending_world) sending_world bounds (calm_rounds 7500 1 sending_world).0.silent refl

pub a_pair_stays_within_bounds : APairStaysWithinBounds
a_pair_stays_within_bounds = record {
  quiet = quiet;
  bounds = bounds;
  rounds = λ k. calm_rounds 7500 k sending_world;
  one_round = (one_round, visited_end (machine 7500) (AreBounds 7500) (a_round 7500 sending_world) sending_world one_round);
}
