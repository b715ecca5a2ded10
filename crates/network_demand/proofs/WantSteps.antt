-- What is asked at a node by its local wants and over hops out of it, cut to the names over a hop into it, merges to the want
-- of that hop, if each hop that follows is among them.
use Rattle.std.specs.Prelude.{◌≡◌, ℕ, ◌<◌, Bool, true, false, not, ◌==◌, List, [], ◌∷◌, ◌++◌, map as each, length, Option, None, Some, refl, slice_index_or}
use Rattle.std.specs.List.{filter, flat_map}
use Rattle.std.proofs.Common.{zero, suc, sym, ap, subst, ◌∙◌, inl, inr, ⊎_elim, take, arith}
use Rattle.rsvp_base.specs.Members.{In}
use Rattle.rsvp_base.specs.declared.addr.Addr.{Addr}
use Rattle.rsvp_base.specs.declared.part.Part.{Part}
use Rattle.rsvp_base.specs.declared.session.Sender.{Sender}
use Rattle.rsvp_base.specs.declared.session.Session.{Session}
use Rattle.rsvp_base.specs.declared.style.StyleKind.{StyleKind}
use Rattle.rsvp_base.specs.declared.style.StyleKind.TheVariants.{Wild, Fixed, Shared}
use Rattle.rsvp_base.specs.declared.style.Unit.{Unit as UnitOf}
use Rattle.rsvp_base.specs.Orders.{Names, senders, units}
use Rattle.rsvp_base.specs.Sets.{cut, IsWithin, is_none}
use Rattle.rsvp_base.specs.Table.{has, values}
use Rattle.rsvp_base.proofs.Counts.{in_found, in_set_of}
use Rattle.rsvp_base.proofs.Members.{in_each, to_each, in_filter, to_filter, in_flat_map, to_flat_map, in_append, in_left, in_right}
use Rattle.rsvp_base.proofs.SetLaws.{and_both, and_made, has-cut}
use Rattle.rsvp_base.specs.Styles.{name_of, part_unit}
use Rattle.style_rules.specs.Parts.{part_cut, part_of}
use Rattle.style_rules.specs.PartLaws.{same_names, part_at_most_itself}
use Rattle.style_rules.specs.CutLaws.{cut_senders, cut_named}
use Rattle.style_rules.specs.Merge.{merge}
use Rattle.style_rules.proofs.Merges.{merges_same}
use Rattle.style_rules.proofs.StyleLaws.{a_name}
use Rattle.tree_model.specs.declared.hops.LinkHop.{LinkHop}
use Rattle.tree_model.specs.Networks.{Net, node_of}
use Rattle.tree_model.specs.Trees.{goes_out_of}
use Rattle.tree_model.specs.Ranks.{followers, IsLoopFree}
use Rattle.tree_model.proofs.Following.{same_number, number_same, addr_itself, follower_follows, follows_follower, follower_of_group}
use Rattle.tree_model.proofs.RankLaws.{rank_falls_at}
use Rattle.tree_routing.specs.declared.group_hop.GroupHop.{GroupHop}
use Rattle.tree_routing.specs.Order.{rank_in, AreRanked, AreByRank}
use Rattle.tree_model.specs.declared.locals.LocalWant.{LocalWant}
use Rattle.tree_model.specs.Wants.{Locals, live, names, as_list, wanted_of, is_wanted_at, own, brought, want}
use Rattle.tree_model.proofs.WantLaws.{in_as_list, name_told, both_one, want_equation, want_names, a_common_name}
use Rattle.network_demand.specs.Steps.{all_names, widened, local_at, wants_at, asked_at, cuts, hops_in}

to_as_list : (o : Option Part) (p : Part) → o ≡ Some p → In p (as_list o)
to_as_list None p e = cc
to_as_list (Some q) p e = let s : p ≡ q = cc in inl s

not_none : (b : Bool) → not b ≡ true → b ≡ false
not_none true e = cc
not_none false e = refl

module _ (st : StyleKind) (net : Net) (l : Locals) (s : Session) where
  -- all names over a hop are names of the session
  pub names_of_all : (h : LinkHop) → IsWithin (names st net l s (h ∷ [])) (all_names st l s)
  names_of_all h x e =
      let a = name_told st net l s (h ∷ []) x e in
      in_set_of senders (each (name_of st) (live l s)) x (subst (λ (y : Sender). In y (each (name_of st) (live l s))) (sym a.3) (to_each (name_of st) a.0 (live l s) a.1))

  cut_all : (all ns : Names) → IsWithin ns all → cut all ns ≡ ns
  cut_all all ns h = same_names (cut all ns) ns (λ x e. (and_both (has all x) (has ns x) (sym (has-cut senders all ns x) ∙ e)).1)
      (λ x e. has-cut senders all ns x ∙ and_made (has all x) (has ns x) (h x e) e)

  wanted_is : (k : StyleKind) (all ns : Names) (p : Part) → IsWithin ns all → part_cut (widened k all p) ns ≡ wanted_of k ns p
  wanted_is Wild all ns p h = ap (λ (t : Names). part_of t p.flow) (cut_all all ns h)
  wanted_is Fixed all ns p h = refl
  wanted_is Shared all ns p h = refl

  -- a part of a want names senders whose trees have the hop
  pub value_names : (y : LinkHop) (q : Part) → In q (values (want st net l s y)) → IsWithin q.senders (names st net l s (y ∷ []))
  value_names y q i =
      let e = in_each (λ (e : UnitOf × Part). e.1) q (want st net l s y).rows i in
      let at : In (e.0.0, q) (want st net l s y).rows = subst (λ (p : Part). In (e.0.0, p) (want st net l s y).rows) (sym e.2) e.1 in
      want_names st net l s y e.0.0 q (in_found units (want st net l s y) e.0.0 q at)

  module _ (h : LinkHop) where
    abbrev ns : Names
    ns = names st net l s (h ∷ [])

    abbrev n : ℕ
    n = node_of net.ends h.to

    -- what a hop out of the node brings, cut to the names over both hops, is that cut to the names over the first
    cut_same : (y : LinkHop) (q : Part) → In q (values (want st net l s y)) → node_of net.ends y.from ≡ n → part_cut q ns ≡ part_cut q (names st net l s (h ∷ y ∷ []))
    cut_same y q i meet =
        ap (λ (t : Names). part_of t q.flow)
        (same_names (cut q.senders ns) (cut q.senders (names st net l s (h ∷ y ∷ [])))
        (λ x e.
        let b = and_both (has q.senders x) (has ns x) (sym (has-cut senders q.senders ns x) ∙ e) in
        let c = a_common_name st net l s h y x b.1 (value_names y q i x b.0) meet in
        has-cut senders q.senders (names st net l s (h ∷ y ∷ [])) x ∙ and_made _ _ b.0 c.0)
        (λ x e.
        let b = and_both (has q.senders x) (has (names st net l s (h ∷ y ∷ [])) x) (sym (has-cut senders q.senders (names st net l s (h ∷ y ∷ [])) x) ∙ e) in
        has-cut senders q.senders ns x ∙ and_made _ _ b.0 (both_one st net l s h y x b.1)))

    -- and only a hop that follows brings something
    brings : (y : LinkHop) (q p : Part) → In q (values (want st net l s y)) → node_of net.ends y.from ≡ n → part_cut q ns ≡ Some p → In y (followers net s.group h)
    brings y q p i meet e =
        let x = a_name p.senders (not_none (is_none p.senders) (cut_named q p ns e)) in
        let b = and_both (has q.senders x.0) (has ns x.0) (sym (has-cut senders q.senders ns x.0) ∙ ap (λ (t : Names). has t x.0) (sym (cut_senders q p ns e)) ∙ x.1) in
        follows_follower net s.group h y (a_common_name st net l s h y x.0 b.1 (value_names y q i x.0 b.0) meet).1

    module _ (hs : List LinkHop) (all : (y : LinkHop) → In y (followers net s.group h) → In y hs) where
      abbrev wanted : List Part
      wanted = own st net l s h ++ flat_map (brought st net l s h (want st net l s)) (followers net s.group h)

      forth : (p : Part) → In p (cuts ns (asked_at st net l s hs n)) → In p wanted
      forth p i =
          let q = in_flat_map (λ p. as_list (part_cut p ns)) p (asked_at st net l s hs n) i in
          let e = in_as_list (part_cut q.0 ns) p q.2 in
          ⊎_elim
          (λ (j : In q.0 (local_at st l s n)).
          let w = in_each (λ (w : LocalWant). widened st (all_names st l s) w.part) q.0 (filter (is_wanted_at st s n) l.wants) j in
          let is : wanted_of st ns w.0.part ≡ Some p = sym (wanted_is st (all_names st l s) ns w.0.part (names_of_all h)) ∙ ap (λ (x : Part). part_cut x ns) (sym w.2) ∙ e in
          in_left p (own st net l s h) (flat_map (brought st net l s h (want st net l s)) (followers net s.group h))
          (to_flat_map (λ w. as_list (wanted_of st ns w.part)) w.0 p (filter (is_wanted_at st s n) l.wants) w.1 (to_as_list (wanted_of st ns w.0.part) p is)))
          (λ (j : In q.0 (wants_at st net l s hs n)).
          let y = in_flat_map (λ h. values (want st net l s h)) q.0 (filter (goes_out_of net.ends n) hs) j in
          let f = in_filter (goes_out_of net.ends n) y.0 hs y.1 in
          let meet = same_number (node_of net.ends y.0.from) n f.1 in
          let follower = brings y.0 q.0 p y.2 meet e in
          in_right p (own st net l s h) (flat_map (brought st net l s h (want st net l s)) (followers net s.group h))
          (to_flat_map (brought st net l s h (want st net l s)) y.0 p (followers net s.group h) follower
          (to_flat_map (λ p. as_list (part_cut p (names st net l s (h ∷ y.0 ∷ [])))) q.0 p (values (want st net l s y.0)) y.2
          (to_as_list _ p (sym (cut_same y.0 q.0 y.2 meet) ∙ e)))))
          (in_append q.0 (local_at st l s n) (wants_at st net l s hs n) q.1)

      back : (p : Part) → In p wanted → In p (cuts ns (asked_at st net l s hs n))
      back p i =
          ⊎_elim
          (λ (j : In p (own st net l s h)).
          let w = in_flat_map (λ w. as_list (wanted_of st ns w.part)) p (filter (is_wanted_at st s n) l.wants) j in
          let e = in_as_list (wanted_of st ns w.0.part) p w.2 in
          to_flat_map (λ p. as_list (part_cut p ns)) (widened st (all_names st l s) w.0.part) p (asked_at st net l s hs n)
          (in_left (widened st (all_names st l s) w.0.part) (local_at st l s n) (wants_at st net l s hs n)
          (to_each (λ (w : LocalWant). widened st (all_names st l s) w.part) w.0 (filter (is_wanted_at st s n) l.wants) w.1))
          (to_as_list _ p (wanted_is st (all_names st l s) ns w.0.part (names_of_all h) ∙ e)))
          (λ (j : In p (flat_map (brought st net l s h (want st net l s)) (followers net s.group h))).
          let y = in_flat_map (brought st net l s h (want st net l s)) p (followers net s.group h) j in
          let q = in_flat_map (λ p. as_list (part_cut p (names st net l s (h ∷ y.0 ∷ [])))) p (values (want st net l s y.0)) y.2 in
          let e = in_as_list (part_cut q.0 (names st net l s (h ∷ y.0 ∷ []))) p q.2 in
          let meet = (follower_follows net s.group h y.0 y.1).meet in
          to_flat_map (λ p. as_list (part_cut p ns)) q.0 p (asked_at st net l s hs n)
          (in_right q.0 (local_at st l s n) (wants_at st net l s hs n)
          (to_flat_map (λ h. values (want st net l s h)) y.0 q.0 (filter (goes_out_of net.ends n) hs)
          (to_filter (goes_out_of net.ends n) y.0 hs (all y.0 y.1) (number_same (node_of net.ends y.0.from) n meet)) q.1))
          (to_as_list _ p (cut_same y.0 q.0 q.1 meet ∙ e)))
          (in_append p (own st net l s h) (flat_map (brought st net l s h (want st net l s)) (followers net s.group h)) i)

      pub want_step : IsLoopFree net → merge st (cuts ns (asked_at st net l s hs n)) ≡ want st net l s h
      want_step free =
          merges_same units (part_unit st) (λ p. p) (part_unit st) (λ p. p) (cuts ns (asked_at st net l s hs n)) wanted
          (λ p i named. (p, forth p i, refl, part_at_most_itself p)) (λ p i named. (p, back p i, refl, part_at_most_itself p))
          ∙ sym ((want_equation st net l s free).equation h)

-- ---- hops by rank
ranked_before : (net : Net) (xs : List GroupHop) (i : ℕ) (x y d : GroupHop) → AreRanked net xs → i < length xs → x ≡ slice_index_or xs i d → In y xs → rank_in net y < rank_in net x → In y (take i xs)
ranked_before net [] i x y d up lt is j less = absurd j
ranked_before net (z ∷ zs) zero x y d up lt is (inl e) less = let a = ap (rank_in net) is in let b = ap (rank_in net) e in absurd (omega arith)
ranked_before net (z ∷ zs) zero x y d up lt is (inr j) less = let a = ap (rank_in net) is in let b = up.0 y j in absurd (omega arith)
ranked_before net (z ∷ zs) (suc i) x y d up lt is (inl e) less = inl e
ranked_before net (z ∷ zs) (suc i) x y d up lt is (inr j) less = inr (ranked_before net zs i x y d up.1 (omega arith) is j less)

pub in_hops : (g : Addr) (xs : List GroupHop) (h : LinkHop) → In (record { group = g; hop = h }) xs → In h (hops_in g xs)
in_hops g xs h i = to_each (λ (x : GroupHop). x.hop) (record { group = g; hop = h }) (filter (λ (x : GroupHop). x.group.0 == g.0) xs)
    (to_filter (λ (x : GroupHop). x.group.0 == g.0) (record { group = g; hop = h }) xs i (addr_itself g))

-- each hop that follows stands before
pub followers_before : (net : Net) (xs : List GroupHop) (i : ℕ) (x d : GroupHop) → IsLoopFree net → AreByRank net xs → i < length xs → x ≡ slice_index_or xs i d → (y : LinkHop)
    → In y (followers net x.group x.hop) → In y (hops_in x.group (take i xs))
followers_before net xs i x d free by lt is y j =
    let other : GroupHop = record { group = x.group; hop = y } in
    in_hops x.group (take i xs) y
    (ranked_before net xs i x other d by.ranked lt is (by.all x.group y (follower_of_group net x.group x.hop y j)) (rank_falls_at net free x.group x.hop y (follower_follows net x.group x.hop y j)))
