-- More wants and more senders ask for no less: what is wanted over a hop grows with the local wants, and with who sends.
use Rattle.std.proofs.Common.{◌≡◌, ℕ, zero, suc, ◌≤◌, List, ◌∷◌, [], ◌++◌, true, Option, Some, None, inl, ⊎_elim, arith, sym, refl, ap, subst, ◌∙◌}
use Rattle.std.specs.Prelude.{◌==◌, ◌&&◌}
use Rattle.std.specs.List.{filter, flat_map}
use Rattle.std.specs.Ordering.{eq_by_cmp}
use Rattle.rsvp_base.specs.declared.addr.Addr.{Addr}
use Rattle.rsvp_base.specs.declared.part.Part.{Part}
use Rattle.rsvp_base.specs.declared.session.Session.{Session}
use Rattle.rsvp_base.specs.declared.style.StyleKind.{StyleKind}
use Rattle.rsvp_base.specs.declared.style.StyleKind.TheVariants.{Wild, Fixed, Shared}
use Rattle.rsvp_base.specs.declared.style.Unit.{Unit as UnitOf}
use Rattle.rsvp_base.specs.Members.{In}
use Rattle.rsvp_base.specs.Orders.{Names, senders, sessions, styles, units}
use Rattle.rsvp_base.specs.Sets.{IsWithin, cut}
use Rattle.rsvp_base.specs.Styles.{part_unit}
use Rattle.rsvp_base.specs.Table.{empty, get, values, has}
use Rattle.rsvp_base.specs.TokenBucket.{TokenBucket}
use Rattle.rsvp_base.proofs.Counts.{found_in, in_found}
use Rattle.rsvp_base.proofs.Members.{in_append, in_each, in_filter, in_flat_map, in_left, in_right, to_each, to_filter, to_flat_map}
use Rattle.rsvp_base.specs.declared.session.Sender.{Sender}
use Rattle.rsvp_base.proofs.SetLaws.{and_both, and_made, has-cut}
use Rattle.flow_merge.specs.FlowOrder.{IsAtMost}
use Rattle.style_rules.specs.CutLaws.{made_of, part_of_some, cut_of, some_within}
use Rattle.style_rules.specs.Merge.{PartTable}
use Rattle.style_rules.specs.PartLaws.{part_at_most_along, part_at_most_tested, part_at_most_told, part_at_most_itself}
use Rattle.style_rules.specs.Parts.{IsOfStyle, IsPartAtMost, part_cut}
use Rattle.style_rules.proofs.Merges.{merge_below}
use Rattle.style_rules.proofs.StyleLaws.{common_unit, cut_of_style, unit_name}
use Rattle.tree_model.specs.declared.hops.LinkHop.{LinkHop}
use Rattle.tree_model.specs.declared.locals.LocalSender.{LocalSender}
use Rattle.tree_model.specs.declared.locals.LocalWant.{LocalWant}
use Rattle.tree_model.specs.Networks.{Net, node_of}
use Rattle.tree_model.specs.Goals.{addr_of}
use Rattle.tree_model.specs.Ranks.{IsLoopFree, followers, rank}
use Rattle.tree_model.specs.Trees.{hops_of}
use Rattle.tree_model.specs.Wants.{Locals, as_list, brought, is_wanted_at, names, own, want, wanted_of, live}
use Rattle.tree_model.proofs.Following.{follower_follows}
use Rattle.tree_model.proofs.RankLaws.{rank_falls_at, rank_some}
use Rattle.tree_model.proofs.WantLaws.{in_as_list, want_equation, name_made, name_told}
use Rattle.network_model.specs.Locals.{locals_of}
use Rattle.network_model.specs.Sound.{IsSoundPart}
use Rattle.network_model.specs.Worlds.{World}
use Rattle.settle_resvs.specs.Laws.{AreWantParts}
use Rattle.settle_resvs.proofs.WantStyles.{own_style, want_style}

-- a want of the same node, session and style that asks for no less
pub record HasNoLess (ws : List LocalWant) (w : LocalWant) : Type 0 where
  pub want : LocalWant
  pub among : In want ws
  pub node : want.node ≡ w.node
  pub session : want.session ≡ w.session
  pub style : want.style ≡ w.style
  pub part : IsPartAtMost w.part want.part

-- the want itself
pub still_wanted : (ws vs : List LocalWant) → ws ≡ vs → (x : LocalWant) → In x ws → HasNoLess vs x
still_wanted ws vs same x i = record { want = x; among = subst (In x) same i; node = refl; session = refl; style = refl; part = part_at_most_itself x.part }

-- ---- of a larger part and more names no less is left
cut_more : (p p' x : Part) (ns ns' : Names) → IsPartAtMost p p' → IsWithin ns ns' → part_cut p ns ≡ Some x → (y : Part) × (part_cut p' ns' ≡ Some y) × IsPartAtMost x y
cut_more p p' x ns ns' le less e =
    let m = cut_of p x ns e in
    let within : IsWithin (cut p.senders ns) (cut p'.senders ns') =
    (λ z h.
    let b = and_both (has p.senders z) (has ns z) (sym (has-cut senders p.senders ns z) ∙ h) in
    has-cut senders p'.senders ns' z ∙ and_made (has p'.senders z) (has ns' z) (le.names z b.0) (less z b.1)) in (
      record { senders = cut p'.senders ns'; flow = p'.flow },
      part_of_some (cut p'.senders ns') p'.flow (some_within (cut p.senders ns) (cut p'.senders ns') within m.some),
      record {
        names = subst (λ (z : Names). IsWithin z (cut p'.senders ns')) (sym m.senders) within;
        flow = subst (λ (z : TokenBucket). IsAtMost z p'.flow) (sym m.flow) le.flow;
      },
    )

wanted_more : (k : StyleKind) (ns ns' : Names) → IsWithin ns ns' → (p p' x : Part) → IsPartAtMost p p' → wanted_of k ns p ≡ Some x → (y : Part) × (wanted_of k ns' p' ≡ Some y) × IsPartAtMost x y
wanted_more Wild ns ns' less p p' x le e =
    let m = made_of ns p.flow x e in (
      record { senders = ns'; flow = p'.flow },
      part_of_some ns' p'.flow (some_within ns ns' less m.some),
      record {
        names = subst (λ (z : Names). IsWithin z ns') (sym m.senders) less;
        flow = subst (λ (z : TokenBucket). IsAtMost z p'.flow) (sym m.flow) le.flow;
      },
    )
wanted_more Fixed ns ns' less p p' x le e = cut_more p p' x ns ns' le less e
wanted_more Shared ns ns' less p p' x le e = cut_more p p' x ns ns' le less e

-- a part for which another of the style can stand
record IsBelowOne (st : StyleKind) (ps : List Part) (p : Part) : Type 0 where
  above : Part
  among : In above ps
  part : IsPartAtMost p above
  style : IsOfStyle st p
  above_style : IsOfStyle st above

module _ (st : StyleKind) (net : Net) (free : IsLoopFree net) (l l' : Locals) (s : Session) (parts : AreWantParts l) (parts' : AreWantParts l')
    (lives : (x : Sender) → In x (live l s) → In x (live l' s))
    (more : (w : LocalWant) → In w l.wants → HasNoLess l'.wants w) where
  names_more : (hs : List LinkHop) → IsWithin (names st net l s hs) (names st net l' s hs)
  names_more hs x e =
      let a = name_told st net l s hs x e in
      subst (λ (z : Sender). has (names st net l' s hs) z ≡ true) (sym a.3) (name_made st net l' s hs a.0 (lives a.0 a.1) a.2)

  -- ---- local wants
  own_below : (h : LinkHop) (q : Part) → In q (own st net l s h) → IsBelowOne st (own st net l' s h) q
  own_below h q i =
      let n : ℕ = node_of net.ends h.to in
      let ns : Names = names st net l s (h ∷ []) in
      let ns' : Names = names st net l' s (h ∷ []) in
      let w = in_flat_map (λ (z : LocalWant). as_list (wanted_of st ns z.part)) q (filter (is_wanted_at st s n) l.wants) i in
      let f = in_filter (is_wanted_at st s n) w.0 l.wants w.1 in
      let x = more w.0 f.0 in
      let d = wanted_more st ns ns' (names_more (h ∷ [])) w.0.part x.want.part q x.part (in_as_list (wanted_of st ns w.0.part) q w.2) in
      let passes : is_wanted_at st s n x.want ≡ true = (λ j. (x.node j == n) && (eq_by_cmp sessions.cmp s (x.session j) && eq_by_cmp styles.cmp st (x.style j))) ∙ f.1 in
      let there : In d.0 (own st net l' s h) =
      to_flat_map (λ (z : LocalWant). as_list (wanted_of st ns' z.part)) x.want d.0 (filter (is_wanted_at st s n) l'.wants)
      (to_filter (is_wanted_at st s n) x.want l'.wants x.among passes) (subst (λ (z : Option Part). In d.0 (as_list z)) (sym d.1) (inl refl)) in
      record { above = d.0; among = there; part = d.2; style = own_style st net l s parts h q i; above_style = own_style st net l' s parts' h d.0 there }

  -- ---- what is wanted over a hop
  grows : (n : ℕ) (h : LinkHop) → rank net s.group h ≤ n → (u : UnitOf) (p : Part) → get (want st net l s h) u ≡ Some p → (p' : Part) × (get (want st net l' s h) u ≡ Some p') × IsPartAtMost p p'
  grows zero h le u p e =
      let none : want st net l s h ≡ empty = (want_equation st net l s free).others h (λ i. let some = rank_some net free s.group h i in absurd (omega (arith, some, le))) in
      let bad : None ≡ Some p = ap (λ (z : PartTable). get z u) (sym none) ∙ e in
      absurd (cc)
  grows (suc n) h le u p e =
      let mine : List Part = own st net l s h ++ flat_map (brought st net l s h (want st net l s)) (followers net s.group h) in
      let theirs : List Part = own st net l' s h ++ flat_map (brought st net l' s h (want st net l' s)) (followers net s.group h) in
      let d = merge_below units (part_unit st) (λ (z : Part). z) (part_unit st) (λ (z : Part). z) mine theirs
      (λ q i named.
      let b = below (λ y j v r got. let falls = rank_falls_at net free s.group h y (follower_follows net s.group h y j) in grows n y (omega (arith, falls, le)) v r got) q i in
      let first = unit_name st q named in
      (b.above, b.among, common_unit st q b.above first.name b.style b.above_style first.there (b.part.names first.name first.there), b.part))
      u p (ap (λ (z : PartTable). get z u) (sym ((want_equation st net l s free).equation h)) ∙ e) in
      (d.0, ap (λ (z : PartTable). get z u) ((want_equation st net l' s free).equation h) ∙ d.1, d.2)
    where
      -- the same over the hops that follow
      Grows : Type 0
      Grows = (y : LinkHop) → In y (followers net s.group h) → (v : UnitOf) (r : Part) → get (want st net l s y) v ≡ Some r → (r' : Part) × (get (want st net l' s y) v ≡ Some r') × IsPartAtMost r r'

      brought_below : Grows → (q : Part) → In q (flat_map (brought st net l s h (want st net l s)) (followers net s.group h))
          → IsBelowOne st (flat_map (brought st net l' s h (want st net l' s)) (followers net s.group h)) q
      brought_below higher q i =
          let y = in_flat_map (brought st net l s h (want st net l s)) q (followers net s.group h) i in
          let ns : Names = names st net l s (h ∷ y.0 ∷ []) in
          let ns' : Names = names st net l' s (h ∷ y.0 ∷ []) in
          let r = in_flat_map (λ (z : Part). as_list (part_cut z ns)) q (values (want st net l s y.0)) y.2 in
          let row = in_each (λ (z : UnitOf × Part). z.1) r.0 (want st net l s y.0).rows r.1 in
          let got : get (want st net l s y.0) row.0.0 ≡ Some r.0 = in_found units (want st net l s y.0) row.0.0 row.0.1 row.1 ∙ ap Some (sym row.2) in
          let up = higher y.0 y.1 row.0.0 r.0 got in
          let cut_is : part_cut r.0 ns ≡ Some q = in_as_list (part_cut r.0 ns) q r.2 in
          let c = cut_more r.0 up.0 q ns ns' up.2 (names_more (h ∷ y.0 ∷ [])) cut_is in
          let there : In up.0 (values (want st net l' s y.0)) =
          to_each (λ (z : UnitOf × Part). z.1) (row.0.0, up.0) (want st net l' s y.0).rows (found_in units (want st net l' s y.0) row.0.0 up.0 up.1) in
          record {
            above = c.0;
            among = to_flat_map (brought st net l' s h (want st net l' s)) y.0 c.0 (followers net s.group h) y.1
                (to_flat_map (λ (z : Part). as_list (part_cut z ns')) up.0 c.0 (values (want st net l' s y.0)) there (subst (λ (z : Option Part). In c.0 (as_list z)) (sym c.1) (inl refl)));
            part = c.2;
            style = cut_of_style st r.0 q ns (want_style st net l s parts y.0 row.0.0 r.0 got).0 cut_is;
            above_style = cut_of_style st up.0 c.0 ns' (want_style st net l' s parts' y.0 row.0.0 up.0 up.1).0 c.1;
          }

      below : Grows → (q : Part) → In q (own st net l s h ++ flat_map (brought st net l s h (want st net l s)) (followers net s.group h))
          → IsBelowOne st (own st net l' s h ++ flat_map (brought st net l' s h (want st net l' s)) (followers net s.group h)) q
      below higher q i =
          ⊎_elim
          (λ (mine : In q (own st net l s h)).
          let b = own_below h q mine in
          record {
            above = b.above;
            among = in_left b.above (own st net l' s h) (flat_map (brought st net l' s h (want st net l' s)) (followers net s.group h)) b.among;
            part = b.part;
            style = b.style;
            above_style = b.above_style;
          })
          (λ (more' : In q (flat_map (brought st net l s h (want st net l s)) (followers net s.group h))).
          let b = brought_below higher q more' in
          record {
            above = b.above;
            among = in_right b.above (own st net l' s h) (flat_map (brought st net l' s h (want st net l' s)) (followers net s.group h)) b.among;
            part = b.part;
            style = b.style;
            above_style = b.above_style;
          })
          (in_append q (own st net l s h) (flat_map (brought st net l s h (want st net l s)) (followers net s.group h)) i)

-- ---- so what is sound is sound with more senders, in a world with the same network
pub sound_joined : (st : StyleKind) (w o : World) (same_net : o.net ≡ w.net) → IsLoopFree w.net → AreWantParts (locals_of w) → AreWantParts (locals_of o) → (s : Session)
    → ((x : Sender) → In x (live (locals_of w) s) → In x (live (locals_of o) s)) → ((x : LocalWant) → In x (locals_of w).wants → HasNoLess (locals_of o).wants x)
    → (e : ℕ) (next : Addr) (u : UnitOf) (p : Part) → IsSoundPart st w s e next u p → IsSoundPart st o s e next u p
sound_joined st w o same_net free parts parts' s lives more e next u p h =
    let d = grows st w.net free (locals_of w) (locals_of o) s parts parts' lives more (rank w.net s.group h.hop) h.hop (omega arith) u h.wanted h.is in
    record {
      some = h.some;
      hop = h.hop;
      there = subst (λ (z : Net). In h.hop (hops_of z.hops s.group)) (sym same_net) h.there;
      from = h.from;
      to = subst (λ (z : Net). addr_of z h.hop.to ≡ next) (sym same_net) h.to;
      wanted = d.0;
      is = ap (λ (z : Net). get (want st z (locals_of o) s h.hop) u) same_net ∙ d.1;
      below = part_at_most_tested p d.0 (part_at_most_along p h.wanted d.0 (part_at_most_told p h.wanted h.below) d.2);
    }

-- ---- so what is sound is sound when more is wanted, in a world with the same network
pub sound_grows : (st : StyleKind) (w o : World) (same_net : o.net ≡ w.net) → IsLoopFree w.net → AreWantParts (locals_of w) → AreWantParts (locals_of o) → (locals_of w).senders ≡ (locals_of o).senders
    → ((x : LocalWant) → In x (locals_of w).wants → HasNoLess (locals_of o).wants x) → (s : Session) (e : ℕ) (next : Addr) (u : UnitOf) (p : Part)
    → IsSoundPart st w s e next u p → IsSoundPart st o s e next u p
sound_grows st w o same_net free parts parts' senders more s e next u p h =
    sound_joined st w o same_net free parts parts' s (λ x i. subst (λ (xs : List LocalSender). In x (live (record { senders = xs; wants = (locals_of w).wants }) s)) senders i) more e next u p h
