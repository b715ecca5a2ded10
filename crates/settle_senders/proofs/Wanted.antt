-- What is wanted names those that send still, when a sender less does: so a reservation that names one of them is of a unit that is wanted.
use Rattle.std.proofs.Common.{◌≡◌, ℕ, zero, suc, ◌≤◌, List, ◌∷◌, [], ◌++◌, Bool, true, false, Option, Some, None, inl, ⊎_elim, arith, sym, refl, ap, subst, ◌∙◌, length}
use Rattle.std.specs.Prelude.{◌==◌, ◌&&◌, ◌||◌, not, is_some}
use Rattle.std.specs.FinMap.Entries.{find}
use Rattle.std.proofs.lemmas.Bool.Decides.{nat_tests}
use Rattle.rsvp_base.specs.Table.{empty, get, has, values}
use Rattle.rsvp_base.specs.declared.session.Sender.{Sender}
use Rattle.rsvp_base.specs.Sets.{cut}
use Rattle.rsvp_base.proofs.SetLaws.{and_both, and_made, has-cut, has-union}
use Rattle.rsvp_base.proofs.Tables.{either}
use Rattle.style_rules.specs.CutLaws.{cut_of, made_of, part_of_some}
use Rattle.style_rules.specs.Merge.{PartTable, merge}
use Rattle.style_rules.specs.Parts.{IsOfStyle, IsPartAtMost, has_name, part_cut, part_join}
use Rattle.style_rules.proofs.Merges.{merge_above, merge_keeps}
use Rattle.settle_passes.proofs.Growing.{HasNoLess}
use Rattle.std.specs.List.{filter, flat_map}
use Rattle.std.specs.Ordering.{eq_by_cmp}
use Rattle.rsvp_base.specs.declared.part.Part.{Part}
use Rattle.rsvp_base.specs.declared.session.Session.{Session}
use Rattle.rsvp_base.specs.declared.style.StyleKind.{StyleKind}
use Rattle.rsvp_base.specs.declared.style.StyleKind.TheVariants.{Wild, Fixed, Shared}
use Rattle.rsvp_base.specs.declared.style.Unit.{Unit as UnitOf}
use Rattle.rsvp_base.specs.Members.{In}
use Rattle.rsvp_base.specs.Orders.{Names, senders, sessions, styles, units}
use Rattle.rsvp_base.specs.Styles.{part_unit}
use Rattle.rsvp_base.proofs.Counts.{found_in, in_found}
use Rattle.rsvp_base.proofs.Members.{in_append, in_each, in_filter, in_flat_map, in_left, in_right, to_each, to_filter, to_flat_map}
use Rattle.style_rules.proofs.StyleLaws.{common_unit, cut_of_style}
use Rattle.tree_model.specs.declared.hops.LinkHop.{LinkHop}
use Rattle.tree_model.specs.declared.locals.LocalWant.{LocalWant}
use Rattle.tree_model.specs.Networks.{Net, node_of}
use Rattle.tree_model.specs.Ranks.{IsLoopFree, followers, rank}
use Rattle.tree_model.specs.Wants.{Locals, as_list, brought, is_wanted_at, names, own, want, wanted_of}
use Rattle.tree_model.proofs.Following.{follower_follows}
use Rattle.tree_model.proofs.RankLaws.{rank_falls_at, rank_some}
use Rattle.tree_model.proofs.WantLaws.{in_as_list, want_equation}
use Rattle.settle_resvs.specs.Laws.{AreWantParts}
use Rattle.settle_resvs.proofs.WantStyles.{own_style, want_style}

member_some : (rows : List (Sender × Unit {0})) (s : Sender) → is_some (find senders.cmp s rows) ≡ true → (length rows == 0) ≡ false
member_some [] s e = cc
member_some (r ∷ rs) s e = grind (arith, nat_tests)

-- a part in which a name is
record Names1 (ps : List Part) (st : StyleKind) (u : UnitOf) (x : Sender) : Type 0 where
  part : Part
  among : In part ps
  named : has part.senders x ≡ true
  unit : u ≡ part_unit st part
  style : IsOfStyle st part

record Found (ps : List Part) (st : StyleKind) (x : Sender) : Type 0 where
  part : Part
  among : In part ps
  named : has part.senders x ≡ true
  style : IsOfStyle st part

module _ (st : StyleKind) (net : Net) (free : IsLoopFree net) (l l' : Locals) (s : Session) (parts : AreWantParts l) (parts' : AreWantParts l') (more : (w : LocalWant) → In w l.wants
    → HasNoLess l'.wants w)
    (x : Sender) (stays_on : (hs : List LinkHop) → has (names st net l s hs) x ≡ true → has (names st net l' s hs) x ≡ true) where
  -- who is in a merge is in a part of it
  in_merge : (ps : List Part) → ((p : Part) → In p ps → IsOfStyle st p) → (u : UnitOf) (m : Part) → get (merge st ps) u ≡ Some m → has m.senders x ≡ true → Names1 ps st u x
  in_merge ps styled u m e =
      merge_keeps units (part_unit st) (λ (z : Part). z) (λ (p : Part). has p.senders x ≡ true → Names1 ps st u x)
      (λ a b from_a from_b i. either (has a.senders x) (λ yes. from_a yes) (λ apart. from_b (rest a b i apart))) ps u m e
      (λ p i named is h. record { part = p; among = i; named = h; unit = is; style = styled p i })
    where
      rest : (a b : Part) → has (part_join a b).senders x ≡ true → has a.senders x ≡ false → has b.senders x ≡ true
      rest a b i apart = ap (λ (c : Bool). c || has b.senders x) (sym apart) ∙ sym (has-union senders a.senders b.senders x) ∙ i

  cut_named2 : (p p' q : Part) (ns ns' : Names) → IsPartAtMost p p' → part_cut p ns ≡ Some q → has q.senders x ≡ true → (has ns x ≡ true → has ns' x ≡ true)
      → (q' : Part) × (part_cut p' ns' ≡ Some q') × (has q'.senders x ≡ true)
  cut_named2 p p' q ns ns' le e i on =
      let c = cut_of p q ns e in
      let both = and_both _ _ (sym (has-cut senders p.senders ns x) ∙ ap (λ (z : Names). has z x) (sym c.senders) ∙ i) in
      let in_cut : has (cut p'.senders ns') x ≡ true = has-cut senders p'.senders ns' x ∙ and_made _ _ (le.names x both.0) (on both.1) in
      (record { senders = cut p'.senders ns'; flow = p'.flow }, part_of_some (cut p'.senders ns') p'.flow (member_some (cut p'.senders ns').rows x in_cut), in_cut)

  wanted_named : (k : StyleKind) (p p' q : Part) (ns ns' : Names) → IsPartAtMost p p' → wanted_of k ns p ≡ Some q → has q.senders x ≡ true → (has ns x ≡ true → has ns' x ≡ true)
      → (q' : Part) × (wanted_of k ns' p' ≡ Some q') × (has q'.senders x ≡ true)
  wanted_named Wild p p' q ns ns' le e i on =
      let m = made_of ns p.flow q e in
      let in_ns : has ns' x ≡ true = on (ap (λ (z : Names). has z x) (sym m.senders) ∙ i) in
      (record { senders = ns'; flow = p'.flow }, part_of_some ns' p'.flow (member_some ns'.rows x in_ns), in_ns)
  wanted_named Fixed p p' q ns ns' le e i on = cut_named2 p p' q ns ns' le e i on
  wanted_named Shared p p' q ns ns' le e i on = cut_named2 p p' q ns ns' le e i on

  pub wants_named : (n : ℕ) (h : LinkHop) → rank net s.group h ≤ n → (u : UnitOf) (p : Part) → get (want st net l s h) u ≡ Some p → has p.senders x ≡ true
      → (p' : Part) × (get (want st net l' s h) u ≡ Some p') × (has p'.senders x ≡ true)
  wants_named zero h le u p e named =
      let none : want st net l s h ≡ empty = (want_equation st net l s free).others h (λ i. let some = rank_some net free s.group h i in absurd (omega (arith, some, le))) in
      let bad : None ≡ Some p = ap (λ (z : PartTable). get z u) (sym none) ∙ e in
      absurd (cc)
  wants_named (suc n) h le u p e named =
      let mine : List Part = own st net l s h ++ flat_map (brought st net l s h (want st net l s)) (followers net s.group h) in
      let theirs : List Part = own st net l' s h ++ flat_map (brought st net l' s h (want st net l' s)) (followers net s.group h) in
      let m = in_merge mine mine_style u p (ap (λ (z : PartTable). get z u) (sym ((want_equation st net l s free).equation h)) ∙ e) named in
      let q = found (λ y j v r got i. let falls = rank_falls_at net free s.group h y (follower_follows net s.group h y j) in wants_named n y (omega
      (arith, falls, le)) v r got i) m.part m.among m.named in
      let some : has_name q.part ≡ true = ap not (member_some q.part.senders.rows x q.named) in
      let a = merge_above units (part_unit st) (λ (z : Part). z) theirs q.part q.among some in
      let unit : u ≡ part_unit st q.part = m.unit ∙ common_unit st m.part q.part x m.style q.style m.named q.named in
      (a.0, ap (λ (z : PartTable). get z u) ((want_equation st net l' s free).equation h) ∙ ap (get (merge st theirs)) unit ∙ a.1, a.2.names x q.named)
    where
      mine_style : (q : Part) → In q (own st net l s h ++ flat_map (brought st net l s h (want st net l s)) (followers net s.group h)) → IsOfStyle st q
      mine_style q i =
          ⊎_elim (λ (a : In q (own st net l s h)). own_style st net l s parts h q a)
          (λ (b : In q (flat_map (brought st net l s h (want st net l s)) (followers net s.group h))).
          let y = in_flat_map (brought st net l s h (want st net l s)) q (followers net s.group h) b in
          let ns : Names = names st net l s (h ∷ y.0 ∷ []) in
          let r = in_flat_map (λ (z : Part). as_list (part_cut z ns)) q (values (want st net l s y.0)) y.2 in
          let row = in_each (λ (z : UnitOf × Part). z.1) r.0 (want st net l s y.0).rows r.1 in
          let got : get (want st net l s y.0) row.0.0 ≡ Some r.0 = in_found units (want st net l s y.0) row.0.0 row.0.1 row.1 ∙ ap Some (sym row.2) in
          cut_of_style st r.0 q ns (want_style st net l s parts y.0 row.0.0 r.0 got).0 (in_as_list (part_cut r.0 ns) q r.2))
          (in_append q (own st net l s h) (flat_map (brought st net l s h (want st net l s)) (followers net s.group h)) i)

      Grows : Type 0
      Grows = (y : LinkHop) → In y (followers net s.group h) → (v : UnitOf) (r : Part) → get (want st net l s y) v ≡ Some r → has r.senders x ≡ true
          → (r' : Part) × (get (want st net l' s y) v ≡ Some r') × (has r'.senders x ≡ true)

      found : Grows → (q : Part) → In q (own st net l s h ++ flat_map (brought st net l s h (want st net l s)) (followers net s.group h)) → has q.senders x ≡ true
          → Found (own st net l' s h ++ flat_map (brought st net l' s h (want st net l' s)) (followers net s.group h)) st x
      found higher q i named =
          ⊎_elim
          (λ (a : In q (own st net l s h)).
          let n : ℕ = node_of net.ends h.to in
          let ns : Names = names st net l s (h ∷ []) in
          let ns' : Names = names st net l' s (h ∷ []) in
          let w = in_flat_map (λ (z : LocalWant). as_list (wanted_of st ns z.part)) q (filter (is_wanted_at st s n) l.wants) a in
          let f = in_filter (is_wanted_at st s n) w.0 l.wants w.1 in
          let z = more w.0 f.0 in
          let d = wanted_named st w.0.part z.want.part q ns ns' z.part (in_as_list (wanted_of st ns w.0.part) q w.2) named (stays_on (h ∷ [])) in
          let passes : is_wanted_at st s n z.want ≡ true = (λ j. (z.node j == n) && (eq_by_cmp sessions.cmp s (z.session j) && eq_by_cmp styles.cmp st (z.style j))) ∙ f.1 in
          let there : In d.0 (own st net l' s h) =
          to_flat_map (λ (b : LocalWant). as_list (wanted_of st ns' b.part)) z.want d.0 (filter (is_wanted_at st s n) l'.wants)
          (to_filter (is_wanted_at st s n) z.want l'.wants z.among passes) (subst (λ (b : Option Part). In d.0 (as_list b)) (sym d.1) (inl refl)) in
          record {
            part = d.0;
            among = in_left d.0 (own st net l' s h) (flat_map (brought st net l' s h (want st net l' s)) (followers net s.group h)) there;
            named = d.2;
            style = own_style st net l' s parts' h d.0 there;
          })
          (λ (b : In q (flat_map (brought st net l s h (want st net l s)) (followers net s.group h))).
          let y = in_flat_map (brought st net l s h (want st net l s)) q (followers net s.group h) b in
          let ns : Names = names st net l s (h ∷ y.0 ∷ []) in
          let ns' : Names = names st net l' s (h ∷ y.0 ∷ []) in
          let r = in_flat_map (λ (z : Part). as_list (part_cut z ns)) q (values (want st net l s y.0)) y.2 in
          let row = in_each (λ (z : UnitOf × Part). z.1) r.0 (want st net l s y.0).rows r.1 in
          let got : get (want st net l s y.0) row.0.0 ≡ Some r.0 = in_found units (want st net l s y.0) row.0.0 row.0.1 row.1 ∙ ap Some (sym row.2) in
          let cut_is : part_cut r.0 ns ≡ Some q = in_as_list (part_cut r.0 ns) q r.2 in
          let c0 = cut_of r.0 q ns cut_is in
          let in_r : has r.0.senders x ≡ true = (and_both (has r.0.senders x) (has ns x) (sym (has-cut senders r.0.senders ns x) ∙ ap (λ (z : Names). has z x) (sym c0.senders) ∙ named)).0 in
          let up = higher y.0 y.1 row.0.0 r.0 got in_r in
          let in_ns : has ns x ≡ true = (and_both (has r.0.senders x) (has ns x) (sym (has-cut senders r.0.senders ns x) ∙ ap (λ (z : Names). has z x) (sym c0.senders) ∙ named)).1 in
          let in_cut : has (cut up.0.senders ns') x ≡ true = has-cut senders up.0.senders ns' x ∙ and_made _ _ up.2 (stays_on (h ∷ y.0 ∷ []) in_ns) in
          let d : Part = record { senders = cut up.0.senders ns'; flow = up.0.flow } in
          let is : part_cut up.0 ns' ≡ Some d = part_of_some (cut up.0.senders ns') up.0.flow (member_some (cut up.0.senders ns').rows x in_cut) in
          let there : In up.0 (values (want st net l' s y.0)) =
          to_each (λ (z : UnitOf × Part). z.1) (row.0.0, up.0) (want st net l' s y.0).rows (found_in units (want st net l' s y.0) row.0.0 up.0 up.1) in
          record {
            part = d;
            among = in_right d (own st net l' s h) (flat_map (brought st net l' s h (want st net l' s)) (followers net s.group h))
                (to_flat_map (brought st net l' s h (want st net l' s)) y.0 d (followers net s.group h) y.1
                (to_flat_map (λ (z : Part). as_list (part_cut z ns')) up.0 d (values (want st net l' s y.0)) there (subst (λ (z : Option Part). In d (as_list z)) (sym is) (inl refl))));
            named = in_cut;
            style = cut_of_style st up.0 d ns' (want_style st net l' s parts' y.0 row.0.0 up.0 up.1).0 is;
          })
          (in_append q (own st net l s h) (flat_map (brought st net l s h (want st net l s)) (followers net s.group h)) i)
