-- What goes toward a previous hop is at most what was wanted over its hop before, when local wants were no less.
use Rattle.std.specs.Prelude.{◌≡◌, ℕ, is_some, true, not, List, [], ◌∷◌, ◌++◌, Option, Some, slice_get, refl, ◌==◌, ◌&&◌, map as each}
use Rattle.std.specs.List.{filter, flat_map}
use Rattle.std.specs.Ordering.{eq_by_cmp}
use Rattle.std.proofs.Common.{sym, ap, subst, ◌∙◌, inl, ⊎_elim}
use Rattle.std.proofs.lemmas.Bool.{not-true}
use Rattle.rsvp_base.specs.Members.{In}
use Rattle.rsvp_base.specs.declared.part.Part.{Part}
use Rattle.rsvp_base.specs.declared.session.Sender.{Sender}
use Rattle.rsvp_base.specs.declared.style.StyleKind.{StyleKind}
use Rattle.rsvp_base.specs.declared.style.StyleKind.TheVariants.{Wild, Fixed, Shared}
use Rattle.rsvp_base.specs.declared.style.Unit.{Unit as UnitOf}
use Rattle.rsvp_base.specs.Orders.{Names, senders, sessions, styles, units}
use Rattle.rsvp_base.specs.Sets.{IsWithin, is_none, cut, union, set_of}
use Rattle.rsvp_base.specs.Table.{get, has, values}
use Rattle.rsvp_base.specs.TokenBucket.{TokenBucket}
use Rattle.rsvp_base.proofs.Counts.{found_in}
use Rattle.rsvp_base.proofs.Tables.{tied_self}
use Rattle.rsvp_base.proofs.Members.{in_left, in_right, to_each, to_filter, to_flat_map}
use Rattle.rsvp_base.proofs.SetLaws.{and_both, and_made, has-cut, within_union_left}
use Rattle.flow_merge.specs.FlowOrder.{IsAtMost}
use Rattle.flow_merge.proofs.Lattice.{at_most_itself}
use Rattle.style_rules.specs.CutLaws.{some_name, some_within, made_of, part_of_some, cut_of, cut_monotone, name_some}
use Rattle.style_rules.specs.Merge.{merge, PartTable}
use Rattle.style_rules.specs.PartLaws.{part_at_most_told, part_at_most_tested, part_at_most_along, part_join_least, part_meet_below_join}
use Rattle.style_rules.specs.Parts.{has_name, part_of, part_cut, part_join, part_meet, IsPartAtMost, IsOfStyle}
use Rattle.rsvp_base.specs.Styles.{part_unit, name_of}
use Rattle.style_rules.specs.Toward.{Request, IsRequestOf}
use Rattle.style_rules.proofs.Merges.{merge_above}
use Rattle.style_rules.proofs.StyleLaws.{unit_name, within_unit, cut_of_style}
use Rattle.style_rules.proofs.Towards.{toward_source, toward_keeps}
use Rattle.tree_model.specs.declared.locals.LocalWant.{LocalWant}
use Rattle.tree_model.specs.Goals.{addr_of}
use Rattle.tree_model.specs.Wants.{names, as_list, wanted_of, is_wanted_at, own, brought, want, Locals, goes_over, of_session}
use Rattle.tree_model.proofs.WantLaws.{want_equation, want_names, a_common_name}
use Rattle.router_rules.specs.Facts.{Facts, ResvState, resvs_of}
use Rattle.router_rules.specs.Known.{Lane, names_via, names_via_where}
use Rattle.router_rules.specs.NodeConfig.{goes_out}
use Rattle.router_rules.specs.Requests.{requests, want_part, toward}
use Rattle.laws_bounds.specs.FactLaws.{IsResvRequest, IsWantRequest}
use Rattle.laws_bounds.proofs.Knowing.{known_and_via}
use Rattle.laws_bounds.proofs.Requesting.{requests_and_toward}
use Rattle.tree_model.specs.declared.hops.LinkHop.{LinkHop}
use Rattle.tree_model.specs.Networks.{node_of, iface_of}
use Rattle.tree_model.specs.Ranks.{Follows, followers, rank}
use Rattle.tree_model.specs.Valid.{IsValid}
use Rattle.tree_model.proofs.Following.{number_same, follows_follower}
use Rattle.tree_model.proofs.Ifaces.{interfaces_are_ends}
use Rattle.tree_model.proofs.RankLaws.{rank_falls_at}
use Rattle.network_model.specs.Bounds.{AreBounds}
use Rattle.network_model.specs.Locals.{locals_of, want_at}
use Rattle.network_model.specs.Sound.{IsSoundPart, ArePathsSound, IsSoundResv}
use Rattle.network_model.specs.Worlds.{World, config_of}
use Rattle.laws_network.proofs.Known.{of_some}
use Rattle.settle_paths.specs.PreviousHops.{IsPrevious}
use Rattle.settle_resvs.specs.Below.{AreSoundBelow}
use Rattle.network_model.proofs.NodeLocals.{node_wants}
use Rattle.settle_paths.proofs.PreviousHops.{via_within}
use Rattle.settle_resvs.proofs.WantStyles.{own_style, want_style}
use Rattle.rsvp_base.specs.declared.session.Session.{Session}
use Rattle.tree_model.specs.declared.locals.LocalSender.{LocalSender}
use Rattle.settle_resvs.specs.Laws.{AreWantParts}
use Rattle.settle_passes.proofs.Fitting.{as_before}
use Rattle.settle_passes.proofs.Growing.{HasNoLess}
use Rattle.style_rules.specs.Lines.{LineKey}

-- ---- with the nodes as they were the same hosts sent, and wanted no less
pub record WantedMore (before : List Facts) (w : World) : Type 0 where
  pub senders : (locals_of (as_before before w)).senders ≡ (locals_of w).senders
  pub parts : AreWantParts (locals_of (as_before before w))
  pub wants : (x : LocalWant) → In x (locals_of w).wants → HasNoLess (locals_of (as_before before w)).wants x

-- so names over hops are the same
pub same_names : (before : List Facts) (w : World) → WantedMore before w → (st : StyleKind) (s : Session) (hs : List LinkHop)
    → names st w.net (locals_of (as_before before w)) s hs ≡ names st w.net (locals_of w) s hs
same_names before w more st s hs =
    ap (λ (xs : List LocalSender). set_of {o = senders} (each (name_of st) (filter (goes_over w.net s hs) (each (λ (x : LocalSender). x.sender) (filter (of_session s) xs))))) more.senders

wanted_below : (k : StyleKind) (ns : Names) (p p' q : Part) → IsPartAtMost p p' → wanted_of k ns p ≡ Some q → (q' : Part) × (wanted_of k ns p' ≡ Some q') × IsPartAtMost q q'
wanted_below Wild ns p p' q le e =
    let m = made_of ns p.flow q e in (
      record { senders = ns; flow = p'.flow },
      part_of_some ns p'.flow m.some,
      record { names = subst (λ (z : Names). IsWithin z ns) (sym m.senders) (λ x h. h); flow = subst (λ (z : TokenBucket). IsAtMost z p'.flow) (sym m.flow) le.flow },
    )
wanted_below Fixed ns p p' q le e = cut_monotone p p' q ns le e
wanted_below Shared ns p p' q le e = cut_monotone p p' q ns le e

-- ---- of more names more is wanted
in_list : (o : Option Part) (p : Part) → o ≡ Some p → In p (as_list o)
in_list o p e = subst (λ (z : Option Part). In p (as_list z)) (sym e) (inl refl)

-- names and a flow that stand above a part make a part
above : (s : Names) (x : Part) (g : TokenBucket) → has_name x ≡ true → IsWithin x.senders s → IsAtMost x.flow g → (y : Part) × (part_of s g ≡ Some y) × IsPartAtMost x y
above s x g named less flow = (record { senders = s; flow = g }, part_of_some s g (some_within x.senders s less (not-true (is_none x.senders) named)), record { names = less; flow = flow })

cut_in : (a s t : Names) (x : Part) → x.senders ≡ cut a s → IsWithin s t → IsWithin x.senders (cut a t)
cut_in a s t x e less y h =
    let both = and_both (has a y) (has s y) (sym (has-cut senders a s y) ∙ subst (λ (z : Names). has z y ≡ true) e h) in
    has-cut senders a t y ∙ and_made (has a y) (has t y) both.0 (less y both.1)

want_more : (st : StyleKind) (s t : Names) → IsWithin s t → (p x : Part) → has_name x ≡ true → want_part st s p ≡ Some x → (y : Part) × (wanted_of st t p ≡ Some y) × IsPartAtMost x y
want_more Wild s t less p x named e =
    let m = made_of s p.flow x e in
    above t x p.flow named (subst (λ (z : Names). IsWithin z t) (sym m.senders) less) (subst (λ (z : TokenBucket). IsAtMost z p.flow) (sym m.flow) (at_most_itself p.flow))
want_more Fixed s t less p x named e =
    let m = cut_of p x s e in
    above (cut p.senders t) x p.flow named (cut_in p.senders s t x m.senders less) (subst (λ (z : TokenBucket). IsAtMost z p.flow) (sym m.flow) (at_most_itself p.flow))
want_more Shared s t less p x named e =
    let m = cut_of p x s e in
    above (cut p.senders t) x p.flow named (cut_in p.senders s t x m.senders less) (subst (λ (z : TokenBucket). IsAtMost z p.flow) (sym m.flow) (at_most_itself p.flow))

-- ---- toward a previous hop
-- where the names via the hop are among those that it had
module _ (q : ℕ) (before : List Facts) (w : World) (valid : IsValid w.net) (kinds : AreWantParts (locals_of (as_before before w)))
    (wanted : (x : LocalWant) → In x (locals_of w).wants → HasNoLess (locals_of (as_before before w)).wants x) (n : ℕ) (f : Facts) (at : slice_get w.nodes n ≡ Some f) (l : Lane) (h : LinkHop)
    (is : IsPrevious w.net n l.session l.hop h) (via : IsWithin (names_via f l) (names l.style w.net (locals_of (as_before before w)) l.session (h ∷ [])))
    (low : AreSoundBelow l.style (as_before before w) n f l.session (rank w.net l.session.group h)) where
  abbrev was : Locals
  was = locals_of (as_before before w)

  abbrev over : List LinkHop → Names
  over hs = names l.style w.net was l.session hs

  abbrev parts : List Part
  parts = own l.style w.net was l.session h ++ flat_map (brought l.style w.net was l.session h (want l.style w.net was l.session)) (followers w.net l.session.group h)

  -- a part of the equation of the hop's want that stands above a request
  record Stands (x : Part) : Type 0 where
    part : Part
    among : In part parts
    above_it : IsPartAtMost x part
    style : IsOfStyle l.style part

  of_want : (x : Request) → has_name x.part ≡ true → IsWantRequest f l x → Stands x.part
  of_want x named r =
      let y = want_more l.style (names_via f l) (over (h ∷ [])) via r.want.part x.part named r.part in
      let mine : LocalWant = want_at n ((l.session, r.unit), r.want) in
      let m = wanted mine (node_wants w n f (l.session, r.unit) r.want at r.there) in
      let d = wanted_below l.style (over (h ∷ [])) r.want.part m.want.part y.0 m.part y.1 in
      let mine_is : is_wanted_at l.style l.session (node_of w.net.ends h.to) mine ≡ true =
      and_made _ _ (number_same n (node_of w.net.ends h.to) (sym is.node)) (and_made _ _ (tied_self sessions l.session)
      (subst (λ (z : StyleKind). eq_by_cmp styles.cmp l.style z ≡ true) (sym r.style) (tied_self styles l.style))) in
      let test : is_wanted_at l.style l.session (node_of w.net.ends h.to) m.want ≡ true =
      (λ j. (m.node j == node_of w.net.ends h.to) && (eq_by_cmp sessions.cmp l.session (m.session j) && eq_by_cmp styles.cmp l.style (m.style j))) ∙ mine_is in
      let here : In d.0 (own l.style w.net was l.session h) =
      to_flat_map (λ (z : LocalWant). as_list (wanted_of l.style (over (h ∷ [])) z.part)) m.want d.0 (filter (is_wanted_at l.style l.session (node_of w.net.ends h.to)) was.wants)
      (to_filter (is_wanted_at l.style l.session (node_of w.net.ends h.to)) m.want was.wants m.among test) (in_list (wanted_of l.style (over (h ∷ [])) m.want.part) d.0 d.1) in
      record {
        part = d.0;
        among = in_left d.0 _ _ here;
        above_it = part_at_most_along x.part y.0 d.0 y.2 d.2;
        style = own_style l.style w.net was l.session kinds h d.0 here;
      }

  -- names of a request of a reservation are over the hop
  in_via : (i : ℕ) → IsWithin (names_via_where f l (goes_out (config_of q w.net w.trees n) l.session i)) (names_via f l)
  in_via i x e =
      let a = (known_and_via.names_by f l (goes_out (config_of q w.net w.trees n) l.session i) x).0 e in
      (known_and_via.all_by f l x).1 (record { sender = a.sender; among = a.among; passes = refl; name = a.name })

  of_resv : (x : Request) → has_name x.part ≡ true → IsResvRequest (config_of q w.net w.trees n) f l x → Stands x.part
  of_resv x named r =
      let m = cut_of r.resv.part x.part (names_via_where f l (goes_out (config_of q w.net w.trees n) l.session r.key.0.0)) r.part in
      let both : (y : Sender) → has x.part.senders y ≡ true → (has r.resv.part.senders y ≡ true) × (has (over (h ∷ [])) y ≡ true) =
      λ y e.
      let b = and_both _ _ (sym (has-cut senders r.resv.part.senders (names_via_where f l (goes_out (config_of q w.net w.trees n) l.session r.key.0.0)) y)
      ∙ subst (λ (z : Names). has z y ≡ true) m.senders e) in
      (b.0, via y (in_via r.key.0.0 y b.1)) in
      let first = unit_name l.style x.part named in
      let good = low.named (l.session, r.key) r.resv r.there refl in
      let one = both first.name first.there in
      let follows = (a_common_name l.style w.net was l.session h good.hop first.name one.1 (good.names first.name one.0) (good.node ∙ sym is.node)).1 in
      let sound = low.sound (l.session, r.key) r.resv good r.there refl (rank_falls_at w.net valid.loop_free l.session.group h good.hop follows) in
      let s = sound.sound in
      let up = part_at_most_told r.resv.part s.wanted s.below in
      let meet : node_of w.net.ends s.hop.from ≡ node_of w.net.ends h.to = ap (node_of w.net.ends) s.from ∙ ((interfaces_are_ends w.net).iface_of_end n r.key.0.0 sound.end sound.at).1 ∙ sym is.node in
      let name : (y : Sender) → has x.part.senders y ≡ true → (has (over (h ∷ s.hop ∷ [])) y ≡ true) × Follows w.net l.session.group h s.hop =
      λ y e. let b = both y e in a_common_name l.style w.net was l.session h s.hop y b.1
      (want_names l.style w.net was l.session s.hop r.key.1 s.wanted s.is y (up.names y b.0)) meet in
      let less : IsWithin x.part.senders (cut s.wanted.senders (over (h ∷ s.hop ∷ []))) =
      λ y e. has-cut senders s.wanted.senders (over (h ∷ s.hop ∷ [])) y ∙ and_made _ _ (up.names y (both y e).0) (name y e).0 in
      let y = above (cut s.wanted.senders (over (h ∷ s.hop ∷ []))) x.part s.wanted.flow named less (subst (λ (z : TokenBucket). IsAtMost z s.wanted.flow) (sym m.flow) up.flow) in
      let row : In s.wanted (values (want l.style w.net was l.session s.hop)) =
      to_each (λ (e : UnitOf × Part). e.1) (r.key.1, s.wanted) (want l.style w.net was l.session s.hop).rows
      (found_in units (want l.style w.net was l.session s.hop) r.key.1 s.wanted s.is) in
      let here : In y.0 (brought l.style w.net was l.session h (want l.style w.net was l.session) s.hop) =
      to_flat_map (λ (z : Part). as_list (part_cut z (over (h ∷ s.hop ∷ [])))) s.wanted y.0 (values (want l.style w.net was l.session s.hop)) row
      (in_list (part_cut s.wanted (over (h ∷ s.hop ∷ []))) y.0 y.1) in
      record {
        part = y.0;
        among = in_right y.0 _ _ (to_flat_map (brought l.style w.net was l.session h (want l.style w.net was l.session)) s.hop y.0 (followers w.net l.session.group h)
            (follows_follower w.net l.session.group h s.hop (name first.name first.there).1) here);
        above_it = y.2;
        style = cut_of_style l.style s.wanted y.0 (over (h ∷ s.hop ∷ [])) (want_style l.style w.net was l.session kinds s.hop r.key.1 s.wanted s.is).0 y.1;
      }

  of_request : (u : UnitOf) (x : Request) → IsRequestOf l.style (requests (config_of q w.net w.trees n) f l) u x → Stands x.part
  of_request u x r =
      ⊎_elim (λ (a : IsResvRequest (config_of q w.net w.trees n) f l x). of_resv x r.named a) (λ (a : IsWantRequest f l x). of_want x r.named a)
      ((requests_and_toward.each (config_of q w.net w.trees n) f l x).0 r.among)

  -- the want of the hop has a part of the unit that stands above the request
  want_above : (u : UnitOf) (x : Request) → IsRequestOf l.style (requests (config_of q w.net w.trees n) f l) u x
      → (v : Part) × (get (want l.style w.net was l.session h) u ≡ Some v) × IsPartAtMost x.part v
  want_above u x r =
      let s = of_request u x r in
      let m = merge_above units (part_unit l.style) (λ (p : Part). p) parts s.part s.among s.style.named in
      let unit : u ≡ part_unit l.style s.part = r.unit ∙ within_unit l.style s.part x.part s.style r.named s.above_it.names in (
        m.0,
        ap (λ (t : PartTable). get t u) ((want_equation l.style w.net was l.session valid.loop_free).equation h) ∙ ap (get (merge l.style parts)) unit ∙ m.1,
        part_at_most_along x.part s.part m.0 s.above_it m.2,
      )

  -- what goes toward the previous hop is sound by what was wanted
  pub toward_is_within_what_was_wanted : (u : UnitOf) (t : Part) → get (toward (config_of q w.net w.trees n) f l) u ≡ Some t
      → IsSoundPart l.style (as_before before w) l.session h.from (addr_of w.net h.to) u t
  toward_is_within_what_was_wanted u t e =
      let first = toward_source l.style (requests (config_of q w.net w.trees n) f l) u (ap is_some e) in
      let v = want_above u first.0 first.1 in
      let every : (x : Request) → IsRequestOf l.style (requests (config_of q w.net w.trees n) f l) u x → (has_name x.part ≡ true) × IsPartAtMost x.part v.0 =
      λ x r. let a = want_above u x r in let same : Some a.0 ≡ Some v.0 = sym a.1 ∙ v.1 in (r.named, subst (λ (z : Part). IsPartAtMost x.part z) (of_some a.0 v.0 same) a.2) in
      let k = toward_keeps l.style (λ p. (has_name p ≡ true) × IsPartAtMost p v.0)
      (λ a b x y. (two a b x.0, part_join_least a b v.0 x.1 y.1))
      (λ a b x y. (two a b x.0, part_at_most_along (part_meet a b) (part_join a b) v.0 (part_meet_below_join a b) (part_join_least a b v.0 x.1 y.1)))
      (requests (config_of q w.net w.trees n) f l) u t e every in
      record {
        some = some_name t.senders (not-true (is_none t.senders) k.0);
        hop = h;
        there = is.there;
        from = refl;
        to = refl;
        wanted = v.0;
        is = v.1;
        below = part_at_most_tested t v.0 k.1;
      }
    where
      two : (a b : Part) → has_name a ≡ true → not (is_none (union a.senders b.senders)) ≡ true
      two a b e = ap not (some_within a.senders (union a.senders b.senders) (within_union_left senders a.senders b.senders) (not-true (is_none a.senders) e))

-- as where paths are sound
pub toward_is_at_most_what_was_wanted : (q : ℕ) (before : List Facts) (w : World) → AreBounds q w → ArePathsSound w → WantedMore before w → (n : ℕ) (f : Facts) → slice_get w.nodes n ≡ Some f
    → (l : Lane) (h : LinkHop) → IsPrevious w.net n l.session l.hop h → AreSoundBelow l.style (as_before before w) n f l.session (rank w.net l.session.group h)
    → (u : UnitOf) (t : Part) → get (toward (config_of q w.net w.trees n) f l) u ≡ Some t → IsSoundPart l.style (as_before before w) l.session h.from (addr_of w.net h.to) u t
toward_is_at_most_what_was_wanted q before w bounds paths more n f at l h is low u t e =
    toward_is_within_what_was_wanted q before w bounds.net more.parts more.wants n f at l h is
    (subst (λ (z : Names). IsWithin (names_via f l) z) (sym (same_names before w more l.style l.session (h ∷ []))) (via_within w n f bounds.net paths at l h is)) low u t e

-- ---- what nodes keep is at most what was wanted
abbrev pub AreKeptWithin : List Facts → World → Type 0
AreKeptWithin before w =
    (st : StyleKind) (n : ℕ) (f : Facts) (k : LineKey) (r : ResvState) → slice_get w.nodes n ≡ Some f → get (resvs_of st f) k ≡ Some r → IsSoundResv st (as_before before w) n k r

-- then it is named, and sound below every rank
pub named_within : (before : List Facts) (w : World) → AreKeptWithin before w → (st : StyleKind) (n : ℕ) (f : Facts) (s : Session) (top : ℕ) → slice_get w.nodes n ≡ Some f
    → AreSoundBelow st (as_before before w) n f s top
named_within before w sound st n f s top at = record {
  named = λ k r h same.
      let x = sound st n f k r at h in
      let of = (interfaces_are_ends w.net).iface_of_end n k.1.0.0 x.end x.at in
      let up = part_at_most_told r.part x.sound.wanted x.sound.below in
      record {
        some = ap not (name_some r.part.senders x.sound.some);
        hop = x.sound.hop;
        there = x.sound.there;
        node = ap (node_of w.net.ends) x.sound.from ∙ of.1;
        iface = ap (iface_of w.net.ends) x.sound.from ∙ of.2;
        to = x.sound.to;
        names = λ z e. want_names st w.net (locals_of (as_before before w)) k.0 x.sound.hop k.1.1 x.sound.wanted x.sound.is z (up.names z e);
      };
  sound = λ k r named h same low. sound st n f k r at h;
}
