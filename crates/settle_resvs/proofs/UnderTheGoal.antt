-- What is wanted over a hop needs a local want of its session and style; and sound reservations lie under the goal of their node.
use Rattle.std.specs.Prelude.{◌≡◌, ℕ, List, [], ◌∷◌, ◌++◌, map as each, Some, refl}
use Rattle.std.specs.List.{filter, flat_map}
use Rattle.std.proofs.Common.{zero, suc, sym, ap, subst, ◌∙◌, inl, inr, ⊎_elim}
use Rattle.rsvp_base.specs.Members.{In}
use Rattle.rsvp_base.specs.declared.part.Part.{Part}
use Rattle.rsvp_base.specs.declared.session.Session.{Session}
use Rattle.rsvp_base.specs.declared.style.StyleKind.{StyleKind}
use Rattle.rsvp_base.specs.declared.style.StyleKind.TheVariants.{Wild, Fixed, Shared}
use Rattle.rsvp_base.specs.declared.style.Unit.{Unit as UnitOf}
use Rattle.rsvp_base.specs.Orders.{sessions, styles, units}
use Rattle.rsvp_base.specs.Sets.{set_of}
use Rattle.rsvp_base.specs.Table.{empty, get, keys, values}
use Rattle.rsvp_base.proofs.Counts.{in_found, found_in, in_set_of}
use Rattle.rsvp_base.proofs.Tables.{tied_same}
use Rattle.rsvp_base.proofs.Members.{in_each, to_each, in_filter, to_filter, in_flat_map, to_flat_map, in_append}
use Rattle.rsvp_base.proofs.SetLaws.{and_both}
use Rattle.style_rules.specs.Lines.{Line, LineKey, AreUnder, line_key}
use Rattle.style_rules.specs.PartLaws.{part_at_most_told}
use Rattle.style_rules.specs.Parts.{part_cut, IsPartAtMost}
use Rattle.rsvp_base.specs.Styles.{part_unit}
use Rattle.style_rules.proofs.Merges.{merge_source}
use Rattle.tree_model.specs.declared.hops.LinkHop.{LinkHop}
use Rattle.tree_model.specs.Networks.{Net, node_of, iface_of}
use Rattle.tree_model.specs.Ranks.{followers, rank}
use Rattle.tree_model.specs.Trees.{hops_of, goes_out_of}
use Rattle.tree_model.proofs.Following.{number_same}
use Rattle.tree_model.proofs.Ifaces.{interfaces_are_ends}
use Rattle.tree_model.specs.Fuel.{by_fuel}
use Rattle.tree_model.specs.declared.locals.LocalWant.{LocalWant}
use Rattle.tree_model.specs.Goals.{end_pairs, goal, hops_in_order, hop_lines, sessions_named}
use Rattle.tree_model.specs.Wants.{Locals, names, as_list, wanted_of, is_wanted_at, own, brought, want_from, want}
use Rattle.laws_steps.specs.AcceptingLaws.{HasPlace}
use Rattle.router_rules.specs.Asking.{Asker}
use Rattle.router_rules.specs.Books.{lines}
use Rattle.router_rules.specs.Facts.{Facts, ResvState, resvs_of}
use Rattle.settle_paths.proofs.Requesting.{lines_told}
use Rattle.settle_paths.specs.Locals.{locals_of}
use Rattle.settle_paths.specs.Sound.{IsSoundPart, IsSoundResv}
use Rattle.settle_paths.specs.Worlds.{World}
use Rattle.settle_resvs.specs.GoalByIface.{at_iface, goal_at, line_over}
use Rattle.settle_resvs.specs.Laws.{IsWantedBySomeone}
use Rattle.settle_resvs.specs.Sessions.{SessionFits}
use Rattle.settle_resvs.proofs.Lists.{key_listed}

-- ---- a want needs a local want
module _ (st : StyleKind) (net : Net) (l : Locals) (s : Session) where
  needs : (n : ℕ) (h : LinkHop) (u : UnitOf) (p : Part) → get (by_fuel (want_from st net l s) empty n h) u ≡ Some p → IsWantedBySomeone st l s
  needs zero h u p e = cc
  needs (suc n) h u p e =
      let m = merge_source units (part_unit st) (λ (p : Part). p) (own st net l s h ++ flat_map (brought st net l s h (λ y. by_fuel (want_from st net l s) empty n y))
      (followers net s.group h)) u p e in
      ⊎_elim
      (λ (j : In m.0 (own st net l s h)).
      let w = in_flat_map (λ w. as_list (wanted_of st (names st net l s (h ∷ [])) w.part)) m.0 (filter (is_wanted_at st s (node_of net.ends h.to)) l.wants) j in
      let f = in_filter (is_wanted_at st s (node_of net.ends h.to)) w.0 l.wants w.1 in
      let at = and_both _ _ (and_both _ _ f.1).1 in
      record { want = w.0; there = f.0; session = sym (tied_same sessions s w.0.session at.0); style = sym (tied_same styles st w.0.style at.1) })
      (λ (j : In m.0 (flat_map (brought st net l s h (λ y. by_fuel (want_from st net l s) empty n y)) (followers net s.group h))).
      let y = in_flat_map (brought st net l s h (λ y. by_fuel (want_from st net l s) empty n y)) m.0 (followers net s.group h) j in
      let r = in_flat_map (λ p. as_list (part_cut p (names st net l s (h ∷ y.0 ∷ [])))) m.0 (values (by_fuel (want_from st net l s) empty n y.0)) y.2 in
      let e = in_each (λ (e : UnitOf × Part). e.1) r.0 (by_fuel (want_from st net l s) empty n y.0).rows r.1 in
      let at : In (e.0.0, r.0) (by_fuel (want_from st net l s) empty n y.0).rows = subst (λ (z : Part). In (e.0.0, z) (by_fuel (want_from st net l s) empty n y.0).rows) (sym e.2) e.1 in
      needs n y.0 e.0.0 r.0 (in_found units (by_fuel (want_from st net l s) empty n y.0) e.0.0 r.0 at))
      (in_append m.0 (own st net l s h) (flat_map (brought st net l s h (λ y. by_fuel (want_from st net l s) empty n y)) (followers net s.group h)) m.1)

  pub want_needs : (h : LinkHop) (u : UnitOf) (p : Part) → get (want st net l s h) u ≡ Some p → IsWantedBySomeone st l s
  unfolding want
  want_needs h u p e = needs (rank net s.group h) h u p e

-- where a session fits, what is wanted of it has one style
pub one_style : (net : Net) (l : Locals) (s : Session) → SessionFits net l s → (a b : StyleKind) (h g : LinkHop) (u v : UnitOf) (p r : Part) → get (want a net l s h) u ≡ Some p
    → get (want b net l s g) v ≡ Some r → a ≡ b
one_style net l s fit a b h g u v p r e f =
    let x = want_needs a net l s h u p e in
    let y = want_needs b net l s g v r f in
    sym x.style ∙ fit.one_style x.want y.want x.there y.there x.session y.session ∙ y.style

-- ---- lines of the goal
a_style : (st : StyleKind) → In st (Wild ∷ Fixed ∷ Shared ∷ [])
a_style Wild = inl refl
a_style Fixed = inr (inl refl)
a_style Shared = inr (inr (inl refl))

in_order : (hs : List LinkHop) (h : LinkHop) → In h hs → In h (hops_in_order hs)
in_order hs h i =
    to_each (λ (p : ℕ × ℕ). record { from = p.0; to = p.1 }) (h.from, h.to) (keys (set_of {o = end_pairs} (each (λ (h : LinkHop). (h.from, h.to)) hs)))
    (key_listed end_pairs (set_of {o = end_pairs} (each (λ (h : LinkHop). (h.from, h.to)) hs)) (h.from, h.to)
    (in_set_of end_pairs (each (λ (h : LinkHop). (h.from, h.to)) hs) (h.from, h.to) (to_each (λ (h : LinkHop). (h.from, h.to)) h hs i)))

pub goal_made : (st : StyleKind) (net : Net) (l : Locals) (n : ℕ) (s : Session) (h : LinkHop) (u : UnitOf) (p : Part) → In h (hops_of net.hops s.group) → node_of net.ends h.from ≡ n
    → get (want st net l s h) u ≡ Some p
    → In (line_over net st s h (u, p)) (goal net l n)
goal_made st net l n s h u p there node e =
    let by = want_needs st net l s h u p e in
    let named : In s (sessions_named l) =
    key_listed sessions (set_of {o = sessions} (flat_map (λ (w : LocalWant). w.session ∷ []) l.wants)) s
    (in_set_of sessions (flat_map (λ (w : LocalWant). w.session ∷ []) l.wants) s (to_flat_map (λ (w : LocalWant). w.session ∷ []) by.want s l.wants by.there (inl (sym by.session)))) in
    let row = to_each (line_over net st s h) (u, p) (want st net l s h).rows (found_in units (want st net l s h) u p e) in
    let out = to_filter (goes_out_of net.ends n) h (hops_in_order (hops_of net.hops s.group)) (in_order (hops_of net.hops s.group) h there) (number_same (node_of net.ends h.from) n node) in
    to_flat_map (λ st. flat_map (λ s. flat_map (hop_lines st net l s) (filter (goes_out_of net.ends n) (hops_in_order (hops_of net.hops s.group)))) (sessions_named l)) st
    (line_over net st s h (u, p)) (Wild ∷ Fixed ∷ Shared ∷ []) (a_style st)
    (to_flat_map (λ s. flat_map (hop_lines st net l s) (filter (goes_out_of net.ends n) (hops_in_order (hops_of net.hops s.group)))) s (line_over net st s h (u, p)) (sessions_named l) named
    (to_flat_map (hop_lines st net l s) h (line_over net st s h (u, p)) (filter (goes_out_of net.ends n) (hops_in_order (hops_of net.hops s.group))) out row))

-- ---- sound reservations lie under the goal of their node, by interface
pub sound_under : (w : World) (n : ℕ) (f : Facts) → ((st : StyleKind) (k : LineKey) (r : ResvState) → get (resvs_of st f) k ≡ Some r → IsSoundResv st w n k r)
    → AreUnder (lines f) (goal_at w.net (locals_of w) n)
sound_under w n f sound line i =
    let is = lines_told f line i in
    let at = sound is.style is.key is.resv is.there in
    let s = at.sound in
    let of = (interfaces_are_ends w.net).iface_of_end n is.key.1.0.0 at.end at.at in
    let node : node_of w.net.ends s.hop.from ≡ n = ap (node_of w.net.ends) s.from ∙ of.1 in
    let iface : iface_of w.net.ends s.hop.from ≡ is.key.1.0.0 = ap (iface_of w.net.ends) s.from ∙ of.2 in
    let g : Line = line_over w.net is.style is.key.0 s.hop (is.key.1.1, s.wanted) in (
      at_iface w.net g,
      to_each (at_iface w.net) g (goal w.net (locals_of w) n) (goal_made is.style w.net (locals_of w) n is.key.0 s.hop is.key.1.1 s.wanted s.there node s.is),
      record {
        style = ap (λ (z : Line). z.style) is.is;
        key = ap line_key is.is ∙ (λ i. (is.key.0, ((sym iface i, sym s.to i), is.key.1.1)));
        part = subst (λ (z : Line). IsPartAtMost z.part s.wanted) (sym is.is) (part_at_most_told is.resv.part s.wanted s.below);
      },
    )

-- and each unit that is sound has a place among its lines
pub has_place : (w : World) (o : Asker) (e : ℕ) (u : UnitOf) (p : Part) → IsSoundPart o.style w o.session e o.next u p → iface_of w.net.ends e ≡ o.iface
    → HasPlace o u p (goal_at w.net (locals_of w) (node_of w.net.ends e))
has_place w o e u p s iface =
    let g : Line = line_over w.net o.style o.session s.hop (u, s.wanted) in
    let at : iface_of w.net.ends s.hop.from ≡ o.iface = ap (iface_of w.net.ends) s.from ∙ iface in (
      at_iface w.net g,
      to_each (at_iface w.net) g (goal w.net (locals_of w) (node_of w.net.ends e)) (goal_made o.style w.net (locals_of w) (node_of w.net.ends e) o.session s.hop u s.wanted s.there
          (ap (node_of w.net.ends) s.from) s.is),
      record { style = refl; key = λ i. (o.session, ((sym at i, sym s.to i), u)); part = part_at_most_told p s.wanted s.below },
    )
