-- What is wanted over a hop is as its style has it, and stands under its unit.
use Rattle.std.specs.Prelude.{◌≡◌, ℕ, true, List, [], ◌∷◌, ◌++◌, Some, refl}
use Rattle.std.specs.List.{filter, flat_map}
use Rattle.std.proofs.Common.{zero, suc, sym, ap, subst, ◌∙◌, ⊎_elim}
use Rattle.rsvp_base.specs.Members.{In}
use Rattle.rsvp_base.specs.declared.part.Part.{Part}
use Rattle.rsvp_base.specs.declared.session.Session.{Session}
use Rattle.rsvp_base.specs.declared.session.Sender.{Sender}
use Rattle.rsvp_base.specs.declared.style.StyleKind.{StyleKind}
use Rattle.rsvp_base.specs.declared.style.StyleKind.TheVariants.{Wild, Fixed, Shared}
use Rattle.rsvp_base.specs.declared.style.Unit.{Unit as UnitOf}
use Rattle.rsvp_base.specs.Orders.{Names, styles, units}
use Rattle.rsvp_base.specs.Table.{empty, get, has, values}
use Rattle.rsvp_base.proofs.Counts.{in_found}
use Rattle.rsvp_base.proofs.Tables.{tied_same}
use Rattle.rsvp_base.proofs.Members.{in_each, in_filter, in_flat_map, in_append}
use Rattle.rsvp_base.proofs.SetLaws.{and_both}
use Rattle.rsvp_base.specs.Styles.{name_of, part_unit}
use Rattle.style_rules.specs.Parts.{part_cut, IsOfStyle}
use Rattle.style_rules.specs.CutLaws.{made_of, made_named}
use Rattle.style_rules.proofs.Claims.{merge_keeps_the_style}
use Rattle.style_rules.proofs.StyleLaws.{cut_of_style, wild_parts}
use Rattle.tree_model.specs.declared.hops.LinkHop.{LinkHop}
use Rattle.tree_model.specs.Networks.{Net, node_of}
use Rattle.tree_model.specs.Ranks.{followers, rank}
use Rattle.tree_model.specs.Fuel.{by_fuel}
use Rattle.tree_model.specs.declared.locals.LocalWant.{LocalWant}
use Rattle.tree_model.specs.Wants.{Locals, names, as_list, wanted_of, is_wanted_at, own, brought, want_from, want}
use Rattle.tree_model.proofs.WantLaws.{in_as_list, name_told}
use Rattle.router_rules.specs.Bounds.{IsWantShape}
use Rattle.settle_paths.specs.Bounds.{AreBounds}
use Rattle.settle_paths.specs.Locals.{locals_of}
use Rattle.settle_paths.specs.Worlds.{World}
use Rattle.settle_paths.proofs.NodeLocals.{want_of_node}
use Rattle.settle_resvs.specs.Laws.{IsWantPart, AreWantParts}

wanted_style : (st : StyleKind) (ns : Names) → ((x : Sender) → has ns x ≡ true → name_of st x ≡ x) → (p q : Part) → IsWantPart st p → wanted_of st ns p ≡ Some q → IsOfStyle st q
wanted_style Wild ns listed p q is e =
    let m = made_of ns p.flow q e in
    (wild_parts q).1 (made_named ns p.flow q e, λ x t. sym (ap (λ (z : Sender). z.port) (listed x (subst (λ (z : Names). has z x ≡ true) m.senders t))))
wanted_style Fixed ns listed p q is e = cut_of_style Fixed p q ns is e
wanted_style Shared ns listed p q is e = cut_of_style Shared p q ns is e

name_again : (st : StyleKind) (a : Sender) → name_of st (name_of st a) ≡ name_of st a
name_again Wild a = refl
name_again Fixed a = refl
name_again Shared a = refl

module _ (st : StyleKind) (net : Net) (l : Locals) (s : Session) where
  listed : (hs : List LinkHop) (x : Sender) → has (names st net l s hs) x ≡ true → name_of st x ≡ x
  listed hs x e = let a = name_told st net l s hs x e in ap (name_of st) a.3 ∙ name_again st a.0 ∙ sym a.3

  module _ (parts : AreWantParts l) where
    pub own_style : (h : LinkHop) (q : Part) → In q (own st net l s h) → IsOfStyle st q
    own_style h q i =
        let w = in_flat_map (λ w. as_list (wanted_of st (names st net l s (h ∷ [])) w.part)) q (filter (is_wanted_at st s (node_of net.ends h.to)) l.wants) i in
        let f = in_filter (is_wanted_at st s (node_of net.ends h.to)) w.0 l.wants w.1 in
        let at = and_both _ _ (and_both _ _ f.1).1 in
        wanted_style st (names st net l s (h ∷ [])) (listed (h ∷ [])) w.0.part q (subst (λ (z : StyleKind). IsWantPart z w.0.part) (sym (tied_same styles st w.0.style at.1)) (parts w.0 f.0))
        (in_as_list (wanted_of st (names st net l s (h ∷ [])) w.0.part) q w.2)

    styled : (n : ℕ) (h : LinkHop) (u : UnitOf) (p : Part) → get (by_fuel (want_from st net l s) empty n h) u ≡ Some p → IsOfStyle st p × (part_unit st p ≡ u)
    styled zero h u p e = cc
    styled (suc n) h u p e =
        (merge_keeps_the_style st).merge (own st net l s h ++ flat_map (brought st net l s h (λ y. by_fuel (want_from st net l s) empty n y)) (followers net s.group h)) u p
        (λ q is.
        ⊎_elim (λ (j : In q (own st net l s h)). own_style h q j)
        (λ (j : In q (flat_map (brought st net l s h (λ y. by_fuel (want_from st net l s) empty n y)) (followers net s.group h))).
        let y = in_flat_map (brought st net l s h (λ y. by_fuel (want_from st net l s) empty n y)) q (followers net s.group h) j in
        let r = in_flat_map (λ p. as_list (part_cut p (names st net l s (h ∷ y.0 ∷ [])))) q (values (by_fuel (want_from st net l s) empty n y.0)) y.2 in
        let e = in_each (λ (e : UnitOf × Part). e.1) r.0 (by_fuel (want_from st net l s) empty n y.0).rows r.1 in
        let at : In (e.0.0, r.0) (by_fuel (want_from st net l s) empty n y.0).rows = subst (λ (z : Part). In (e.0.0, z) (by_fuel (want_from st net l s) empty n y.0).rows) (sym e.2) e.1 in
        let style = styled n y.0 e.0.0 r.0 (in_found units (by_fuel (want_from st net l s) empty n y.0) e.0.0 r.0 at) in
        cut_of_style st r.0 q (names st net l s (h ∷ y.0 ∷ [])) style.0 (in_as_list (part_cut r.0 (names st net l s (h ∷ y.0 ∷ []))) q r.2))
        (in_append q (own st net l s h) (flat_map (brought st net l s h (λ y. by_fuel (want_from st net l s) empty n y)) (followers net s.group h)) is.among))
        e

    -- what is wanted over a hop is of its style, and its unit is the one under which it stands
    pub want_style : (h : LinkHop) (u : UnitOf) (p : Part) → get (want st net l s h) u ≡ Some p → IsOfStyle st p × (part_unit st p ≡ u)
    unfolding want
    want_style h u p e = styled (rank net s.group h) h u p e

-- ---- the wants of a world within bounds are as their styles have them
part_of_shape : (st : StyleKind) (u : UnitOf) (p : Part) → IsWantShape st u p → IsWantPart st p
part_of_shape Wild u p h = tt
part_of_shape Fixed u p h = h.0
part_of_shape Shared u p h = h.0

pub want_parts : (q : ℕ) (w : World) → AreBounds q w → AreWantParts (locals_of w)
want_parts q w bounds x i =
    let r = want_of_node w x i in
    let shape = ((bounds.facts x.node r.0 r.3).shapes.wants r.1 r.2 r.4).shape in
    subst (λ (z : LocalWant). IsWantPart z.style z.part) (sym r.5) (part_of_shape r.2.style r.1.1 r.2.part shape)
