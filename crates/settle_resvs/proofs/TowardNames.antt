-- What goes toward a previous hop is of its style, and names some of those via the hop.
use Rattle.std.specs.Prelude.{◌≡◌, ℕ, Bool, true, false, not, Some, refl}
use Rattle.std.proofs.Common.{sym, ap, subst, ◌∙◌, ⊎_elim}
use Rattle.rsvp_base.specs.Members.{In}
use Rattle.rsvp_base.specs.declared.part.Part.{Part}
use Rattle.rsvp_base.specs.declared.session.Sender.{Sender}
use Rattle.rsvp_base.specs.declared.style.StyleKind.{StyleKind}
use Rattle.rsvp_base.specs.declared.style.StyleKind.TheVariants.{Wild, Fixed, Shared}
use Rattle.rsvp_base.specs.declared.style.Unit.{Unit as UnitOf}
use Rattle.rsvp_base.specs.Orders.{Names, senders}
use Rattle.rsvp_base.specs.Sets.{IsWithin, is_none, cut, union}
use Rattle.rsvp_base.specs.Table.{get, has}
use Rattle.rsvp_base.proofs.SetLaws.{and_both, has-cut, within_union_left}
use Rattle.style_rules.specs.CutLaws.{some_within, made_of, made_named, cut_of}
use Rattle.style_rules.specs.PartLaws.{union_least}
use Rattle.style_rules.specs.Parts.{has_name, IsOfStyle}
use Rattle.rsvp_base.specs.Styles.{name_of}
use Rattle.style_rules.specs.Toward.{Request}
use Rattle.style_rules.proofs.Claims.{merge_keeps_the_style}
use Rattle.style_rules.proofs.StyleLaws.{wild_parts, cut_of_style}
use Rattle.style_rules.proofs.Towards.{toward_keeps}
use Rattle.router_rules.specs.Bounds.{IsWithinBounds, IsWantShape}
use Rattle.router_rules.specs.Facts.{Facts}
use Rattle.router_rules.specs.Known.{Lane, names_via, names_via_where}
use Rattle.router_rules.specs.NodeConfig.{NodeConfig, goes_out}
use Rattle.router_rules.specs.Requests.{requests, want_part, toward}
use Rattle.laws_bounds.specs.FactLaws.{IsResvRequest, IsWantRequest}
use Rattle.laws_bounds.specs.SendLaws.{ArePartsOf}
use Rattle.laws_bounds.proofs.Knowing.{known_and_via}
use Rattle.laws_bounds.proofs.Requesting.{requests_and_toward}

not_false : (b : Bool) → not b ≡ true → b ≡ false
not_false true e = cc
not_false false e = refl

right : (a b : Names) → IsWithin (cut a b) b
right a b x e = (and_both (has a x) (has b x) (sym (has-cut senders a b x) ∙ e)).1

want_style : (st : StyleKind) (ns : Names) → ((x : Sender) → has ns x ≡ true → name_of st x ≡ x) → (u : UnitOf) (p q : Part) → IsWantShape st u p → want_part st ns p ≡ Some q → IsOfStyle st q
want_style Wild ns listed u p q is e =
    let m = made_of ns p.flow q e in
    (wild_parts q).1 (made_named ns p.flow q e, λ x t. sym (ap (λ (z : Sender). z.port) (listed x (subst (λ (z : Names). has z x ≡ true) m.senders t))))
want_style Fixed ns listed u p q is e = cut_of_style Fixed p q ns is.0 e
want_style Shared ns listed u p q is e = cut_of_style Shared p q ns is.0 e

want_within : (st : StyleKind) (ns : Names) (p q : Part) → want_part st ns p ≡ Some q → IsWithin q.senders ns
want_within Wild ns p q e = let m = made_of ns p.flow q e in subst (λ (t : Names). IsWithin t ns) (sym m.senders) (λ x h. h)
want_within Fixed ns p q e = subst (λ (t : Names). IsWithin t ns) (sym (cut_of p q ns e).senders) (right p.senders ns)
want_within Shared ns p q e = subst (λ (t : Names). IsWithin t ns) (sym (cut_of p q ns e).senders) (right p.senders ns)

name_again : (st : StyleKind) (a : Sender) → name_of st (name_of st a) ≡ name_of st a
name_again Wild a = refl
name_again Fixed a = refl
name_again Shared a = refl

module _ (p : NodeConfig) (c : ℕ) (f : Facts) (bounds : IsWithinBounds p c f) (l : Lane) where
  listed : (x : Sender) → has (names_via f l) x ≡ true → name_of l.style x ≡ x
  listed x e = let a = (known_and_via.all_by f l x).0 e in ap (name_of l.style) a.name ∙ name_again l.style a.sender ∙ sym a.name

  in_via : (i : ℕ) → IsWithin (names_via_where f l (goes_out p l.session i)) (names_via f l)
  in_via i x e =
      let a = (known_and_via.names_by f l (goes_out p l.session i) x).0 e in
      (known_and_via.all_by f l x).1 (record { sender = a.sender; among = a.among; passes = refl; name = a.name })

  request : (x : Request) → In x (requests p f l) → IsOfStyle l.style x.part × IsWithin x.part.senders (names_via f l)
  request x i =
      ⊎_elim
      (λ (r : IsResvRequest p f l x). (
        cut_of_style l.style r.resv.part x.part (names_via_where f l (goes_out p l.session r.key.0.0)) (bounds.shapes.resvs l.style (l.session, r.key) r.resv r.there).style r.part,
        λ y e. in_via r.key.0.0 y (right r.resv.part.senders (names_via_where f l (goes_out p l.session r.key.0.0)) y
            (subst (λ (z : Names). has z y ≡ true) (cut_of r.resv.part x.part (names_via_where f l (goes_out p l.session r.key.0.0)) r.part).senders e)),
      ))
      (λ (r : IsWantRequest f l x). (
        want_style l.style (names_via f l) listed r.unit r.want.part x.part (subst (λ (z : StyleKind). IsWantShape z r.unit r.want.part) r.style
            (bounds.shapes.wants (l.session, r.unit) r.want r.there).shape) r.part,
        want_within l.style (names_via f l) r.want.part x.part r.part,
      ))
      ((requests_and_toward.each p f l x).0 i)

  pub parts_of_style : ArePartsOf l.style (toward p f l)
  parts_of_style u t e = (merge_keeps_the_style l.style).toward (requests p f l) u t (λ x r. (request x r.among).0) e

  pub toward_names : (u : UnitOf) (t : Part) → get (toward p f l) u ≡ Some t → (has_name t ≡ true) × IsWithin t.senders (names_via f l)
  toward_names u t e =
      toward_keeps l.style (λ p. (has_name p ≡ true) × IsWithin p.senders (names_via f l))
      (λ a b x y. (two a b x.0, union_least a.senders b.senders (names_via f l) x.1 y.1)) (λ a b x y. (two a b x.0, union_least a.senders b.senders (names_via f l) x.1 y.1))
      (requests p f l) u t e (λ x r. (r.named, (request x r.among).1))
    where
      two : (a b : Part) → has_name a ≡ true → not (is_none (union a.senders b.senders)) ≡ true
      two a b e = ap not (some_within a.senders (union a.senders b.senders) (within_union_left senders a.senders b.senders) (not_false (is_none a.senders) e))
