-- What the test of two tables of parts tells.
use Rattle.std.specs.Prelude.{◌≡◌, ◌↔◌, Bool, true, false, Option, Some, None, refl}
use Rattle.std.proofs.Common.{sym, ap, subst, ◌∙◌}
use Rattle.std.proofs.lemmas.Bool.{both_ways}
use Rattle.rsvp_base.specs.declared.part.Part.{Part}
use Rattle.rsvp_base.specs.declared.style.Unit.{Unit as UnitOf}
use Rattle.rsvp_base.specs.Orders.{units}
use Rattle.rsvp_base.specs.Table.{get}
use Rattle.rsvp_base.proofs.Counts.{in_found, found_in}
use Rattle.rsvp_base.proofs.Members.{all_in, in_all}
use Rattle.rsvp_base.proofs.SetLaws.{and_both, and_made}
use Rattle.rsvp_base.proofs.Tables.{same_table}
use Rattle.style_rules.specs.Merge.{PartTable}
use Rattle.style_rules.specs.Parts.{IsPartAtMost, part_le}
use Rattle.style_rules.specs.PartLaws.{part_at_most_told, part_at_most_tested, part_at_most_itself, part_at_most_both_ways}
use Rattle.style_rules.specs.Same.{is_part_in, parts_le, same_parts, stands_for}

stands_told : (part : Part) (w : Option Part) → stands_for part w ≡ true → (other : Part) × (w ≡ Some other) × (part_le part other ≡ true)
stands_told part None e = cc
stands_told part (Some other) e = (other, refl, e)

-- each part of the one has one in the other that can stand for it
below_told : (s t : PartTable) → parts_le s t ≡ true → (u : UnitOf) (x : Part) → get s u ≡ Some x → (y : Part) × (get t u ≡ Some y) × (part_le x y ≡ true)
below_told s t e u x g = stands_told x (get t u) (all_in (is_part_in t) s.rows e (u, x) (found_in units s u x g))

below_itself : (t : PartTable) → parts_le t t ≡ true
below_itself t = in_all (is_part_in t) t.rows (λ e i. ap (stands_for e.1) (in_found units t e.0 e.1 i) ∙ part_at_most_tested e.1 e.1 (part_at_most_itself e.1))

pub parts_told : (s t : PartTable) → same_parts s t ≡ true → s ≡ t
parts_told s t e = same_table units s t (λ u. by u (get s u) (get t u) refl refl)
  where
    both : (parts_le s t ≡ true) × (parts_le t s ≡ true)
    both = and_both (parts_le s t) (parts_le t s) e

    by : (u : UnitOf) (v w : Option Part) → get s u ≡ v → get t u ≡ w → v ≡ w
    by u None None g h = refl
    by u (Some x) None g h = let r = below_told s t both.0 u x g in let z : Some r.0 ≡ None = sym r.1 ∙ h in absurd (cc)
    by u None (Some y) g h = let r = below_told t s both.1 u y h in let z : Some r.0 ≡ None = sym r.1 ∙ g in absurd (cc)
    by u (Some x) (Some y) g h =
        let r = below_told s t both.0 u x g in
        let q = below_told t s both.1 u y h in
        let a : Some r.0 ≡ Some y = sym r.1 ∙ h in
        let b : Some q.0 ≡ Some x = sym q.1 ∙ g in
        let under : r.0 ≡ y = cc in
        let over : q.0 ≡ x = cc in
        ap Some (part_at_most_both_ways x y (part_at_most_told x y (subst (λ z. part_le x z ≡ true) under r.2)) (part_at_most_told y x (subst (λ z. part_le y z ≡ true) over q.2)))

pub parts_tested : (s t : PartTable) → s ≡ t → same_parts s t ≡ true
parts_tested s t e = subst (λ z. same_parts s z ≡ true) e (and_made _ _ (below_itself s) (below_itself s))

-- a test that is true exactly where one part can stand for the other
pub as_tested : (b : Bool) (x y : Part) → (b ≡ true) ↔ IsPartAtMost x y → b ≡ part_le x y
as_tested true x y h = sym (part_at_most_tested x y (h.0 refl))
as_tested false x y h = by (part_le x y) refl
  where
    by : (t : Bool) → part_le x y ≡ t → false ≡ t
    by true e = h.1 (part_at_most_told x y e)
    by false e = refl

-- ---- one way, and then the other
pub same_where : (s t : PartTable) (b : Bool) → b ≡ parts_le t s → parts_le s t ≡ true → (b ≡ true) ↔ (s ≡ t)
same_where s t b is below = (
  λ e. parts_told s t (and_made _ _ below (sym is ∙ e)),
  λ q. is ∙ (and_both (parts_le s t) (parts_le t s) (parts_tested s t q)).1,
)

pub apart_where : (s t : PartTable) (b : Bool) → b ≡ parts_le s t → b ≡ false → (b ≡ true) ↔ (s ≡ t)
apart_where s t b is out = (λ e. absurd (both_ways b out e), λ q. is ∙ (and_both (parts_le s t) (parts_le t s) (parts_tested s t q)).0)
