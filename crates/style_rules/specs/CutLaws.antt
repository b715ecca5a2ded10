-- Cuts of parts: what is left, below what it was, monotone, and one after another.
use Rattle.std.specs.Prelude.{◌≡◌, ◌↔◌, ◌<◌, Bool, true, false, cond, not, Option, Some, None, IsSomeAnd, refl}
use Rattle.std.proofs.Common.{sym, ap, subst, ◌∙◌, arith}
use Rattle.std.proofs.lemmas.Bool.{eqb-false, ne_eqb}
use Rattle.rsvp_base.specs.declared.part.Part.{Part}
use Rattle.rsvp_base.specs.Orders.{Names, senders}
use Rattle.rsvp_base.specs.Sets.{union, cut, IsWithin, is_none}
use Rattle.rsvp_base.specs.Table.{size}
use Rattle.rsvp_base.specs.TokenBucket.{TokenBucket}
use Rattle.rsvp_base.proofs.SetLaws.{size_within, within_union_left, within_cut, cut_within, cut-union, cut-cut}
use Rattle.flow_merge.specs.FlowOrder.{IsAtMost, flow_join}
use Rattle.flow_merge.proofs.Lattice.{at_most_itself}
use Rattle.style_rules.specs.Parts.{has_name, part_join, IsPartAtMost, part_of, part_cut}
use Rattle.style_rules.specs.PartLaws.{same_part, part_join_above_left}

-- ---- some names
pub some_name : (s : Names) → is_none s ≡ false → 0 < size s
some_name s e = let n = eqb-false (size s) 0 e in omega (arith, n)

pub name_some : (s : Names) → 0 < size s → is_none s ≡ false
name_some s h = ne_eqb (size s) 0 (omega arith)

-- a set that has a set with a name within it has one
pub some_within : (s t : Names) → IsWithin s t → is_none s ≡ false → is_none t ≡ false
some_within s t h e = let some = some_name s e in let less = size_within senders s t h in name_some t (omega arith)

pub named_above : (a b : Part) → IsPartAtMost a b → has_name a ≡ true → has_name b ≡ true
named_above a b h e = ap not (some_within a.senders b.senders h.names (some_of (is_none a.senders) e))
  where
    some_of : (b : Bool) → not b ≡ true → b ≡ false
    some_of true e = cc
    some_of false e = refl

-- ---- a part of names
-- a part that was made of names has them, with a name
pub record Made (s : Names) (f : TokenBucket) (x : Part) : Type 0 where
  pub some : is_none s ≡ false
  pub senders : x.senders ≡ s
  pub flow : x.flow ≡ f

pub made_of : (s : Names) (f : TokenBucket) (x : Part) → part_of s f ≡ Some x → Made s f x
made_of s f x e = by (is_none s) refl e
  where
    by : (b : Bool) → is_none s ≡ b → cond b None (Some (record { senders = s; flow = f })) ≡ Some x → Made s f x
    by true t e = cc
    by false t e = let is : ◌≡◌ {A = Part} (record { senders = s; flow = f }) x = cc in record { some = t; senders = ap (λ (p : Part). p.senders) (sym is); flow = ap (λ (p : Part). p.flow) (sym is) }

pub part_of_some : (s : Names) (f : TokenBucket) → is_none s ≡ false → part_of s f ≡ Some (record { senders = s; flow = f })
part_of_some s f e = ap (λ b. cond b None (Some (record { senders = s; flow = f }))) e

pub part_of_none : (s : Names) (f : TokenBucket) → is_none s ≡ true → part_of s f ≡ None
part_of_none s f e = ap (λ b. cond b None (Some (record { senders = s; flow = f }))) e

none_made : (s : Names) (f : TokenBucket) → part_of s f ≡ None → is_none s ≡ true
none_made s f e = by (is_none s) refl e
  where
    by : (b : Bool) → is_none s ≡ b → cond {A = Option Part} b None (Some (record { senders = s; flow = f })) ≡ None → is_none s ≡ true
    by true t e = t
    by false t e = cc

-- a part with a name is made of its own
pub part_of_itself : (p : Part) → has_name p ≡ true → part_of p.senders p.flow ≡ Some p
part_of_itself p e = part_of_some p.senders p.flow (some_of (is_none p.senders) e)
  where
    some_of : (b : Bool) → not b ≡ true → b ≡ false
    some_of true e = cc
    some_of false e = refl

pub made_named : (s : Names) (f : TokenBucket) (x : Part) → part_of s f ≡ Some x → has_name x ≡ true
made_named s f x e = let m = made_of s f x e in ap not (ap is_none m.senders ∙ m.some)

-- ---- a cut
-- what is left has the senders in both, and the flow
pub cut_of : (p x : Part) (names : Names) → part_cut p names ≡ Some x → Made (cut p.senders names) p.flow x
cut_of p x names e = made_of (cut p.senders names) p.flow x e

pub cut_senders : (p x : Part) (names : Names) → part_cut p names ≡ Some x → x.senders ≡ cut p.senders names
cut_senders p x names e = (cut_of p x names e).senders

pub cut_flow : (p x : Part) (names : Names) → part_cut p names ≡ Some x → x.flow ≡ p.flow
cut_flow p x names e = (cut_of p x names e).flow

pub cut_named : (p x : Part) (names : Names) → part_cut p names ≡ Some x → has_name x ≡ true
cut_named p x names e = made_named (cut p.senders names) p.flow x e

-- nothing is left exactly where no name is in both
pub cut_none : (p : Part) (names : Names) → (part_cut p names ≡ None) ↔ (is_none (cut p.senders names) ≡ true)
cut_none p names = (none_made (cut p.senders names) p.flow, part_of_none (cut p.senders names) p.flow)

pub cut_some : (p : Part) (names : Names) → is_none (cut p.senders names) ≡ false → (x : Part) × (part_cut p names ≡ Some x)
cut_some p names e = (record { senders = cut p.senders names; flow = p.flow }, part_of_some (cut p.senders names) p.flow e)

pub cut_below : (p x : Part) (names : Names) → part_cut p names ≡ Some x → IsPartAtMost x p
cut_below p x names e =
    let m = cut_of p x names e in
    record {
      names = subst (λ s. IsWithin s p.senders) (sym m.senders) (cut_within senders p.senders names);
      flow = subst (λ f. IsAtMost f p.flow) (sym m.flow) (at_most_itself p.flow);
    }

-- two cuts, part by part
both_cut : (a b x y : Part) (names : Names) → IsPartAtMost a b → Made (cut a.senders names) a.flow x → Made (cut b.senders names) b.flow y → IsPartAtMost x y
both_cut a b x y names h m n =
    record {
      names = subst (λ s. IsWithin s y.senders) (sym m.senders) (subst (λ t. IsWithin (cut a.senders names) t) (sym n.senders) (within_cut senders a.senders b.senders names h.names));
      flow = subst (λ f. IsAtMost f y.flow) (sym m.flow) (subst (λ g. IsAtMost a.flow g) (sym n.flow) h.flow);
    }

-- of a larger part no less is left
pub cut_monotone : (a b x : Part) (names : Names) → IsPartAtMost a b → part_cut a names ≡ Some x → (y : Part) × (part_cut b names ≡ Some y) × IsPartAtMost x y
cut_monotone a b x names h e =
    let m = cut_of a x names e in
    let r = cut_some b names (some_within (cut a.senders names) (cut b.senders names) (within_cut senders a.senders b.senders names h.names) m.some) in
    (r.0, r.1, both_cut a b x r.0 names h m (cut_of b r.0 names r.1))

pub cut_keeps_order : (a b x y : Part) (names : Names) → IsPartAtMost a b → part_cut a names ≡ Some x → part_cut b names ≡ Some y → IsPartAtMost x y
cut_keeps_order a b x y names h e f = both_cut a b x y names h (cut_of a x names e) (cut_of b y names f)

-- the cut of a join is the join of the cuts
pub cut_of_join : (a b x y : Part) (names : Names) → part_cut a names ≡ Some x → part_cut b names ≡ Some y → part_cut (part_join a b) names ≡ Some (part_join x y)
cut_of_join a b x y names e f =
    let m = cut_of a x names e in
    let n = cut_of b y names f in
    let some = some_within (cut a.senders names) (cut (union a.senders b.senders) names) (within_cut senders a.senders (union a.senders b.senders) names
    (within_union_left senders a.senders b.senders)) m.some in
    part_of_some (cut (union a.senders b.senders) names) (part_join a b).flow some
    ∙ ap Some (same_part _ (part_join x y) (cut-union senders a.senders b.senders names ∙ (λ i. union (sym m.senders i) (sym n.senders i))) (λ i. flow_join (sym m.flow i) (sym n.flow i)))

-- where only one of two parts has a name left, that cut is at most the cut of their join
pub cut_of_one : (a b x : Part) (names : Names) → part_cut a names ≡ Some x → IsSomeAnd (part_cut (part_join a b) names) (IsPartAtMost x)
cut_of_one a b x names e =
    let r = cut_monotone a (part_join a b) x names (part_join_above_left a b) e in
    subst (λ w. IsSomeAnd w (IsPartAtMost x)) (sym r.1) r.2

-- ---- one cut after another
-- a cut to these names and then to those is a cut to the names in both
pub cut_of_cut : (p x : Part) (first second : Names) → part_cut p first ≡ Some x → part_cut x second ≡ part_cut p (cut first second)
cut_of_cut p x first second e =
    let m = cut_of p x first e in
    (λ i. part_of (cut (m.senders i) second) (m.flow i)) ∙ ap (λ s. part_of s p.flow) (cut-cut senders p.senders first second)

-- what nothing is left of has nothing left of a further cut
pub cut_of_nothing : (p : Part) (first second : Names) → part_cut p first ≡ None → part_cut p (cut first second) ≡ None
cut_of_nothing p first second e =
    (cut_none p (cut first second)).1 (none_in (cut p.senders (cut first second)) (cut p.senders first) less ((cut_none p first).0 e))
  where
    less : IsWithin (cut p.senders (cut first second)) (cut p.senders first)
    less = subst (λ s. IsWithin s (cut p.senders first)) (cut-cut senders p.senders first second) (cut_within senders (cut p.senders first) second)

    none_in : (s t : Names) → IsWithin s t → is_none t ≡ true → is_none s ≡ true
    none_in s t h e = by (is_none s) refl
      where
        by : (b : Bool) → is_none s ≡ b → is_none s ≡ true
        by true t = t
        by false f = let z : true ≡ false = sym e ∙ some_within s t h f in absurd (cc)
