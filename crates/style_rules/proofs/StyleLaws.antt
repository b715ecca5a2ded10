-- Units and names of parts as a style has them.
use Rattle.std.specs.Prelude.{◌≡◌, ◌↔◌, ◌<◌, ◌⊎◌, Bool, true, false, cond, not, List, [], ◌∷◌, map as each, length, is_some, Option, Some, None, refl}
use Rattle.std.proofs.Common.{sym, ap, subst, ◌∙◌, arith, inl, ⊎_elim}
use Rattle.std.specs.Ordering.{eq_by_cmp}
use Rattle.std.specs.FinMap.Entries.{find}
use Rattle.rsvp_base.specs.declared.part.Part.{Part}
use Rattle.rsvp_base.specs.declared.session.Sender.{Sender}
use Rattle.rsvp_base.specs.declared.style.StyleKind.{StyleKind}
use Rattle.rsvp_base.specs.declared.style.StyleKind.TheVariants.{Wild, Fixed, Shared}
use Rattle.rsvp_base.specs.declared.style.Unit.TheVariants.{Of}
use Rattle.rsvp_base.specs.Members.{In}
use Rattle.rsvp_base.specs.Orders.{Names, senders}
use Rattle.rsvp_base.specs.Sets.{union, set_of, IsWithin, is_none}
use Rattle.rsvp_base.specs.Table.{has, size, keys}
use Rattle.rsvp_base.proofs.Lists.{has_keys}
use Rattle.rsvp_base.proofs.Tables.{tied_same, either}
use Rattle.rsvp_base.proofs.SetLaws.{or_either, size_within, has-union, within_union_left, cut_within}
use Rattle.rsvp_base.proofs.Members.{in_tied, tied_in}
use Rattle.rsvp_base.proofs.Counts.{in_set_of}
use Rattle.rsvp_base.specs.Styles.{name_of, unit_of, unit_of_first, part_unit}
use Rattle.style_rules.specs.Parts.{has_name, part_cut, IsOfStyle}
use Rattle.style_rules.specs.CutLaws.{some_name, name_some, some_within, cut_of, cut_named}

length_each : {A B : Type 0} (f : A → B) (xs : List A) → length (each f xs) ≡ length xs
length_each f [] = refl
length_each f (x ∷ xs) = let rest = length_each f xs in omega arith

-- ---- names that are there
pub named_in : (p : Part) (s : Sender) → has p.senders s ≡ true → In s (keys p.senders)
named_in p s e = in_tied senders s (keys p.senders) (sym (has_keys p.senders s) ∙ e)

pub in_named : (p : Part) (s : Sender) → In s (keys p.senders) → has p.senders s ≡ true
in_named p s i = has_keys p.senders s ∙ tied_in senders s (keys p.senders) i

-- a set that is not empty has a name
pub a_name : (m : Names) → is_none m ≡ false → (s : Sender) × (has m s ≡ true)
a_name m e =
    let some = some_name m e in
    let same = length_each (λ (r : Sender × Unit {0}). r.0) m.rows in
    let r = a_member (keys m) (omega arith) in
    (r.0, has_keys m r.0 ∙ tied_in senders r.0 (keys m) r.1)
  where
    a_member : (ks : List Sender) → 0 < length ks → (s : Sender) × In s ks
    a_member [] h = absurd (omega arith)
    a_member (k ∷ ks) h = (k, inl refl)

-- a name of the part whose unit is the part's
pub record UnitName (st : StyleKind) (p : Part) : Type 0 where
  pub name : Sender
  pub there : has p.senders name ≡ true
  pub unit : part_unit st p ≡ unit_of st name

not_true : (b : Bool) → not b ≡ true → b ≡ false
not_true true e = cc
not_true false e = refl

first_of : (st : StyleKind) (ks : List Sender) → 0 < length ks → (s : Sender) × In s ks × (unit_of_first st ks ≡ unit_of st s)
first_of st [] h = absurd (omega arith)
first_of st (s ∷ ss) h = (s, inl refl, refl)

pub unit_name : (st : StyleKind) (p : Part) → has_name p ≡ true → UnitName st p
unit_name st p e =
    let some = some_name p.senders (not_true (is_none p.senders) e) in
    let same = length_each (λ (r : Sender × Unit {0}). r.0) p.senders.rows in
    let r = first_of st (keys p.senders) (omega arith) in
    record { name = r.0; there = in_named p r.0 r.1; unit = r.2 }

-- each name of a part has the part's unit
pub unit_of_names : (st : StyleKind) (p : Part) (s : Sender) → IsOfStyle st p → has p.senders s ≡ true → part_unit st p ≡ unit_of st s
unit_of_names st p s is e = let first = unit_name st p is.named in first.unit ∙ is.one_unit first.name s first.there e

-- parts of one style with a common name have one unit
pub common_unit : (st : StyleKind) (a b : Part) (s : Sender) → IsOfStyle st a → IsOfStyle st b → has a.senders s ≡ true → has b.senders s ≡ true → part_unit st a ≡ part_unit st b
common_unit st a b s is_a is_b in_a in_b = unit_of_names st a s is_a in_a ∙ sym (unit_of_names st b s is_b in_b)

-- ---- cuts and joins stay of the style
pub within_style : (st : StyleKind) (p x : Part) → IsOfStyle st p → has_name x ≡ true → IsWithin x.senders p.senders → IsOfStyle st x
within_style st p x is some less =
    record { named = some; listed = λ s e. is.listed s (less s e); one_unit = λ s t e f. is.one_unit s t (less s e) (less t f) }

pub within_unit : (st : StyleKind) (p x : Part) → IsOfStyle st p → has_name x ≡ true → IsWithin x.senders p.senders → part_unit st x ≡ part_unit st p
within_unit st p x is some less =
    let first = unit_name st x some in first.unit ∙ sym (unit_of_names st p first.name is (less first.name first.there))

cut_less : (p x : Part) (names : Names) → part_cut p names ≡ Some x → IsWithin x.senders p.senders
cut_less p x names e = subst (λ s. IsWithin s p.senders) (sym (cut_of p x names e).senders) (cut_within senders p.senders names)

pub cut_of_style : (st : StyleKind) (p x : Part) (names : Names) → IsOfStyle st p → part_cut p names ≡ Some x → IsOfStyle st x
cut_of_style st p x names is e = within_style st p x is (cut_named p x names e) (cut_less p x names e)

pub cut_keeps_unit : (st : StyleKind) (p x : Part) (names : Names) → IsOfStyle st p → part_cut p names ≡ Some x → part_unit st x ≡ part_unit st p
cut_keeps_unit st p x names is e = within_unit st p x is (cut_named p x names e) (cut_less p x names e)

-- names united, of parts of one unit
pub united_style : (st : StyleKind) (a b x : Part) → IsOfStyle st a → IsOfStyle st b → part_unit st a ≡ part_unit st b → x.senders ≡ union a.senders b.senders → IsOfStyle st x
united_style st a b x is_a is_b same e =
    record {
      named = ap not (ap is_none e ∙ some_within a.senders (union a.senders b.senders) (within_union_left senders a.senders b.senders) (not_true (is_none a.senders) is_a.named));
      listed = λ s i. ⊎_elim (λ h. is_a.listed s h) (λ h. is_b.listed s h) (either_of s i);
      one_unit = λ s t i j. sym (unit_in s i) ∙ unit_in t j;
    }
  where
    either_of : (s : Sender) → has x.senders s ≡ true → (has a.senders s ≡ true) ⊎ (has b.senders s ≡ true)
    either_of s i = or_either (has a.senders s) (has b.senders s) (sym (has-union senders a.senders b.senders s) ∙ (ap (λ m. has m s) (sym e) ∙ i))

    unit_in : (s : Sender) → has x.senders s ≡ true → part_unit st a ≡ unit_of st s
    unit_in s i = ⊎_elim (λ h. unit_of_names st a s is_a h) (λ h. same ∙ unit_of_names st b s is_b h) (either_of s i)

pub united_unit : (st : StyleKind) (a b x : Part) → IsOfStyle st a → IsOfStyle st b → part_unit st a ≡ part_unit st b → x.senders ≡ union a.senders b.senders → part_unit st x ≡ part_unit st a
united_unit st a b x is_a is_b same e =
    let first = unit_name st a is_a.named in
    let there : has x.senders first.name ≡ true = ap (λ m. has m first.name) e ∙ within_union_left senders a.senders b.senders first.name first.there in
    unit_of_names st x first.name (united_style st a b x is_a is_b same e) there ∙ sym first.unit

-- ---- what parts of each style look like
wild_name : (s : Sender) → name_of Wild s ≡ s → s.port ≡ 0
wild_name s e = sym (ap (λ (z : Sender). z.port) e)

wild_listed : (s : Sender) → s.port ≡ 0 → name_of Wild s ≡ s
wild_listed s e = λ i. record { addr = s.addr; port = sym e i }

pub wild_parts : (p : Part) → IsOfStyle Wild p ↔ ((has_name p ≡ true) × ((s : Sender) → has p.senders s ≡ true → s.port ≡ 0))
wild_parts p = (
  λ is. (is.named, λ s e. wild_name s (is.listed s e)),
  λ h. record { named = h.0; listed = λ s e. wild_listed s (h.1 s e); one_unit = λ s t e f. refl },
)

pub shared_parts : (p : Part) → IsOfStyle Shared p ↔ (has_name p ≡ true)
shared_parts p = (λ is. is.named, λ h. record { named = h; listed = λ s e. refl; one_unit = λ s t e f. refl })

of_same : (s t : Sender) → Of s ≡ Of t → s ≡ t
of_same s t e = cc

-- one row has one key
one_key : (es : List (Sender × Unit {0})) (s t : Sender) → length es ≡ 1 → is_some (find senders.cmp s es) ≡ true → is_some (find senders.cmp t es) ≡ true → s ≡ t
one_key [] s t n e f = absurd (omega arith)
one_key (x ∷ []) s t n e f = here s e ∙ sym (here t f)
  where
    here : (q : Sender) → is_some (find senders.cmp q (x ∷ [])) ≡ true → q ≡ x.0
    here q e =
        either (eq_by_cmp senders.cmp q x.0) (λ h. tied_same senders q x.0 h)
        (λ h. let none : false ≡ true = ap (λ b. is_some (cond {A = Option (Unit {0})} b (Some x.1) None)) (sym h) ∙ e in absurd (cc))
one_key (x ∷ (y ∷ es)) s t n e f = absurd (omega arith)

pub fixed_parts : (p : Part) → IsOfStyle Fixed p ↔ (size p.senders ≡ 1)
fixed_parts p = (λ is. alone is, λ one. record { named = ap not (name_some p.senders (omega arith)); listed = λ s e. refl; one_unit = λ s t e f. ap Of (one_key p.senders.rows s t one e f) })
  where
    alone : IsOfStyle Fixed p → size p.senders ≡ 1
    alone is =
        let first = unit_name Fixed p is.named in
        let some = some_name p.senders (not_true (is_none p.senders) is.named) in
        let within : IsWithin p.senders (set_of {o = senders} (first.name ∷ [])) = λ q e. in_set_of senders (first.name ∷ []) q (inl (of_same q first.name (is.one_unit q first.name e first.there))) in
        let less = size_within senders p.senders (set_of {o = senders} (first.name ∷ [])) within in
        let one : size (set_of {o = senders} (first.name ∷ [])) ≡ 1 = refl in
        omega arith
