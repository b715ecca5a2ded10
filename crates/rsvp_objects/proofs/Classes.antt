-- An object has the class under which it was read.
use Rattle.std.proofs.Common.{◌≡◌, ℕ, Bool, true, false, List, Option, Some, None, Result, Ok, refl, sym, ap, ◌∙◌, inl, inr}
use Rattle.std.specs.Prelude.{not, nat_lt, ◌&&◌, ◌==◌, if◌then◌else◌}
use Rattle.std.proofs.lemmas.Bool.{eqb-true}
use Rattle.rsvp_base.specs.Table.{size}
use Rattle.rsvp_objects.specs.declared.adspec.Adspec.{Adspec}
use Rattle.rsvp_objects.proofs.Choices.{chosen}
use Rattle.rsvp_objects.specs.declared.read_class.ReadClass.{ReadClass}
use Rattle.rsvp_objects.specs.declared.read_class.ReadClass.TheVariants as class
use Rattle.rsvp_objects.specs.declared.object.Object.{Object}
use Rattle.rsvp_objects.specs.declared.obj_err.ObjErr.{ObjErr}
use Rattle.rsvp_objects.specs.Classes.{adspec, is_skipped, class_number, class_with, ctype_of, size_of, has_size}
use Rattle.rsvp_objects.specs.Contents.{scope_in}
use Rattle.rsvp_objects.specs.Reading.{or_fault, is_other_service, contents_of, by_class, advert_in, passed_over, body_of}
use Rattle.rsvp_objects.specs.Proper.{class_of, ObjectsHaveTheirClass}

abbrev pub read : Object → Result Object ObjErr
read x = Ok x

pub is_read : {x y : Object} → read x ≡ read y → x ≡ y
is_read e = cc

or_fault_class : {A : Type 0} (n : ℕ) (f : ObjErr) (says : A → Object) (found : Option A) (x : Object) → ((a : A) → class_of (says a) ≡ n) → or_fault f says found ≡ read x → class_of x ≡ n
or_fault_class n f says (Some a) x is e = ap class_of (sym (is_read e)) ∙ is a
or_fault_class n f says None x is e = absurd cc

contents_class : (at : ℕ) (c : ReadClass) (body : List ℕ) (x : Object) → contents_of at c body ≡ read x → class_of x ≡ class_number c
unfolding contents_of
contents_class at class.Session body x e = ap class_of (sym (is_read e))
contents_class at class.RsvpHop body x e = ap class_of (sym (is_read e))
contents_class at class.TimeValues body x e = ap class_of (sym (is_read e))
contents_class at class.ErrorSpec body x e = ap class_of (sym (is_read e))
contents_class at class.Scope body x e =
    elim (chosen (nat_lt 16 (size (scope_in body))) _ _ _ e) [ inl q ↦ absurd (let z = q.1 in cc) | inr q ↦ ap class_of (sym (is_read q.1)) ]
contents_class at class.Style body x e = or_fault_class 8 _ _ _ x (λ a. refl) e
contents_class at class.FlowSpec body x e =
    elim (chosen (is_other_service body) _ _ _ e) [ inl q ↦ absurd (let z = q.1 in cc) | inr q ↦ or_fault_class 9 _ _ _ x (λ a. refl) q.1 ]
contents_class at class.FilterSpec body x e = ap class_of (sym (is_read e))
contents_class at class.SenderTemplate body x e = ap class_of (sym (is_read e))
contents_class at class.SenderTspec body x e = or_fault_class 12 _ _ _ x (λ a. refl) e
contents_class at class.ResvConfirm body x e = ap class_of (sym (is_read e))

some : {c d : ReadClass} → ◌≡◌ {A = Option ReadClass} (Some c) (Some d) → c ≡ d
some e = cc

-- the number of the class with a number: one step for each test
step : (n : ℕ) (c d : ReadClass) (rest : Option ReadClass) → (if n == class_number c then Some c else rest) ≡ Some d → (rest ≡ Some d → class_number d ≡ n) → class_number d ≡ n
step n c d rest e more = elim (chosen (n == class_number c) _ _ _ e) [ inl p ↦ ap class_number (sym (some p.1)) ∙ sym (eqb-true n (class_number c) p.0) | inr q ↦ more q.1 ]

number_of : (n : ℕ) (d : ReadClass) → class_with n ≡ Some d → class_number d ≡ n
unfolding class_with
number_of n d e =
    step n class.Session d _ e (λ e.
    step n class.RsvpHop d _ e (λ e.
    step n class.TimeValues d _ e (λ e.
    step n class.ErrorSpec d _ e (λ e.
    step n class.Scope d _ e (λ e.
    step n class.Style d _ e (λ e.
    step n class.FlowSpec d _ e (λ e.
    step n class.FilterSpec d _ e (λ e.
    step n class.SenderTemplate d _ e (λ e.
    step n class.SenderTspec d _ e (λ e.
    step n class.ResvConfirm d _ e (λ e.
    absurd cc)))))))))))

by_class_class : (at n ctype : ℕ) (body : List ℕ) (x : Object) (c : Option ReadClass) → class_with n ≡ c → by_class at n ctype body c ≡ read x → class_of x ≡ n
by_class_class at n ctype body x None is e = absurd cc
by_class_class at n ctype body x (Some c) is e =
    elim (chosen (not (ctype == ctype_of c)) _ _ _ e) [
      | inl p ↦ absurd (let q = p.1 in cc)
      | inr p ↦ elim (chosen (not (has_size (size_of c) body)) _ _ _ p.1) [ inl q ↦ absurd (let z = q.1 in cc) | inr q ↦ contents_class at c body x q.1 ∙ number_of n c is ]
    ]

adspec_class : (n ctype : ℕ) (body : List ℕ) (a : Adspec) → ◌≡◌ {A = Option Adspec} (advert_in n ctype body) (Some a) → adspec ≡ n
unfolding advert_in
adspec_class n ctype body a e = elim (chosen (n == adspec && ctype == 2) _ _ _ e) [ inl p ↦ sym (eqb-true n adspec (first (n == adspec) (ctype == 2) p.0)) | inr p ↦ absurd (let z = p.1 in cc) ]
  where
    first : (b c : Bool) → (b && c) ≡ true → b ≡ true
    first true c e = refl
    first false c e = absurd cc

over_class : (n : ℕ) (o : Option Adspec) → ((a : Adspec) → o ≡ Some a → adspec ≡ n) → class_of (passed_over n o) ≡ n
over_class n (Some a) is = is a refl
over_class n None is = refl

pub objects_have_their_class : ObjectsHaveTheirClass
unfolding body_of
objects_have_their_class at n ctype body x e =
    elim (chosen (is_skipped n) _ _ _ e) [
      | inl p ↦ ap class_of (sym (is_read p.1)) ∙ over_class n (advert_in n ctype body) (adspec_class n ctype body)
      | inr p ↦ by_class_class at n ctype body x (class_with n) refl p.1
    ]
