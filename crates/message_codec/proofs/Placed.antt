-- What is known of an object that stands at a place.
use Rattle.std.proofs.Common.{◌≡◌, ℕ, Bool, true, false, List, drop, Option, Some, None, Result, Ok, Err, refl, sym, ap, subst, ◌∙◌, inl, inr}
use Rattle.std.specs.Prelude.{not}
use Rattle.rsvp_objects.specs.declared.object.Object.{Object}
use Rattle.rsvp_objects.specs.declared.object.Object.TheVariants as object
use Rattle.rsvp_objects.specs.declared.obj_err.ObjErr.{ObjErr}
use Rattle.rsvp_objects.specs.declared.head.Head.{Head}
use Rattle.rsvp_objects.specs.Fields.{AreBytes}
use Rattle.rsvp_objects.specs.Proper.{class_of, IsProper}
use Rattle.rsvp_objects.specs.Reading as reading
use Rattle.rsvp_objects.specs.Reading.{head_of, body_of, contents_at}
use Rattle.rsvp_objects.proofs.Again.{by_its_head}
use Rattle.rsvp_objects.proofs.ReadProper.{what_is_read_is_proper}
use Rattle.rsvp_objects.proofs.Choices.{chosen}
use Rattle.rsvp_objects.proofs.Classes.{objects_have_their_class}
use Rattle.rsvp_messages.specs.declared.fault.Fault.{Fault}
use Rattle.rsvp_messages.specs.declared.message.Kind.{Kind}
use Rattle.message_codec.specs.declared.seen.Seen.{Seen}
use Rattle.message_codec.specs.Places.{has_place, is_repeated, name_fault, read_in, with_name, by_body, is_unknown, by_head, object_in}
use Rattle.message_codec.specs.Table.{is_unread}
use Rattle.message_codec.proofs.Standing.{good_is}

-- it has a head and contents, its place, did not stand where it stands once, and its name is new
pub record IsPlaced (kind : Kind) (s : Seen) (at : ℕ) (b : List ℕ) (x : Object) : Type 0 where
  pub head : Head
  pub is_head : ◌≡◌ {A = Result Head ObjErr} (head_of at (drop at b)) (Ok head)
  pub is_read : ◌≡◌ {A = Result Object ObjErr} (read_in kind at head.class.0 head.ctype (contents_at at head b)) (Ok x)
  pub place : has_place kind s head.class.0 ≡ true
  pub once : is_repeated kind s head.class.0 ≡ false
  pub name : name_fault at s x ≡ None

abbrev pub found : Object → ℕ → Result (Object × ℕ) Fault
found x n = Ok (x, n)

pub not_false : (b : Bool) → not b ≡ false → b ≡ true
not_false true e = refl
not_false false e = cc

-- so are its end and the fault of its name
named_is : (end next : ℕ) (x y : Object) (f : Option Fault) → with_name end y f ≡ found x next → (y ≡ x) × (f ≡ None) × (end ≡ next)
named_is end next x y None e =
    let pairs : ◌≡◌ {A = Object × ℕ} (y, end) (x, next) = good_is e in
    (ap (λ (p : Object × ℕ). p.0) pairs, refl, ap (λ (p : Object × ℕ). p.1) pairs)
named_is end next x y (Some g) e = absurd cc

body_is : (at : ℕ) (s : Seen) (end next : ℕ) (x : Object) (r : Result Object ObjErr)
    → by_body at s end r ≡ found x next → (r ≡ Ok x) × (name_fault at s x ≡ None) × (end ≡ next)
body_is at s end next x (Ok y) e =
    let n = named_is end next x y (name_fault at s y) e in
    (ap (λ (z : Object). Ok z) n.0, subst (λ (z : Object). name_fault at s z ≡ None) n.0 n.1, n.2)
body_is at s end next x (Err g) e = absurd cc

-- in its place, and with the next object behind it
abbrev IsPlacedBefore : Kind → Seen → ℕ → List ℕ → Object → ℕ → Type 0
IsPlacedBefore kind s at b x next = (p : IsPlaced kind s at b x) × (p.head.end ≡ next)

head_is : (kind : Kind) (s : Seen) (at : ℕ) (b : List ℕ) (x : Object) (next : ℕ) (r : Result Head ObjErr)
    → head_of at (drop at b) ≡ r → by_head kind s at b r ≡ found x next → IsPlacedBefore kind s at b x next
head_is kind s at b x next (Err g) is e = absurd cc
head_is kind s at b x next (Ok h) is e =
    elim (chosen (is_unknown h.class.0) _ _ _ e) [
      | inl p ↦ absurd (let z = p.1 in cc)
      | inr p ↦ elim (chosen (not (has_place kind s h.class.0)) _ _ _ p.1) [
        | inl q ↦ absurd (let z = q.1 in cc)
        | inr q ↦ elim (chosen (is_repeated kind s h.class.0) _ _ _ q.1) [
          | inl r ↦ absurd (let z = r.1 in cc)
          | inr r ↦
              let body = body_is at s h.end next x (read_in kind at h.class.0 h.ctype (contents_at at h b)) r.1 in
              let place = not_false (has_place kind s h.class.0) q.0 in
              (record { head = h; is_head = is; is_read = body.0; place = place; once = r.0; name = body.1 }, body.2)
        ]
      ]
    ]

placed_before : (kind : Kind) (s : Seen) (at : ℕ) (b : List ℕ) (x : Object) (next : ℕ)
    → object_in kind s at b ≡ Ok (x, next) → IsPlacedBefore kind s at b x next
unfolding object_in
placed_before kind s at b x next e = head_is kind s at b x next (head_of at (drop at b)) refl e

pub placed : (kind : Kind) (s : Seen) (at : ℕ) (b : List ℕ) (x : Object) (next : ℕ) → object_in kind s at b ≡ Ok (x, next) → IsPlaced kind s at b x
placed kind s at b x next e = (placed_before kind s at b x next e).0

-- an object with a head, contents that say it, and an end
abbrev IsReadAt : Kind → ℕ → List ℕ → Object → ℕ → Type 0
IsReadAt kind at b x next =
    (h : Head)
    × (◌≡◌ {A = Result Head ObjErr} (head_of at (drop at b)) (Ok h))
    × (◌≡◌ {A = Result Object ObjErr} (read_in kind at h.class.0 h.ctype (contents_at at h b)) (Ok x))
    × (h.end ≡ next)

pub read_where_placed : (kind : Kind) (s : Seen) (at : ℕ) (b : List ℕ) (x : Object) (next : ℕ)
    → object_in kind s at b ≡ Ok (x, next) → IsReadAt kind at b x next
read_where_placed kind s at b x next e =
    let p = placed_before kind s at b x next e in
    (p.0.head, p.0.is_head, p.0.is_read, p.1)

read_is : {x y : Object} → ◌≡◌ {A = Result Object ObjErr} (Ok x) (Ok y) → x ≡ y
read_is e = cc

-- an object has the class of its head
pub class_is : (kind : Kind) (s : Seen) (at : ℕ) (b : List ℕ) (x : Object) (p : IsPlaced kind s at b x) → class_of x ≡ p.head.class.0
class_is kind s at b x p =
    elim (chosen (is_unread kind p.head.class.0) _ _ _ p.is_read) [
      | inl q ↦ ap class_of (sym (read_is q.1))
      | inr q ↦ objects_have_their_class at p.head.class.0 p.head.ctype (contents_at at p.head b) x q.1
    ]

-- an object that is read is proper
pub read_proper : (kind : Kind) (s : Seen) (at : ℕ) (b : List ℕ) (x : Object)
    → AreBytes b → (p : IsPlaced kind s at b x) → is_unread kind p.head.class.0 ≡ false → IsProper x
read_proper kind s at b x bytes p read =
    elim (chosen (is_unread kind p.head.class.0) _ _ _ p.is_read) [
      | inl q ↦ absurd (let z = sym q.0 ∙ read in cc)
      | inr q ↦
          let body = ap (reading.with_end p.head.end) q.1 in
          let whole : reading.object_at at b ≡ Ok (x, p.head.end) = by_its_head at b ∙ ap (reading.by_head at b) p.is_head ∙ body in
          what_is_read_is_proper b at p.head.end x bytes whole
    ]

-- what holds of what is skipped, and of each proper object, holds of an object that stands somewhere
pub placed_has : (P : Object → Type 0) → ((n : ℕ) → P (object.Skipped n)) → ((x : Object) → IsProper x → P x)
    → (kind : Kind) (s : Seen) (at : ℕ) (b : List ℕ) (x : Object) → AreBytes b → IsPlaced kind s at b x → P x
placed_has P skipped proper kind s at b x bytes p = by_kind (is_unread kind p.head.class.0) refl
  where
    by_kind : (t : Bool) → is_unread kind p.head.class.0 ≡ t → P x
    by_kind false read = proper x (read_proper kind s at b x bytes p read)
    by_kind true unread =
        elim (chosen (is_unread kind p.head.class.0) _ _ _ p.is_read) [
          | inl q ↦ subst P (read_is q.1) (skipped p.head.class.0)
          | inr q ↦ absurd (let z = sym unread ∙ q.0 in cc)
        ]
