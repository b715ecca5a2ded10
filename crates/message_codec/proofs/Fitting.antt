-- Objects that are written one after the other are read again, one after the other.
use Rattle.std.proofs.Common.{◌≡◌, ℕ, ◌+◌, ◌-◌, true, false, List, [], ◌∷◌, ◌++◌, length, take, drop, None, Result, Ok, refl, sym, ap, subst, ◌∙◌, append_assoc, length-append, arith}
use Rattle.std.specs.List.{AllByRecursion}
use Rattle.std.proofs.lemmas.List.{append-nil, drop_at, drop-drop}
use Rattle.rsvp_objects.specs.declared.object.Object.{Object}
use Rattle.rsvp_objects.specs.declared.object.Object.TheVariants as object
use Rattle.rsvp_objects.specs.declared.obj_err.ObjErr.{ObjErr}
use Rattle.rsvp_objects.specs.declared.head.Head.{Head}
use Rattle.rsvp_objects.specs.Classes.{class_with}
use Rattle.rsvp_objects.specs.Proper.{class_of, ctype_with, IsProper}
use Rattle.rsvp_objects.specs.Reading.{head_of, body_of, contents_at}
use Rattle.rsvp_objects.specs.Spelling.{spelling}
use Rattle.rsvp_objects.proofs.Again.{head_again, body_again}
use Rattle.rsvp_messages.specs.declared.message.Kind.{Kind}
use Rattle.rsvp_messages.specs.declared.message.Message.{Message}
use Rattle.message_codec.specs.declared.seen.Seen.{Seen}
use Rattle.message_codec.specs.Laws.{IsInPlace}
use Rattle.message_codec.specs.Messages.{message_of}
use Rattle.message_codec.specs.Places.{has_place, is_repeated, name_fault, is_unknown, by_head, object_in, Stand}
use Rattle.message_codec.specs.Said.{seen_of, with_object}
use Rattle.message_codec.specs.Spells.{Says}
use Rattle.message_codec.specs.Table.{is_unread}
use Rattle.message_codec.proofs.Gathered.{seen_more}
use Rattle.message_codec.proofs.Standing.{good}
use Rattle.message_codec.specs.Encoding.{spellings}
use Rattle.message_codec.specs.WritingLaws.{IsReadIn, WhatIsInPlaceStands}

-- an object may stand behind what was said, and is read there
pub record Fits (kind : Kind) (s : Seen) (x : Object) : Type 0 where
  pub place : has_place kind s (class_of x) ≡ true
  pub once : is_repeated kind s (class_of x) ≡ false
  pub read : is_unread kind (class_of x) ≡ false
  pub name : (at : ℕ) → name_fault at s x ≡ None

pub fits : (kind : Kind) (s : Seen) (x : Object) → has_place kind s (class_of x) ≡ true → is_repeated kind s (class_of x) ≡ false → is_unread kind (class_of x) ≡ false
    → ((at : ℕ) → name_fault at s x ≡ None) → Fits kind s x
fits kind s x p q r n = record { place = p; once = q; read = r; name = n }

known : (x : Object) → IsProper x → is_unknown (class_of x) ≡ false
unfolding class_with
known (object.Session s p) h = refl
known (object.HopOf s) h = refl
known (object.Time s) h = refl
known (object.Error s) h = refl
known (object.Scope s) h = refl
known (object.StyleOf s) h = refl
known (object.FlowOf s) h = refl
known (object.Filter s) h = refl
known (object.Template s) h = refl
known (object.Tspec s) h = refl
known (object.Advert s) h = refl
known (object.Confirm s) h = refl
known (object.Skipped n) h = rw h.skipped refl

abbrev head : Object → ℕ → Head
head x at = record { class = record { 0 = class_of x }; ctype = ctype_with x; end = at + length (spelling x) }

abbrev read : {A : Type 0} → A → Result A ObjErr
read x = Ok x

object_again : (kind : Kind) (s : Seen) (at : ℕ) (b : List ℕ) (x : Object) (after : List ℕ) → drop at b ≡ spelling x ++ after → IsProper x → Fits kind s x
    → object_in kind s at b ≡ Ok (x, at + length (spelling x))
unfolding object_in
object_again kind s at b x after e proper fit =
    let h : head_of at (drop at b) ≡ read (head x at) = ap (head_of at) e ∙ head_again x at after proper in
    let k : at + length (spelling x) - (at + 4) ≡ length (spelling x) - 4 = omega arith in
    let d : drop (at + 4) b ≡ drop 4 (spelling x ++ after) = sym (drop-drop 4 at b) ∙ ap (drop 4) e in
    let c : contents_at at (head x at) b ≡ take (length (spelling x) - 4) (drop 4 (spelling x ++ after)) = λ i. take (k i) (d i) in
    let body : body_of at (class_of x) (ctype_with x) (contents_at at (head x at) b) ≡ read x = ap (body_of at (class_of x) (ctype_with x)) c ∙ body_again x at after proper in
    ap (by_head kind s at b) h ∙ rw (known x proper, fit.place, fit.once, fit.read, body, fit.name at) refl

-- what was said, and then these objects
abbrev pub with_objects : Seen → List Object → Seen
with_objects s [] = s
with_objects s (x ∷ xs) = with_objects (with_object s x) xs

with_objects-is : (before xs : List Object) → seen_of (before ++ xs) ≡ with_objects (seen_of before) xs
with_objects-is before [] = ap seen_of (append-nil before)
with_objects-is before (x ∷ xs) = ap seen_of (sym (append_assoc before (x ∷ []) xs)) ∙ with_objects-is (before ++ x ∷ []) xs ∙ ap (λ (s : Seen). with_objects s xs) (seen_more before x)

-- objects that may stand one after the other
abbrev pub Fit : Kind → Seen → List Object → Type 0
Fit kind s [] = Unit {0}
Fit kind s (x ∷ xs) = Fits kind s x × Fit kind (with_object s x) xs

stand_again : (kind : Kind) (b : List ℕ) (before : List Object) (s : Seen) (at : ℕ) (xs : List Object) (end : ℕ) → drop at b ≡ spellings xs → seen_of before ≡ s → AllByRecursion IsProper xs
    → Fit kind s xs → end ≡ at + length (spellings xs)
    → Stand kind b before at xs end
stand_again kind b before s at [] end e is proper fit n = omega arith
stand_again kind b before s at (x ∷ xs) end e is proper fit n =
    let next = at + length (spelling x) in
    let here : object_in kind s at b ≡ Ok (x, next) = object_again kind s at b x (spellings xs) e proper.0 fit.0 in
    let rest : drop next b ≡ spellings xs = sym (drop-drop (length (spelling x)) at b) ∙ ap (drop (length (spelling x))) e ∙ drop_at (spelling x) (spellings xs) (length (spelling x)) refl in (
      next,
      subst (λ (t : Seen). object_in kind t at b ≡ Ok (x, next)) (sym is) here,
      stand_again kind b (before ++ x ∷ []) (with_object s x) next xs end rest (seen_more before x ∙ ap (λ (t : Seen). with_object t x) is) proper.1 fit.1
          (omega (arith, n, length-append (spelling x) (spellings xs))),
    )

abbrev pub start : Seen
start = seen_of []

pub says : (kind : Kind) (b front : List ℕ) (xs : List Object) (v : Message) → b ≡ front ++ spellings xs → length front ≡ 8 → AllByRecursion IsProper xs → Fit kind start xs
    → message_of kind (with_objects start xs) ≡ good v → Says kind b v
says kind b front xs v e n proper fit m =
    let d : drop 8 b ≡ spellings xs = ap (drop 8) e ∙ drop_at front (spellings xs) 8 n in
    let len : length b ≡ 8 + length (spellings xs) = ap length e ∙ length-append front (spellings xs) ∙ ap (λ (k : ℕ). k + length (spellings xs)) n in
    (xs, stand_again kind b [] start 8 xs (length b) d refl proper fit len, ap (message_of kind) (with_objects-is [] xs) ∙ m)

-- ---- and where objects are each in their place, they fit

fit_in_place : (kind : Kind) (before : List Object) (s : Seen) (xs : List Object) → seen_of before ≡ s → AllByRecursion (IsReadIn kind) xs
    → ((some after : List Object) (x : Object) → xs ≡ some ++ x ∷ after → IsInPlace kind (before ++ some) x) → Fit kind s xs
fit_in_place kind before s [] is read place = tt
fit_in_place kind before s (x ∷ xs) is read place =
    let p : IsInPlace kind before x = subst (λ (ys : List Object). IsInPlace kind ys x) (append-nil before) (place [] xs x refl) in
    let next : seen_of (before ++ x ∷ []) ≡ with_object s x = seen_more before x ∙ ap (λ (t : Seen). with_object t x) is in
    let here : Fits kind (seen_of before) x = record { place = p.place; once = p.once; read = read.0; name = p.name } in (
      subst (λ (t : Seen). Fits kind t x) is here,
      fit_in_place kind (before ++ x ∷ []) (with_object s x) xs next read.1 (λ some after y e. subst (λ (ys : List Object). IsInPlace kind ys y) (sym (append_assoc before (x ∷ []) some))
          (place (x ∷ some) after y (ap (λ (zs : List Object). x ∷ zs) e))),
    )

pub what_is_in_place_stands : WhatIsInPlaceStands
what_is_in_place_stands kind front xs n proper read place =
    let b = front ++ spellings xs in
    stand_again kind b [] start 8 xs (length b) (drop_at front (spellings xs) 8 n) refl proper (fit_in_place kind [] start xs refl read place) (omega (arith, n, length-append front (spellings xs)))
