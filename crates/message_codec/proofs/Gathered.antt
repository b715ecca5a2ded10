-- What a list of objects says with one object more.
use Rattle.std.proofs.Common.{◌≡◌, Bool, true, false, List, [], ◌∷◌, ◌++◌, Option, Some, None, refl, sym, ap, ◌∙◌, append_assoc}
use Rattle.std.specs.Prelude.{◌||◌}
use Rattle.std.specs.List.{list_any}
use Rattle.std.proofs.lemmas.List.{append-nil}
use Rattle.rsvp_base.specs.TokenBucket.{TokenBucket}
use Rattle.rsvp_objects.specs.declared.object.Object.{Object}
use Rattle.message_codec.specs.Said.{session_said, hop_said, period_said, error_said, scope_said, style_said, template_said, tspec_said, advert_said, confirm_said, flow_said}
use Rattle.message_codec.specs.Said.{ends_with_flow, or_else, last_said, is_on, filter_with, filters_after, is_object, is_adspec, seen_of, with_object}

pub or_assoc : {A : Type 0} (a b c : Option A) → or_else (or_else a b) c ≡ or_else a (or_else b c)
or_assoc (Some x) b c = refl
or_assoc None b c = refl

pub or_none : {A : Type 0} (a : Option A) → or_else a None ≡ a
or_none (Some x) = refl
or_none None = refl

pub last_more : {A : Type 0} (f : Object → Option A) (xs : List Object) (x : Object) → last_said f (xs ++ x ∷ []) ≡ or_else (f x) (last_said f xs)
unfolding last_said
last_more f [] x = sym (or_none (f x))
last_more f (y ∷ ys) x = ap (λ t. or_else t (f y)) (last_more f ys x) ∙ or_assoc (f x) (last_said f ys) (f y)

any_assoc : (a b c : Bool) → (a || (b || c)) ≡ ((a || b) || c)
any_assoc true b c = refl
any_assoc false b c = refl

any_false : (a : Bool) → (a || false) ≡ a
any_false true = refl
any_false false = refl

any_more : (p : Object → Bool) (xs : List Object) (x : Object) → list_any p (xs ++ x ∷ []) ≡ (list_any p xs || p x)
any_more p [] x = any_false (p x)
any_more p (y ∷ ys) x = ap (λ t. p y || t) (any_more p ys x) ∙ any_assoc (p y) (list_any p ys) (p x)

on_more : (a b : Option Bool) → is_on (or_else a b) ≡ is_on (or_else a (Some (is_on b)))
on_more (Some x) b = refl
on_more None b = refl

filters_more : (f : Option TokenBucket) (xs : List Object) (x : Object) → filters_after f (xs ++ x ∷ []) ≡ filters_after f xs ++ filter_with (or_else (last_said flow_said xs) f) x
unfolding filters_after last_said
filters_more f [] x = append-nil (filter_with f x)
filters_more f (y ∷ ys) x =
    let g = or_else (flow_said y) f in
    let more = filters_more g ys x ∙ ap (λ o. filters_after g ys ++ filter_with o x) (sym (or_assoc (last_said flow_said ys) (flow_said y) f)) in
    ap (λ t. filter_with f y ++ t) more ∙ sym (append_assoc (filter_with f y) (filters_after g ys) (filter_with (or_else (or_else (last_said flow_said ys) (flow_said y)) f) x))

pub seen_more : (xs : List Object) (x : Object) → seen_of (xs ++ x ∷ []) ≡ with_object (seen_of xs) x
unfolding with_object
seen_more xs x =
    λ i. record {
      begun = any_more is_object xs x i;
      session = last_more session_said xs x i;
      hop = last_more hop_said xs x i;
      period = last_more period_said xs x i;
      error = last_more error_said xs x i;
      scope = last_more scope_said xs x i;
      style = last_more style_said xs x i;
      template = last_more template_said xs x i;
      tspec = last_more tspec_said xs x i;
      adspec = any_more is_adspec xs x i;
      advert = last_more advert_said xs x i;
      confirm = last_more confirm_said xs x i;
      flow = last_more flow_said xs x i;
      due = (ap is_on (last_more ends_with_flow xs x) ∙ on_more (ends_with_flow x) (last_said ends_with_flow xs)) i;
      filters = (filters_more None xs x ∙ ap (λ o. filters_after None xs ++ filter_with o x) (or_none (last_said flow_said xs))) i;
    }
