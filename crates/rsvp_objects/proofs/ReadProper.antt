-- What is read is proper.
use Rattle.std.proofs.Common.{◌≡◌, ℕ, ◌+◌, ◌^◌, ◌<◌, Bool, true, false, List, [], ◌∷◌, length, drop, Option, Some, None, Result, Ok, Err, refl, sym, ap, subst, ◌∙◌, arith, inl, inr}
use Rattle.std.specs.Prelude.{not, nat_lt, ◌==◌, ◌&&◌, ◌||◌, map as each}
use Rattle.std.specs.List.{AllByRecursion}
use Rattle.std.specs.declared.cmp.Ordering.TheVariants.{Less, Equal, Greater}
use Rattle.std.specs.FinMap.Entries.{put, by_order}
use Rattle.std.proofs.lemmas.Bool.{eqb-false, ltb-false}
use Rattle.rsvp_base.specs.Orders.{Names, senders}
use Rattle.rsvp_base.specs.Rates.{IsRate}
use Rattle.rsvp_base.specs.Sets.{with_key, with_keys}
use Rattle.rsvp_base.specs.Table.{empty, keys, size}
use Rattle.rsvp_base.specs.TokenBucket.{TokenBucket}
use Rattle.rsvp_base.specs.declared.flow.Peak.{Peak}
use Rattle.rsvp_base.specs.declared.flow.Peak.TheVariants.{Finite, Infinite}
use Rattle.rsvp_base.specs.declared.session.Sender.{Sender}
use Rattle.rsvp_objects.specs.declared.adspec.Adspec.{Adspec}
use Rattle.rsvp_objects.specs.AdspecLaws.{IsAdspec}
use Rattle.rsvp_objects.proofs.AdspecReadProper.{what_is_read_can_be_written}
use Rattle.rsvp_objects.specs.declared.read_class.ReadClass.{ReadClass}
use Rattle.rsvp_objects.specs.declared.read_class.ReadClass.TheVariants as class
use Rattle.rsvp_objects.specs.declared.head.Head.{Head}
use Rattle.rsvp_objects.specs.declared.object.Object.{Object}
use Rattle.rsvp_objects.specs.declared.object.Object.TheVariants as object
use Rattle.rsvp_objects.specs.declared.obj_err.ObjErr.{ObjErr}
use Rattle.rsvp_objects.specs.Classes.{adspec, is_skipped, class_with, ctype_of, size_of, has_size}
use Rattle.rsvp_objects.specs.Contents.{sources_in, scope_in}
use Rattle.rsvp_objects.specs.Fields.{AreBytes, byte_at, half_at, word_at}
use Rattle.rsvp_objects.specs.RateFields.{peak_at}
use Rattle.rsvp_objects.proofs.Choices.{chosen}
use Rattle.rsvp_objects.proofs.ReadRates.{some_said, peak_proper, gave}
use Rattle.rsvp_objects.proofs.Small.{bytes_behind, bytes_before, byte_small, half_small, word_small}
use Rattle.rsvp_objects.specs.FlowWords.{flow_in, bucket_in, rate_at, finite, sound_bucket, has_heads}
use Rattle.rsvp_objects.specs.Proper.{IsSource, IsFlow, IsSkipped, IsProper, WhatIsReadIsProper}
use Rattle.rsvp_objects.specs.RateLaws.{IsPeak}
use Rattle.rsvp_objects.specs.Reading.{is_length, head_of, contents_of, or_fault, is_other_service, by_class, advert_in, passed_over, body_of, by_head, with_end, contents_at}
use Rattle.rsvp_objects.proofs.Again.{by_its_head}
use Rattle.rsvp_objects.proofs.Classes.{read, is_read}

-- ---- scopes

sources_proper : (xs : List ℕ) → AreBytes xs → AllByRecursion IsSource (sources_in xs)
sources_proper [] h = tt
sources_proper (a ∷ []) h = tt
sources_proper (a ∷ b ∷ []) h = tt
sources_proper (a ∷ b ∷ c ∷ []) h = tt
sources_proper (a ∷ b ∷ c ∷ d ∷ rest) h = (record { addr = word_small 0 (a ∷ b ∷ c ∷ d ∷ []) (h.0, (h.1.0, (h.1.1.0, (h.1.1.1.0, tt)))); port = refl }, sources_proper rest h.1.1.1.1)

abbrev Rows : Type 0
Rows = List (Sender × Unit {0})

abbrev AreSources : Rows → Type 0
AreSources es = AllByRecursion IsSource (each (λ e. e.0) es)

put_proper : (s : Sender) (es : Rows) → IsSource s → AreSources es → AreSources (put senders.cmp s tt es)
put_proper s [] p h = (p, tt)
put_proper s (e ∷ es) p h =
    elim (senders.cmp s e.0) as (λ o. AreSources (by_order o ((s, tt) ∷ e ∷ es) ((e.0, tt) ∷ es) (e ∷ put senders.cmp s tt es))) [
      | Less ↦ (p, h)
      | Equal ↦ h
      | Greater ↦ (h.0, put_proper s es p h.1)
    ]

names_proper : (xs : List Sender) (names : Names) → AllByRecursion IsSource xs → AllByRecursion IsSource (keys names) → AllByRecursion IsSource (keys (with_keys names xs))
names_proper [] names h k = k
names_proper (x ∷ xs) names h k = names_proper xs (with_key names x) h.1 (put_proper x names.rows h.0 k)

-- ---- flows

neither : (a b : Bool) → (a || b) ≡ false → (a ≡ false) × (b ≡ false)
neither true b e = absurd cc
neither false b e = (refl, e)

finite_proper : (p : Peak) (n : ℕ) → IsPeak p → finite p ≡ Some n → IsRate n
finite_proper (Finite m) n h e = subst IsRate (some_said e) h
finite_proper Infinite n h e = absurd cc

rate_at_proper : (place : ℕ) (body : List ℕ) (n : ℕ) → rate_at place body ≡ Some n → IsRate n
rate_at_proper place body n e =
    let g = gave finite (peak_at place body) n e in
    finite_proper g.value n (peak_proper place body g.value g.was) g.rest

sound_proper : (r b : ℕ) (p : Peak) (low most : ℕ) (f : TokenBucket) → IsRate r → IsRate b → IsPeak p → low < 2 ^ 32 → most < 2 ^ 32 → sound_bucket r b p low most ≡ Some f → IsFlow f
sound_proper r b p low most f hr hb hp hl hm e =
    elim (chosen (r == 0 || b == 0 || low == 0 || most == 0) _ _ _ e) [
      | inl q ↦ absurd (let z = q.1 in cc)
      | inr q ↦
          let one = neither _ _ q.0 in
          let two = neither _ _ one.0 in
          let three = neither _ _ two.0 in
          let nr : r ≡ 0 → ⊥ = eqb-false r 0 three.0 in
          let nb : b ≡ 0 → ⊥ = eqb-false b 0 three.1 in
          let nl : low ≡ 0 → ⊥ = eqb-false low 0 two.1 in
          let nm : most ≡ 0 → ⊥ = eqb-false most 0 one.1 in
          subst IsFlow (some_said q.1) (record {
            sound = record {
              rate = omega (arith, nr);
              depth = omega (arith, nb);
              low = omega (arith, nl);
              most = omega
                  (arith, nm);
            };
            r = hr;
            b = hb;
            p = hp;
            low = hl;
            most = hm;
          })
    ]

bucket_proper : (body : List ℕ) (f : TokenBucket) → AreBytes body → bucket_in body ≡ Some f → IsFlow f
unfolding bucket_in
bucket_proper body f h e =
    let r = gave _ (rate_at 12 body) f e in
    let b = gave _ (rate_at 16 body) f r.rest in
    let p = gave _ (peak_at 20 body) f b.rest in
    sound_proper r.value b.value p.value (word_at 24 body) (word_at 28 body) f (rate_at_proper 12 body r.value r.was) (rate_at_proper 16 body b.value b.was) (peak_proper 20 body p.value p.was)
    (word_small 24 body h) (word_small 28 body h) p.rest

flow_proper : (service : ℕ) (body : List ℕ) (f : TokenBucket) → AreBytes body → flow_in service body ≡ Some f → IsFlow f
unfolding flow_in
flow_proper service body f h e = elim (chosen (length body == 32 && has_heads service body) _ _ _ e) [ inl q ↦ bucket_proper body f h q.1 | inr q ↦ absurd (let z = q.1 in cc) ]

-- ---- contents

or_proper : {A : Type 0} (f : ObjErr) (says : A → Object) (found o : Option A) (x : Object) → found ≡ o → ((a : A) → found ≡ Some a → IsProper (says a)) → or_fault f says o ≡ read x → IsProper x
or_proper f says found (Some a) x is proper e = subst IsProper (is_read e) (proper a is)
or_proper f says found None x is proper e = absurd cc

contents_proper : (at : ℕ) (c : ReadClass) (body : List ℕ) (x : Object) → AreBytes body → contents_of at c body ≡ read x → IsProper x
unfolding contents_of
contents_proper at class.Session body x h e = subst IsProper (is_read e) (record { group = word_small 0 body h; proto = byte_small 4 body h; port = half_small 6 body h })
contents_proper at class.RsvpHop body x h e = subst IsProper (is_read e) (record { addr = word_small 0 body h; handle = word_small 4 body h })
contents_proper at class.TimeValues body x h e = subst IsProper (is_read e) (word_small 0 body h)
contents_proper at class.ErrorSpec body x h e = subst IsProper (is_read e) (record { node = word_small 0 body h; code = byte_small 5 body h; value = half_small 6 body h })
contents_proper at class.Scope body x h e =
    elim (chosen (nat_lt 16 (size (scope_in body))) _ _ _ e) [
      | inl q ↦ absurd (let z = q.1 in cc)
      | inr q ↦ subst IsProper (is_read q.1) (record { few = ltb-false 16 (size (scope_in body)) q.0; sources = names_proper (sources_in body) empty (sources_proper body h) tt })
    ]
contents_proper at class.Style body x h e = or_proper _ object.StyleOf _ _ x refl (λ a is. tt) e
contents_proper at class.FlowSpec body x h e =
    elim (chosen (is_other_service body) _ _ _ e) [
      | inl q ↦ absurd (let z = q.1 in cc)
      | inr q ↦ or_proper _ object.FlowOf (flow_in 5 body) _ x refl (λ a is. flow_proper 5 body a h is) q.1
    ]
contents_proper at class.FilterSpec body x h e = subst IsProper (is_read e) (record { addr = word_small 0 body h; port = half_small 6 body h })
contents_proper at class.SenderTemplate body x h e = subst IsProper (is_read e) (record { addr = word_small 0 body h; port = half_small 6 body h })
contents_proper at class.SenderTspec body x h e = or_proper _ object.Tspec (flow_in 1 body) _ x refl (λ a is. flow_proper 1 body a h is) e
contents_proper at class.ResvConfirm body x h e = subst IsProper (is_read e) (word_small 0 body h)

-- ---- the whole

class_proper : (at n ctype : ℕ) (body : List ℕ) (x : Object) (c : Option ReadClass) → AreBytes body → by_class at n ctype body c ≡ read x → IsProper x
class_proper at n ctype body x None h e = absurd cc
class_proper at n ctype body x (Some c) h e =
    elim (chosen (not (ctype == ctype_of c)) _ _ _ e) [
      | inl p ↦ absurd (let z = p.1 in cc)
      | inr p ↦ elim (chosen (not (has_size (size_of c) body)) _ _ _ p.1) [ inl q ↦ absurd (let z = q.1 in cc) | inr q ↦ contents_proper at c body x h q.1 ]
    ]

adspec_proper : (n ctype : ℕ) (body : List ℕ) (a : Adspec) → AreBytes body → advert_in n ctype body ≡ Some a → IsAdspec a
unfolding advert_in
adspec_proper n ctype body a h e = elim (chosen (n == adspec && ctype == 2) _ _ _ e) [ inl p ↦ what_is_read_can_be_written body a h p.1 | inr p ↦ absurd (let z = p.1 in cc) ]

over_proper : (n : ℕ) (o : Option Adspec) → IsSkipped n → ((a : Adspec) → o ≡ Some a → IsAdspec a) → IsProper (passed_over n o)
over_proper n (Some a) skipped is = is a refl
over_proper n None skipped is = skipped

body_proper : (at n ctype : ℕ) (body : List ℕ) (x : Object) → n < 2 ^ 8 → AreBytes body → body_of at n ctype body ≡ read x → IsProper x
unfolding body_of
body_proper at n ctype body x small h e =
    elim (chosen (is_skipped n) _ _ _ e) [
      | inl p ↦ subst IsProper (is_read p.1) (over_proper n (advert_in n ctype body) (record { byte = small; skipped = p.0 }) (λ a is. adspec_proper n ctype body a h is))
      | inr p ↦ class_proper at n ctype body x (class_with n) h p.1
    ]

heads_are : {h k : Head} → ◌≡◌ {A = Result Head ObjErr} (Ok h) (Ok k) → h ≡ k
heads_are e = cc

head_class : (at : ℕ) (left : List ℕ) (head : Head) → ◌≡◌ {A = Result Head ObjErr} (head_of at left) (Ok head) → byte_at 2 left ≡ head.class.0
unfolding head_of
head_class at left head e =
    elim (chosen (nat_lt (length left) 4) _ _ _ e) [
      | inl p ↦ absurd (let z = p.1 in cc)
      | inr p ↦ elim (chosen (not (is_length (half_at 0 left) (length left))) _ _ _ p.1) [ inl q ↦ absurd (let z = q.1 in cc) | inr q ↦ ap (λ (h : Head). h.class.0) (heads_are q.1) ]
    ]

answers_are : {p q : Object × ℕ} → ◌≡◌ {A = Result (Object × ℕ) ObjErr} (Ok p) (Ok q) → p ≡ q
answers_are e = cc

objects_are : (x y : Object) (m n : ℕ) → ◌≡◌ {A = Result (Object × ℕ) ObjErr} (Ok (x, m)) (Ok (y, n)) → x ≡ y
objects_are x y m n e = ap (λ (p : Object × ℕ). p.0) (answers_are e)

end_proper : (end next : ℕ) (r : Result Object ObjErr) (x : Object) → ((y : Object) → r ≡ read y → IsProper y) → with_end end r ≡ Ok (x, next) → IsProper x
end_proper end next (Ok y) x proper e = subst IsProper (objects_are y x end next e) (proper y refl)
end_proper end next (Err f) x proper e = absurd cc

by_head_proper : (at next : ℕ) (bytes : List ℕ) (x : Object) (r : Result Head ObjErr) → AreBytes bytes → head_of at (drop at bytes) ≡ r → by_head at bytes r ≡ Ok (x, next) → IsProper x
by_head_proper at next bytes x (Ok head) h is e =
    let small : head.class.0 < 2 ^ 8 = subst (λ (n : ℕ). n < 2 ^ 8) (head_class at (drop at bytes) head is) (byte_small 2 (drop at bytes) (bytes_behind at bytes h)) in
    let own : AreBytes (contents_at at head bytes) = bytes_before _ _ (bytes_behind (at + 4) bytes h) in
    end_proper head.end next (body_of at head.class.0 head.ctype (contents_at at head bytes)) x (λ y. body_proper at head.class.0 head.ctype (contents_at at head bytes) y small own) e
by_head_proper at next bytes x (Err f) h is e = absurd cc

pub what_is_read_is_proper : WhatIsReadIsProper
what_is_read_is_proper bytes at next x h e = by_head_proper at next bytes x (head_of at (drop at bytes)) h refl (sym (by_its_head at bytes) ∙ e)
