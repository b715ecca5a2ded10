-- From the whole list to places, and back: what the grammar of a kind allows is in its place, and what stands is in the
-- grammar.
use Rattle.std.proofs.Common.{◌≡◌, ℕ, ◌+◌, ◌≤◌, Bool, true, false, List, [], ◌∷◌, ◌++◌, length, Option, Some, None, refl, sym, ap, subst, ◌∙◌, append_assoc, length-append, arith, inl, inr, ◌⊎◌}
use Rattle.std.specs.Prelude.{not, ◌&&◌, ◌||◌, ◌==◌, if◌then◌else◌}
use Rattle.std.specs.List.{AllByRecursion}
use Rattle.std.proofs.lemmas.Bool.{eqb-true, eqb-false, eq-eqb}
use Rattle.std.proofs.lemmas.List.{append-nil}
use Rattle.rsvp_base.specs.declared.session.Sender.{Sender}
use Rattle.rsvp_base.specs.declared.style.StyleKind.{StyleKind}
use Rattle.rsvp_base.specs.declared.style.StyleKind.TheVariants.{Wild, Fixed, Shared}
use Rattle.rsvp_base.specs.TokenBucket.{TokenBucket}
use Rattle.rsvp_objects.specs.Classes as number
use Rattle.rsvp_objects.specs.declared.object.Object.{Object}
use Rattle.rsvp_objects.specs.declared.object.Object.TheVariants as object
use Rattle.rsvp_objects.specs.declared.obj_err.ObjErr.TheVariants.{Crowd}
use Rattle.rsvp_objects.specs.Proper.{class_of}
use Rattle.rsvp_messages.specs.declared.fault.Fault.{Fault}
use Rattle.rsvp_messages.specs.declared.fault.Fault.TheVariants as fault
use Rattle.rsvp_messages.specs.declared.message.Kind.{Kind}
use Rattle.rsvp_messages.specs.declared.message.Kind.TheVariants as kind
use Rattle.message_codec.specs.declared.seen.Seen.{Seen}
use Rattle.message_codec.specs.Grammar.{how_many, goes_on}
use Rattle.message_codec.specs.Laws.{IsInPlace, WhatIsInGrammarIsInPlace, WhatStandsIsInGrammar}
use Rattle.message_codec.specs.Places.{Stand, has_place, place_after_style, place_by_style, stood, is_repeated, is_named, name_fault}
use Rattle.message_codec.specs.Said.{last_said, style_said, seen_of, with_object, filters_after}
use Rattle.message_codec.specs.Table.{row_of, is_among, role_of, stands_once, is_anywhere}
use Rattle.message_codec.proofs.Gathered.{seen_more}
use Rattle.message_codec.proofs.Placed.{placed}
use Rattle.message_codec.proofs.Whole.{role_tells, hit, miss, each_object_is_in_place, what_stands_once_is_said_once}

-- ---- the classes that stand once

abbrev single : List ℕ
single =
    number.session ∷ number.rsvp_hop ∷ number.time_values ∷ number.error_spec ∷ number.scope ∷ number.style
    ∷ number.sender_template ∷ number.sender_tspec ∷ number.adspec ∷ number.resv_confirm ∷ []

abbrev IsSingle : ℕ → Type 0
IsSingle n = is_among n single ≡ true

among_single : (n : ℕ) (ms : List ℕ) → AllByRecursion IsSingle ms → is_among n ms ≡ true → IsSingle n
among_single n [] h e = absurd cc
among_single n (m ∷ ms) h e = by_test (among_single n ms h.1) (n == m) refl e
  where
    by_test : (is_among n ms ≡ true → IsSingle n) → (t : Bool) → (n == m) ≡ t → (t || is_among n ms) ≡ true → IsSingle n
    by_test rest true same e = subst IsSingle (sym (eqb-true n m same)) h.0
    by_test rest false same e = rest e

needed_single : (k : Kind) → AllByRecursion IsSingle (row_of k).needed
needed_single kind.Path = (refl, (refl, (refl, tt)))
needed_single kind.Resv = (refl, (refl, (refl, (refl, tt))))
needed_single kind.PathErr = (refl, (refl, tt))
needed_single kind.ResvErr = (refl, (refl, (refl, (refl, tt))))
needed_single kind.PathTear = (refl, (refl, tt))
needed_single kind.ResvTear = (refl, (refl, (refl, tt)))
needed_single kind.ResvConf = (refl, (refl, (refl, (refl, tt))))

once_single : (k : Kind) → AllByRecursion IsSingle (row_of k).once
once_single kind.Path = (refl, (refl, (refl, tt)))
once_single kind.Resv = (refl, (refl, tt))
once_single kind.PathErr = (refl, tt)
once_single kind.ResvErr = (refl, tt)
once_single kind.PathTear = (refl, tt)
once_single kind.ResvTear = (refl, tt)
once_single kind.ResvConf = tt

is_single : (k : Kind) (n : ℕ) → stands_once (role_of k n) ≡ true → IsSingle n
unfolding role_of
is_single k n e =
    elim (role_tells (is_among n (row_of k).needed) (is_among n (row_of k).once) (is_among n (row_of k).unread) e) [
      | inl p ↦ among_single n (row_of k).needed (needed_single k) p
      | inr p ↦ among_single n (row_of k).once (once_single k) p
    ]

-- ---- an object of another class changes nothing of what stood

both_sides : {A : Type 0} (b : Bool) (x x' y y' : A) → (b ≡ true → x ≡ x') → (b ≡ false → y ≡ y') → (if b then x else y) ≡ (if b then x' else y')
both_sides true x x' y y' p q = p refl
both_sides false x x' y y' p q = q refl

or_false : (a : Bool) → (a || false) ≡ a
or_false true = refl
or_false false = refl

-- of a class that is skipped, whether it is ADSPEC
other_skipped : (n m : ℕ) (a : Bool) → (n == m) ≡ false → (n == number.adspec) ≡ true → (a || (m == number.adspec)) ≡ a
other_skipped n m a apart at = by_test (m == number.adspec) refl
  where
    by_test : (t : Bool) → (m == number.adspec) ≡ t → (a || t) ≡ a
    by_test true e = absurd (let z = sym apart ∙ eq-eqb n m (eqb-true n number.adspec at ∙ sym (eqb-true m number.adspec e)) in cc)
    by_test false e = or_false a

other_class : (s : Seen) (x : Object) (n : ℕ) → IsSingle n → (n == class_of x) ≡ false → stood (with_object s x) n ≡ stood s n
unfolding stood with_object
other_class s (object.Session a b) n one e = rw (e, or_false s.adspec) refl
other_class s (object.HopOf a) n one e = rw (e, or_false s.adspec) refl
other_class s (object.Time a) n one e = rw (e, or_false s.adspec) refl
other_class s (object.Error a) n one e = rw (e, or_false s.adspec) refl
other_class s (object.Scope a) n one e = rw (e, or_false s.adspec) refl
other_class s (object.StyleOf a) n one e = rw (e, or_false s.adspec) refl
other_class s (object.FlowOf a) n one e = rw (or_false s.adspec) refl
other_class s (object.Filter a) n one e = rw (or_false s.adspec) refl
other_class s (object.Template a) n one e = rw (e, or_false s.adspec) refl
other_class s (object.Tspec a) n one e = rw (e, or_false s.adspec) refl
other_class s (object.Advert a) n one e = rw e refl
other_class s (object.Confirm a) n one e =
    both_sides (n == number.session) _ _ _ _ (λ _. refl) (λ e1.
    both_sides (n == number.rsvp_hop) _ _ _ _ (λ _. refl) (λ e2.
    both_sides (n == number.time_values) _ _ _ _ (λ _. refl) (λ e3.
    both_sides (n == number.error_spec) _ _ _ _ (λ _. refl) (λ e4.
    both_sides (n == number.scope) _ _ _ _ (λ _. refl) (λ e5.
    both_sides (n == number.style) _ _ _ _ (λ _. refl) (λ e6.
    both_sides (n == number.sender_template) _ _ _ _ (λ _. refl) (λ e7.
    both_sides (n == number.sender_tspec) _ _ _ _ (λ _. refl) (λ e8.
    both_sides (n == number.adspec) _ _ _ _ (λ _. or_false s.adspec)
    (λ e9. let none : is_among n single ≡ false = rw (e1, e2, e3, e4, e5, e6, e7, e8, e9, e) refl in absurd (let z = sym none ∙ one in cc))))))))))
other_class s (object.Skipped m) n one e =
    both_sides (n == number.session) _ _ _ _ (λ _. refl) (λ _.
    both_sides (n == number.rsvp_hop) _ _ _ _ (λ _. refl) (λ _.
    both_sides (n == number.time_values) _ _ _ _ (λ _. refl) (λ _.
    both_sides (n == number.error_spec) _ _ _ _ (λ _. refl) (λ _.
    both_sides (n == number.scope) _ _ _ _ (λ _. refl) (λ _.
    both_sides (n == number.style) _ _ _ _ (λ _. refl) (λ _.
    both_sides (n == number.sender_template) _ _ _ _ (λ _. refl) (λ _.
    both_sides (n == number.sender_tspec) _ _ _ _ (λ _. refl) (λ _.
    both_sides (n == number.adspec) _ _ _ _ (λ at. other_skipped n m s.adspec e at) (λ _. refl)))))))))

-- ---- so what stood is counted

neither : (b x y : Bool) → x ≡ false → y ≡ false → (if b then x else y) ≡ false
neither true x y p q = p
neither false x y p q = q

none_stood : (n : ℕ) → stood (seen_of []) n ≡ false
unfolding stood last_said
none_stood n =
    neither (n == number.session) _ _ refl
    (neither (n == number.rsvp_hop) _ _ refl
    (neither (n == number.time_values) _ _ refl
    (neither (n == number.error_spec) _ _ refl
    (neither (n == number.scope) _ _ refl
    (neither (n == number.style) _ _ refl
    (neither (n == number.sender_template) _ _ refl (neither (n == number.sender_tspec) _ _ refl (neither (n == number.adspec) _ _ refl refl))))))))

counted_from : (n : ℕ) (before xs : List Object) → IsSingle n → stood (seen_of (before ++ xs)) n ≡ true
    → (stood (seen_of before) n ≡ true) ⊎ (1 ≤ how_many n xs)
counted_from n before [] one h = inl (subst (λ (ys : List Object). stood (seen_of ys) n ≡ true) (append-nil before) h)
counted_from n before (x ∷ xs) one h =
    by_rest (counted_from n (before ++ x ∷ []) xs one
    (subst (λ (ys : List Object). stood (seen_of ys) n ≡ true) (sym (append_assoc before (x ∷ []) xs)) h))
  where
    more : (t : Bool) → (class_of x == n) ≡ t → how_many n xs ≤ how_many n (x ∷ xs)
    more true e = let here = hit n x xs e in omega arith
    more false e = let here = miss n x xs e in omega arith

    by_class : stood (with_object (seen_of before) x) n ≡ true → (t : Bool) → (n == class_of x) ≡ t
        → (stood (seen_of before) n ≡ true) ⊎ (1 ≤ how_many n (x ∷ xs))
    by_class p true e = let here = hit n x xs (eq-eqb (class_of x) n (sym (eqb-true n (class_of x) e))) in inr (omega arith)
    by_class p false e = inl (sym (other_class (seen_of before) x n one e) ∙ p)

    by_rest : (stood (seen_of (before ++ x ∷ [])) n ≡ true) ⊎ (1 ≤ how_many n xs) → (stood (seen_of before) n ≡ true) ⊎ (1 ≤ how_many n (x ∷ xs))
    by_rest (inl p) = by_class (subst (λ (t : Seen). stood t n ≡ true) (seen_more before x) p) (n == class_of x) refl
    by_rest (inr q) = let grown = more (class_of x == n) refl in inr (omega arith)

counted : (n : ℕ) (xs : List Object) → IsSingle n → stood (seen_of xs) n ≡ true → 1 ≤ how_many n xs
counted n xs one h = elim (counted_from n [] xs one h) [ inl p ↦ absurd (let z = sym (none_stood n) ∙ p in cc) | inr q ↦ q ]

-- ---- what goes on is what has a place

pub goes_on_is : (kind : Kind) (k : StyleKind) (before : List Object) (n : ℕ) → goes_on kind k before n ≡ place_after_style kind k (seen_of before) n
goes_on_is kind.Path k before n = refl
goes_on_is kind.PathErr k before n = refl
goes_on_is kind.PathTear k before n = refl
goes_on_is kind.Resv Wild before n = refl
goes_on_is kind.Resv Fixed before n = refl
goes_on_is kind.Resv Shared before n = refl
goes_on_is kind.ResvErr Wild before n = refl
goes_on_is kind.ResvErr Fixed before n = refl
goes_on_is kind.ResvErr Shared before n = refl
goes_on_is kind.ResvTear Wild before n = refl
goes_on_is kind.ResvTear Fixed before n = refl
goes_on_is kind.ResvTear Shared before n = refl
goes_on_is kind.ResvConf Wild before n = refl
goes_on_is kind.ResvConf Fixed before n = refl
goes_on_is kind.ResvConf Shared before n = refl

-- ---- each object in its place

how_many-append : (n : ℕ) (xs ys : List Object) → how_many n (xs ++ ys) ≡ how_many n xs + how_many n ys
how_many-append n [] ys = omega arith
how_many-append n (x ∷ xs) ys = by_class (how_many-append n xs ys) (class_of x == n) refl
  where
    by_class : how_many n (xs ++ ys) ≡ how_many n xs + how_many n ys → (t : Bool) → (class_of x == n) ≡ t
        → how_many n (x ∷ xs ++ ys) ≡ how_many n (x ∷ xs) + how_many n ys
    by_class rest true e = let a = hit n x (xs ++ ys) e in let b = hit n x xs e in omega arith
    by_class rest false e = let a = miss n x (xs ++ ys) e in let b = miss n x xs e in omega arith

never_both : (a b : Bool) → (a ≡ true → b ≡ true → ⊥) → (a && b) ≡ false
never_both true true apart = absurd (apart refl refl)
never_both true false apart = refl
never_both false b apart = refl

not_repeated : (kind : Kind) (before after : List Object) (x : Object)
    → ((n : ℕ) → stands_once (role_of kind n) ≡ true → how_many n (before ++ x ∷ after) ≤ 1) → is_repeated kind (seen_of before) (class_of x) ≡ false
unfolding is_repeated
not_repeated kind before after x few =
    never_both _ _ (λ once there.
    let n = class_of x in
    let most = few n once in
    let first = counted n before (is_single kind n once) there in
    let here = hit n x after (eq-eqb n n refl) in
    let all = how_many-append n before (x ∷ after) in
    omega arith)

place_made : (a i d t : Bool) → (i ≡ true → d ≡ false) → (a || (i || t)) ≡ true → (a || (if i then not d else t)) ≡ true
place_made true i d t first e = refl
place_made false true d t first e = ap not (first refl)
place_made false false d t first e = e

placed_by : (kind : Kind) (before : List Object) (n : ℕ) → ((n == number.integrity) ≡ true → (seen_of before).begun ≡ false) → (o : Option StyleKind)
    → last_said style_said before ≡ o → (is_anywhere n || ((n == number.integrity) || place_by_style kind (seen_of before) n o)) ≡ true
    → has_place kind (seen_of before) n ≡ true
unfolding has_place
placed_by kind before n first o is e =
    place_made (is_anywhere n) (n == number.integrity) (seen_of before).begun (place_by_style kind (seen_of before) n (seen_of before).style) first
    (ap (λ (w : Option StyleKind). is_anywhere n || ((n == number.integrity) || place_by_style kind (seen_of before) n w)) is ∙ e)

room_left : (n : ℕ) → n ≤ 15 → (n == 16) ≡ false
room_left n few = by_test (n == 16) refl
  where
    by_test : (t : Bool) → (n == 16) ≡ t → t ≡ false
    by_test true e = let z = eqb-true n 16 e in absurd (omega arith)
    by_test false e = refl

no_name_fault : (s : Seen) (x : Object) → ((q : Sender) → x ≡ object.Filter q → (is_named q s.filters ≡ false) × (length s.filters ≤ 15)) → (at : ℕ)
    → name_fault at s x ≡ None
no_name_fault s (object.Filter q) new at = let is = new q refl in rw (is.0, room_left (length s.filters) is.1) refl
no_name_fault s (object.Session a b) new at = refl
no_name_fault s (object.HopOf a) new at = refl
no_name_fault s (object.Time a) new at = refl
no_name_fault s (object.Error a) new at = refl
no_name_fault s (object.Scope a) new at = refl
no_name_fault s (object.StyleOf a) new at = refl
no_name_fault s (object.FlowOf a) new at = refl
no_name_fault s (object.Template a) new at = refl
no_name_fault s (object.Tspec a) new at = refl
no_name_fault s (object.Advert a) new at = refl
no_name_fault s (object.Confirm a) new at = refl
no_name_fault s (object.Skipped a) new at = refl

pub what_is_in_grammar_is_in_place : WhatIsInGrammarIsInPlace
what_is_in_grammar_is_in_place kind before after x g =
    record {
      place = by_style (last_said style_said before) refl;
      once = not_repeated kind before after x g.once;
      name = no_name_fault (seen_of before) x (λ q is. g.names before after q (ap (λ (y : Object). before ++ y ∷ after) is));
    }
  where
    first : (class_of x == number.integrity) ≡ true → (seen_of before).begun ≡ false
    first e = g.first before after x refl (eqb-true (class_of x) number.integrity e)

    by_style : (o : Option StyleKind) → last_said style_said before ≡ o → has_place kind (seen_of before) (class_of x) ≡ true
    by_style None e = placed_by kind before (class_of x) first None e (g.front before after x refl e)
    by_style (Some k) e =
        placed_by kind before (class_of x) first (Some k) e
        (subst (λ (t : Bool). (is_anywhere (class_of x) || ((class_of x == number.integrity) || t)) ≡ true) (goes_on_is kind k before (class_of x))
        (g.list before after x k refl e))

-- ---- and what stands is in the grammar

has_first : (a i d t : Bool) → (a || (if i then not d else t)) ≡ true → a ≡ false → i ≡ true → d ≡ false
has_first true i d t e none is = absurd cc
has_first false true true t e none is = absurd cc
has_first false true false t e none is = refl
has_first false false d t e none is = absurd cc

has_place_by : (a i d t : Bool) → (a || (if i then not d else t)) ≡ true → (a || (i || t)) ≡ true
has_place_by true i d t e = refl
has_place_by false true d t e = refl
has_place_by false false d t e = e

new_name : (at n : ℕ) (named : Bool)
    → ◌≡◌ {A = Option Fault} (if named then Some (fault.Repeated at) else if n == 16 then Some (fault.Object (Crowd at)) else None) None → n ≤ 16
    → (named ≡ false) × (n ≤ 15)
new_name at n true e most = absurd cc
new_name at n false e most = (refl, by_test (n == 16) refl e)
  where
    by_test : (t : Bool) → (n == 16) ≡ t → ◌≡◌ {A = Option Fault} (if t then Some (fault.Object (Crowd at)) else None) None → n ≤ 15
    by_test true is e = absurd cc
    by_test false is e = let apart = eqb-false n 16 is in omega (arith, apart)

no_more_filters : (s : Seen) → length s.filters ≤ 16 → length (s.filters ++ []) ≤ 16
no_more_filters s n = subst (λ (es : List (Sender × Option TokenBucket)). length es ≤ 16) (sym (append-nil s.filters)) n

few_more : (s : Seen) (x : Object) (at : ℕ) → name_fault at s x ≡ None → length s.filters ≤ 16 → length (with_object s x).filters ≤ 16
unfolding with_object
few_more s (object.Filter q) at e n =
    let is = new_name at (length s.filters) (is_named q s.filters) e n in
    subst (λ (k : ℕ). k ≤ 16) (sym (length-append s.filters ((q, s.flow) ∷ []))) (omega (arith, is.1))
few_more s (object.Session a b) at e n = no_more_filters s n
few_more s (object.HopOf a) at e n = no_more_filters s n
few_more s (object.Time a) at e n = no_more_filters s n
few_more s (object.Error a) at e n = no_more_filters s n
few_more s (object.Scope a) at e n = no_more_filters s n
few_more s (object.StyleOf a) at e n = no_more_filters s n
few_more s (object.FlowOf a) at e n = no_more_filters s n
few_more s (object.Template a) at e n = no_more_filters s n
few_more s (object.Tspec a) at e n = no_more_filters s n
few_more s (object.Advert a) at e n = no_more_filters s n
few_more s (object.Confirm a) at e n = no_more_filters s n
few_more s (object.Skipped a) at e n = no_more_filters s n

few_before : (kind : Kind) (b : List ℕ) (start : List Object) (at end : ℕ) (before after : List Object) (x : Object)
    → Stand kind b start at (before ++ x ∷ after) end → length (seen_of start).filters ≤ 16 → length (seen_of (start ++ before)).filters ≤ 16
few_before kind b start at end [] after x s n = subst (λ (ys : List Object). length (seen_of ys).filters ≤ 16) (sym (append-nil start)) n
few_before kind b start at end (y ∷ before) after x s n =
    let more = few_more (seen_of start) y at (placed kind (seen_of start) at b y s.0 s.1).name n in
    subst (λ (ys : List Object). length (seen_of ys).filters ≤ 16) (append_assoc start (y ∷ []) before)
    (few_before kind b (start ++ y ∷ []) s.0 end before after x s.2 (subst (λ (t : Seen). length t.filters ≤ 16) (sym (seen_more start y)) more))

none_yet : length (seen_of []).filters ≤ 16
unfolding filters_after
none_yet = omega arith

place_is : (kind : Kind) (before : List Object) (x : Object) → IsInPlace kind before x
    → (is_anywhere (class_of x)
    || (if class_of x == number.integrity then not (seen_of before).begun else place_by_style kind (seen_of before) (class_of x)
    (seen_of before).style)) ≡ true
unfolding has_place
place_is kind before x p = p.place

pub what_stands_is_in_grammar : WhatStandsIsInGrammar
what_stands_is_in_grammar kind b xs end bytes s =
    record {
      once = λ n one. what_stands_once_is_said_once kind b xs end n bytes s one;
      first = λ before after x is c. has_first (is_anywhere (class_of x)) (class_of x == number.integrity) (seen_of before).begun _
          (placed_in before after x is) (subst (λ (n : ℕ). is_anywhere n ≡ false) (sym c) refl) (eq-eqb (class_of x) number.integrity c);
      front = λ before after x is e. told before after x is None e;
      list = λ before after x k is e. subst (λ (t : Bool). (is_anywhere (class_of x) || ((class_of x == number.integrity) || t)) ≡ true)
          (sym (goes_on_is kind k before (class_of x))) (told before after x is (Some k) e);
      names = λ before after q is. new_name 0 (length (filters_after None before)) (is_named q (filters_after None before))
          ((each_object_is_in_place kind b end before after (object.Filter q) (split before after (object.Filter q) is)).name 0)
          (few_before kind b [] 8 end before after (object.Filter q) (split before after (object.Filter q) is) none_yet);
    }
  where
    split : (before after : List Object) (x : Object) → xs ≡ before ++ x ∷ after → Stand kind b [] 8 (before ++ x ∷ after) end
    split before after x is = subst (λ (ys : List Object). Stand kind b [] 8 ys end) is s

    placed_in : (before after : List Object) (x : Object) → xs ≡ before ++ x ∷ after
        → (is_anywhere (class_of x)
        || (if class_of x == number.integrity then not (seen_of before).begun else place_by_style kind (seen_of before) (class_of x)
        (seen_of before).style)) ≡ true
    placed_in before after x is = place_is kind before x (each_object_is_in_place kind b end before after x (split before after x is))

    told : (before after : List Object) (x : Object) → xs ≡ before ++ x ∷ after → (o : Option StyleKind) → last_said style_said before ≡ o
        → (is_anywhere (class_of x) || ((class_of x == number.integrity) || place_by_style kind (seen_of before) (class_of x) o)) ≡ true
    told before after x is o e =
        sym (ap (λ (w : Option StyleKind). is_anywhere (class_of x)
        || ((class_of x == number.integrity) || place_by_style kind (seen_of before) (class_of x) w)) e)
        ∙ has_place_by (is_anywhere (class_of x)) (class_of x == number.integrity) (seen_of before).begun
        (place_by_style kind (seen_of before) (class_of x) (seen_of before).style) (placed_in before after x is)
