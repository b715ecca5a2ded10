-- From places to the whole list: each object is in its place, a class that stands once stands at most once, and behind a
-- STYLE stands its list.
use Rattle.std.proofs.Common.{◌≡◌, ℕ, ◌+◌, ◌≤◌, Bool, true, false, List, [], ◌∷◌, ◌++◌, length, Option, Some, None, refl, sym, ap, subst, ◌∙◌, append_assoc, arith, inl, inr, ◌⊎◌}
use Rattle.std.specs.Prelude.{not, ◌&&◌, ◌||◌, ◌==◌, is_some, if◌then◌else◌}
use Rattle.std.specs.List.{AllByRecursion, list_any}
use Rattle.std.proofs.lemmas.Bool.{eqb-true}
use Rattle.std.proofs.lemmas.List.{append-nil}
use Rattle.rsvp_base.specs.declared.style.StyleKind.{StyleKind}
use Rattle.rsvp_base.specs.declared.style.StyleKind.TheVariants.{Wild, Fixed, Shared}
use Rattle.rsvp_objects.specs.Classes as number
use Rattle.rsvp_objects.specs.declared.object.Object.{Object}
use Rattle.rsvp_objects.specs.declared.object.Object.TheVariants as object
use Rattle.rsvp_objects.specs.Classes.{is_skipped}
use Rattle.rsvp_objects.specs.Fields.{AreBytes}
use Rattle.rsvp_objects.specs.Proper.{class_of, IsProper}
use Rattle.rsvp_objects.specs.declared.obj_err.ObjErr.TheVariants.{Crowd}
use Rattle.rsvp_messages.specs.declared.fault.Fault.{Fault}
use Rattle.rsvp_messages.specs.declared.fault.Fault.TheVariants as fault
use Rattle.rsvp_messages.specs.declared.message.Kind.{Kind}
use Rattle.rsvp_messages.specs.declared.message.Kind.TheVariants as kind
use Rattle.message_codec.specs.declared.role.Role.{Role}
use Rattle.message_codec.specs.declared.role.Role.TheVariants.{Needed, Once, Unread, Nowhere}
use Rattle.message_codec.specs.declared.seen.Seen.{Seen}
use Rattle.message_codec.specs.Grammar.{how_many}
use Rattle.message_codec.specs.Laws.{IsInPlace, EachObjectIsInPlace, WhatStandsOnceIsSaidOnce, BehindStyleStandsTheList}
use Rattle.message_codec.specs.Places.{Stand, has_place, place_by_style, place_after_style, stood, is_repeated, is_named, name_fault}
use Rattle.message_codec.specs.Said.{session_said, hop_said, period_said, error_said, scope_said, style_said, template_said, tspec_said, confirm_said, last_said, or_else, is_object}
use Rattle.message_codec.specs.Said.{is_adspec, seen_of, with_object}
use Rattle.message_codec.specs.Table.{row_of, is_among, role_of, stands_once, is_anywhere, is_tear_flow, is_unread_role, is_unread}
use Rattle.message_codec.proofs.Gathered.{seen_more}
use Rattle.message_codec.proofs.Placed.{IsPlaced, placed, class_is, read_proper}

-- ---- each object in its place

no_test : (a b : Bool) (f g h k : Fault) → ◌≡◌ {A = Option Fault} (if a then Some f else if b then Some g else None) None
    → ◌≡◌ {A = Option Fault} (if a then Some h else if b then Some k else None) None
no_test true b f g h k e = absurd cc
no_test false true f g h k e = absurd cc
no_test false false f g h k e = refl

name_anywhere : (at : ℕ) (s : Seen) (x : Object) → name_fault at s x ≡ None → (p : ℕ) → name_fault p s x ≡ None
name_anywhere at s (object.Filter q) e p =
    no_test (is_named q s.filters) (length s.filters == 16) (fault.Repeated at) (fault.Object (Crowd at))
    (fault.Repeated p) (fault.Object (Crowd p)) e
name_anywhere at s (object.Session a b) e p = refl
name_anywhere at s (object.HopOf a) e p = refl
name_anywhere at s (object.Time a) e p = refl
name_anywhere at s (object.Error a) e p = refl
name_anywhere at s (object.Scope a) e p = refl
name_anywhere at s (object.StyleOf a) e p = refl
name_anywhere at s (object.FlowOf a) e p = refl
name_anywhere at s (object.Template a) e p = refl
name_anywhere at s (object.Tspec a) e p = refl
name_anywhere at s (object.Advert a) e p = refl
name_anywhere at s (object.Confirm a) e p = refl
name_anywhere at s (object.Skipped a) e p = refl

in_place : (kind : Kind) (before : List Object) (at : ℕ) (b : List ℕ) (x : Object) → IsPlaced kind (seen_of before) at b x → IsInPlace kind before x
in_place kind before at b x p =
    let class = class_is kind (seen_of before) at b x p in
    record {
      place = subst (λ (n : ℕ). has_place kind (seen_of before) n ≡ true) (sym class) p.place;
      once = subst (λ (n : ℕ). is_repeated kind (seen_of before) n ≡ false) (sym class) p.once;
      name = name_anywhere at (seen_of before) x p.name;
    }

in_place_from : (kind : Kind) (b : List ℕ) (start : List Object) (at end : ℕ) (before after : List Object) (x : Object)
    → Stand kind b start at (before ++ x ∷ after) end → IsInPlace kind (start ++ before) x
in_place_from kind b start at end [] after x s =
    subst (λ (ys : List Object). IsInPlace kind ys x) (sym (append-nil start))
    (in_place kind start at b x (placed kind (seen_of start) at b x s.0 s.1))
in_place_from kind b start at end (y ∷ before) after x s =
    subst (λ (ys : List Object). IsInPlace kind ys x) (append_assoc start (y ∷ []) before)
    (in_place_from kind b (start ++ y ∷ []) s.0 end before after x s.2)

pub each_object_is_in_place : EachObjectIsInPlace
each_object_is_in_place kind b end before after x s = in_place_from kind b [] 8 end before after x s

-- ---- behind a STYLE

or_true : (a : Bool) → (a || true) ≡ true
or_true true = refl
or_true false = refl

-- where a STYLE stood, an object other than NULL stood
begun_by_style : (xs : List Object) (k : StyleKind) → last_said style_said xs ≡ Some k → list_any is_object xs ≡ true
unfolding last_said
begun_by_style [] k e = absurd cc
begun_by_style (object.StyleOf j ∷ xs) k e = refl
begun_by_style (object.Session a b ∷ xs) k e = refl
begun_by_style (object.HopOf a ∷ xs) k e = refl
begun_by_style (object.Time a ∷ xs) k e = refl
begun_by_style (object.Error a ∷ xs) k e = refl
begun_by_style (object.Scope a ∷ xs) k e = refl
begun_by_style (object.FlowOf a ∷ xs) k e = refl
begun_by_style (object.Filter a ∷ xs) k e = refl
begun_by_style (object.Template a ∷ xs) k e = refl
begun_by_style (object.Tspec a ∷ xs) k e = refl
begun_by_style (object.Advert a ∷ xs) k e = refl
begun_by_style (object.Confirm a ∷ xs) k e = refl
begun_by_style (object.Skipped n ∷ xs) k e =
    let rest = begun_by_style xs k (or_nothing (last_said style_said xs) k e) in
    ap (λ (t : Bool). is_object (object.Skipped n) || t) rest ∙ or_true (is_object (object.Skipped n))
  where
    or_nothing : (o : Option StyleKind) (k : StyleKind) → or_else o None ≡ Some k → o ≡ Some k
    or_nothing (Some j) k e = e
    or_nothing None k e = e

either : (a b x y : Bool) → ((a && x) || (b && y)) ≡ true → (a || b) ≡ true
either true b x y e = refl
either false true x y e = refl
either false false x y e = e

either_third : (a b x y z : Bool) → ((a && x) || ((b && y) && z)) ≡ true → (a || b) ≡ true
either_third true b x y z e = refl
either_third false true x y z e = refl
either_third false false x y z e = e

left_only : (a b x : Bool) → (a && x) ≡ true → (a || b) ≡ true
left_only true b x e = refl
left_only false b x e = absurd cc

-- the list of a style has places for two classes alone
two_classes : (kind : Kind) (k : StyleKind) (s : Seen) (n : ℕ) → place_after_style kind k s n ≡ true
    → (n == number.flowspec || n == number.filter_spec) ≡ true
two_classes kind.Path k s n e = absurd cc
two_classes kind.PathErr k s n e = absurd cc
two_classes kind.PathTear k s n e = absurd cc
two_classes kind.Resv Wild s n e = left_only (n == number.flowspec) (n == number.filter_spec) _ e
two_classes kind.Resv Fixed s n e = either (n == number.flowspec) (n == number.filter_spec) _ _ e
two_classes kind.Resv Shared s n e = either (n == number.flowspec) (n == number.filter_spec) _ _ e
two_classes kind.ResvConf Wild s n e = left_only (n == number.flowspec) (n == number.filter_spec) _ e
two_classes kind.ResvConf Fixed s n e = either (n == number.flowspec) (n == number.filter_spec) _ _ e
two_classes kind.ResvConf Shared s n e = either (n == number.flowspec) (n == number.filter_spec) _ _ e
two_classes kind.ResvErr Wild s n e = left_only (n == number.flowspec) (n == number.filter_spec) _ e
two_classes kind.ResvErr Fixed s n e = either_third (n == number.flowspec) (n == number.filter_spec) _ _ _ e
two_classes kind.ResvErr Shared s n e = either (n == number.flowspec) (n == number.filter_spec) _ _ e
two_classes kind.ResvTear Wild s n e = left_only (n == number.flowspec) (n == number.filter_spec) true (ap (λ (t : Bool). t && true) e)
two_classes kind.ResvTear Fixed s n e = e
two_classes kind.ResvTear Shared s n e = e

anywhere_or : (a i d t r : Bool) → (a || (if i then not d else t)) ≡ true → d ≡ true → (t ≡ true → r ≡ true) → (a || r) ≡ true
anywhere_or true i d t r e begun more = refl
anywhere_or false true true t r e begun more = absurd cc
anywhere_or false true false t r e begun more = absurd cc
anywhere_or false false d t r e begun more = more e

pub behind_style_stands_the_list : BehindStyleStandsTheList
unfolding has_place
behind_style_stands_the_list kind b end before after x k s styled =
    let n = class_of x in
    let seen = seen_of before in
    let p = (each_object_is_in_place kind b end before after x s).place in
    let by_style : place_by_style kind seen n seen.style ≡ place_after_style kind k seen n = ap (place_by_style kind seen n) styled in
    anywhere_or (is_anywhere n) (n == number.integrity) seen.begun (place_by_style kind seen n seen.style)
    (n == number.flowspec || n == number.filter_spec) p (begun_by_style before k styled) (λ e. two_classes kind k seen n (sym by_style ∙ e))

-- ---- what stands once by the table

-- a class that is read, or ADSPEC
abbrev IsKept : ℕ → Type 0
IsKept n = (is_skipped n ≡ false) ⊎ (n ≡ 13)

kept_among : (n : ℕ) (ms : List ℕ) → AllByRecursion IsKept ms → is_among n ms ≡ true → IsKept n
kept_among n [] h e = absurd cc
kept_among n (m ∷ ms) h e = by_test (λ e. kept_among n ms h.1 e) (n == m) refl e
  where
    by_test : (is_among n ms ≡ true → IsKept n) → (t : Bool) → (n == m) ≡ t → (t || is_among n ms) ≡ true → IsKept n
    by_test rest true same e = subst IsKept (sym (eqb-true n m same)) h.0
    by_test rest false same e = rest e

needed_kept : (k : Kind) → AllByRecursion IsKept (row_of k).needed
needed_kept kind.Path = (inl refl, (inl refl, (inl refl, tt)))
needed_kept kind.Resv = (inl refl, (inl refl, (inl refl, (inl refl, tt))))
needed_kept kind.PathErr = (inl refl, (inl refl, tt))
needed_kept kind.ResvErr = (inl refl, (inl refl, (inl refl, (inl refl, tt))))
needed_kept kind.PathTear = (inl refl, (inl refl, tt))
needed_kept kind.ResvTear = (inl refl, (inl refl, (inl refl, tt)))
needed_kept kind.ResvConf = (inl refl, (inl refl, (inl refl, (inl refl, tt))))

once_kept : (k : Kind) → AllByRecursion IsKept (row_of k).once
once_kept kind.Path = (inl refl, (inl refl, (inr refl, tt)))
once_kept kind.Resv = (inl refl, (inl refl, tt))
once_kept kind.PathErr = (inl refl, tt)
once_kept kind.ResvErr = (inl refl, tt)
once_kept kind.PathTear = (inl refl, tt)
once_kept kind.ResvTear = (inl refl, tt)
once_kept kind.ResvConf = tt

pub role_tells : (a b c : Bool) → stands_once (if a then Needed else if b then Once else if c then Unread else Nowhere) ≡ true
    → (a ≡ true) ⊎ (b ≡ true)
role_tells true b c e = inl refl
role_tells false true c e = inr refl
role_tells false false true e = absurd cc
role_tells false false false e = absurd cc

is_kept : (k : Kind) (n : ℕ) → stands_once (role_of k n) ≡ true → IsKept n
unfolding role_of
is_kept k n e =
    elim (role_tells (is_among n (row_of k).needed) (is_among n (row_of k).once) (is_among n (row_of k).unread) e) [
      | inl p ↦ kept_among n (row_of k).needed (needed_kept k) p
      | inr p ↦ kept_among n (row_of k).once (once_kept k) p
    ]

role_read : (r : Role) → stands_once r ≡ true → is_unread_role r ≡ false
role_read Needed e = refl
role_read Once e = refl
role_read Unread e = absurd cc
role_read Nowhere e = refl

-- no kind has a FLOWSPEC or a FILTER_SPEC that stands once
listed_classes : (k : Kind) → (stands_once (role_of k 9) ≡ false) × (stands_once (role_of k 10) ≡ false)
unfolding role_of
listed_classes kind.Path = (refl, refl)
listed_classes kind.Resv = (refl, refl)
listed_classes kind.PathErr = (refl, refl)
listed_classes kind.ResvErr = (refl, refl)
listed_classes kind.PathTear = (refl, refl)
listed_classes kind.ResvTear = (refl, refl)
listed_classes kind.ResvConf = (refl, refl)

no_flowspec : (k : Kind) → stands_once (role_of k 9) ≡ true → ⊥
no_flowspec k e = let z = sym e ∙ (listed_classes k).0 in cc

no_filter_spec : (k : Kind) → stands_once (role_of k 10) ≡ true → ⊥
no_filter_spec k e = let z = sym e ∙ (listed_classes k).1 in cc

not_flowspec : (k : Kind) (n : ℕ) → stands_once (role_of k n) ≡ true → (t : Bool) → (n == number.flowspec) ≡ t → t ≡ false
not_flowspec k n once true e = absurd (no_flowspec k (subst (λ (m : ℕ). stands_once (role_of k m) ≡ true) (eqb-true n number.flowspec e) once))
not_flowspec k n once false e = refl

no_tear_flow : (k : Kind) (n : ℕ) → stands_once (role_of k n) ≡ true → is_tear_flow k n ≡ false
no_tear_flow kind.Path n e = refl
no_tear_flow kind.Resv n e = refl
no_tear_flow kind.PathErr n e = refl
no_tear_flow kind.ResvErr n e = refl
no_tear_flow kind.PathTear n e = refl
no_tear_flow kind.ResvTear n e = not_flowspec kind.ResvTear n e (n == number.flowspec) refl
no_tear_flow kind.ResvConf n e = refl

is_read : (k : Kind) (n : ℕ) → stands_once (role_of k n) ≡ true → is_unread k n ≡ false
is_read k n e = ap (λ (t : Bool). t || is_unread_role (role_of k n)) (no_tear_flow k n e) ∙ role_read (role_of k n) e

-- ---- an object of such a class is seen from then on

skipped_kept : (s : Seen) (m : ℕ) → is_skipped m ≡ true → IsKept m → stood (with_object s (object.Skipped m)) m ≡ true
unfolding stood with_object
skipped_kept s m skipped (inl e) = absurd (let z = sym skipped ∙ e in cc)
skipped_kept s m skipped (inr e) = subst (λ (n : ℕ). stood (with_object s (object.Skipped n)) n ≡ true) (sym e) (or_true s.adspec)

now_stood : (k : Kind) (s : Seen) (x : Object) → IsProper x → stands_once (role_of k (class_of x)) ≡ true
    → stood (with_object s x) (class_of x) ≡ true
unfolding stood with_object
now_stood k s (object.Session a b) h e = refl
now_stood k s (object.HopOf a) h e = refl
now_stood k s (object.Time a) h e = refl
now_stood k s (object.Error a) h e = refl
now_stood k s (object.Scope a) h e = refl
now_stood k s (object.StyleOf a) h e = refl
now_stood k s (object.FlowOf a) h e = absurd (no_flowspec k e)
now_stood k s (object.Filter a) h e = absurd (no_filter_spec k e)
now_stood k s (object.Template a) h e = refl
now_stood k s (object.Tspec a) h e = refl
now_stood k s (object.Advert a) h e = or_true s.adspec
now_stood k s (object.Confirm a) h e = refl
now_stood k s (object.Skipped m) h e = skipped_kept s m h.skipped (is_kept k m e)

some_stays : {A : Type 0} (a o : Option A) → is_some o ≡ true → is_some (or_else a o) ≡ true
some_stays (Some x) o e = refl
some_stays None o e = e

true_stays : (a b : Bool) → a ≡ true → (a || b) ≡ true
true_stays true b e = refl
true_stays false b e = absurd cc

by_if : (b x y u v : Bool) → (x ≡ true → u ≡ true) → (y ≡ true → v ≡ true) → (if b then x else y) ≡ true → (if b then u else v) ≡ true
by_if true x y u v p q e = p e
by_if false x y u v p q e = q e

still_stood : (s : Seen) (x : Object) (n : ℕ) → stood s n ≡ true → stood (with_object s x) n ≡ true
unfolding stood with_object
still_stood s x n =
    by_if (n == number.session) _ _ _ _ (some_stays (session_said x) s.session) (
    by_if (n == number.rsvp_hop) _ _ _ _ (some_stays (hop_said x) s.hop) (
    by_if (n == number.time_values) _ _ _ _ (some_stays (period_said x) s.period) (
    by_if (n == number.error_spec) _ _ _ _ (some_stays (error_said x) s.error) (
    by_if (n == number.scope) _ _ _ _ (some_stays (scope_said x) s.scope) (
    by_if (n == number.style) _ _ _ _ (some_stays (style_said x) s.style) (
    by_if (n == number.sender_template) _ _ _ _ (some_stays (template_said x) s.template)
    (by_if (n == number.sender_tspec) _ _ _ _ (some_stays (tspec_said x) s.tspec)
    (by_if (n == number.adspec) _ _ _ _ (true_stays s.adspec (is_adspec x)) (some_stays (confirm_said x) s.confirm)))
    )
    )
    )
    )
    )
    )

-- ---- and so it stands at most once

pub hit : (n : ℕ) (x : Object) (xs : List Object) → (class_of x == n) ≡ true → how_many n (x ∷ xs) ≡ how_many n xs + 1
hit n x xs e = rw e (omega arith)

pub miss : (n : ℕ) (x : Object) (xs : List Object) → (class_of x == n) ≡ false → how_many n (x ∷ xs) ≡ how_many n xs
miss n x xs e = rw e refl

both_true : (a b : Bool) → (a && b) ≡ false → a ≡ true → b ≡ true → ⊥
both_true true true e p q = cc
both_true true false e p q = cc
both_true false b e p q = cc

no_more : (kind : Kind) (b : List ℕ) (n : ℕ) (before : List Object) (at : ℕ) (xs : List Object) (end : ℕ) → stands_once (role_of kind n) ≡ true
    → Stand kind b before at xs end → stood (seen_of before) n ≡ true → how_many n xs ≡ 0
unfolding is_repeated
no_more kind b n before at [] end once s there = refl
no_more kind b n before at (x ∷ xs) end once s there =
    by_class (no_more kind b n (before ++ x ∷ []) s.0 xs end once s.2
    (subst (λ (t : Seen). stood t n ≡ true) (sym (seen_more before x)) (still_stood (seen_of before) x n there))) (class_of x == n) refl
  where
    by_class : how_many n xs ≡ 0 → (t : Bool) → (class_of x == n) ≡ t → how_many n (x ∷ xs) ≡ 0
    by_class rest true e =
        let here = (in_place kind before at b x (placed kind (seen_of before) at b x s.0 s.1)).once in
        absurd (both_true _ _ (subst (λ (m : ℕ). (stands_once (role_of kind m) && stood (seen_of before) m) ≡ false) (eqb-true (class_of x) n e) here)
        once there)
    by_class rest false e = miss n x xs e ∙ rest

at_most_one : (kind : Kind) (b : List ℕ) (n : ℕ) (before : List Object) (at : ℕ) (xs : List Object) (end : ℕ) → AreBytes b
    → stands_once (role_of kind n) ≡ true → Stand kind b before at xs end → how_many n xs ≤ 1
at_most_one kind b n before at [] end bytes once s = omega arith
at_most_one kind b n before at (x ∷ xs) end bytes once s =
    by_class (at_most_one kind b n (before ++ x ∷ []) s.0 xs end bytes once s.2) (class_of x == n) refl
  where
    by_class : how_many n xs ≤ 1 → (t : Bool) → (class_of x == n) ≡ t → how_many n (x ∷ xs) ≤ 1
    by_class rest true e =
        let same = eqb-true (class_of x) n e in
        let once_x : stands_once (role_of kind (class_of x)) ≡ true = subst (λ (m : ℕ). stands_once (role_of kind m) ≡ true) (sym same) once in
        let p = placed kind (seen_of before) at b x s.0 s.1 in
        let own = class_is kind (seen_of before) at b x p in
        let proper = read_proper kind (seen_of before) at b x bytes p
        (is_read kind p.head.class.0 (subst (λ (m : ℕ). stands_once (role_of kind m) ≡ true) own once_x)) in
        let stood_x : stood (with_object (seen_of before) x) n
        ≡ true = subst (λ (m : ℕ). stood (with_object (seen_of before) x) m ≡ true) same (now_stood kind (seen_of before) x proper once_x) in
        let none = no_more kind b n (before ++ x ∷ []) s.0 xs end once s.2 (subst (λ (t : Seen). stood t n ≡ true) (sym (seen_more before x)) stood_x)
        in
        let here = hit n x xs e in
        omega arith
    by_class rest false e = let here = miss n x xs e in omega arith

pub what_stands_once_is_said_once : WhatStandsOnceIsSaidOnce
what_stands_once_is_said_once kind b xs end n bytes s once = at_most_one kind b n [] 8 xs end bytes once s
