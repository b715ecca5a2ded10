-- Objects that stand one after the other: with one more, one list to the end, one place that stops.
use Rattle.std.proofs.Common.{◌≡◌, ℕ, ◌<◌, List, [], ◌∷◌, ◌++◌, length, drop, Result, Ok, Err, refl, sym, ap, subst, ◌∙◌, append_assoc, arith}
use Rattle.std.proofs.lemmas.List.{append-nil, drop_all}
use Rattle.rsvp_objects.specs.declared.object.Object.{Object}
use Rattle.rsvp_objects.specs.Reading.{head_of}
use Rattle.rsvp_messages.specs.declared.fault.Fault.{Fault}
use Rattle.rsvp_messages.specs.declared.message.Kind.{Kind}
use Rattle.message_codec.specs.declared.seen.Seen.{Seen}
use Rattle.message_codec.specs.Places.{by_head, object_in, Stand}
use Rattle.message_codec.specs.Said.{seen_of}

abbrev pub good : {A : Type 0} → A → Result A Fault
good x = Ok x

abbrev pub bad : {A : Type 0} → Fault → Result A Fault
bad g = Err g

pub good_is : {A : Type 0} {x y : A} → good x ≡ good y → x ≡ y
good_is e = cc

pub bad_is : {A : Type 0} (g h : Fault) → bad {A = A} g ≡ bad h → g ≡ h
bad_is g h e = cc

-- ---- one object more

pub stand_more : (kind : Kind) (b : List ℕ) (before : List Object) (at : ℕ) (xs : List Object) (mid : ℕ) (x : Object) (next : ℕ)
    → Stand kind b before at xs mid → object_in kind (seen_of (before ++ xs)) mid b ≡ Ok (x, next) → Stand kind b before at (xs ++ x ∷ []) next
stand_more kind b before at [] mid x next e h =
    (next, subst (λ (p : ℕ). object_in kind (seen_of before) p b ≡ Ok (x, next)) (sym e) (subst (λ (ys : List Object). object_in kind (seen_of ys) mid b ≡ Ok (x, next)) (append-nil before) h), refl)
stand_more kind b before at (y ∷ ys) mid x next s h =
    (s.0, s.1, stand_more kind b (before ++ y ∷ []) s.0 ys mid x next s.2 (subst (λ (zs : List Object). object_in kind (seen_of zs) mid b ≡ Ok (x, next)) (sym (append_assoc before (y ∷ []) ys)) h))

-- ---- what stands at a place is one

-- nothing stands at the end
none_at_end : (kind : Kind) (s : Seen) (b : List ℕ) (r : Object × ℕ) → object_in kind s (length b) b ≡ Ok r → ⊥
unfolding object_in head_of
none_at_end kind s b r e =
    let nothing : drop (length b) b ≡ [] = drop_all (length b) b (omega arith) in
    let h : by_head kind s (length b) b (head_of (length b) []) ≡ Ok r = ap (λ (t : List ℕ). by_head kind s (length b) b (head_of (length b) t)) (sym nothing) ∙ e in
    cc

-- the first object of two lists is one, and so the place behind it
next_is : (kind : Kind) (b : List ℕ) (before : List Object) (at : ℕ) (x y : Object) (m n : ℕ) → object_in kind (seen_of before) at b ≡ Ok (x, m) → object_in kind (seen_of before) at b ≡ Ok (y, n)
    → ◌≡◌ {A = Object × ℕ} (x, m) (y, n)
next_is kind b before at x y m n p q = good_is (sym p ∙ q)

-- behind the first object
behind : (kind : Kind) (b : List ℕ) (before : List Object) (x y : Object) (m n : ℕ) (ys : List Object) (end : ℕ) → ◌≡◌ {A = Object × ℕ} (x, m) (y, n) → Stand kind b (before ++ y ∷ []) n ys end
    → Stand kind b (before ++ x ∷ []) m ys end
behind kind b before x y m n ys end same t = subst (λ (q : Object × ℕ). Stand kind b (before ++ q.0 ∷ []) q.1 ys end) (sym same) t

-- a fault behind a list is one behind its first object and the others
fault_behind : (kind : Kind) (b : List ℕ) (before : List Object) (x y : Object) (m n : ℕ) (ys : List Object) (stop : ℕ) (g : Fault) → ◌≡◌ {A = Object × ℕ} (x, m) (y, n)
    → object_in kind (seen_of (before ++ y ∷ ys)) stop b ≡ Err g
    → object_in kind (seen_of ((before ++ x ∷ []) ++ ys)) stop b ≡ Err g
fault_behind kind b before x y m n ys stop g same e =
    subst (λ (zs : List Object). object_in kind (seen_of zs) stop b ≡ Err g) (sym (append_assoc before (x ∷ []) ys))
    (subst (λ (q : Object × ℕ). object_in kind (seen_of (before ++ q.0 ∷ ys)) stop b ≡ Err g) (sym same) e)

-- a fault behind no objects is one at the start
fault_here : (kind : Kind) (b : List ℕ) (before : List Object) (at stop : ℕ) (g : Fault) → at ≡ stop → object_in kind (seen_of (before ++ [])) stop b ≡ Err g
    → object_in kind (seen_of before) at b ≡ bad g
fault_here kind b before at stop g s e = subst (λ (p : ℕ). object_in kind (seen_of before) p b ≡ bad g) (sym s)
    (subst (λ (zs : List Object). object_in kind (seen_of zs) stop b ≡ bad g) (append-nil before) e)

-- one list of objects leads to the end
pub one_list : (kind : Kind) (b : List ℕ) (before : List Object) (at : ℕ) (xs ys : List Object) → Stand kind b before at xs (length b) → Stand kind b before at ys (length b) → xs ≡ ys
one_list kind b before at [] [] s t = refl
one_list kind b before at [] (y ∷ ys) s t = absurd (none_at_end kind (seen_of before) b (y, t.0) (subst (λ (p : ℕ). object_in kind (seen_of before) p b ≡ Ok (y, t.0)) s t.1))
one_list kind b before at (x ∷ xs) [] s t = absurd (none_at_end kind (seen_of before) b (x, s.0) (subst (λ (p : ℕ). object_in kind (seen_of before) p b ≡ Ok (x, s.0)) t s.1))
one_list kind b before at (x ∷ xs) (y ∷ ys) s t =
    let same = next_is kind b before at x y s.0 t.0 s.1 t.1 in
    let first : x ≡ y = ap (λ (p : Object × ℕ). p.0) same in
    λ i. first i ∷ one_list kind b (before ++ x ∷ []) s.0 xs ys s.2 (behind kind b before x y s.0 t.0 ys (length b) same t.2) i

-- where objects lead to the end, no place has a fault
pub no_stop : (kind : Kind) (b : List ℕ) (before : List Object) (at : ℕ) (xs ys : List Object) (stop : ℕ) (g : Fault) → Stand kind b before at xs (length b) → Stand kind b before at ys stop
    → stop < length b
    → object_in kind (seen_of (before ++ ys)) stop b ≡ Err g → ⊥
no_stop kind b before at [] [] stop g s t lt e = omega arith
no_stop kind b before at [] (y ∷ ys) stop g s t lt e = none_at_end kind (seen_of before) b (y, t.0) (subst (λ (p : ℕ). object_in kind (seen_of before) p b ≡ Ok (y, t.0)) s t.1)
no_stop kind b before at (x ∷ xs) [] stop g s t lt e = let z = sym s.1 ∙ fault_here kind b before at stop g t e in cc
no_stop kind b before at (x ∷ xs) (y ∷ ys) stop g s t lt e =
    let same = next_is kind b before at x y s.0 t.0 s.1 t.1 in
    no_stop kind b (before ++ x ∷ []) s.0 xs ys stop g s.2 (behind kind b before x y s.0 t.0 ys stop same t.2) lt (fault_behind kind b before x y s.0 t.0 ys stop g same e)

-- the first fault of a place is one
pub one_stop : (kind : Kind) (b : List ℕ) (before : List Object) (at : ℕ) (xs ys : List Object) (p q : ℕ) (g h : Fault) → Stand kind b before at xs p → Stand kind b before at ys q
    → object_in kind (seen_of (before ++ xs)) p b ≡ Err g → object_in kind (seen_of (before ++ ys)) q b ≡ Err h → g ≡ h
one_stop kind b before at [] [] p q g h s t d e = bad_is g h (sym (fault_here kind b before at p g s d) ∙ fault_here kind b before at q h t e)
one_stop kind b before at [] (y ∷ ys) p q g h s t d e = absurd (let z = sym (fault_here kind b before at p g s d) ∙ t.1 in cc)
one_stop kind b before at (x ∷ xs) [] p q g h s t d e = absurd (let z = sym (fault_here kind b before at q h t e) ∙ s.1 in cc)
one_stop kind b before at (x ∷ xs) (y ∷ ys) p q g h s t d e =
    let same = next_is kind b before at x y s.0 t.0 s.1 t.1 in
    one_stop kind b (before ++ x ∷ []) s.0 xs ys p q g h s.2 (behind kind b before x y s.0 t.0 ys q same t.2) (fault_behind kind b before x x s.0 s.0 xs p g refl d)
    (fault_behind kind b before x y s.0 t.0 ys q h same e)
