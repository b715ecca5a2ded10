-- The hint with one object more, and that it is one.
use Rattle.std.proofs.Common.{◌≡◌, ℕ, List, [], ◌∷◌, ◌++◌, length, drop, Option, Result, Ok, refl, sym, ap, subst, ◌∙◌, inl, inr, arith}
use Rattle.std.proofs.lemmas.List.{drop_all}
use Rattle.rsvp_objects.specs.declared.object.Object.{Object}
use Rattle.rsvp_objects.specs.declared.obj_err.ObjErr.{ObjErr}
use Rattle.rsvp_objects.specs.declared.head.Head.{Head}
use Rattle.rsvp_objects.specs.Reading.{head_of, body_of, contents_at}
use Rattle.rsvp_messages.specs.declared.fault.Hint.{Hint}
use Rattle.message_codec.specs.Said.{or_else, hop_said, style_said, template_said}
use Rattle.message_codec.specs.Hints.{readable, name_said, said_by, first_said, Follow, hint_of, IsLast, IsHint, with_next}
use Rattle.message_codec.proofs.Gathered.{or_none, or_assoc}

first_more : {A : Type 0} (f : Object → Option A) (ys : List (Option Object)) (y : Option Object) → first_said f (ys ++ y ∷ []) ≡ or_else (first_said f ys) (said_by f y)
unfolding first_said
first_more f [] y = or_none (said_by f y)
first_more f (z ∷ ys) y = ap (or_else (said_by f z)) (first_more f ys y) ∙ sym (or_assoc (said_by f z) (first_said f ys) (said_by f y))

pub hint_more : (ys : List (Option Object)) (y : Option Object) → hint_of (ys ++ y ∷ []) ≡ with_next (hint_of ys) y
unfolding with_next
hint_more ys y = λ i. record { session = first_more name_said ys y i; hop = first_more hop_said ys y i; style = first_more style_said ys y i; sender = first_more template_said ys y i }

abbrev pub said_at : List ℕ → ℕ → Head → Option Object
said_at b at h = readable (body_of at h.class.0 h.ctype (contents_at at h b))

pub follow_more : (b : List ℕ) (at : ℕ) (ys : List (Option Object)) (mid : ℕ) (h : Head) → Follow b at ys mid → head_of mid (drop mid b) ≡ Ok h → Follow b at (ys ++ said_at b mid h ∷ []) h.end
follow_more b at [] mid h r e = subst (λ (p : ℕ). Follow b p (said_at b mid h ∷ []) h.end) (sym r) (h, e, refl, refl)
follow_more b at (y ∷ ys) mid h r e = (r.0, r.1, r.2, follow_more b r.0.end ys mid h r.3 e)

-- ---- the hint is one

abbrev head : Head → Result Head ObjErr
head h = Ok h

head_is : {h k : Head} → head h ≡ head k → h ≡ k
head_is e = cc

none_at_end : (b : List ℕ) (h : Head) → head_of (length b) (drop (length b) b) ≡ Ok h → ⊥
unfolding head_of
none_at_end b h e =
    let nothing : drop (length b) b ≡ [] = drop_all (length b) b (omega arith) in
    let k : head_of (length b) [] ≡ Ok h = ap (head_of (length b)) (sym nothing) ∙ e in
    cc

-- nothing follows at the last place
none_at_last : (b : List ℕ) (at : ℕ) (h : Head) → IsLast b at → head_of at (drop at b) ≡ Ok h → ⊥
none_at_last b at h (inl e) is = none_at_end b h (subst (λ (p : ℕ). head_of p (drop p b) ≡ Ok h) e is)
none_at_last b at h (inr g) is = let z = sym is ∙ g.1 in cc

one_follow : (b : List ℕ) (at : ℕ) (xs ys : List (Option Object)) (p q : ℕ) → Follow b at xs p → IsLast b p → Follow b at ys q → IsLast b q → xs ≡ ys
one_follow b at [] [] p q s l t m = refl
one_follow b at [] (y ∷ ys) p q s l t m = absurd (none_at_last b at t.0 (subst (IsLast b) (sym s) l) t.1)
one_follow b at (x ∷ xs) [] p q s l t m = absurd (none_at_last b at s.0 (subst (IsLast b) (sym t) m) s.1)
one_follow b at (x ∷ xs) (y ∷ ys) p q s l t m =
    let same : s.0 ≡ t.0 = head_is (sym s.1 ∙ t.1) in
    let first : x ≡ y = sym s.2 ∙ ap (said_at b at) same ∙ t.2 in
    let rest : xs ≡ ys = one_follow b s.0.end xs ys p q s.3 l (subst (λ (h : Head). Follow b h.end ys q) (sym same) t.3) m in
    λ i. first i ∷ rest i

pub one_hint : (b : List ℕ) (h k : Hint) → IsHint b h → IsHint b k → h ≡ k
one_hint b h k s t = s.4 ∙ ap hint_of (one_follow b 8 s.0 t.0 s.1 t.1 s.2 s.3 t.2 t.3) ∙ sym t.4
