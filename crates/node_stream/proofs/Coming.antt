-- What service of some bytes comes to, where it ends neither by a fault of a device nor out of memory.
use Rattle.std.proofs.Common.{◌≡◌, ◌⊎◌, ℕ, ◌<◌, ◌≤◌, List, [], ◌∷◌, ◌++◌, Option, None, Some, length, refl, sym, ap, subst, ◌∙◌, append-nil, append_assoc, arith, inl, inr}
use Rattle.std.specs.List.{concat}
use Rattle.byte_streams.proofs.Known.{all_known}
use Rattle.node_stream.specs.Rules.{HasFault}
use Rattle.script_words.specs.Lines.{line_number}
use Rattle.script_words.specs.declared.fault.LineWhy.{LineWhy}
use Rattle.node_stream.specs.Frames.{contents_in, kind_in}
use Rattle.node_stream.specs.Endings.{ComesTo, IsCut, IsFaulty, IsFirstBad, IsOrNoMemory, IsServed, IsWhole, most_bytes}
use Rattle.node_stream.specs.Serving.{Follows, HasServed, Standing, place_if}
use Rattle.node_stream.specs.declared.ending.Ending.{Ending}
use Rattle.node_stream.specs.declared.ending.Ending.TheVariants.{Done, BadFrame, ReadFault, WriteFault, NoMemory, TooLong}
use Rattle.node_stream.proofs.Follows.{fault_one, fault_or_follows, follows_one}
use Rattle.node_stream.proofs.Framing.{frame_same, nothing_is_none, part_is_no_frame, rest_same}

-- ---- frames that were served have one consequence
pub served_one : (st n m : Option Standing) (fs : List (List ℕ)) (x y : List ℕ) → HasServed st fs n x → HasServed st fs m y → (n ≡ m) × (x ≡ y)
served_one st n m [] x y a b = (a.0 ∙ sym b.0, a.1 ∙ sym b.1)
served_one st n m (f ∷ fs) x y (k, own, rest, follows, served, is) (l, its, last, also, then, eq) =
    let here = follows_one st f k l own its follows also in
    let behind = served_one l n m fs rest last (subst (λ (o : Option Standing). HasServed o fs n rest) here.0 served) then in
    (behind.0, is ∙ ap (λ (t : List ℕ). t ++ rest) here.1 ∙ ap (λ (t : List ℕ). its ++ t) behind.1 ∙ sym eq)

-- ---- what is bad behind frames
abbrev IsBad : Option Standing → List ℕ → List ℕ → LineWhy → Type 0
IsBad st last after y = IsCut last after y ⊎ IsFaulty st last y

some_bad : (st : Option Standing) (last after : List ℕ) (y : LineWhy) → IsBad st last after y → 0 < length last
some_bad st last after y bad = elim bad [
  | inl cut ↦ cut.some
  | inr faulty ↦ omega (arith, faulty.whole.head)
]

-- no frame that follows begins with it
bad_is_none : (st n : Option Standing) (last after f rest x : List ℕ) (y : LineWhy) → IsBad st last after y → Follows st f n x → last ++ after ≡ f ++ rest → ⊥
bad_is_none st n last after f rest x y bad follows same = elim bad [
  | inl cut ↦ part_is_no_frame last f rest cut.part follows.whole (sym (append-nil last) ∙ ap (λ (t : List ℕ). last ++ t) (sym cut.ends) ∙ same)
  | inr faulty ↦ (
      let is : last ≡ f = frame_same last after f rest faulty.whole follows.whole same in
      fault_or_follows st f n x y (subst (λ (t : List ℕ). HasFault (place_if st) (kind_in t) (contents_in t) y) is faulty.fault) follows)
]

-- all bytes are frames that follow, or some are bad
no_end : (st n m : Option Standing) (before fs : List (List ℕ)) (last after x t : List ℕ) (y : LineWhy) → HasServed st before n t → IsBad n last after y → HasServed st fs m x
    → concat before ++ (last ++ after) ≡ concat fs → ⊥
no_end st n m [] [] last after x t y a bad b same = nothing_is_none last after (some_bad n last after y bad) (sym same)
no_end st n m [] (f ∷ fs) last after x t y a bad (k, own, rest, follows, served, is) same =
    bad_is_none n k last after f (concat fs) own y bad (subst (λ (o : Option Standing). Follows o f k own) (sym a.0) follows) same
no_end st n m (g ∷ gs) [] last after x t y (k, own, rest, follows, served, is) bad b same =
    nothing_is_none g (concat gs ++ (last ++ after)) (omega (arith, follows.whole.head)) (sym same ∙ append_assoc g (concat gs) (last ++ after))
no_end st n m (g ∷ gs) (f ∷ fs) last after x t y (k, own, rest, follows, served, is) bad (l, its, more, also, then, eq) same =
    let parts : g ++ (concat gs ++ (last ++ after)) ≡ f ++ concat fs = sym (append_assoc g (concat gs) (last ++ after)) ∙ same in
    let one : g ≡ f = frame_same g (concat gs ++ (last ++ after)) f (concat fs) follows.whole also.whole parts in
    let others = rest_same g (concat gs ++ (last ++ after)) f (concat fs) follows.whole also.whole parts in
    let at = follows_one st f k l own its (subst (λ (u : List ℕ). Follows st u k own) one follows) also in
    no_end l n m gs fs last after more rest y (subst (λ (o : Option Standing). HasServed o gs n rest) at.0 served) bad then others

-- ---- one bad frame, one reason
record AreSame (before fs : List (List ℕ)) (v w : LineWhy) (x y : List ℕ) : Type 0 where
  frames : before ≡ fs
  reason : v ≡ w
  text : x ≡ y

one_reason : (n m : Option Standing) (last after its then : List ℕ) (v w : LineWhy) → n ≡ m → IsBad n last after v → IsBad m its then w → last ++ after ≡ its ++ then → v ≡ w
one_reason n m last after its then v w e a b same = elim a [
  | inl cut ↦ elim b [
    | inl also ↦ cut.why_is ∙ sym also.why_is
    | inr faulty ↦ absurd (part_is_no_frame last its then cut.part faulty.whole (sym (append-nil last) ∙ ap (λ (t : List ℕ). last ++ t) (sym cut.ends) ∙ same))
  ]
  | inr faulty ↦ elim b [
    | inl cut ↦ absurd (part_is_no_frame its last after cut.part faulty.whole (sym (append-nil its) ∙ ap (λ (t : List ℕ). its ++ t) (sym cut.ends) ∙ sym same))
    | inr also ↦ (
        let is : last ≡ its = frame_same last after its then faulty.whole also.whole same in
        let there : HasFault (place_if m) (kind_in its) (contents_in its) v = subst (λ (o : Option Standing). HasFault (place_if o) (kind_in its) (contents_in its) v) e
        (subst (λ (t : List ℕ). HasFault (place_if n) (kind_in t) (contents_in t) v) is faulty.fault) in
        fault_one (place_if m) (kind_in its) (contents_in its) v w there also.fault)
  ]
]

one_bad : (st n m : Option Standing) (before fs : List (List ℕ)) (last after its then x y : List ℕ) (v w : LineWhy) → HasServed st before n x → IsBad n last after v → HasServed st fs m y → IsBad m its then w
    → concat before ++ (last ++ after) ≡ concat fs ++ (its ++ then) → AreSame before fs v w x y
one_bad st n m [] [] last after its then x y v w a p b q same =
    record { frames = refl; reason = one_reason n m last after its then v w (a.0 ∙ sym b.0) p q same; text = a.1 ∙ sym b.1 }
one_bad st n m [] (f ∷ fs) last after its then x y v w a p (l, own, rest, follows, served, is) q same =
    absurd (bad_is_none n l last after f (concat fs ++ (its ++ then)) own v p (subst (λ (o : Option Standing). Follows o f l own) (sym a.0) follows) (same ∙ append_assoc f (concat fs) (its ++ then)))
one_bad st n m (g ∷ gs) [] last after its then x y v w (k, own, rest, follows, served, is) p b q same =
    absurd (bad_is_none m k its then g (concat gs ++ (last ++ after)) own w q (subst (λ (o : Option Standing). Follows o g k own) (sym b.0) follows)
    (sym same ∙ append_assoc g (concat gs) (last ++ after)))
one_bad st n m (g ∷ gs) (f ∷ fs) last after its then x y v w (k, own, rest, follows, served, is) p (l, other, more, also, too, eq) q same =
    let parts : g ++ (concat gs ++ (last ++ after)) ≡ f ++ (concat fs ++ (its ++ then)) = sym (append_assoc g (concat gs) (last ++ after)) ∙ same ∙ append_assoc f (concat fs) (its ++ then) in
    let one : g ≡ f = frame_same g (concat gs ++ (last ++ after)) f (concat fs ++ (its ++ then)) follows.whole also.whole parts in
    let others = rest_same g (concat gs ++ (last ++ after)) f (concat fs ++ (its ++ then)) follows.whole also.whole parts in
    let at = follows_one st f k l own other (subst (λ (u : List ℕ). Follows st u k own) one follows) also in
    let behind = one_bad l n m gs fs last after its then rest more v w (subst (λ (o : Option Standing). HasServed o gs n rest) at.0 served) p too q others in
    record {
      frames = ap (λ (u : List ℕ). u ∷ gs) one ∙ ap (λ (us : List (List ℕ)). f ∷ us) behind.frames;
      reason = behind.reason;
      text = is ∙ ap (λ (u : List ℕ). u ++ rest) at.1 ∙ ap (λ (u : List ℕ). other ++ u) behind.text ∙ sym eq;
    }

-- ---- the whole
whole_one : (bytes x y : List ℕ) → IsWhole bytes x → IsWhole bytes y → x ≡ y
whole_one bytes x y a b = by None a.ran.standing b.ran.standing a.frames b.frames x y a.ran.served b.ran.served (sym a.parts ∙ b.parts)
  where
    by : (st n m : Option Standing) (fs gs : List (List ℕ)) (x y : List ℕ) → HasServed st fs n x → HasServed st gs m y → concat fs ≡ concat gs → x ≡ y
    by st n m [] [] x y a b same = a.1 ∙ sym b.1
    by st n m [] (g ∷ gs) x y a (l, own, rest, follows, served, is) same = absurd (nothing_is_none g (concat gs) (omega (arith, follows.whole.head)) same)
    by st n m (f ∷ fs) [] x y (k, own, rest, follows, served, is) b same = absurd (nothing_is_none f (concat fs) (omega (arith, follows.whole.head)) (sym same))
    by st n m (f ∷ fs) (g ∷ gs) x y (k, own, rest, follows, served, is) (l, other, more, also, too, eq) same =
        let one : f ≡ g = frame_same f (concat fs) g (concat gs) follows.whole also.whole same in
        let others = rest_same f (concat fs) g (concat gs) follows.whole also.whole same in
        let at = follows_one st g k l own other (subst (λ (u : List ℕ). Follows st u k own) one follows) also in
        let behind = by l n m fs gs rest more (subst (λ (o : Option Standing). HasServed o fs n rest) at.0 served) too others in
        is ∙ ap (λ (u : List ℕ). u ++ rest) at.1 ∙ ap (λ (u : List ℕ). other ++ u) behind ∙ sym eq

whole_or_bad : (bytes x y : List ℕ) (n : ℕ) (w : LineWhy) → IsWhole bytes x → IsFirstBad n w bytes y → ⊥
whole_or_bad bytes x y n w a b =
    no_end None b.ran.standing a.ran.standing b.before a.frames b.last b.after x y w b.ran.served b.bad a.ran.served (sym b.parts ∙ a.parts)

bad_same : (bytes x y : List ℕ) (m n : ℕ) (v w : LineWhy) → IsFirstBad m v bytes x → IsFirstBad n w bytes y → (BadFrame m v ≡ BadFrame n w) × (x ≡ y)
bad_same bytes x y m n v w a b =
    let same = one_bad None a.ran.standing b.ran.standing a.before b.before a.last a.after b.last b.after x y v w a.ran.served a.bad b.ran.served b.bad (sym a.parts ∙ b.parts) in
    let number : m ≡ n = a.counted ∙ ap (λ (fs : List (List ℕ)). line_number (length fs)) same.frames ∙ sym b.counted in
    (ap (λ k. BadFrame k v) number ∙ ap (λ z. BadFrame n z) same.reason, same.text)

pub one_ending : (bytes x y : List ℕ) (a b : Ending) → ComesTo a bytes x → ComesTo b bytes y → (a ≡ b) × (x ≡ y)
one_ending bytes x y Done Done h k = (refl, whole_one bytes x y h k)
one_ending bytes x y Done (BadFrame n w) h k = absurd (whole_or_bad bytes x y n w h k)
one_ending bytes x y (BadFrame m v) Done h k = absurd (whole_or_bad bytes y x m v k h)
one_ending bytes x y (BadFrame m v) (BadFrame n w) h k = bad_same bytes x y m n v w h k
one_ending bytes x y Done ReadFault h k = absurd k
one_ending bytes x y Done WriteFault h k = absurd k
one_ending bytes x y Done NoMemory h k = absurd k
one_ending bytes x y Done TooLong h k = absurd k
one_ending bytes x y (BadFrame m v) ReadFault h k = absurd k
one_ending bytes x y (BadFrame m v) WriteFault h k = absurd k
one_ending bytes x y (BadFrame m v) NoMemory h k = absurd k
one_ending bytes x y (BadFrame m v) TooLong h k = absurd k
one_ending bytes x y ReadFault b h k = absurd h
one_ending bytes x y WriteFault b h k = absurd h
one_ending bytes x y NoMemory b h k = absurd h
one_ending bytes x y TooLong b h k = absurd h

-- ---- service of known bytes
pub comes_to : (got wanted : Ending) (old new before after : Option (List ℕ)) (bytes text : List ℕ) → IsServed got old new before after → old ≡ Some bytes → length bytes ≤ most_bytes
    → ComesTo wanted bytes text
    → (got ≡ ReadFault → ⊥) → (got ≡ WriteFault → ⊥) → IsOrNoMemory wanted got
comes_to Done wanted old new before after bytes text r e le c read write =
    let known = all_known old new bytes r.taken e r.took in
    inl (one_ending bytes r.text text Done wanted (subst (λ (b : List ℕ). IsWhole b r.text) known.0 r.ended.1) c).0
comes_to (BadFrame n y) wanted old new before after bytes text r e le c read write =
    let known = all_known old new bytes r.taken e r.took in
    inl (one_ending bytes r.text text (BadFrame n y) wanted (subst (λ (b : List ℕ). IsFirstBad n y b r.text) known.0 r.ended.0) c).0
comes_to ReadFault wanted old new before after bytes text r e le c read write = absurd (read refl)
comes_to WriteFault wanted old new before after bytes text r e le c read write = absurd (write refl)
comes_to NoMemory wanted old new before after bytes text r e le c read write = inr refl
comes_to TooLong wanted old new before after bytes text r e le c read write =
    let known = all_known old new bytes r.taken e r.took in
    absurd (omega (arith, r.counted.0, le, known.1))
