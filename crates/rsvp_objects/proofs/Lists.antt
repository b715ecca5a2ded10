-- Words of fragments, from the front and one more behind.
use Rattle.std.proofs.Common.{◌≡◌, ℕ, zero, suc, ◌+◌, ◌-◌, ◌/◌, ◌%◌, ◌^◌, ◌<◌, ◌≤◌, Bool, true, false, List, [], ◌∷◌, ◌++◌, length, length-drop, drop, refl, sym, ap, ◌∙◌, arith}
use Rattle.std.specs.Prelude.{not, ◌&&◌, ◌==◌, if◌then◌else◌}
use Rattle.std.proofs.lemmas.Bool.{ne_eqb, eqb-false}
use Rattle.std.proofs.lemmas.List.{append-nil}
use Rattle.rsvp_objects.specs.Fields.{word_at}
use Rattle.rsvp_objects.specs.Form.{words_in}
use Rattle.rsvp_objects.specs.Fragment.{service, is_broken, counted, with_break, heads, missing, marked, all_other, IsFragments}

pub words_cons : (r : List ℕ) → 4 ≤ length r → words_in r ≡ word_at 0 r ∷ words_in (drop 4 r)
unfolding words_in
words_cons [] h = absurd (omega arith)
words_cons (a ∷ []) h = absurd (omega arith)
words_cons (a ∷ b ∷ []) h = absurd (omega arith)
words_cons (a ∷ b ∷ c ∷ []) h = absurd (omega arith)
words_cons (a ∷ b ∷ c ∷ d ∷ r) h = refl

pub words_nil : (r : List ℕ) → length r < 4 → words_in r ≡ []
unfolding words_in
words_nil [] h = refl
words_nil (a ∷ []) h = refl
words_nil (a ∷ b ∷ []) h = refl
words_nil (a ∷ b ∷ c ∷ []) h = refl
words_nil (a ∷ b ∷ c ∷ d ∷ r) h = absurd (omega arith)

length_nil : (xs : List ℕ) → length xs ≡ 0 → xs ≡ []
length_nil [] h = refl
length_nil (x ∷ xs) h = absurd (omega arith)

-- ---- one list behind another

pub missing_more : (due : ℕ) (xs ys : List ℕ) → missing due (xs ++ ys) ≡ missing (missing due xs) ys
missing_more due [] ys = refl
missing_more zero (x ∷ xs) ys = missing_more (counted x) xs ys
missing_more (suc due) (x ∷ xs) ys = missing_more due xs ys

pub heads_more : (due : ℕ) (xs ys : List ℕ) → heads due (xs ++ ys) ≡ heads due xs ++ heads (missing due xs) ys
heads_more due [] ys = refl
heads_more zero (x ∷ xs) ys = ap (λ (t : List ℕ). x ∷ t) (heads_more (counted x) xs ys)
heads_more (suc due) (x ∷ xs) ys = heads_more due xs ys

and_again : (a b c : Bool) → (a && (b && c)) ≡ (a && b && c)
and_again true b c = refl
and_again false b c = refl

pub other_more : (xs ys : List ℕ) → all_other (xs ++ ys) ≡ (all_other xs && all_other ys)
other_more [] ys = refl
other_more (x ∷ xs) ys = ap (λ (b : Bool). not (service x == 1) && not (service x == 5) && b) (other_more xs ys)
    ∙ and_again (not (service x == 1) && not (service x == 5)) (all_other xs) (all_other ys)

-- ---- one word more

pub follow_missing : (kept : List ℕ) (w due : ℕ) → missing 0 kept ≡ due → 0 < due → missing 0 (kept ++ w ∷ []) ≡ due - 1
follow_missing kept w zero e h = absurd (omega arith)
follow_missing kept w (suc due) e h = missing_more 0 kept (w ∷ []) ∙ ap (λ (n : ℕ). missing n (w ∷ [])) e ∙ (let s : due ≡ suc due - 1 = omega arith in s)

pub follow_other : (kept : List ℕ) (w due : ℕ) → missing 0 kept ≡ due → 0 < due → all_other (heads 0 kept) ≡ true → all_other (heads 0 (kept ++ w ∷ [])) ≡ true
follow_other kept w zero e h o = absurd (omega arith)
follow_other kept w (suc due) e h o =
    ap all_other (heads_more 0 kept (w ∷ []))
    ∙ other_more (heads 0 kept) (heads (missing 0 kept) (w ∷ []))
    ∙ ap (λ (n : ℕ). all_other (heads 0 kept) && all_other (heads n (w ∷ []))) e
    ∙ ap (λ (b : Bool). b && true) o

pub begin_missing : (kept : List ℕ) (w : ℕ) → missing 0 kept ≡ 0 → missing 0 (kept ++ w ∷ []) ≡ counted w
begin_missing kept w e = missing_more 0 kept (w ∷ []) ∙ ap (λ (n : ℕ). missing n (w ∷ [])) e

pub begin_other : (kept : List ℕ) (w : ℕ) → missing 0 kept ≡ 0 → (service w ≡ 1 → ⊥) → (service w ≡ 5 → ⊥) → all_other (heads 0 kept) ≡ true → all_other (heads 0 (kept ++ w ∷ [])) ≡ true
begin_other kept w e one five o =
    ap all_other (heads_more 0 kept (w ∷ []))
    ∙ other_more (heads 0 kept) (heads (missing 0 kept) (w ∷ []))
    ∙ ap (λ (n : ℕ). all_other (heads 0 kept) && all_other (heads n (w ∷ []))) e
    ∙ rw (o, ne_eqb (service w) 1 one, ne_eqb (service w) 5 five) refl

-- ---- the break bit set

bit_count : (w : ℕ) (b : Bool) → counted (if b then w else w + 2 ^ 23) ≡ counted w
bit_count w true = refl
bit_count w false = omega arith

bit_service : (w : ℕ) (b : Bool) → is_broken w ≡ b → service (if b then w else w + 2 ^ 23) ≡ service w
bit_service w true e = refl
bit_service w false e = let n : w / 2 ^ 23 % 2 ≡ 1 → ⊥ = eqb-false (w / 2 ^ 23 % 2) 1 e in omega (arith, n)

same_count : (w : ℕ) → counted (with_break w) ≡ counted w
same_count w = bit_count w (is_broken w)

same_service : (w : ℕ) → service (with_break w) ≡ service w
same_service w = bit_service w (is_broken w) refl

pub marked_length : (due : ℕ) (ws : List ℕ) → length (marked due ws) ≡ length ws
marked_length due [] = refl
marked_length zero (w ∷ ws) = ap suc (marked_length (counted w) ws)
marked_length (suc due) (w ∷ ws) = ap suc (marked_length due ws)

marked_missing : (due : ℕ) (ws : List ℕ) → missing due (marked due ws) ≡ missing due ws
marked_missing due [] = refl
marked_missing zero (w ∷ ws) = ap (λ (n : ℕ). missing n (marked (counted w) ws)) (same_count w) ∙ marked_missing (counted w) ws
marked_missing (suc due) (w ∷ ws) = marked_missing due ws

marked_other : (due : ℕ) (ws : List ℕ) → all_other (heads due (marked due ws)) ≡ all_other (heads due ws)
marked_other due [] = refl
marked_other zero (w ∷ ws) =
    ap (λ (n : ℕ). not (service (with_break w) == 1) && not (service (with_break w) == 5) && all_other (heads n (marked (counted w) ws))) (same_count w)
    ∙ ap (λ (n : ℕ). not (n == 1) && not (n == 5) && all_other (heads (counted w) (marked (counted w) ws))) (same_service w)
    ∙ ap (λ (b : Bool). not (service w == 1) && not (service w == 5) && b) (marked_other (counted w) ws)
marked_other (suc due) (w ∷ ws) = marked_other due ws

pub marked_fragments : (ws : List ℕ) → IsFragments ws → IsFragments (marked 0 ws)
marked_fragments ws h =
    record {
      few = let few = h.few in let e = marked_length 0 ws in omega arith;
      whole = marked_missing 0 ws ∙ h.whole;
      other = marked_other 0 ws ∙ h.other;
    }

pub marked_follow : (due w : ℕ) (ws : List ℕ) → 0 < due → marked due (w ∷ ws) ≡ w ∷ marked (due - 1) ws
marked_follow zero w ws h = absurd (omega arith)
marked_follow (suc due) w ws h = let e : suc due - 1 ≡ due = omega arith in rw e refl

pub marked_first : (due w : ℕ) (ws : List ℕ) → due ≤ 0 → marked due (w ∷ ws) ≡ with_break w ∷ marked (counted w) ws
marked_first zero w ws h = refl
marked_first (suc due) w ws h = absurd (omega arith)

pub whole_marked : (words : List ℕ) (due k : ℕ) (ws : List ℕ) → length ws ≤ k → words ++ marked due (drop k ws) ≡ marked 0 ws → words ≡ marked 0 ws
whole_marked words due k ws h e =
    let none : drop k ws ≡ [] = length_nil (drop k ws) (let n = length-drop k ws in omega arith) in
    sym (append-nil words) ∙ ap (λ (r : List ℕ). words ++ marked due r) (sym none) ∙ e
