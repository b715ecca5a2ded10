-- Texts in words and lines: they are read as they were put together.
use Rattle.std.proofs.Common.{◌≡◌, ℕ, zero, suc, ◌+◌, ◌-◌, ◌<◌, List, [], ◌∷◌, ◌++◌, Bool, true, false, not, ◌==◌, cond, length, take, refl, sym, ap, subst, ◌∙◌, arith, inl, inr}
use Rattle.std.proofs.Common.{append_assoc, ltb-true, lt-ltb, ne_eqb, eq-eqb}
use Rattle.std.specs.Prelude.{nat_lt, filter}
use Rattle.std.specs.List.{list_all, flat_map, onto_first}
use Rattle.std.proofs.Math.Seq.{take-append-add}
use Rattle.std.proofs.lemmas.Bool.Decides.{leb_tells}
use Rattle.std.proofs.lemmas.List.{take-append-le}
use Rattle.std.proofs.lemmas.List.Splits.{slice_split-cons_no, slice_split-cons_yes}
use Rattle.rsvp_base.specs.Members.{In}
use Rattle.rsvp_base.proofs.SetLaws.{and_both, and_made}
use Rattle.script_words.specs.Lines.{text_lines, without_empty_last}
use Rattle.script_words.specs.Parts.{parts_of}
use Rattle.script_words.specs.Words.{words_of}
use Rattle.script_words.proofs.PartLemmas.{lines_found, some_parts}
use Rattle.script_run.specs.Lines.{whole_lines, with_feeds, without_last}
use Rattle.laws_texts.specs.Reading.{IsWithin, TellsWithinCapacity}
use Rattle.laws_texts.proofs.Bytes.{is_visible, lacks, weaker}

-- ---- parts
is_not : (b : Bool) → not b ≡ true → b ≡ false
is_not true h = absurd (cc)
is_not false h = refl

module _ (c : ℕ) where
  pub alone : (xs : List ℕ) → lacks c xs ≡ true → parts_of c xs ≡ xs ∷ []
  alone [] h = refl
  alone (x ∷ xs) h =
      let b = and_both (not (x == c)) (lacks c xs) h in
      slice_split-cons_no (λ y. y == c) x xs (is_not (x == c) b.0) ∙ ap (onto_first x) (alone xs b.1)

  pub in_front : (xs ys : List ℕ) → lacks c xs ≡ true → parts_of c (xs ++ c ∷ ys) ≡ xs ∷ parts_of c ys
  in_front [] ys h = slice_split-cons_yes (λ y. y == c) c ys (eq-eqb c c refl)
  in_front (x ∷ xs) ys h =
      let b = and_both (not (x == c)) (lacks c xs) h in
      slice_split-cons_no (λ y. y == c) x (xs ++ c ∷ ys) (is_not (x == c) b.0) ∙ ap (onto_first x) (in_front xs ys b.1)

  -- no part has a separator
  pub AllLack : List (List ℕ) → Type 0
  AllLack [] = Unit {0}
  AllLack (part ∷ parts) = (lacks c part ≡ true) × AllLack parts

  onto_lacks : (x : ℕ) (parts : List (List ℕ)) → not (x == c) ≡ true → AllLack parts → AllLack (onto_first x parts)
  unfolding AllLack
  onto_lacks x [] h a = (and_made (not (x == c)) true h refl, tt)
  onto_lacks x (part ∷ parts) h a = (and_made (not (x == c)) (lacks c part) h a.0, a.1)

  pub parts_lack : (xs : List ℕ) → AllLack (parts_of c xs)
  unfolding AllLack
  parts_lack [] = (refl, tt)
  parts_lack (x ∷ xs) = by (x == c) refl (parts_lack xs)
    where
      by : (b : Bool) → x == c ≡ b → AllLack (parts_of c xs) → AllLack (cond b ([] ∷ parts_of c xs) (onto_first x (parts_of c xs)))
      by true e a = (refl, a)
      by false e a = onto_lacks x (parts_of c xs) (ap not e) a

-- ---- words
differs : (n c : ℕ) → n < 33 → is_visible c ≡ true → not (c == n) ≡ true
differs n c low h = let high = ltb-true 32 c h in ap not (ne_eqb c n (λ e. omega (arith, high, low, e)))

pub no_space : (xs : List ℕ) → list_all is_visible xs ≡ true → lacks 32 xs ≡ true
no_space = weaker is_visible (λ c. not (c == 32)) (λ c h. differs 32 c (omega arith) h)

pub no_feed : (xs : List ℕ) → list_all is_visible xs ≡ true → lacks 10 xs ≡ true
no_feed = weaker is_visible (λ c. not (c == 10)) (λ c h. differs 10 c (omega arith) h)

kept : (word : List ℕ) (words : List (List ℕ)) → 0 < length word → filter (λ w. nat_lt 0 (length w)) (word ∷ words) ≡ word ∷ filter (λ w. nat_lt 0 (length w)) words
kept word words some = ap (λ (b : Bool). cond b (word ∷ filter (λ w. nat_lt 0 (length w)) words) (filter (λ w. nat_lt 0 (length w)) words)) (lt-ltb 0 (length word) some)

pub word_first : (word rest : List ℕ) → 0 < length word → list_all is_visible word ≡ true → words_of (word ++ 32 ∷ rest) ≡ word ∷ words_of rest
word_first word rest some h = ap (filter (λ w. nat_lt 0 (length w))) (in_front 32 word rest (no_space word h)) ∙ kept word (parts_of 32 rest) some

pub word_last : (word : List ℕ) → 0 < length word → list_all is_visible word ≡ true → words_of word ≡ word ∷ []
word_last word some h = ap (filter (λ w. nat_lt 0 (length w))) (alone 32 word (no_space word h)) ∙ kept word [] some

-- ---- lines
keep_first : (line : List ℕ) (parts : List (List ℕ)) → 0 < length parts → without_last (line ∷ parts) ≡ line ∷ without_last parts
keep_first line [] h = absurd (omega arith)
keep_first line (part ∷ parts) h = refl

pub line_first : (line rest : List ℕ) → lacks 10 line ≡ true → whole_lines (line ++ 10 ∷ rest) ≡ line ∷ whole_lines rest
line_first line rest h = ap without_last (in_front 10 line rest h) ∙ keep_first line (parts_of 10 rest) (some_parts 10 rest)

pub no_line : (rest : List ℕ) → lacks 10 rest ≡ true → whole_lines rest ≡ []
no_line rest h = ap without_last (alone 10 rest h)

-- lines with their feeds are these lines
pub lines_again : (lines : List (List ℕ)) → AllLack 10 lines → text_lines (with_feeds lines) ≡ lines
unfolding AllLack
lines_again [] h = refl
lines_again (line ∷ lines) h = lines_found (line ++ 10 ∷ with_feeds lines) line (with_feeds lines) (in_front 10 line (with_feeds lines) h.0)
    ∙ ap (λ (ls : List (List ℕ)). line ∷ ls) (lines_again lines h.1)

pub whole_lack : (parts : List (List ℕ)) → AllLack 10 parts → AllLack 10 (without_last parts)
unfolding AllLack
whole_lack [] h = tt
whole_lack (last ∷ []) h = tt
whole_lack (line ∷ next ∷ more) h = (h.0, whole_lack (next ∷ more) h.1)

one_lacks : (b : Bool) (last : List ℕ) → lacks 10 last ≡ true → AllLack 10 (cond b [] (last ∷ []))
unfolding AllLack
one_lacks true last h = tt
one_lacks false last h = (h, tt)

pub lines_lack : (parts : List (List ℕ)) → AllLack 10 parts → AllLack 10 (without_empty_last parts)
unfolding AllLack
lines_lack [] h = tt
lines_lack (last ∷ []) h = one_lacks (length last == 0) last h.0
lines_lack (line ∷ next ∷ more) h = (h.0, lines_lack (next ∷ more) h.1)

pub front_lacks : (before after : List (List ℕ)) → AllLack 10 (before ++ after) → AllLack 10 before
unfolding AllLack
front_lacks [] after h = tt
front_lacks (line ∷ before) after h = (h.0, front_lacks before after h.1)

-- ---- a text of lines, each of which is fine
pub AreFine : List (List ℕ) → Type 0
AreFine [] = Unit {0}
AreFine (line ∷ lines) = (lacks 10 line ≡ true) × IsWithin line × AreFine lines

pub record IsTold (text : List ℕ) : Type 0 where
  pub lines : List (List ℕ)
  pub is : text ≡ with_feeds lines
  pub fine : AreFine lines

pub told_none : IsTold []
unfolding AreFine
told_none = record { lines = []; is = refl; fine = tt }

pub told_line : (text line : List ℕ) → text ≡ line ++ 10 ∷ [] → lacks 10 line ≡ true → IsWithin line → IsTold text
unfolding AreFine
told_line text line e lack within = record { lines = line ∷ []; is = e; fine = (lack, within, tt) }

fine_both : (xs ys : List (List ℕ)) → AreFine xs → AreFine ys → AreFine (xs ++ ys)
unfolding AreFine
fine_both [] ys h k = k
fine_both (x ∷ xs) ys h k = (h.0, h.1, fine_both xs ys h.2 k)

feeds_both : (xs ys : List (List ℕ)) → with_feeds (xs ++ ys) ≡ with_feeds xs ++ with_feeds ys
feeds_both [] ys = refl
feeds_both (x ∷ xs) ys = ap (λ (t : List ℕ). x ++ 10 ∷ t) (feeds_both xs ys) ∙ sym (append_assoc x (10 ∷ with_feeds xs) (with_feeds ys))

pub told_both : (a b : List ℕ) → IsTold a → IsTold b → IsTold (a ++ b)
told_both a b x y = record {
  lines = x.lines ++ y.lines;
  is = ap (λ (t : List ℕ). t ++ b) x.is ∙ ap (λ (t : List ℕ). with_feeds x.lines ++ t) y.is ∙ sym (feeds_both x.lines y.lines);
  fine = fine_both x.lines y.lines x.fine y.fine;
}

pub told_each : {A : Type 0} (f : A → List ℕ) → ((x : A) → IsTold (f x)) → (xs : List A) → IsTold (flat_map f xs)
told_each f each [] = told_none
told_each f each (x ∷ xs) = told_both (f x) (flat_map f xs) (each x) (told_each f each xs)

-- ---- its first bytes
all_taken : (test : ℕ → Bool) (n : ℕ) (xs : List ℕ) → list_all test xs ≡ true → list_all test (take n xs) ≡ true
all_taken test zero xs h = refl
all_taken test (suc n) [] h = refl
all_taken test (suc n) (x ∷ xs) h = let b = and_both (test x) (list_all test xs) h in and_made (test x) (list_all test (take n xs)) b.0 (all_taken test n xs b.1)

none_taken : (n : ℕ) → take {A = ℕ} n [] ≡ []
none_taken zero = refl
none_taken (suc n) = refl

tells_front : (lines : List (List ℕ)) (n : ℕ) → AreFine lines → TellsWithinCapacity (take n (with_feeds lines))
unfolding AreFine
tells_front [] n h = λ line i. absurd (subst (λ (t : List ℕ). In line (whole_lines t)) (none_taken n) i)
tells_front (l ∷ ls) n h = λ line i. elim (leb_tells n (length l)) [
  | inl few ↦ (let part : take n (l ++ 10 ∷ with_feeds ls) ≡ take n l = take-append-le n l (10 ∷ with_feeds ls) few.1 in
      let none = ap whole_lines part ∙ no_line (take n l) (all_taken (λ x. not (x == 10)) n l h.0) in
      absurd (subst (λ (xs : List (List ℕ)). In line xs) none i))
  | inr many ↦ (let m : ℕ = n - length l - 1 in
      let size : n ≡ length l + suc m = omega (arith, many.1) in
      let part : take n (l ++ 10 ∷ with_feeds ls) ≡ l ++ 10 ∷ take m (with_feeds ls) = ap (λ (k : ℕ). take k (l ++ 10 ∷ with_feeds ls)) size ∙ take-append-add l (10 ∷ with_feeds ls) (suc m) in
      let first = ap whole_lines part ∙ line_first l (take m (with_feeds ls)) h.0 in
      by line (take m (with_feeds ls)) (tells_front ls m h.2 line) (subst (λ (xs : List (List ℕ)). In line xs) first i))
]
  where
    by : (line rest : List ℕ) → (In line (whole_lines rest) → IsWithin line) → In line (l ∷ whole_lines rest) → IsWithin line
    by line rest more (inl e) = subst IsWithin (sym e) h.1
    by line rest more (inr j) = more j

pub told_front : (text : List ℕ) (n : ℕ) → IsTold text → TellsWithinCapacity (take n text)
told_front text n t = subst (λ (z : List ℕ). TellsWithinCapacity (take n z)) (sym t.is) (tells_front t.lines n t.fine)
