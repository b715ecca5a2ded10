-- Where lines end among the bytes that a reader kept and took.
use Rattle.std.proofs.Common.{◌≡◌, ◌⊎◌, ℕ, suc, ◌+◌, ◌<◌, ◌≤◌, List, [], ◌∷◌, ◌++◌, ◌==◌, not, Bool, true, false, cond, Option, None, Some, length, take, drop, refl, sym, ap, subst, ◌∙◌}
use Rattle.std.proofs.Common.{append_assoc, arith, inl, inr, length-append, ltb-true, ltb-false}
use Rattle.std.specs.Prelude.{nat_lt}
use Rattle.std.specs.List.{position, position_or_len, prefix_len}
use Rattle.std.specs.Io.KnownBytes.{Consumes}
use Rattle.std.proofs.KnownBytes.{Consumes-trans}
use Rattle.std.proofs.Math.Seq.{take-append_seam, drop-append_seam}
use Rattle.std.proofs.lemmas.List.{drop-drop}
use Rattle.std.proofs.lemmas.Bool.Decides.{eqb_tells}
use Rattle.std.proofs.lemmas.List.Splits.{slice_split_first}
use Rattle.script_words.specs.Lines.{text_lines}
use Rattle.script_words.specs.Parts.{parts_of}
use Rattle.script_words.proofs.PartLemmas.{lines_found, parts_none}
use Rattle.byte_streams.proofs.Fronts.{last_line, place_of}
use Rattle.byte_streams.specs.Streams.{Held, HasNoFeed, IsCut, Cuts, IsLast}
use Rattle.byte_streams.specs.declared.answer.NextLine.{NextLine}
use Rattle.byte_streams.specs.declared.answer.NextLine.TheVariants.{Line, End, TooLong}

-- ---- what was taken in several pieces

pub moved_more : (a b c : Option (List ℕ)) (k m n : ℕ) (x y z bs : List ℕ) → ((ts : List ℕ) × Consumes a b ts × (m ≡ k + length ts) × (y ≡ x ++ ts)) → Consumes b c bs → n ≡ m + length bs → z ≡ y ++ bs
    → (ts : List ℕ) × Consumes a c ts × (n ≡ k + length ts) × (z ≡ x ++ ts)
moved_more a b c k m n x y z bs t u e f =
    (t.0 ++ bs, Consumes-trans a b c t.0 bs t.1 u, omega (arith, e, t.2, length-append t.0 bs), f ∙ ap (λ (l : List ℕ). l ++ bs) t.3 ∙ append_assoc x t.0 bs)

pub cut_of : (a b : Option (List ℕ)) (before now : Held) (next : NextLine) (m : ℕ) (all : List ℕ) → ((ts : List ℕ) × Consumes a b ts × (m ≡ before.taken + length ts) × (all ≡ before.bytes ++ ts))
    → now.taken ≡ m → IsCut next all now → Cuts a b before next now
cut_of a b before now next m all t e cut = record { bytes = t.0; took = t.1; counted = e ∙ t.2; cut = subst (λ (l : List ℕ). IsCut next l now) t.3 cut }

-- ---- the first line feed
abbrev other : ℕ → Bool
other c = not (c == 10)

is_feed : (x : ℕ) → other x ≡ false → x ≡ 10
is_feed x t = elim (eqb_tells x 10) [
  | inl y ↦ y.1
  | inr n ↦ absurd (let z : true ≡ false = ap not (sym n.0) ∙ t in cc)
]

-- what stands before it and behind it
abbrev IsSplit : List ℕ → Type 0
IsSplit h = (front : List ℕ) × (behind : List ℕ) × (h ≡ front ++ 10 ∷ behind) × (length front ≡ prefix_len other h) × (prefix_len other front ≡ length front)

split_off : (h : List ℕ) → prefix_len other h < length h → IsSplit h
split_off [] lt = absurd (omega arith)
split_off (x ∷ xs) lt = by (other x) refl (λ l. split_off xs l) lt
  where
    by : (b : Bool) → other x ≡ b → (prefix_len other xs < length xs → IsSplit xs) → prefix_len other (x ∷ xs) < length (x ∷ xs) → IsSplit (x ∷ xs)
    by true t more l =
        let l' : 1 + prefix_len other xs < length (x ∷ xs) = rw t at l in
        let p = more (omega (arith, l')) in
        let behind : prefix_len other (x ∷ xs) ≡ 1 + prefix_len other xs = ap (λ c. cond c (1 + prefix_len other xs) 0) t in
        let front : prefix_len other (x ∷ p.0) ≡ 1 + prefix_len other p.0 = ap (λ c. cond c (1 + prefix_len other p.0) 0) t in
        let many : suc (length p.0) ≡ prefix_len other (x ∷ xs) = omega (arith, p.3, behind) in
        let all : prefix_len other (x ∷ p.0) ≡ suc (length p.0) = omega (arith, p.4, front) in
        (x ∷ p.0, p.1, ap (λ (ys : List ℕ). x ∷ ys) p.2, many, all)
    by false t more l = ([], xs, ap (λ c. c ∷ xs) (is_feed x t), rw t refl, refl)

none_passes : (h : List ℕ) → prefix_len other h ≡ length h → HasNoFeed h
none_passes h e = by (nat_lt (prefix_len other h) (length h)) refl
  where
    by : (b : Bool) → nat_lt (prefix_len other h) (length h) ≡ b → HasNoFeed h
    by true t = absurd (let l = ltb-true (prefix_len other h) (length h) t in omega (arith, l, e))
    by false t = rw t refl

-- a whole line and what stands behind it
pub line_split : (h : List ℕ) (n : ℕ) → position (λ c. c == 10) h ≡ Some n → (h ≡ take n h ++ 10 ∷ drop (n + 1) h) × HasNoFeed (take n h)
line_split h n e =
    let at = place_of h n e in
    let s = split_off h (omega (arith, at.0, at.1)) in
    let many : length s.0 ≡ n = s.3 ∙ sym at.0 in
    let front : take n h ≡ s.0 = ap (λ m. take m h) (sym many) ∙ ap (take (length s.0)) s.2 ∙ take-append_seam s.0 (10 ∷ s.1) in
    let joined : h ≡ (s.0 ++ 10 ∷ []) ++ s.1 = s.2 ∙ sym (append_assoc s.0 (10 ∷ []) s.1) in
    let more : n + 1 ≡ length (s.0 ++ 10 ∷ []) = omega (arith, many, length-append s.0 (10 ∷ [])) in
    let behind : drop (n + 1) h ≡ s.1 = ap (λ m. drop m h) more ∙ ap (drop (length (s.0 ++ 10 ∷ []))) joined ∙ drop-append_seam (s.0 ++ 10 ∷ []) s.1 in
    (s.2 ∙ ap (λ (l : List ℕ). l ++ 10 ∷ s.1) (sym front) ∙ ap (λ (l : List ℕ). take n h ++ 10 ∷ l) (sym behind), subst HasNoFeed (sym front) (none_passes s.0 s.4))

-- the line that is taken off bytes of which some were given before
pub taken_whole : (kept : List ℕ) (at n : ℕ) → position (λ c. c == 10) (drop at kept) ≡ Some n
    → (drop at kept ≡ take n (drop at kept) ++ 10 ∷ drop (at + (n + 1)) kept) × HasNoFeed (take n (drop at kept))
taken_whole kept at n e =
    let s = line_split (drop at kept) n e in
    (s.0 ∙ ap (λ (l : List ℕ). take n (drop at kept) ++ 10 ∷ l) (drop-drop (n + 1) at kept), s.1)

-- one byte more than those that have no line feed
one_byte : (bs : List ℕ) → 1 ≡ length bs → (x : ℕ) × (bs ≡ x ∷ [])
one_byte [] e = absurd (omega (arith, e))
one_byte (x ∷ []) e = (x, refl)
one_byte (x ∷ y ∷ ys) e = absurd (omega (arith, e))

pub one_too_many : (all front bs : List ℕ) (n : ℕ) (now : Held) → n ≡ 1 → n ≡ length bs → HasNoFeed front → all ≡ front ++ bs → now.bytes ≡ all → IsCut TooLong all now
one_too_many all front bs n now one many none is kept =
    let x = one_byte bs (sym one ∙ many) in
    (front, x.0, is ∙ ap (λ (l : List ℕ). front ++ l) x.1, none, kept)

-- ---- a line in front of others
all_other : (line : List ℕ) → HasNoFeed line → length line ≤ prefix_len other line
all_other line e = by (nat_lt (prefix_len other line) (length line)) refl
  where
    by : (b : Bool) → nat_lt (prefix_len other line) (length line) ≡ b → length line ≤ prefix_len other line
    by true t = absurd (let z : Some (prefix_len other line) ≡ None = rw t at e in cc)
    by false t = ltb-false (prefix_len other line) (length line) t

feed_at : (line rest : List ℕ) → length line ≤ prefix_len other line → prefix_len other (line ++ 10 ∷ rest) ≡ length line
feed_at [] rest le = refl
feed_at (x ∷ xs) rest le = by (other x) refl (λ l. feed_at xs rest l) le
  where
    by : (b : Bool) → other x ≡ b → (length xs ≤ prefix_len other xs → prefix_len other (xs ++ 10 ∷ rest) ≡ length xs) → length (x ∷ xs) ≤ prefix_len other (x ∷ xs)
        → prefix_len other (x ∷ (xs ++ 10 ∷ rest)) ≡ length (x ∷ xs)
    by true t more l =
        let l' : length (x ∷ xs) ≤ 1 + prefix_len other xs = rw t at l in
        let m = more (omega (arith, l')) in
        rw t (let s : 1 + prefix_len other (xs ++ 10 ∷ rest) ≡ suc (length xs) = omega (arith, m) in s)
    by false t more l = let l' : length (x ∷ xs) ≤ 0 = rw t at l in absurd (omega (arith, l'))

-- a line feed ends the first part
pub part_on : (line rest : List ℕ) → HasNoFeed line → parts_of 10 (line ++ 10 ∷ rest) ≡ line ∷ parts_of 10 rest
part_on line rest e =
    let text = line ++ 10 ∷ rest in
    let at : prefix_len other text ≡ length line = feed_at line rest (all_other line e) in
    let less : position_or_len (λ c. c == 10) text < length text = omega (arith, at, length-append line (10 ∷ rest)) in
    let joined : text ≡ (line ++ 10 ∷ []) ++ rest = sym (append_assoc line (10 ∷ []) rest) in
    let more : length line + 1 ≡ length (line ++ 10 ∷ []) = omega (arith, length-append line (10 ∷ [])) in
    let front : take (length line) text ≡ line = take-append_seam line (10 ∷ rest) in
    let behind : drop (length line + 1) text ≡ rest = ap (λ m. drop m text) more ∙ ap (drop (length (line ++ 10 ∷ []))) joined ∙ drop-append_seam (line ++ 10 ∷ []) rest in
    slice_split_first (λ c. c == 10) text 0 less ∙ ap (λ m. take m text ∷ parts_of 10 (drop (m + 1) text)) at ∙ ap (λ (l : List ℕ). l ∷ parts_of 10 (drop (length line + 1) text)) front
    ∙ ap (λ (l : List ℕ). line ∷ parts_of 10 l) behind

pub line_on : (line rest : List ℕ) → HasNoFeed line → text_lines (line ++ 10 ∷ rest) ≡ line ∷ text_lines rest
line_on line rest e = lines_found (line ++ 10 ∷ rest) line rest (part_on line rest e)

-- without a line feed there is one part
pub part_end : (bytes : List ℕ) → HasNoFeed bytes → parts_of 10 bytes ≡ bytes ∷ []
part_end bytes e = parts_none 10 bytes e

pub line_end : (line : List ℕ) → HasNoFeed line → 0 < length line → text_lines line ≡ line ∷ []
line_end line e some = last_line line e some

-- ---- what the last piece is
pub last_cut : (all : List ℕ) (now : Held) (result : NextLine) → (result ≡ Line) ⊎ (result ≡ End) → (result ≡ Line → (now.line ≡ all) × (0 < length all)) → (result ≡ Line → now.bytes ≡ [])
    → (result ≡ End → (all ≡ []) × (now.bytes ≡ []))
    → now.ended ≡ Some End → HasNoFeed all → IsCut result all now
last_cut all now result which line none end ended part = elim which [
  | inl e ↦ (
      let whole = line e in
      let is : IsLast all now = record {
        ended = ended;
        bytes = sym whole.0;
        none = none e;
        some = subst (λ (l : List ℕ). 0 < length l) (sym whole.0) whole.1;
        line = subst HasNoFeed
            (sym whole.0) part;
      } in
      subst (λ r. IsCut r all now) (sym e) (inr is))
  | inr e ↦ subst (λ r. IsCut r all now) (sym e) (end e)
]

pub one_more_ends : (h : Held) (answer : NextLine) (n : ℕ) → h.ended ≡ Some answer → (h.ended ≡ None) ⊎ ((h.ended ≡ Some TooLong) × (n ≡ 1)) → (TooLong ≡ answer) × (n ≡ 1)
one_more_ends h answer n is many = elim many [
  | inl e ↦ absurd (let z : None ≡ Some answer = sym e ∙ is in cc)
  | inr e ↦ (let z : Some TooLong ≡ Some answer = sym e.0 ∙ is in (cc, e.1))
]
