-- Lines with their line feeds.
use Rattle.std.proofs.Common.{◌≡◌, ℕ, ◌<◌, List, [], ◌∷◌, ◌++◌, ◌==◌, length, refl, sym, ap, ◌∙◌, append_assoc, append-nil, arith}
use Rattle.std.proofs.lemmas.List.Splits.{length-slice_split}
use Rattle.script_words.specs.Lines.{text_lines}
use Rattle.script_words.specs.Parts.{parts_of}
use Rattle.byte_streams.specs.Streams.{HasNoFeed}
use Rattle.byte_streams.proofs.Cutting.{line_on, part_end, part_on}
use Rattle.byte_streams.specs.Lines.{with_feeds, without_last, whole_lines}

-- none of them has a line feed within
abbrev pub NoFeeds : List (List ℕ) → Type 0
NoFeeds [] = Unit {0}
NoFeeds (line ∷ lines) = HasNoFeed line × NoFeeds lines

pub feeds_more : (lines : List (List ℕ)) (line : List ℕ) → NoFeeds lines → HasNoFeed line → NoFeeds (lines ++ line ∷ [])
feeds_more [] line none one = (one, tt)
feeds_more (l ∷ ls) line none one = (none.0, feeds_more ls line none.1 one)

pub with_more : (lines : List (List ℕ)) (line rest : List ℕ) → with_feeds lines ++ (line ++ 10 ∷ rest) ≡ with_feeds (lines ++ line ∷ []) ++ rest
with_more [] line rest = sym (append_assoc line (10 ∷ []) rest)
with_more (l ∷ ls) line rest =
    append_assoc l (10 ∷ with_feeds ls) (line ++ 10 ∷ rest) ∙ ap (λ (t : List ℕ). l ++ 10 ∷ t) (with_more ls line rest) ∙ sym (append_assoc l (10 ∷ with_feeds (ls ++ line ∷ [])) rest)

-- lines in front of bytes are the first lines of all
pub lines_before : (lines : List (List ℕ)) (rest : List ℕ) → NoFeeds lines → text_lines (with_feeds lines ++ rest) ≡ lines ++ text_lines rest
lines_before [] rest none = refl
lines_before (l ∷ ls) rest none = ap text_lines (append_assoc l (10 ∷ with_feeds ls) rest) ∙ line_on l (with_feeds ls ++ rest) none.0
    ∙ ap (λ (xs : List (List ℕ)). l ∷ xs) (lines_before ls rest none.1)

keep_first : (line : List ℕ) (parts : List (List ℕ)) → 0 < length parts → without_last (line ∷ parts) ≡ line ∷ without_last parts
keep_first line [] h = absurd (omega arith)
keep_first line (part ∷ parts) h = refl

pub whole_before : (lines : List (List ℕ)) (rest : List ℕ) → NoFeeds lines → whole_lines (with_feeds lines ++ rest) ≡ lines ++ whole_lines rest
whole_before [] rest none = refl
whole_before (l ∷ ls) rest none =
    ap whole_lines (append_assoc l (10 ∷ with_feeds ls) rest) ∙ ap without_last (part_on l (with_feeds ls ++ rest) none.0)
    ∙ keep_first l (parts_of 10 (with_feeds ls ++ rest)) (omega (arith, length-slice_split (λ c. c == 10) (with_feeds ls ++ rest))) ∙ ap (λ (xs : List (List ℕ)). l ∷ xs) (whole_before ls rest none.1)

-- no line stands whole where there is no line feed
pub whole_none : (rest : List ℕ) → HasNoFeed rest → whole_lines rest ≡ []
whole_none rest none = ap without_last (part_end rest none)

pub whole_all : (lines : List (List ℕ)) (rest : List ℕ) → NoFeeds lines → HasNoFeed rest → whole_lines (with_feeds lines ++ rest) ≡ lines
whole_all lines rest none last = whole_before lines rest none ∙ ap (λ (xs : List (List ℕ)). lines ++ xs) (whole_none rest last) ∙ append-nil lines
