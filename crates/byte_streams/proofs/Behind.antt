-- The lines that were run, among the bytes that were taken.
use Rattle.std.proofs.Common.{◌≡◌, ◌≢◌, ◌⊎◌, ℕ, suc, ◌+◌, ◌-◌, ◌^◌, ◌<◌, ◌≤◌, min, List, [], ◌∷◌, ◌++◌, Option, None, Some, length, take, refl, sym, ap, subst, ◌∙◌, append_assoc}
use Rattle.std.proofs.Common.{append-nil, arith, inl, inr, length-append}
use Rattle.std.specs.Io.KnownBytes.{Consumes, IsAtEnd}
use Rattle.std.proofs.KnownBytes.{Consumes-nil, Consumes-trans}
use Rattle.std.proofs.Math.Seq.{take-append_seam}
use Rattle.byte_streams.specs.Reading.{most_bytes}
use Rattle.script_words.specs.Lines.{line_number, text_lines}
use Rattle.byte_streams.specs.Streams.{Cuts, Held, IsFirst, IsLast, at_first}
use Rattle.byte_streams.specs.declared.answer.NextLine.{NextLine}
use Rattle.byte_streams.specs.declared.answer.NextLine.TheVariants as next
use Rattle.byte_streams.proofs.Cutting.{line_end}
use Rattle.byte_streams.specs.Lines.{IsNear, all_bytes, with_feeds, whole_lines}
use Rattle.byte_streams.proofs.Feeds.{NoFeeds, feeds_more, lines_before, whole_all, with_more}

-- ---- where a reader stands that gave these lines, of a source of which this was taken and this is left
-- each line was whole
pub record IsOpen (reader : Held) (before : List (List ℕ)) (taken : List ℕ) : Type 0 where
  pub going : reader.ended ≡ None
  pub is : taken ≡ with_feeds before ++ reader.bytes
  pub lines : NoFeeds before

-- the last one lacked its line feed, and nothing is left
pub record IsSpent (left : Option (List ℕ)) (reader : Held) (before : List (List ℕ)) (taken : List ℕ) : Type 0 where
  pub ended : reader.ended ≡ Some next.End
  pub none : reader.bytes ≡ []
  pub done : IsAtEnd left
  pub is : text_lines taken ≡ before

pub record IsBehind (old left : Option (List ℕ)) (reader : Held) (before : List (List ℕ)) (taken : List ℕ) : Type 0 where
  pub took : Consumes old left taken
  pub counted : reader.taken ≡ length taken
  pub numbered : reader.number ≡ min (length before) (2 ^ 32 - 1)
  pub stands : IsOpen reader before taken ⊎ IsSpent left reader before taken

-- ---- at first
pub behind_nothing : (a : Option (List ℕ)) (r : Held) → r ≡ at_first → IsBehind a a r [] []
behind_nothing a r e = record {
  took = Consumes-nil a;
  counted = ap (λ (h : Held). h.taken) e;
  numbered = ap (λ (h : Held). h.number) e;
  stands = inl (record { going = ap (λ (h : Held). h.ended) e; is = sym (ap (λ (h : Held). h.bytes) e); lines = tt });
}

-- ---- an answer that is no `End` comes of a reader that is open
going_on : (answer : NextLine) (old : Option NextLine) → (old ≢ None → old ≡ Some answer) → answer ≢ next.End → old ≡ Some next.End → ⊥
going_on answer old again other e =
    let some : old ≢ None = λ n. let z : Some next.End ≡ None = sym e ∙ n in cc in
    let z : Some answer ≡ Some next.End = sym (again some) ∙ e in
    other (let y : answer ≡ next.End = cc in y)

pub is_open : (old left : Option (List ℕ)) (r : Held) (before : List (List ℕ)) (taken : List ℕ) (answer : NextLine) → IsBehind old left r before taken → (r.ended ≢ None → r.ended ≡ Some answer)
    → answer ≢ next.End → IsOpen r before taken
is_open old left r before taken answer b again other = elim b.stands [
  | inl o ↦ o
  | inr s ↦ absurd (going_on answer r.ended again other s.ended)
]

-- ---- bytes that are left
all_with : (taken : List ℕ) (left : Option (List ℕ)) → (rest : List ℕ) × (all_bytes taken left ≡ taken ++ rest)
all_with taken None = ([], sym (append-nil taken))
all_with taken (Some left) = (left, refl)

pub all_taken : (taken : List ℕ) (left : Option (List ℕ)) → IsAtEnd left → all_bytes taken left ≡ taken
all_taken taken None end = refl
all_taken taken (Some left) end = ap (λ (l : List ℕ). taken ++ l) end ∙ append-nil taken

falls : (t k u n : ℕ) → (t - k) + n < u → u ≤ most_bytes → most_bytes - (u - n) < most_bytes - (t - k)
falls t k u n lt le = omega (arith, lt, le)

count_on : (a m : ℕ) → min (min a m + 1) m ≡ min (a + 1) m
count_on a m = omega arith

-- ---- what came next, and what was taken by then
-- these lines are the first of the bytes that were taken
abbrev pub Begins : List (List ℕ) → List ℕ → Type 0
Begins before taken = (after : List (List ℕ)) × (text_lines taken ≡ before ++ after)

pub begins : (old left : Option (List ℕ)) (r : Held) (before : List (List ℕ)) (taken : List ℕ) → IsBehind old left r before taken → Begins before taken
begins old left r before taken b = elim b.stands [
  | inl o ↦ (text_lines r.bytes, ap text_lines o.is ∙ lines_before before r.bytes o.lines)
  | inr s ↦ ([], s.is ∙ sym (append-nil before))
]

-- the line is the next behind those before
pub record IsLineAt (bytes taken : List ℕ) (before : List (List ℕ)) (line : List ℕ) : Type 0 where
  pub after : List (List ℕ)
  pub parts : text_lines bytes ≡ before ++ line ∷ after
  pub near : IsNear taken before

-- a line, which stands behind those before
pub record HasLine (old new : Option (List ℕ)) (now : Held) (before : List (List ℕ)) : Type 0 where
  pub taken : List ℕ
  pub at : IsLineAt (all_bytes taken new) taken before now.line
  pub behind : IsBehind old new now (before ++ now.line ∷ []) taken

-- one that is too long
pub record HasLong (old new : Option (List ℕ)) (now : Held) (before : List (List ℕ)) : Type 0 where
  pub taken : List ℕ
  pub took : Consumes old new taken
  pub counted : now.taken ≡ length taken
  pub begins : Begins before taken
  pub line : List ℕ
  pub at : IsLineAt (all_bytes taken new) taken before line
  pub long : 2048 < length line
  pub numbered : now.number ≡ line_number (length before)

-- none, and all lines were these
pub record HasEnd (old new : Option (List ℕ)) (now : Held) (before : List (List ℕ)) : Type 0 where
  pub taken : List ℕ
  pub took : Consumes old new taken
  pub counted : now.taken ≡ length taken
  pub all : taken ≡ all_bytes taken new
  pub lines : text_lines (all_bytes taken new) ≡ before

-- none, and of those taken these were whole
pub record HasWhole (old new : Option (List ℕ)) (now : Held) (before : List (List ℕ)) : Type 0 where
  pub taken : List ℕ
  pub took : Consumes old new taken
  pub counted : now.taken ≡ length taken
  pub begins : Begins before taken
  pub lines : whole_lines taken ≡ before

-- none, since one byte too many was taken; of those before it these were whole
pub record HasMany (old new : Option (List ℕ)) (now : Held) (before : List (List ℕ)) : Type 0 where
  pub taken : List ℕ
  pub took : Consumes old new taken
  pub counted : now.taken ≡ length taken
  pub begins : Begins before taken
  pub lines : whole_lines (take most_bytes taken) ≡ before

module _ (old mid new : Option (List ℕ)) (r now : Held) (before : List (List ℕ)) (taken : List ℕ) (b : IsBehind old mid r before taken) where
  -- what was taken with a piece more
  module _ (answer : NextLine) (c : Cuts mid new r answer now) where
    took_on : Consumes old new (taken ++ c.bytes)
    took_on = Consumes-trans old mid new taken c.bytes b.took c.took

    counted_on : now.taken ≡ length (taken ++ c.bytes)
    counted_on = omega (arith, c.counted, b.counted, length-append taken c.bytes)

    joined : IsOpen r before taken → taken ++ c.bytes ≡ with_feeds before ++ (r.bytes ++ c.bytes)
    joined o = ap (λ (t : List ℕ). t ++ c.bytes) o.is ∙ append_assoc (with_feeds before) r.bytes c.bytes

    begins_on : IsOpen r before taken → Begins before (taken ++ c.bytes)
    begins_on o = (text_lines (r.bytes ++ c.bytes), ap text_lines (joined o) ∙ lines_before before (r.bytes ++ c.bytes) o.lines)

  -- a whole line
  whole_came : (c : Cuts mid new r next.Line now) → IsOpen r before taken → length now.line + length now.bytes < 8192 → now.number ≡ line_number r.number → IsFirst (r.bytes ++ c.bytes) now
      → HasLine old new now before
  whole_came c o near number f =
      let line = now.line in
      let all = taken ++ c.bytes in
      let is : all ≡ with_feeds before ++ (line ++ 10 ∷ now.bytes) = joined next.Line c o ∙ ap (λ (t : List ℕ). with_feeds before ++ t) f.bytes in
      let on : all ≡ with_feeds (before ++ line ∷ []) ++ now.bytes = is ∙ with_more before line now.bytes in
      let none = feeds_more before line o.lines f.line in
      let rest = all_with all new in
      let parts = ap text_lines (rest.1 ∙ ap (λ (t : List ℕ). t ++ rest.0) on ∙ append_assoc (with_feeds (before ++ line ∷ [])) now.bytes rest.0)
      ∙ lines_before (before ++ line ∷ []) (now.bytes ++ rest.0) none ∙ append_assoc before (line ∷ []) (text_lines (now.bytes ++ rest.0)) in
      record {
        taken = all;
        at = record {
          after = text_lines (now.bytes ++ rest.0);
          parts = parts;
          near = record {
            more = line ++ 10 ∷ now.bytes;
            taken_is = is;
            few = omega
                (arith, near, length-append line (10 ∷ now.bytes));
          };
        };
        behind = record {
          took = took_on next.Line c;
          counted = counted_on next.Line c;
          numbered = number ∙ ap line_number b.numbered ∙ count_on (length before) (2 ^ 32 - 1)
              ∙ ap (λ n. min n (2 ^ 32 - 1)) (let s : length before + 1 ≡ length (before ++ line ∷ []) = omega (arith, length-append before (line ∷ [])) in s);
          stands = inl (record { going = f.going; is = on; lines = none });
        };
      }

  -- the last line, without its line feed
  last_came : (c : Cuts mid new r next.Line now) → IsOpen r before taken → length now.line + length now.bytes < 8192 → now.number ≡ line_number r.number → IsAtEnd new
      → IsLast (r.bytes ++ c.bytes) now → HasLine old new now before
  last_came c o near number end f =
      let line = now.line in
      let all = taken ++ c.bytes in
      let is : all ≡ with_feeds before ++ line = joined next.Line c o ∙ ap (λ (t : List ℕ). with_feeds before ++ t) f.bytes in
      let lines : text_lines all ≡ before ++ line ∷ [] = ap text_lines is ∙ lines_before before line o.lines ∙ ap (λ (xs : List (List ℕ)). before ++ xs) (line_end line f.line f.some) in
      record {
        taken = all;
        at = record { after = []; parts = ap text_lines (all_taken all new end) ∙ lines; near = record { more = line; taken_is = is; few = omega (arith, near) } };
        behind = record {
          took = took_on next.Line c;
          counted = counted_on next.Line c;
          numbered = number ∙ ap line_number b.numbered ∙ count_on (length before) (2 ^ 32 - 1)
              ∙ ap (λ n. min n (2 ^ 32 - 1)) (let s : length before + 1 ≡ length (before ++ line ∷ []) = omega (arith, length-append before (line ∷ [])) in s);
          stands = inr (record { ended = f.ended; none = f.none; done = end; is = lines });
        };
      }

  pub line_came : (r.ended ≢ None → r.ended ≡ Some next.Line) → (r.ended ≡ None → Cuts mid new r next.Line now) → length now.line + length now.bytes < 8192
      → (r.ended ≡ None → now.number ≡ line_number r.number) → (now.ended ≡ Some next.End → IsAtEnd new × (now.bytes ≡ [])) → HasLine old new now before
  line_came again cuts near number end =
      let other : next.Line ≢ next.End = λ e. cc in
      let o = is_open old mid r before taken next.Line b again other in
      let c = cuts o.going in
      elim c.cut [
        | inl f ↦ whole_came c o near (number o.going) f
        | inr f ↦ last_came c o near (number o.going) (end f.ended).0 f
      ]

  -- a line is some bytes that were taken and not given before
  given_before : IsOpen r before taken → length r.bytes ≤ r.taken
  given_before o = omega (arith, b.counted, ap (λ (l : List ℕ). length l) o.is, length-append (with_feeds before) r.bytes)

  pub goes_down : (r.ended ≢ None → r.ended ≡ Some next.Line) → (r.ended ≡ None → Cuts mid new r next.Line now) → now.taken ≤ most_bytes
      → most_bytes - (now.taken - length now.bytes) < most_bytes - (r.taken - length r.bytes)
  goes_down again cuts le =
      let other : next.Line ≢ next.End = λ e. cc in
      let o = is_open old mid r before taken next.Line b again other in
      let c = cuts o.going in
      let given = given_before o in
      let pieces = length-append r.bytes c.bytes in
      elim c.cut [
        | inl f ↦ (let parts : length (r.bytes ++ c.bytes) ≡ length now.line + suc (length now.bytes) = ap (λ (l : List ℕ). length l) f.bytes ∙ length-append now.line (10 ∷ now.bytes) in
            falls r.taken (length r.bytes) now.taken (length now.bytes) (omega (arith, c.counted, given, pieces, parts)) le)
        | inr f ↦ (let parts : length (r.bytes ++ c.bytes) ≡ length now.line = ap (λ (l : List ℕ). length l) f.bytes in
            let none : length now.bytes ≡ 0 = ap (λ (l : List ℕ). length l) f.none in
            falls r.taken (length r.bytes) now.taken (length now.bytes) (omega (arith, c.counted, given, pieces, parts, none, f.some)) le)
      ]

  pub long_came : (r.ended ≢ None → r.ended ≡ Some next.Long) → (r.ended ≡ None → Cuts mid new r next.Long now) → length now.line + length now.bytes ≤ 8192
      → (r.ended ≡ None → now.number ≡ line_number r.number) → HasLong old new now before
  long_came again cuts few number =
      let other : next.Long ≢ next.End = λ e. cc in
      let o = is_open old mid r before taken next.Long b again other in
      let c = cuts o.going in
      let all = taken ++ c.bytes in
      let piece = r.bytes ++ c.bytes in
      let is : all ≡ with_feeds before ++ piece = joined next.Long c o in
      let rest = all_with all new in
      let long = c.cut.1 rest.0 in
      record {
        taken = all;
        took = took_on next.Long c;
        counted = counted_on next.Long c;
        begins = begins_on next.Long c o;
        line = long.0;
        at = record {
          after = long.1;
          parts = ap text_lines (rest.1 ∙ ap (λ (t : List ℕ). t ++ rest.0) is ∙ append_assoc (with_feeds before) piece rest.0) ∙ lines_before before (piece ++ rest.0) o.lines
              ∙ ap (λ (xs : List (List ℕ)). before ++ xs) long.2;
          near = record { more = piece; taken_is = is; few = omega (arith, few, ap (λ (l : List ℕ). length l) c.cut.0) };
        };
        long = long.3;
        numbered = number o.going ∙ ap line_number b.numbered ∙ count_on (length before) (2 ^ 32 - 1);
      }

  pub end_came : (r.ended ≢ None → (r.ended ≡ Some next.End) × (now ≡ r) × (new ≡ mid)) → (r.ended ≡ None → Cuts mid new r next.End now) → (r.ended ≡ None → IsAtEnd new) → HasEnd old new now before
  end_came again cuts end = elim b.stands [
    | inl o ↦ (
        let c = cuts o.going in
        let all = taken ++ c.bytes in
        let whole = all_taken all new (end o.going) in
        let is : all ≡ with_feeds before ++ [] = joined next.End c o ∙ ap (λ (t : List ℕ). with_feeds before ++ t) c.cut.0 in
        record {
          taken = all;
          took = took_on next.End c;
          counted = counted_on next.End c;
          all = sym whole;
          lines = ap text_lines (whole ∙ is) ∙ lines_before before [] o.lines ∙ append-nil before;
        })
    | inr s ↦ (
        let some : r.ended ≢ None = λ n. let z : Some next.End ≡ None = sym s.ended ∙ n in cc in
        let same = again some in
        let done : IsAtEnd new = subst (λ (l : Option (List ℕ)). IsAtEnd l) (sym same.2) s.done in
        let whole = all_taken taken new done in
        record {
          taken = taken;
          took = subst (λ (l : Option (List ℕ)). Consumes old l taken) (sym same.2) b.took;
          counted = ap (λ (h : Held). h.taken) same.1 ∙ b.counted;
          all = sym whole;
          lines = ap text_lines whole ∙ s.is;
        })
  ]

  pub fault_came : (r.ended ≢ None → r.ended ≡ Some next.Fault) → (r.ended ≡ None → Cuts mid new r next.Fault now) → HasWhole old new now before
  fault_came again cuts =
      let other : next.Fault ≢ next.End = λ e. cc in
      let o = is_open old mid r before taken next.Fault b again other in
      let c = cuts o.going in
      record {
        taken = taken ++ c.bytes;
        took = took_on next.Fault c;
        counted = counted_on next.Fault c;
        begins = begins_on next.Fault c o;
        lines = ap whole_lines (joined next.Fault c o) ∙ whole_all before (r.bytes ++ c.bytes) o.lines c.cut.1;
      }

  pub many_came : (r.ended ≢ None → r.ended ≡ Some next.TooLong) → (r.ended ≡ None → Cuts mid new r next.TooLong now) → now.taken ≡ most_bytes + 1 → HasMany old new now before
  many_came again cuts many =
      let other : next.TooLong ≢ next.End = λ e. cc in
      let o = is_open old mid r before taken next.TooLong b again other in
      let c = cuts o.going in
      let all = taken ++ c.bytes in
      let (front, one, split, none, kept) = c.cut in
      let is : all ≡ (with_feeds before ++ front) ++ one ∷ [] = joined next.TooLong c o ∙ ap (λ (t : List ℕ). with_feeds before ++ t) split ∙ sym (append_assoc (with_feeds before) front (one ∷ [])) in
      let count : most_bytes ≡ length (with_feeds before ++ front) = omega (
        arith,
        many,
        counted_on next.TooLong c,
        ap (λ (l : List ℕ). length l) is,
        length-append (with_feeds before ++ front) (one ∷ []),
      ) in
      record {
        taken = all;
        took = took_on next.TooLong c;
        counted = counted_on next.TooLong c;
        begins = begins_on next.TooLong c o;
        lines = ap whole_lines (ap (take most_bytes) is ∙ ap (λ n. take n ((with_feeds before ++ front) ++ one ∷ [])) count ∙ take-append_seam (with_feeds before ++ front) (one ∷ []))
            ∙ whole_all before front o.lines none;
      }
