use Rattle.std.proofs.Common.{◌≡◌, ◌∙◌, ◌+◌, ◌++◌, ◌∷◌, List, ℕ, drop, take, sym, ap, subst, position, Some, ◌==◌}
use Rattle.script_words.specs.Lines.{text_lines}
use Rattle.byte_streams.specs.Streams.{HasNoFeed, Held, IsLong}
use Rattle.byte_streams.proofs.Cutting.{taken_whole}
use Rattle.byte_streams.proofs.Fronts.{long_found, long_part, taken_line}
use Rattle.byte_streams.proofs.reader.LineReader.front.Goals as goal

pub returns-then-n-gt-MOST_LINE-clause-long : goal.returns-then-n-gt-MOST_LINE-clause-long
returns-then-n-gt-MOST_LINE-clause-long c = λ e.
    let view : c.behind-rest.result.now ≡ c.args.self.now.bytes = c.behind-rest.ensures.value ∙ ap (λ (h : Held). h.bytes) c.self.view_is in (
      ap (λ (h : Held). h.bytes) c.self.view_is,
      λ rest. subst (λ (h : List ℕ). IsLong 2048 (Some (h ++ rest))) view
          (long_found c.behind-rest.result.now c.in-Some.n (sym c.find.ensures ∙ c.in-Some.is) c.if-n-gt-MOST_LINE.true rest),
    )

pub returns-then-rest-gt-MOST_LINE-clause-long : goal.returns-then-rest-gt-MOST_LINE-clause-long
returns-then-rest-gt-MOST_LINE-clause-long c = λ e.
    let view : c.behind-rest.result.now ≡ c.args.self.now.bytes = c.behind-rest.ensures.value ∙ ap (λ (h : Held). h.bytes) c.self.view_is in (
      ap (λ (h : Held). h.bytes) c.self.view_is,
      λ rest. subst (λ (h : List ℕ). IsLong 2048 (Some (h ++ rest))) view
          (long_part c.behind-rest.result.now (sym c.find.ensures ∙ c.in-None.is) c.if-rest-gt-MOST_LINE.true rest),
    )

pub returns-else-n-gt-MOST_LINE-clause-line : goal.returns-else-n-gt-MOST_LINE-clause-line
returns-else-n-gt-MOST_LINE-clause-line c = λ e rest.
    let i = c.self.inside in
    let found : position (λ x. x == 10) (drop i.at i.kept.items) ≡ Some c.in-Some.n = ap (λ (h : List ℕ). position (λ x. x == 10) h) (sym c.behind-rest.ensures.value) ∙ sym c.find.ensures
    ∙ c.in-Some.is in
    let line : take c.in-Some.n (drop i.at i.kept.items) ≡ c.put.new.line.items = ap (λ (h : List ℕ). take c.in-Some.n h) (sym c.behind-rest.ensures.value) ∙ sym c.put.ensures.items in
    ap (λ (h : Held). text_lines (h.bytes ++ rest)) (sym c.self.view_is) ∙ taken_line i.kept.items i.at c.in-Some.n rest found
    ∙ ap (λ l. l ∷ text_lines (drop (i.at + (c.in-Some.n + 1)) i.kept.items ++ rest)) line

pub returns-else-n-gt-MOST_LINE-clause-whole : goal.returns-else-n-gt-MOST_LINE-clause-whole
returns-else-n-gt-MOST_LINE-clause-whole c = λ e.
    let i = c.self.inside in
    let found : position (λ x. x == 10) (drop i.at i.kept.items) ≡ Some c.in-Some.n = ap (λ (h : List ℕ). position (λ x. x == 10) h) (sym c.behind-rest.ensures.value) ∙ sym c.find.ensures
    ∙ c.in-Some.is in
    let line : take c.in-Some.n (drop i.at i.kept.items) ≡ c.put.new.line.items = ap (λ (h : List ℕ). take c.in-Some.n h) (sym c.behind-rest.ensures.value) ∙ sym c.put.ensures.items in
    let split = taken_whole i.kept.items i.at c.in-Some.n found in
    (sym (ap (λ (h : Held). h.bytes) c.self.view_is) ∙ split.0 ∙ ap (λ (l : List ℕ). l ++ 10 ∷ drop (i.at + (c.in-Some.n + 1)) i.kept.items) line, subst HasNoFeed line split.1)
