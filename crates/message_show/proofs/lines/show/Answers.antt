use Rattle.std.proofs.Common.{[], ◌∷◌, ◌++◌, length-append, append_assoc, sym, ap, ◌∙◌, subst, rules, arith, inr}
use Rattle.script_words.specs.Lines.{text_lines}
use Rattle.message_show.specs.ShowLines.{AreShown}
use Rattle.message_show.proofs.Shown.{all_right, shown_on}
use Rattle.message_show.proofs.lines.show.Goals as goal

pub loop-line-preserved : goal.loop-line-preserved
loop-line-preserved c =
    let i = c.loop-line.invariant in
    let line = c.in-Some.line.now in
    let one = c.in-Ok-put_line.ensures.shown in
    let shown : AreShown (i.before ++ line ∷ []) c.put_line.new.out.items = subst (AreShown (i.before ++ line ∷ [])) (sym one.2) (shown_on i.before c.loop-line.out.items line one.0 i.shown one.1) in
    record {
      before = i.before ++ line ∷ [];
      parts = i.parts ∙ ap (λ ls. i.before ++ ls) c.in-Some.ensures.lines ∙ sym (append_assoc i.before (line ∷ []) (text_lines c.in-Some.behind.now));
      number = let count = length-append i.before (line ∷ []) in omega (arith, c.saturating_add-number.ensures, i.number, count);
      shown = shown;
      room = search rules;
      quiet = i.quiet;
      roomy = i.roomy;
    }

pub returns-in-Err-Bad-clause-refused : goal.returns-in-Err-Bad-clause-refused
returns-in-Err-Bad-clause-refused c =
    let i = c.loop-line.invariant in
    record {
      before = i.before;
      line = c.in-Some.line.now;
      after = text_lines c.in-Some.behind.now;
      parts = i.parts ∙ ap (λ ls. i.before ++ ls) c.in-Some.ensures.lines;
      number = omega (arith, c.saturating_add-number.ensures, i.number);
      right = all_right i.before c.loop-line.out.items i.shown;
      fault = rw c.in-Err-Bad.why-is (rw c.in-Err-Bad.field-0-is at c.in-Err-Bad.ensures.wrong);
    }

pub returns-in-Err-Bad-clause-advised : goal.returns-in-Err-Bad-clause-advised
returns-in-Err-Bad-clause-advised c =
    let i = c.loop-line.invariant in
    record {
      told = c.put_digits_advice.ensures;
      bad = record {
        before = i.before;
        line = c.in-Some.line.now;
        after = text_lines c.in-Some.behind.now;
        parts = i.parts ∙ ap (λ ls. i.before ++ ls) c.in-Some.ensures.lines;
        number = omega (arith, c.saturating_add-number.ensures, i.number);
        right = all_right i.before c.loop-line.out.items i.shown;
        fault = rw c.in-Err-Bad.why-is (rw c.in-Err-Bad.field-0-is at c.in-Err-Bad.ensures.wrong);
      };
    }

pub returns-in-Err-NoMemory-clause-asked : goal.returns-in-Err-NoMemory-clause-asked
returns-in-Err-NoMemory-clause-asked c = λ is.
    let i = c.loop-line.invariant in
    inr (record {
      before = i.before;
      line = c.in-Some.line.now;
      after = text_lines c.in-Some.behind.now;
      parts = i.parts ∙ ap (λ ls. i.before ++ ls) c.in-Some.ensures.lines;
      right = all_right i.before c.loop-line.out.items i.shown;
      says = c.in-Err-NoMemory.ensures.right c.in-Err-NoMemory.field-0-is;
      some = c.in-Err-NoMemory.ensures.some c.in-Err-NoMemory.field-0-is;
    })
