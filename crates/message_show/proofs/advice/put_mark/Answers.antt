use Rattle.std.proofs.Common.{◌∙◌, ap, append_assoc}
use Rattle.std.specs.Prelude.{◌≡◌, ℕ, List, ◌++◌, Result, Ok, Err, OnOk, codes}
use Rattle.value_texts.specs.Quotes.{order_mark, quoted}
use Rattle.message_show.specs.ShowAdvice.{mark_text}
use Rattle.message_show.proofs.advice.put_mark.Goals as goal

then_ok : {E : Type 0} (r : Result (Unit {0}) E) {P Q : Type 0} → (P → Q) → OnOk r P → OnOk r Q
then_ok (Ok u) f p = f p
then_ok (Err e) f p = tt

joined : (old a b c : List ℕ) → ((old ++ a) ++ b) ++ c ≡ old ++ ((a ++ b) ++ c)
joined old a b c = ap (λ (x : List ℕ). x ++ c) (append_assoc old a b) ∙ append_assoc old (a ++ b) c

pub returns-clause-text : goal.returns-clause-text
unfolding mark_text
returns-clause-text c =
    let first = codes "  column 1, " in
    let last = codes ": a byte order mark: save the file without it" in
    then_ok c.put-2.result
    (λ e. e ∙ ap (λ (x : List ℕ). x ++ last) (c.in_ok-put_quoted.ensures.text ∙ ap (λ (x : List ℕ). x ++ quoted order_mark) c.in_ok-put.ensures.text)
    ∙ joined c.args.out.now.items first (quoted order_mark) last) c.put-2.ensures.text
