use Rattle.std.proofs.Common.{◌≡◌, ◌++◌, ◌∙◌, ℕ, List, OnOk, codes, ap, subst, append_assoc}
use Rattle.value_texts.specs.Texts.{session_text, style_text}
use Rattle.script_events.specs.EventTexts.{of_members}
use Rattle.script_events.proofs.book_texts.put_of.Goals as goal

pub returns : goal.returns
unfolding of_members
returns c =
    let o = c.args.out.now.items in
    let e = c.args.entry.now in
    let a = codes "{\"session\":\"" in
    let s = session_text e.key.session in
    let b = codes "\",\"style\":\"" in
    let t = style_text e.key.style in
    let first : c.put_session.new.out.items ≡ (o ++ a) ++ s = c.in_ok-put_session.ensures.text ∙ ap (λ (xs : List ℕ). xs ++ s) c.in_ok-put.ensures.text in
    let then : c.put-2.new.out.items ≡ ((o ++ a) ++ s) ++ b = c.in_ok-put-2.ensures.text ∙ ap (λ (xs : List ℕ). xs ++ b) first in
    let joined : (((o ++ a) ++ s) ++ b) ++ t ≡ o ++ (((a ++ s) ++ b) ++ t) = ap (λ (xs : List ℕ). (xs ++ b) ++ t) (append_assoc o a s)
    ∙ ap (λ (xs : List ℕ). xs ++ t) (append_assoc o (a ++ s) b)
    ∙ append_assoc o ((a ++ s) ++ b) t in
    let whole : c.put-2.new.out.items ++ t ≡ o ++ of_members e = ap (λ (xs : List ℕ). xs ++ t) then ∙ joined in
    subst (λ (xs : List ℕ). OnOk c.put_style.result (c.put_style.new.out.items ≡ xs)) whole c.put_style.ensures.text
