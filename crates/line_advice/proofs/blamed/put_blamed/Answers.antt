use Rattle.std.proofs.Common.{◌≤◌, ℕ, List, length, sym, subst, ap, ◌∙◌}
use Rattle.std.specs.Prelude.{Option}
use Rattle.line_advice.specs.Blamed.{blamed_text, blamed_word, most_advice}
use Rattle.line_advice.proofs.Short.{whole_short}
use Rattle.line_advice.proofs.blamed.put_blamed.Goals as goal

pub returns-in-None-clause-few : goal.returns-in-None-clause-few
returns-in-None-clause-few g c =
    let found = sym (ap (λ (n : Option ℕ). blamed_word c.args.line.now n) c.number_of_word.ensures) ∙ c.in-None.ensures in
    subst (λ (p : Option (ℕ × List ℕ)). length (blamed_text p (g.B.Blames.wanted c.args.blame.now)) ≤ most_advice) (sym found)
    (whole_short (g.B.Blames.wanted c.args.blame.now) c.requires.few)

pub returns-in-Some-clause-few : goal.returns-in-Some-clause-few
returns-in-Some-clause-few g c =
    let found = sym (ap (λ (n : Option ℕ). blamed_word c.args.line.now n) c.number_of_word.ensures) ∙ c.in-Some.ensures in
    subst (λ (p : Option (ℕ × List ℕ)). length (blamed_text p (g.B.Blames.wanted c.args.blame.now)) ≤ most_advice) (sym found)
    c.is_short_at.ensures
