use Rattle.std.proofs.Common.{◌∷◌, [], ◌++◌, ◌∙◌, ap, List, ℕ}
use Rattle.std.specs.Prelude.{codes}
use Rattle.network_flight.specs.Texts.{flag_text}
use Rattle.network_replay.proofs.report.police_text.Goals as goal

pub returns : goal.returns
returns c =
    let e = flag_text (codes "e") c.args.police.e in
    let m = flag_text (codes "m") c.args.police.m in
    ap (λ (x : List ℕ). 32 ∷ ((x ++ (c.flag-2.result ∷ [])) ++ (c.flag-3.result ∷ []))) c.flag.ensures
    ∙ ap (λ (x : List ℕ). 32 ∷ ((e ++ x) ++ (c.flag-3.result ∷ []))) c.flag-2.ensures ∙ ap (λ (x : List ℕ). 32 ∷ ((e ++ m) ++ x)) c.flag-3.ensures
