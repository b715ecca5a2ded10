-- A text that goes on as another does.
use Rattle.std.proofs.Common.{◌≡◌, ℕ, List, ◌++◌, Bool, true, false, refl, sym, ap, ◌∙◌}
use Rattle.std.specs.Prelude.{IsTrue, ◌↔◌, bytes_eq}
use Rattle.std.proofs.lemmas.List.{append_cancel_left, append_cancel_right}
use Rattle.std.proofs.lemmas.Slice.Eq.{bytes_eq-Decides}

-- where both are followed by the same line they are the same exactly where the whole texts are
pub compared : (report demand told line : List ℕ) (same : Bool) → IsTrue same ↔ (demand ≡ report ++ line) → demand ≡ told ++ line → same ≡ bytes_eq report told
compared report demand told line same tells is = by same (bytes_eq report told) refl refl
  where
    by : (s t : Bool) → same ≡ s → bytes_eq report told ≡ t → same ≡ bytes_eq report told
    by true true e f = e ∙ sym f
    by false false e f = e ∙ sym f
    by true false e f =
        let whole : demand ≡ report ++ line = tells.0 e in
        let z : true ≡ false = sym ((bytes_eq-Decides report told).1 (append_cancel_right report told line (sym whole ∙ is))) ∙ f in
        absurd (cc)
    by false true e f =
        let whole : demand ≡ report ++ line = is ∙ ap (λ (t : List ℕ). t ++ line) (sym ((bytes_eq-Decides report told).0 f)) in
        let z : false ≡ true = sym e ∙ tells.1 whole in
        absurd (cc)

-- a text that goes on behind a front goes on by this line exactly where what is behind the front is the line
pub followed : (text front rest line : List ℕ) (same : Bool) → text ≡ front ++ rest → same ≡ bytes_eq rest line → IsTrue same ↔ (text ≡ front ++ line)
followed text front rest line same parts is = (
  λ t. parts ∙ ap (λ (xs : List ℕ). front ++ xs) ((bytes_eq-Decides rest line).0 (sym is ∙ t)),
  λ e. is ∙ (bytes_eq-Decides rest line).1 (append_cancel_left front rest line (sym parts ∙ e)),
)
