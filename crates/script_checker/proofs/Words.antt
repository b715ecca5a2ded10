-- A line that was read from at most 2,048 bytes has its form: a list of senders names someone, and what is injected is not too long.
use Rattle.std.proofs.Common.{◌≡◌, ℕ, ◌≤◌, List, [], ◌∷◌, length, Some, Result, Ok, Err, arith, refl, subst}
use Rattle.std.specs.Prelude.{◌*◌}
use Rattle.hex.specs.Hex.{decode_of}
use Rattle.hex.specs.declared.error.FromHexError.{FromHexError}
use Rattle.hex.proofs.HexLemmas.{decode_of-ok}
use Rattle.script_grammar.specs.Grammar.{most_line}
use Rattle.script_grammar.specs.LineKinds.{bytes_of, script_line_of, some_bytes}
use Rattle.script_grammar.specs.declared.line.ScriptLine.{ScriptLine}
use Rattle.script_grammar.specs.declared.line.ScriptLine.TheVariants as line
use Rattle.script_grammar.proofs.LineForms as forms
use Rattle.script_checker.specs.Forms.{Formed}

bytes_form : (word bytes : List ℕ) → bytes_of word ≡ Some bytes → length word ≡ 2 * length bytes
bytes_form word bytes e = by (decode_of word) refl e
  where
    by : (r : Result (List ℕ) FromHexError) → decode_of word ≡ r → some_bytes r ≡ Some bytes → length word ≡ 2 * length bytes
    by (Ok []) d f = absurd (cc)
    by (Ok (b ∷ bs)) d f = let same : b ∷ bs ≡ bytes = cc in subst (λ (z : List ℕ). length word ≡ 2 * length z) same (decode_of-ok word (b ∷ bs) d).2
    by (Err x) d f = absurd (cc)

form : (said : ScriptLine) → forms.Formed most_line said → Formed said
form (line.StaleResv l) said = said
form (line.Want l) said = said
form (line.Inject l) said = let twice = bytes_form said.0 l.bytes said.1 in let few = said.2 in omega (arith, twice, few)
form _ said = tt

pub formed : (text : List ℕ) (said : ScriptLine) → length text ≤ most_line → script_line_of text ≡ Some said → Formed said
formed text said few e = form said (forms.formed most_line text said few e)
