-- What the words of a line say of it beyond its rules.
use Rattle.std.proofs.Common.{◌≡◌, ℕ, ◌≤◌, List, [], ◌∷◌, length, true, Some, Result, Ok, Err, arith, refl, subst}
use Rattle.hex.specs.Hex.{decode_of}
use Rattle.hex.specs.declared.error.FromHexError.{FromHexError}
use Rattle.hex.proofs.HexLemmas.{decode_of-ok}
use Rattle.rsvp_objects.specs.Fields.{AreBytes}
use Rattle.message_codec.proofs.ProperRead.{bytes_of as are_bytes}
use Rattle.rsvp_base.specs.EndNames.{is_name}
use Rattle.script_grammar.specs.LineKinds.{bytes_of, script_line_of, some_bytes}
use Rattle.script_grammar.specs.declared.line.ScriptLine.{ScriptLine}
use Rattle.script_grammar.specs.declared.line.ScriptLine.TheVariants as line
use Rattle.script_grammar.proofs.LineForms as forms
use Rattle.script_grammar.proofs.LineForms.{IsResvForm, IsWantForm}

abbrev pub Formed : ScriptLine → Type 0
Formed (line.End l) = is_name l.name ≡ true
Formed (line.Link names) = (2 ≤ length names) × (length names ≤ 8)
Formed (line.StaleResv l) = IsResvForm l.style l.senders
Formed (line.Want l) = IsWantForm l.style l.senders
Formed (line.Inject l) = AreBytes l.bytes
Formed _ = Unit {0}

bytes_form : (word bytes : List ℕ) → bytes_of word ≡ Some bytes → AreBytes bytes
bytes_form word bytes e = by (decode_of word) refl e
  where
    by : (r : Result (List ℕ) FromHexError) → decode_of word ≡ r → some_bytes r ≡ Some bytes → AreBytes bytes
    by (Ok []) d f = absurd (cc)
    by (Ok (b ∷ bs)) d f = let same : b ∷ bs ≡ bytes = cc in subst AreBytes same (are_bytes (b ∷ bs) (decode_of-ok word (b ∷ bs) d).3)
    by (Err x) d f = absurd (cc)

form : (n : ℕ) (said : ScriptLine) → forms.Formed n said → Formed said
form n (line.End l) said = said
form n (line.Link names) said = said
form n (line.StaleResv l) said = said
form n (line.Want l) said = said
form n (line.Inject l) said = bytes_form said.0 l.bytes said.1
form n _ said = tt

pub formed : (text : List ℕ) (said : ScriptLine) → script_line_of text ≡ Some said → Formed said
formed text said e = form (length text) said (forms.formed (length text) text said (omega arith) e)
