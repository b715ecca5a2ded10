-- Which digits spell bytes, without decoding them.
use Rattle.std.proofs.Common.{◌≡◌, ◌∙◌, ℕ, ◌*◌, ◌%◌, List, [], ◌∷◌, Bool, true, false, is_some, length, refl, sym, ap, arith}
use Rattle.std.specs.Prelude.{Result, Ok, Err}
use Rattle.std.specs.List.{list_all}
use Rattle.std.proofs.lemmas.List.Sums.{AllPass-from_list_all, list_all-from_AllPass}
use Rattle.hex.specs.Hex.{decode_of, is_hex_digit}
use Rattle.hex.specs.declared.error.FromHexError.{FromHexError}
use Rattle.hex.proofs.HexLemmas.{decode_of-digits, decode_of-odd, decode_of-ok}
use Rattle.script_grammar.specs.LineKinds.{bytes_of, some_bytes}

-- no digits spell none
none_where : (s bytes : List ℕ) → length s ≡ 0 → length s ≡ 2 * length bytes → false ≡ is_some (some_bytes (Ok bytes))
none_where s [] none twice = refl
none_where s (b ∷ bytes) none twice = absurd (omega (arith, none, twice))

pub none_of_none : (s : List ℕ) → length s ≡ 0 → false ≡ is_some (bytes_of s)
none_of_none s none = by (decode_of s) refl
  where
    by : (r : Result (List ℕ) FromHexError) → decode_of s ≡ r → false ≡ is_some (some_bytes r)
    by (Ok bytes) is = none_where s bytes none (decode_of-ok s bytes is).2
    by (Err e) is = refl

-- an odd number of digits spells none
pub no_bytes : (s : List ℕ) → (length s % 2 ≡ 0 → ⊥) → false ≡ is_some (bytes_of s)
no_bytes s odd = ap (λ (r : Result (List ℕ) FromHexError). is_some (some_bytes r)) (sym (decode_of-odd s (omega (arith, odd))))

some_where : (bytes : List ℕ) → (length bytes ≡ 0 → ⊥) → true ≡ is_some (some_bytes (Ok bytes))
some_where [] some = absurd (some refl)
some_where (b ∷ bytes) some = refl

-- an even number that is not 0 does where each is a digit
pub some_bytes_of : (s : List ℕ) → (length s ≡ 0 → ⊥) → length s % 2 ≡ 0 → list_all is_hex_digit s ≡ is_some (bytes_of s)
some_bytes_of s some even = by (decode_of s) refl
  where
    refused : (e : FromHexError) (b : Bool) → decode_of s ≡ Err e → list_all is_hex_digit s ≡ b → b ≡ false
    refused e true bad all =
        let good = decode_of-digits s even (AllPass-from_list_all is_hex_digit s all) in
        let both : Err e ≡ Ok good.0 = sym bad ∙ good.1 in
        absurd (cc)
    refused e false bad all = refl

    by : (r : Result (List ℕ) FromHexError) → decode_of s ≡ r → list_all is_hex_digit s ≡ is_some (some_bytes r)
    by (Ok bytes) is =
        let good = decode_of-ok s bytes is in
        list_all-from_AllPass is_hex_digit s good.1 ∙ some_where bytes (λ none. some (omega (arith, good.2, none)))
    by (Err e) is = refused e (list_all is_hex_digit s) is refl
