use Rattle.std.specs.Prelude.{◌≡◌, ℕ, ◌/◌, ◌≤◌, List, Result, Ok, Err, MatchResult, IsErr, refl}
use Rattle.std.proofs.Common.{length, take, sym, eq-eqb, length-take, arith}
use Rattle.hex.specs.Hex.{decode_of, decode_sized}
use Rattle.hex.specs.declared.error.FromHexError.{FromHexError}
use Rattle.message_show.proofs.lines.read_digits.Goals as goal

-- into room for half as many bytes as there are digits, all of them are decoded
sized_whole : (line : List ℕ) (n : ℕ) → n ≡ length line / 2 → decode_sized line n ≡ decode_of line
sized_whole line n e = rw (eq-eqb (length line / 2) n (sym e)) refl

-- what was refused did not decode
refused : (P : List ℕ → Type 0) (d : Result (List ℕ) FromHexError) (r : Result (Unit {0}) FromHexError) (e : FromHexError) → r ≡ Err e
    → MatchResult d (λ bytes. (r ≡ Ok tt) × P bytes) (λ f. r ≡ Err f) → IsErr d
refused P (Ok bytes) r e is m = let one = m.0 in cc
refused P (Err f) r e is m = refl

pub returns-in-Err-clause-wrong : goal.returns-in-Err-clause-wrong
returns-in-Err-clause-wrong c =
    let line : List ℕ = c.args.line.now in
    let short : length line ≤ 8194 = c.if-line-gt-MOST_DIGITS.false in
    let taken : length (take (length line / 2) c.args.room.now) ≡ length line / 2 = omega (arith, length-take (length line / 2) c.args.room.now) in
    let whole = sized_whole line (length (take (length line / 2) c.args.room.now)) taken in
    (short, refused (λ bytes. c.decode_to_slice.new.out ≡ bytes) (decode_of line) (Err c.in-Err.field-0) c.in-Err.field-0 refl (rw whole at c.in-Err.ensures.value))
