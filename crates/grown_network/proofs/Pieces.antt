-- A text that is put together of four pieces.
use Rattle.std.proofs.Common.{◌≡◌, ℕ, List, ◌++◌, ap, ◌∙◌, append_assoc}
use Rattle.std.specs.Prelude.{Result, Ok, Err, OnOk}
use Rattle.rsvp_base.specs.declared.room.NoMemory.{NoMemory}

four : (o a b c d : List ℕ) → (((o ++ a) ++ b) ++ c) ++ d ≡ o ++ (((a ++ b) ++ c) ++ d)
four o a b c d = ap (λ (t : List ℕ). (t ++ c) ++ d) (append_assoc o a b) ∙ ap (λ (t : List ℕ). t ++ d) (append_assoc o (a ++ b) c) ∙ append_assoc o ((a ++ b) ++ c) d

-- one behind the other, and the last where there was room for it
pub four_put : (r : Result (Unit {0}) NoMemory) (o a b c d one two three all : List ℕ) → one ≡ o ++ a → two ≡ one ++ b → three ≡ two ++ c → OnOk r (all ≡ three ++ d)
    → OnOk r (all ≡ o ++ (((a ++ b) ++ c) ++ d))
four_put (Ok _) o a b c d one two three all p q r last =
    last ∙ ap (λ (t : List ℕ). t ++ d) (r ∙ ap (λ (t : List ℕ). t ++ c) (q ∙ ap (λ (t : List ℕ). t ++ b) p)) ∙ four o a b c d
four_put (Err _) o a b c d one two three all p q r last = tt
