-- A list of senders or addresses is in range where each of its parts is.
use Rattle.std.proofs.Common.{◌≡◌, ◌↔◌, ℕ, suc, zero, List, [], ◌∷◌, Bool, true, Option, None, Some, IsTrue, is_some, length, refl, sym, subst, arith}
use Rattle.std.specs.Prelude.{IfSome}
use Rattle.std.specs.List.{All}
use Rattle.script_words.specs.Addresses.{IsAddr, quad_of, quads_of}
use Rattle.script_words.specs.Parts.{parts_of}
use Rattle.script_words.specs.Sessions.{IsSender, sender_of, senders_of}
use Rattle.script_words.specs.Steps.{◌>>=◌, each_of}

module _ {X : Type 0} (read : List ℕ → Option X) (P : X → Type 0) where
  all_of : {Y : Type 0} (Q : Y → Type 0) (y : Y) (ys : List Y) → Q y → All Q ys → All Q (y ∷ ys)
  all_of Q y ys first rest zero d l = first
  all_of Q y ys first rest (suc k) d l = rest k d (omega arith)

  step : (o : Option X) (os : Option (List X)) (Rest : Type 0) → (is_some os ≡ true → Rest ↔ IfSome os (All P)) → is_some (o >>= (λ x. os >>= (λ xs. Some (x ∷ xs)))) ≡ true
      → (IfSome o P × Rest) ↔ IfSome (o >>= (λ x. os >>= (λ xs. Some (x ∷ xs)))) (All P)
  step None os Rest h e = absurd (cc)
  step (Some x) None Rest h e = absurd (cc)
  step (Some x) (Some xs) Rest h e =
      let rest = h refl in (
        (λ both. all_of P x xs both.0 (rest.0 both.1)),
        (λ all. (all 0 x (omega arith), rest.1 (λ k d l. all (suc k) d (omega arith)))),
      )

  each_in_range : (ws : List (List ℕ)) → is_some (each_of read ws) ≡ true → All (λ w. IfSome (read w) P) ws ↔ IfSome (each_of read ws) (All P)
  each_in_range [] e = ((λ all k d l. absurd (omega arith)), (λ all k d l. absurd (omega arith)))
  each_in_range (w ∷ ws) e =
      let s = step (read w) (each_of read ws) (All (λ v. IfSome (read v) P) ws) (each_in_range ws) e in (
        (λ all. s.0 (all 0 w (omega arith), λ k d l. all (suc k) d (omega arith))),
        (λ found. let both = s.1 found in all_of (λ v. IfSome (read v) P) w ws both.0 both.1),
      )

pub senders_in_range : (word : List ℕ) → is_some (senders_of word) ≡ true → All (λ w. IfSome (sender_of w) IsSender) (parts_of 44 word) ↔ IfSome (senders_of word) (All IsSender)
senders_in_range word e = each_in_range sender_of IsSender (parts_of 44 word) e

pub addresses_in_range : (word : List ℕ) → is_some (quads_of word) ≡ true → All (λ w. IfSome (quad_of w) IsAddr) (parts_of 44 word) ↔ IfSome (quads_of word) (All IsAddr)
addresses_in_range word e = each_in_range quad_of IsAddr (parts_of 44 word) e

-- where the first part is in range, the others decide
pub others_decide : (P : List ℕ → Type 0) (parts others : List (List ℕ)) (first : List ℕ) (b : Bool) → parts ≡ first ∷ others → P first → IsTrue b ↔ All P others → IsTrue b ↔ All P parts
others_decide P parts others first b is here rest =
    subst (λ (ps : List (List ℕ)). IsTrue b ↔ All P ps) (sym is) ((λ yes. both (rest.0 yes)), (λ all. rest.1 (λ k d l. all (suc k) d (omega arith))))
  where
    both : All P others → All P (first ∷ others)
    both all zero d l = here
    both all (suc k) d l = all k d (omega arith)
