-- Whether there is something to say.
use Rattle.std.proofs.Common.{◌≡◌, ℕ, ◌<◌, Bool, true, false, inl, inr, ⊎_elim, arith, sym, refl, ◌∙◌}
use Rattle.std.specs.Prelude.{◌↔◌, ◌⊎◌, ◌&&◌, ◌||◌, nat_lt}
use Rattle.std.proofs.lemmas.Bool.{lt-ltb}
use Rattle.rsvp_base.proofs.SetLaws.{and_both, and_made}

ltb_lt : (a b : ℕ) → nat_lt a b ≡ true → a < b
ltb_lt a b t = grind (arith, t)

or_left : (a b : Bool) → a ≡ true → (a || b) ≡ true
or_left true b e = refl
or_left false b e = absurd (cc)

or_right : (a b : Bool) → b ≡ true → (a || b) ≡ true
or_right true b e = refl
or_right false b e = e

or_told : (a b : Bool) → (a || b) ≡ true → (a ≡ true) ⊎ (b ≡ true)
or_told true b e = inl refl
or_told false b e = inr e

pub noted : {P Q : Type 0} (said some crowds fits : Bool) (n : ℕ) → said ≡ (some || crowds) → (some ≡ true) ↔ P → crowds ≡ (fits && nat_lt 8192 n) → (fits ≡ true) ↔ Q
    → (said ≡ true) ↔ (P ⊎ (Q × (8192 < n)))
noted {P} {Q} said some crowds fits n is one two three = (
  λ t. ⊎_elim (λ (e : some ≡ true). inl (one.0 e)) (λ (e : crowds ≡ true). let both = and_both fits (nat_lt 8192 n) (sym two ∙ e) in inr (three.0 both.0, ltb_lt 8192 n both.1))
      (or_told some crowds (sym is ∙ t)),
  λ p. is ∙ ⊎_elim (λ (x : P). or_left some crowds (one.1 x))
      (λ (y : Q × (8192 < n)). or_right some crowds (two ∙ and_made fits (nat_lt 8192 n) (three.1 y.0) (lt-ltb 8192 n y.1))) p,
)
