-- A blockade that is left over.
use Rattle.std.specs.Prelude.{◌≡◌, ℕ, ◌+◌, ◌≤◌, ◌<◌, nat_le, true, false, Option, Some, None, refl}
use Rattle.std.proofs.Common.{sym, ap, ◌∙◌, arith}
use Rattle.std.proofs.lemmas.Bool.Decides.{nat_tests}
use Rattle.blockade_state.specs.Blockades.{WallMap}
use Rattle.rsvp_base.specs.Table.{changed, put_in, size}
use Rattle.rsvp_base.proofs.Changed.{changed_put, has_changed}
use Rattle.rsvp_base.proofs.Sizes.{size_same}
use Rattle.style_rules.specs.Targets.{WallKey, wall_keys}
use Rattle.style_rules.specs.declared.wall.Wall.{Wall}
use Rattle.router_rules.specs.Calls.{act_stale, needs, stale_refusal, unless, with_left}
use Rattle.router_rules.specs.Facts.{Blockade, Facts}
use Rattle.router_rules.specs.Inputs.{StaleWall}
use Rattle.router_rules.specs.declared.answers.StaleErr.{StaleErr}
use Rattle.router_rules.specs.declared.answers.StaleErr.TheVariants as stale
use Rattle.laws_sends.specs.State.{State, facts_of, wall_at}

pub at_most : (n : ℕ) → (512 < n → ⊥) → n ≤ 512
at_most n h = omega (arith, h)

within : (n : ℕ) → n ≤ 512 → nat_le n 512 ≡ true
within n le = grind (arith, nat_tests)

beyond : (n : ℕ) → 512 < n → nat_le n 512 ≡ false
beyond n lt = grind (arith, nat_tests)

module _ (c : ℕ) (n : State) (k : WallKey) (wall : Wall) (left : ℕ) (old : WallMap) (is : n.walls ≡ old) where
  abbrev pub block : Blockade
  block = record { wall = wall; dies = c + left }

  abbrev f : Facts
  f = facts_of c n

  abbrev with_it : WallMap
  with_it = put_in old k (wall, left)

  put_told : changed (wall_at c) with_it ≡ put_in f.walls k block
  put_told = changed_put wall_keys (wall_at c) old k (wall, left) block refl ∙ ap (λ (w : WallMap). put_in (changed (wall_at c) w) k block) (sym is)

  many : size (put_in f.walls k block) ≡ size with_it
  many = ap size (sym put_told) ∙ size_same wall_keys (changed (wall_at c) with_it) with_it (has_changed wall_keys (wall_at c) (λ k x. refl) with_it)

  -- it has room
  module _ (few : size with_it ≤ 512) where
    pub not_refused : stale_refusal n.place (StaleWall k block) f ≡ None
    not_refused = ap (λ b. needs {E = StaleErr} b stale.Full None) (ap (λ m. nat_le m 512) many ∙ within (size with_it) few)

    pub left_there : (new : WallMap) → new ≡ with_it → facts_of c (record n { walls = new }) ≡ act_stale n.place (StaleWall k block) f
    left_there new at = (λ i. record f { walls = (ap (changed (wall_at c)) at ∙ put_told) i }) ∙ sym (ap (λ (r : Option StaleErr). unless r (with_left (StaleWall k block) f) f) not_refused)

  -- it has none
  module _ (over : 512 < size with_it) where
    pub refused : stale_refusal n.place (StaleWall k block) f ≡ Some stale.Full
    refused = ap (λ b. needs {E = StaleErr} b stale.Full None) (ap (λ m. nat_le m 512) many ∙ beyond (size with_it) over)

    pub as_it_was : (new : WallMap) → new ≡ old → facts_of c (record n { walls = new }) ≡ act_stale n.place (StaleWall k block) f
    as_it_was new at = (λ i. record f { walls = changed (wall_at c) ((at ∙ sym is) i) }) ∙ sym (ap (λ (r : Option StaleErr). unless r (with_left (StaleWall k block) f) f) refused)
