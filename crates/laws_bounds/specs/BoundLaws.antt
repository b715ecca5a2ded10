-- A step keeps a node within bounds: the claims of the public laws.
use Rattle.std.specs.Prelude.{◌≡◌, ℕ, ◌≤◌, Some}
use Rattle.rsvp_base.specs.declared.part.Part.{Part}
use Rattle.rsvp_base.specs.declared.style.StyleKind.{StyleKind}
use Rattle.rsvp_base.specs.Table.{get}
use Rattle.style_rules.specs.Limits.{IsWithinLimits}
use Rattle.style_rules.specs.Lines.{LineKey, held}
use Rattle.rsvp_base.specs.declared.entry_key.EntryKey.{EntryKey}
use Rattle.style_rules.specs.Parts.{IsPartAtMost}
use Rattle.router_rules.specs.Books.{book, lines_of}
use Rattle.router_rules.specs.Bounds.{AreBooked, IsShaped, IsWithinBounds}
use Rattle.router_rules.specs.Facts.{Facts, ResvState, resvs_of}
use Rattle.router_rules.specs.Inputs.{Input, Stale}
use Rattle.router_rules.specs.NodeConfig.{NodeConfig}
use Rattle.router_rules.specs.Rule.{facts_with}
use Rattle.router_rules.specs.Steps.{facts_then, AreFewer, IsSameNode, IsFit, clock_after, IsFitStale}

-- ---- fewer facts, smaller book
abbrev pub ResvsAreShaped : NodeConfig → Facts → Type 0
ResvsAreShaped p f = (st : StyleKind) (k : LineKey) (r : ResvState) → get (resvs_of st f) k ≡ Some r → IsShaped p st k r

pub record FewerFactsSmallerBook : Type 0 where
  pub shapes : (p : NodeConfig) (f g : Facts) → AreFewer f g → ResvsAreShaped p f → ResvsAreShaped p g
  pub limits : (f g : Facts) → AreFewer f g → (st : StyleKind) → IsWithinLimits st (lines_of st (resvs_of st f)) → IsWithinLimits st (lines_of st (resvs_of st g))
  pub sum : (f g : Facts) → AreFewer f g → (i : ℕ) → held (book g i) ≤ held (book f i)
  pub entries : (f g : Facts) → AreFewer f g → (i : ℕ) (k : EntryKey) (x : Part) → get (book g i) k ≡ Some x → (y : Part) × (get (book f i) k ≡ Some y) × IsPartAtMost x y
  pub booked : (p : NodeConfig) (f g : Facts) → AreFewer f g → AreBooked p f → AreBooked p g

abbrev pub AStepKeepsANodeWithinBounds : Type 0
AStepKeepsANodeWithinBounds =
    (old p : NodeConfig) (b : ℕ) (i : Input) (f : Facts) → IsSameNode old p → IsFit p i → IsWithinBounds old b f → IsWithinBounds p (clock_after b i) (facts_then old p (clock_after b i) i f)

abbrev pub LeftOverFactsAreWithinBounds : Type 0
LeftOverFactsAreWithinBounds = (p : NodeConfig) (c : ℕ) (i : Stale) (f : Facts) → 1 ≤ p.quarter → IsFitStale p c i → IsWithinBounds p c f → IsWithinBounds p c (facts_with p c i f)
