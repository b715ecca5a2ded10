-- A receiver quits, or asks for no more than before (RFC 2205, 3.11.1: RELEASE and RESERVE).
use Rattle.std.specs.Prelude.{◌≡◌, ℕ, List, [], ◌∷◌, Bool, Some, slice_get, false}
use Rattle.rsvp_base.specs.declared.session.Session.{Session}
use Rattle.rsvp_base.specs.declared.style.StyleKind.{StyleKind}
use Rattle.rsvp_base.specs.Members.{In}
use Rattle.rsvp_base.specs.Orders.{Names}
use Rattle.rsvp_base.specs.Table.{get}
use Rattle.rsvp_base.specs.TokenBucket.{TokenBucket}
use Rattle.style_rules.specs.Parts.{IsPartAtMost}
use Rattle.router_rules.specs.Calls.{wanted}
use Rattle.router_rules.specs.Facts.{Facts, Want, WantKey}
use Rattle.router_rules.specs.Inputs.{QuitAll}
use Rattle.network_model.specs.Steps.{At, step}
use Rattle.network_model.specs.Worlds.{World}

-- the world after the receivers at a node quit
abbrev pub after_quit : ℕ → ℕ → Session → World → World
after_quit q n s w = step q (At n (QuitAll s)) w

-- and after those of several nodes do, one after the other, before anything is delivered
abbrev pub after_quits : ℕ → List (ℕ × Session) → World → World
after_quits q [] w = w
after_quits q (x ∷ xs) w = after_quits q xs (after_quit q x.0 x.1 w)

-- no receiver waits for a confirmation to be asked for: no want of a node has a mark
abbrev pub HasNoMark : World → Type 0
HasNoMark w = (n : ℕ) (f : Facts) (k : WantKey) (x : Want) → slice_get w.nodes n ≡ Some f → get f.wants k ≡ Some x → x.confirm ≡ false

-- a receiver asks for no more than before: in the place of each want of the call there was a local one that is no less
abbrev pub AsksNoMore : World → ℕ → Session → StyleKind → Names → TokenBucket → Bool → Type 0
AsksNoMore w n s st names flow confirm =
    (f : Facts) (k : WantKey) (new : Want) → slice_get w.nodes n ≡ Some f → In (k, new) (wanted s st names flow confirm) → (old : Want) × (get f.wants k ≡ Some old) × IsPartAtMost new.part old.part
