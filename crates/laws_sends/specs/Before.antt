-- What is known of a node whose one sender changed, before the others are told.
use Rattle.std.specs.Prelude.{◌≡◌, ℕ, false, List, map as each, ◌++◌, Option, None}
use Rattle.rsvp_base.specs.Sets.{Set}
use Rattle.rsvp_base.specs.declared.style.StyleKind.{StyleKind}
use Rattle.rsvp_base.specs.declared.style.StyleKind.TheVariants.{Wild, Fixed, Shared}
use Rattle.router_state.specs.StyleRules.Lines.{NextHop, next_hops}
use Rattle.router_state.specs.RouterRules.Facts.{SenderKey}
use Rattle.router_state.specs.RouterRules.Offers.{Offer}
use Rattle.router_state.specs.State.{IsSaid, State, facts_of}
use Rattle.laws_sends.specs.Changed.{IsChangedFor}
use Rattle.laws_sends.specs.Saying.{SessionLane}
use Rattle.laws_sends.specs.SendsHere.{hops_in}
use Rattle.laws_sends.specs.Told.{offered}

-- the lanes toward these hops, in order
abbrev pub lanes_by : List NextHop → List SessionLane
lanes_by hops = each (λ hop. (Wild, hop)) hops ++ (each (λ hop. (Fixed, hop)) hops ++ each (λ hop. (Shared, hop)) hops)

-- n is the node before, m after; what was said is that of before, and so are the offer and the previous hops that are given
pub record IsBefore (k : SenderKey) (n m : State) (before : Option Offer) (near : Set next_hops) : Type 0 where
  pub change : IsChangedFor k n m
  pub same : m.said ≡ n.said
  pub said : IsSaid n.said n
  pub offer : (c : ℕ) → before ≡ offered (facts_of c n) k
  pub hops : (c : ℕ) → near ≡ hops_in (facts_of c n) k.0
