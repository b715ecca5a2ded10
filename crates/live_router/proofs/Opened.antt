-- Routers of a network before anything happened.
use Rattle.std.specs.Prelude.{◌≡◌, ℕ, List, [], ◌∷◌, map as each, refl, IfOk, Result, Ok, Err}
use Rattle.std.specs.List.{range_with_len}
use Rattle.std.proofs.Common.{ap, sym, subst, ◌∙◌}
use Rattle.std.proofs.lemmas.List.Elements.{All-nil, All-cons, All-head, All-tail}
use Rattle.rsvp_base.specs.declared.room.NoMemory.{NoMemory}
use Rattle.stale_state.specs.Kept.{stale_of}
use Rattle.stale_state.specs.declared.fact.LeftOver.{LeftOver}
use Rattle.live_router.specs.SeenNode.{seen_node}
use Rattle.network_replay.specs.Opening.{AreFirst}
use Rattle.network_model.specs.Runs.{Plan, left_over}
use Rattle.router_state.specs.State.{State, facts_at, no_state}
use Rattle.router_rules.specs.Facts.{Facts, no_facts}
use Rattle.router_rules.specs.Inputs.{Stale}
use Rattle.router_rules.specs.NodeConfig.{NodeConfig}
use Rattle.router_rules.specs.Steps.{IsFitStale}
use Rattle.tree_model.specs.Networks.{Net}
use Rattle.stale_state.specs.Fit.{AreFitAll, place_of}
use Rattle.live_router.specs.Leaving.{AreFitAt, IsFitAt}

abbrev first_at : ℕ → Net → List (ℕ × Stale) → ℕ → Facts
first_at q net ss n = left_over (place_of q net n) n ss no_facts

pub first_of : (q : ℕ) (net : Net) (ss : List (ℕ × Stale)) (rs : List State) → each (λ r. facts_at 0 r) rs ≡ each (first_at q net ss) (range_with_len 0 net.nodes)
    → (p : Plan) → p.quarter ≡ q → p.net ≡ net → p.stale ≡ ss → AreFirst seen_node p rs
first_of q net ss rs first p quarter wires stale =
    first ∙ (λ i. each (first_at (sym quarter i) (sym wires i) (sym stale i)) (range_with_len 0 (sym wires i).nodes))

nothing_yet : (p : NodeConfig) (c : ℕ) → facts_at c (no_state p) ≡ no_facts
unfolding facts_at
nothing_yet p c = refl

none_at : (p : NodeConfig) (r : State) → r ≡ no_state p → (c : ℕ) → facts_at c r ≡ no_facts
none_at p r e c = ap (λ (s : State). facts_at c s) e ∙ nothing_yet p c

pub none_kept : (p : NodeConfig) (r : State) → r ≡ no_state p → facts_at 0 r ≡ no_facts
none_kept p r e = none_at p r e 0

-- if it could be opened
pub none_if_opened : (r : Result State NoMemory) (p : NodeConfig) → IfOk r (λ s. s ≡ no_state p) → IfOk r (λ s. (c : ℕ) → facts_at c s ≡ no_facts)
none_if_opened (Ok s) p e = none_at p s e
none_if_opened (Err e) p is = tt

-- ---- those of one node among all
module _ (q : ℕ) (net : Net) (n : ℕ) where
  abbrev Fits : LeftOver → Type 0
  Fits l = IsFitStale (place_of q net l.node) 0 (stale_of l.fact l.left)

  abbrev FitsHere : LeftOver → Type 0
  FitsHere = IsFitAt (place_of q net n) n

  pub fit_at : (ls : List LeftOver) → AreFitAll q net ls → AreFitAt (place_of q net n) n ls
  fit_at [] all = All-nil FitsHere
  fit_at (l ∷ ls) all = All-cons FitsHere l ls (λ own. subst (λ (m : ℕ). IsFitStale (place_of q net m) 0 (stale_of l.fact l.left)) own (All-head Fits l ls all)) (fit_at ls (All-tail Fits l ls all))
