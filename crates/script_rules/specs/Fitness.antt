-- What may be left over at a node of what the lines so far declare.
use Rattle.std.specs.Prelude.{ℕ, ◌/◌, ◌<◌, ◌^◌, List, [], ◌∷◌, Option, Some, None, get_or}
use Rattle.std.proofs.Props.{props}
use Rattle.std.specs.List.{All, AllByRecursion}
use Rattle.rsvp_base.specs.declared.flow.Peak.{Peak}
use Rattle.rsvp_base.specs.declared.flow.Peak.TheVariants.{Finite, Infinite}
use Rattle.rsvp_messages.specs.Proper.{WhereThere}
use Rattle.rsvp_messages.specs.RsvpObjects.AdspecLaws.{IsAdspec}
use Rattle.rsvp_messages.specs.RsvpObjects.RateLaws.{IsPeak}
use Rattle.rsvp_messages.specs.RsvpObjects.declared.adspec.Adspec.{Adspec}
use Rattle.style_rules.specs.declared.target.Target.{Target}
use Rattle.style_rules.specs.declared.target.Target.TheVariants as target
use Rattle.router_rules.specs.Bounds.{IsTarget}
use Rattle.router_rules.specs.Inputs.{Stale, StalePath, StaleResv, StaleWall}
use Rattle.router_rules.specs.NodeConfig.{NodeConfig}
use Rattle.router_rules.specs.Steps.{IsFitStale}
use Rattle.tree_model.specs.declared.hops.End.{End}
use Rattle.tree_model.specs.Networks.{Net}
use Rattle.stale_state.specs.Fit.{AreFitAll, place_of}
use Rattle.stale_state.specs.Kept.{stale_of}
use Rattle.stale_state.specs.declared.fact.LeftOver.{LeftOver}
use Rattle.script_grammar.specs.Draft.{Draft, period_of}

-- it lives no longer than a fact that was just refreshed there, and has the shape of one
abbrev pub IsFitAt : Draft → ℕ → Stale → Type 0
IsFitAt d node s = IsFitStale (place_of (period_of d / 4) d.net node) 0 s

-- each end is of one of so many nodes
abbrev pub ArePlaced : ℕ → List End → Type 0
ArePlaced nodes ends = All (λ e. e.node < nodes) ends

-- ---- at most one proof shows this of a list
target_prop : (p : NodeConfig) (t : Target) → IsProp (IsTarget p t)
target_prop p (target.Hop i a) = hlevel props
target_prop p (target.Sender s) = hlevel props

peak_prop : (r : Peak) → IsProp (IsPeak r)
peak_prop (Finite n) = hlevel props
peak_prop Infinite = hlevel props

words_prop : (ws : List ℕ) → IsProp (AllByRecursion (λ w. w < 2 ^ 32) ws)
words_prop [] = hlevel props
words_prop (w ∷ ws) = hlevel (props, words_prop ws)

adspec_prop : (a : Option Adspec) → IsProp (WhereThere IsAdspec a)
adspec_prop None = hlevel props
adspec_prop (Some a) = hlevel (props, peak_prop, words_prop)

fit_prop : (p : NodeConfig) (c : ℕ) (s : Stale) → IsProp (IsFitStale p c s)
fit_prop p c (StalePath k x) = hlevel (props, adspec_prop)
fit_prop p c (StaleResv st k r) = hlevel props
fit_prop p c (StaleWall k b) = hlevel (props, target_prop)

pub fit_all_prop : (q : ℕ) (net : Net) (ls : List LeftOver) → IsProp (AreFitAll q net ls)
fit_all_prop q net ls f g i k d lt = fit_prop (place_of q net (get_or ls k d).node) 0 (stale_of (get_or ls k d).fact (get_or ls k d).left) (f k d lt) (g k d lt) i
