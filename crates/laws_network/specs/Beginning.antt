-- What a script may say, so that its first world is within bounds.
use Rattle.std.specs.Prelude.{◌≡◌, ℕ, ◌≤◌, ◌<◌, [], ◌∷◌, Some, None, codes}
use Rattle.rsvp_base.specs.declared.style.StyleKind.TheVariants.{Wild}
use Rattle.rsvp_base.specs.declared.style.Unit.TheVariants.{One}
use Rattle.rsvp_base.specs.Members.{In}
use Rattle.rsvp_base.specs.Table.{get}
use Rattle.tree_model.specs.Lines.{LineKey}
use Rattle.network_model.specs.RouterRules.Facts.{ResvState, resvs_of}
use Rattle.network_model.specs.RouterRules.Inputs.{Stale, StaleResv}
use Rattle.network_model.specs.ThreeRouters.{r1, session, scope, usual}
use Rattle.network_model.specs.RouterRules.Steps.{IsFitStale}
use Rattle.tree_model.specs.Trees.{trees_of}
use Rattle.tree_model.specs.Valid.{IsValid}
use Rattle.network_model.specs.Links.{NoEndIsAGroup}
use Rattle.network_model.specs.Runs.{Plan, first_facts}
use Rattle.network_model.specs.Worlds.{config_of}
use Rattle.laws_network.specs.Example.{pair_net}

-- there is a period, the network is valid, its ends have addresses of hosts, and what is left over at a node is fit there
pub record IsFitPlan (p : Plan) : Type 0 where
  pub period : 1 ≤ p.quarter
  pub net : IsValid p.net
  pub hosts : NoEndIsAGroup p.net
  pub stale : (n : ℕ) (i : Stale) → n < p.net.nodes → In (n, i) p.stale → IsFitStale (config_of p.quarter p.net (trees_of p.net.hops) n) 0 i

-- ---- the pair of nodes, with a reservation that is left over at the first
abbrev pub left_key : LineKey
left_key = (session, ((0, r1), One))

abbrev pub left_resv : ResvState
left_resv = record { part = record { senders = scope; flow = usual }; confirm = None; dies = 157500 }

abbrev pub left_plan : Plan
left_plan = record { quarter = 7500; seed = 1; net = pair_net; names = codes "s1" ∷ codes "r1" ∷ []; stale = (0, StaleResv Wild left_key left_resv) ∷ []; events = [] }

pub record APlanIsFit : Type 0 where
  pub fit : IsFitPlan left_plan
  pub there : get (resvs_of Wild (first_facts left_plan 0)) left_key ≡ Some left_resv
