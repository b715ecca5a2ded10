-- What is said of the state of a node: the claims of the public laws.
use Rattle.std.specs.Prelude.{◌≡◌, ℕ, ◌+◌, ◌*◌, ◌≤◌, true, List, map as each, Some}
use Rattle.std.specs.List.{list_any}
use Rattle.std.specs.FinMap.Entries.{find}
use Rattle.resv_state.specs.Resvs.{ResvFacts}
use Rattle.resv_state.specs.declared.fact.ResvFact.{ResvFact}
use Rattle.rsvp_base.specs.Table.{changed, get}
use Rattle.rsvp_base.specs.declared.addr.Addr.{Addr}
use Rattle.rsvp_base.specs.declared.session.Sender.{Sender}
use Rattle.rsvp_base.specs.declared.session.Session.{Session}
use Rattle.rsvp_base.specs.declared.style.StyleKind.{StyleKind}
use Rattle.resv_state.specs.StyleRules.Lines.{LineKey}
use Rattle.resv_state.specs.StyleRules.Parts.{has_name}
use Rattle.laws_bounds.specs.RouterRules.Act.{act}
use Rattle.laws_bounds.specs.RouterRules.Facts.{Facts}
use Rattle.laws_bounds.specs.RouterRules.Forgetting.{is_lost, remembered}
use Rattle.laws_bounds.specs.RouterRules.Inputs.{Input}
use Rattle.laws_bounds.specs.RouterRules.NodeConfig.{NodeConfig, route_in}
use Rattle.laws_bounds.specs.RouterRules.Rule.{facts_after, settled}
use Rattle.laws_bounds.specs.RouterRules.Waiting.{act_wait}
use Rattle.laws_bounds.specs.RouterRules.declared.route.Route.{Route}
use Rattle.router_state.specs.Forgotten.{forgotten_all, is_gone}
use Rattle.router_state.specs.Routes.{route_keys, route_row}
use Rattle.router_state.specs.State.{AreUnmarked, IsKept, IsSettled, State, facts_of, no_state, resv_at}
use Rattle.router_state.specs.Waited.{aged}

abbrev pub NoFactsAreKept : Type 0
NoFactsAreKept = (p : NodeConfig) → IsKept (no_state p)

-- the first route of a group and source is the one that their order finds
abbrev pub RoutesAreFound : Type 0
RoutesAreFound = (rs : List Route) (g a : Addr) → route_in rs g a ≡ find route_keys.cmp (g, a) (each route_row rs)

-- where no want is marked, what is left is what the input does, with names forgotten and countdowns settled
abbrev pub FactsAreSettled : Type 0
FactsAreSettled = (p : NodeConfig) (c : ℕ) (i : Input) (f : Facts) → AreUnmarked (act p c i f).facts.wants → facts_after p p c i f ≡ settled p c f (act p c i f).facts

-- where nothing changed, nothing is forgotten and no countdown moves
abbrev pub SameSettles : Type 0
SameSettles = (p : NodeConfig) (c : ℕ) (n : State) → IsSettled n → settled p c (facts_of c n) (facts_of c n) ≡ facts_of c n

-- tables that have lost some milliseconds are the facts after a wait, before names are forgotten
abbrev pub TimePasses : Type 0
TimePasses = (n : State) (c ms word : ℕ) → ms ≤ 2 * n.place.quarter → facts_of (c + ms) (aged ms word n) ≡ (act_wait n.place (c + ms) word (facts_of c n)).facts

-- names that leave a table one after another are what the rule forgets at once, where they are the names that are lost
abbrev pub NamesAreForgotten : Type 0
NamesAreForgotten =
    (st : StyleKind) (before after : Facts) (c : ℕ) (gs : List (Session × Sender)) (t : ResvFacts) → ((k : LineKey) (e : ResvFact × ℕ) → get t k ≡ Some e → has_name e.0.part ≡ true)
    → ((s : Session) (x : Sender) → list_any (is_gone s x) gs ≡ is_lost st before after s x)
    → changed (resv_at c) (forgotten_all gs t) ≡ changed (remembered st before after) (changed (resv_at c) t)
