-- What holds of a router between two calls.
use Rattle.std.specs.Prelude.{◌≡◌, List, length}
use Rattle.router_rules.specs.declared.route.Route.{Route}
use Rattle.router_state.specs.Routes.{AreRoutes}
use Rattle.router_state.specs.State.{State}
use Rattle.live_router.specs.Bounded.{IsBounded}

-- its facts are within bounds, its routes in their order, and there is room for as many
pub record IsLive (n : State) (spare : List Route) : Type 0 where
  pub bounded : IsBounded n
  pub routed : AreRoutes n.place.routes
  pub room : length spare ≡ length n.place.routes
