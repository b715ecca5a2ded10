-- Refreshes of a session by a node (RFC 2205, 3.7): the moment of the next, and that it is reached.
use Rattle.std.specs.Prelude.{◌≡◌, ℕ, ◌+◌, ◌≤◌, Option, Some, slice_get, option_and_then}
use Rattle.rsvp_base.specs.declared.session.Session.{Session}
use Rattle.rsvp_base.specs.Table.{get}
use Rattle.network_model.specs.RouterRules.Facts.{Facts}
use Rattle.network_model.specs.Steps.{Step, Piece}
use Rattle.network_model.specs.Worlds.{World}

abbrev pub due_at : World → ℕ → Session → Option ℕ
due_at u n s = option_and_then (λ f. get f.due s) (slice_get u.nodes n)

pub record Refreshes (n : ℕ) (session : Session) (s : Step) (u : World) : Type 0 where
  pub ms : ℕ
  pub waits : s ≡ Piece ms
  pub facts : Facts
  pub there : slice_get u.nodes n ≡ Some facts
  pub moment : ℕ
  pub due : get facts.due session ≡ Some moment
  pub reached : moment ≤ u.clock + ms
