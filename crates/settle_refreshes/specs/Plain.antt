-- Plain runs: nothing is injected, and nobody asks for a confirmation.
use Rattle.std.specs.Prelude.{◌≡◌, ◌*◌, ◌+◌, ℕ, None, false}
use Rattle.rsvp_base.specs.declared.session.Session.{Session}
use Rattle.rsvp_base.specs.Members.{In}
use Rattle.calm_rounds.specs.Hold.{Visited}
use Rattle.router_rules.specs.Inputs.{Local, SendAs, DropAs, AdvertAs, WantAs, QuitAll, Stale, StalePath, StaleResv, StaleWall}
use Rattle.network_model.specs.Events.{Event, AtNode, Injects}
use Rattle.network_model.specs.Runs.{Plan, first_world, steps_of_run}
use Rattle.network_model.specs.Steps.{machine}
use Rattle.network_model.specs.Worlds.{Item, World}
use Rattle.settle_refreshes.specs.Refreshes.{HasNoErrorForAll, MayGoRound, NobodyWaits}

-- ---- what is plain
-- a call that asks for no confirmation
abbrev pub IsPlainCall : Local → Type 0
IsPlainCall (SendAs s x tspec) = Unit {0}
IsPlainCall (DropAs s x) = Unit {0}
IsPlainCall (AdvertAs s x) = Unit {0}
IsPlainCall (WantAs s st names flow mark) = mark ≡ false
IsPlainCall (QuitAll s) = Unit {0}

-- the event injects nothing
abbrev pub InjectsNothing : Event → Type 0
InjectsNothing (Injects e dst a) = ⊥
InjectsNothing _ = Unit {0}

-- nor does it ask for a confirmation
abbrev pub IsPlainEvent : Event → Type 0
IsPlainEvent (Injects e dst a) = ⊥
IsPlainEvent (AtNode n l) = IsPlainCall l
IsPlainEvent _ = Unit {0}

-- a left-over reservation that keeps no address for a confirmation
abbrev pub IsPlainStale : Stale → Type 0
IsPlainStale (StalePath k x) = Unit {0}
IsPlainStale (StaleResv st k r) = r.confirm ≡ None
IsPlainStale (StaleWall k b) = Unit {0}

pub record IsPlain (p : Plan) : Type 0 where
  pub stale : (n : ℕ) (i : Stale) → In (n, i) p.stale → IsPlainStale i
  pub events : (e : Event) → In e p.events → IsPlainEvent e

-- ---- what its worlds keep
-- nobody waits for a confirmation; and nothing that may go round is in flight, nor what is answered by such
pub record IsPlainWorld (w : World) : Type 0 where
  pub waits : NobodyWaits w
  pub errors : (s : Session) → HasNoErrorForAll w s
  pub none : (y : Item) → In y w.flight → MayGoRound y → ⊥

-- in each world of the run no ResvErr with a fixed or a shared filter that names nobody is in flight, nor a bad Resv that is answered by one
abbrev pub NoErrorIsForAll : Plan → Type 0
NoErrorIsForAll p = Visited (machine p.quarter) (λ w. (s : Session) → HasNoErrorForAll w s) (steps_of_run p) (first_world p)

abbrev pub StaysPlain : Plan → Type 0
StaysPlain p = Visited (machine p.quarter) IsPlainWorld (steps_of_run p) (first_world p)

-- 13 H + 14 calm rounds, H the length of the longest chain of hops
abbrev pub to_plain_refreshes : ℕ → ℕ
to_plain_refreshes long = 13 * long + 14
