-- An event that a line adds to those before, as it is given to be run.
use Rattle.std.specs.Prelude.{◌≡◌, List, [], ◌∷◌, ◌++◌, Option, None, Some}
use Rattle.message_codec.specs.Spells.{Spells, IsFirstFault}
use Rattle.network_model.specs.Events.{Event as Happening}
use Rattle.network_model.specs.Happenings.{IsFitEvent, IsReading, event_with}
use Rattle.network_model.specs.RouterRules.Inputs.{Arrival}
use Rattle.network_model.specs.declared.event.Event.{Event}

-- what the bytes of an event are, if it has any
abbrev pub IsRead : Event → Arrival → Type 0
IsRead e a = IsReading Spells IsFirstFault e a

-- the event comes behind those before, and is fit to be run
pub record IsAdded (before : List Happening) (event : Event) (after : List Happening) : Type 0 where
  pub fit : IsFitEvent event
  pub arrival : Arrival
  pub read : IsRead event arrival
  pub events : after ≡ before ++ event_with arrival event ∷ []

-- an event is given, and added; or none is
abbrev pub IsGiven : List Happening → Option Event → List Happening → Type 0
IsGiven before None after = after ≡ before
IsGiven before (Some event) after = IsAdded before event after
