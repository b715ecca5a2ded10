-- Who asks behind one event more.
use Rattle.std.specs.Prelude.{◌≡◌, List, [], ◌∷◌, ◌++◌, Option, None, Some, refl}
use Rattle.std.proofs.Common.{ap, ◌∙◌}
use Rattle.network_demand.specs.declared.late.Begun.{Begun}
use Rattle.network_model.specs.Events.{Event as Happening}
use Rattle.network_model.specs.Happenings.{event_with}
use Rattle.network_model.specs.RouterRules.Inputs.{Arrival}
use Rattle.network_model.specs.declared.event.Event.{Event}
use Rattle.network_model.specs.declared.event.Event.TheVariants as event
use Rattle.script_grammar.specs.GivenEvents.{IsGiven}
use Rattle.script_demand.specs.Begun.{after_event, after_given, after_one, begun_by, begun_from}

begun_on : (bs : List Begun) (es : List Happening) (e : Happening) → begun_from bs (es ++ e ∷ []) ≡ after_event (begun_from bs es) e
begun_on bs [] e = refl
begun_on bs (x ∷ es) e = begun_on (after_event bs x) es e

after_with : (bs : List Begun) (a : Arrival) (e : Event) → after_event bs (event_with a e) ≡ after_one bs e
after_with bs a (event.Local n c) = refl
after_with bs a (event.Wait ms) = refl
after_with bs a (event.Pass times) = refl
after_with bs a (event.Deliver place) = refl
after_with bs a (event.Lose place) = refl
after_with bs a (event.Again place) = refl
after_with bs a (event.Clear node) = refl
after_with bs a (event.Rounds times) = refl
after_with bs a (event.Trace on) = refl
after_with bs a (event.Report end) = refl
after_with bs a event.Flags = refl
after_with bs a event.Adverts = refl
after_with bs a (event.Inject end dst bytes) = refl
after_with bs a (event.Reroute group source hops) = refl

-- those who ask behind an event that is given are those before, with what it says
pub begun_more : (before : List Happening) (given : Option Event) (after : List Happening) → IsGiven before given after → begun_by after ≡ after_given (begun_by before) given
begun_more before None after is = ap begun_by is
begun_more before (Some e) after is = ap begun_by is.events ∙ begun_on [] before (event_with is.arrival e) ∙ after_with (begun_by before) is.arrival e
