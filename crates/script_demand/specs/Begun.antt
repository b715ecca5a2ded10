-- Who asks for sessions behind the events of a script, in the order in which they began.
use Rattle.std.specs.Prelude.{ℕ, List, [], ◌∷◌, Option, None, Some}
use Rattle.network_demand.specs.Late.{begun_with, begun_without}
use Rattle.network_demand.specs.declared.late.Begun.{Begun}
use Rattle.network_model.specs.Events.{Event as Happening, AtNode}
use Rattle.network_model.specs.Happenings.{call_of}
use Rattle.network_model.specs.RouterRules.Inputs.{Local, SendAs, DropAs, AdvertAs, WantAs, QuitAll}
use Rattle.network_model.specs.declared.event.Event.{Event}
use Rattle.network_model.specs.declared.event.Event.TheVariants as event

-- a node that wants something of a session asks for it from then on; one that quits the session does so no longer
abbrev pub after_call : List Begun → ℕ → Local → List Begun
after_call bs n (WantAs s st names flow confirm) = begun_with bs (record { node = n; session = s; style = st })
after_call bs n (QuitAll s) = begun_without bs n s
after_call bs n (SendAs s x flow) = bs
after_call bs n (DropAs s x) = bs
after_call bs n (AdvertAs s x) = bs

abbrev pub after_event : List Begun → Happening → List Begun
after_event bs (AtNode n l) = after_call bs n l
after_event bs _ = bs

abbrev pub begun_from : List Begun → List Happening → List Begun
begun_from bs [] = bs
begun_from bs (e ∷ es) = begun_from (after_event bs e) es

-- those who ask behind these events
abbrev pub begun_by : List Happening → List Begun
begun_by es = begun_from [] es

-- with an event as it is given
abbrev pub after_one : List Begun → Event → List Begun
after_one bs (event.Local n c) = after_call bs n (call_of c)
after_one bs _ = bs

-- if one is
abbrev pub after_given : List Begun → Option Event → List Begun
after_given bs None = bs
after_given bs (Some e) = after_one bs e
