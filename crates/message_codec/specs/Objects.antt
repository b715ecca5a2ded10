-- Which objects a message is written as, in which order (RFC 2205, 3.1.3 to 3.1.9).
use Rattle.std.specs.Prelude.{false, List, [], ◌∷◌, ◌++◌, map as each, Option, Some, None}
use Rattle.rsvp_base.specs.declared.session.Sender.{Sender}
use Rattle.rsvp_base.specs.declared.style.StyleKind.{StyleKind}
use Rattle.rsvp_base.specs.declared.style.StyleKind.TheVariants.{Wild, Fixed, Shared}
use Rattle.rsvp_base.specs.Orders.{Names}
use Rattle.rsvp_base.specs.Table.{keys}
use Rattle.rsvp_base.specs.TokenBucket.{TokenBucket}
use Rattle.rsvp_objects.specs.declared.object.Object.{Object}
use Rattle.rsvp_objects.specs.declared.object.Object.TheVariants as object
use Rattle.rsvp_messages.specs.declared.ask.Ask.{Ask}
use Rattle.rsvp_messages.specs.declared.ask.Ask.TheVariants as ask
use Rattle.rsvp_messages.specs.declared.ask.Blame.{Blame}
use Rattle.rsvp_messages.specs.declared.ask.Tear.{Tear}
use Rattle.rsvp_messages.specs.declared.ask.Tear.TheVariants as tear
use Rattle.rsvp_messages.specs.declared.message.Message.{Message}
use Rattle.rsvp_messages.specs.declared.message.Message.TheVariants as message
use Rattle.rsvp_messages.specs.declared.message.PathMsg.{PathMsg}
use Rattle.rsvp_messages.specs.declared.message.ResvMsg.{ResvMsg}
use Rattle.rsvp_messages.specs.declared.message.PathErrMsg.{PathErrMsg}
use Rattle.rsvp_messages.specs.declared.message.ResvErrMsg.{ResvErrMsg}
use Rattle.rsvp_messages.specs.declared.message.PathTearMsg.{PathTearMsg}
use Rattle.rsvp_messages.specs.declared.message.ResvTearMsg.{ResvTearMsg}
use Rattle.rsvp_messages.specs.declared.message.ResvConfMsg.{ResvConfMsg}

-- an object exactly where the value is there
abbrev pub where_there : {A : Type 0} → (A → Object) → Option A → List Object
where_there says None = []
where_there says (Some x) = says x ∷ []

abbrev pub sender_objects : Option (Sender × TokenBucket) → List Object
sender_objects None = []
sender_objects (Some e) = object.Template e.0 ∷ object.Tspec e.1 ∷ []

-- each sender with its flow before it, in order
abbrev pub pair_objects : List (Sender × TokenBucket) → List Object
pair_objects [] = []
pair_objects (e ∷ es) = object.FlowOf e.1 ∷ object.Filter e.0 ∷ pair_objects es

-- senders in order
abbrev pub filter_objects : List Sender → List Object
filter_objects ss = each object.Filter ss

abbrev pub ask_objects : Ask → List Object
ask_objects (ask.Wild scope f) = where_there object.Scope scope ++ object.StyleOf Wild ∷ object.FlowOf f ∷ []
ask_objects (ask.Fixed list) = object.StyleOf Fixed ∷ pair_objects list.rows
ask_objects (ask.Shared part) = object.StyleOf Shared ∷ object.FlowOf part.flow ∷ filter_objects (keys part.senders)

abbrev pub tear_objects : Tear → List Object
tear_objects (tear.Wild scope) = where_there object.Scope scope ++ object.StyleOf Wild ∷ []
tear_objects (tear.Fixed names) = object.StyleOf Fixed ∷ filter_objects (keys names)
tear_objects (tear.Shared names) = object.StyleOf Shared ∷ filter_objects (keys names)

abbrev pub named_objects : Option Names → List Object
named_objects None = []
named_objects (Some names) = filter_objects (keys names)

abbrev pub blame_by_style : StyleKind → Option Names → Option TokenBucket → List Object
blame_by_style Wild names f = where_there object.Scope names ++ object.StyleOf Wild ∷ where_there object.FlowOf f
blame_by_style k names f = object.StyleOf k ∷ where_there object.FlowOf f ++ named_objects names

abbrev pub blame_objects : Blame → List Object
blame_objects b = blame_by_style b.style b.senders b.flow

-- E_Police stands in a Path alone
abbrev pub path_objects : PathMsg → List Object
path_objects v = object.Session v.session v.police ∷ object.HopOf v.hop ∷ object.Time v.period ∷ sender_objects v.sender ++ where_there object.Advert v.adspec

abbrev pub resv_objects : ResvMsg → List Object
resv_objects v = object.Session v.session false ∷ object.HopOf v.hop ∷ object.Time v.period ∷ where_there object.Confirm v.confirm ++ ask_objects v.ask

abbrev pub path_err_objects : PathErrMsg → List Object
path_err_objects v = object.Session v.session false ∷ object.Error v.err ∷ where_there object.Template v.sender

abbrev pub resv_err_objects : ResvErrMsg → List Object
resv_err_objects v = object.Session v.session false ∷ object.HopOf v.hop ∷ object.Error v.err ∷ blame_objects v.blame

abbrev pub path_tear_objects : PathTearMsg → List Object
path_tear_objects v = object.Session v.session false ∷ object.HopOf v.hop ∷ where_there object.Template v.sender

abbrev pub resv_tear_objects : ResvTearMsg → List Object
resv_tear_objects v = object.Session v.session false ∷ object.HopOf v.hop ∷ tear_objects v.tear

abbrev pub resv_conf_objects : ResvConfMsg → List Object
resv_conf_objects v = object.Session v.session false ∷ object.Error v.err ∷ object.Confirm v.confirm ∷ ask_objects v.ask

abbrev pub objects_of : Message → List Object
objects_of (message.Path v) = path_objects v
objects_of (message.Resv v) = resv_objects v
objects_of (message.PathErr v) = path_err_objects v
objects_of (message.ResvErr v) = resv_err_objects v
objects_of (message.PathTear v) = path_tear_objects v
objects_of (message.ResvTear v) = resv_tear_objects v
objects_of (message.ResvConf v) = resv_conf_objects v
