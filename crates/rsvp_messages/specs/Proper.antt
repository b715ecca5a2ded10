-- What makes a message proper: what its type leaves open and its bytes cannot say otherwise (RFC 2205, 3.1; RFC 2210, 3).
use Rattle.std.specs.Prelude.{◌≡◌, ◌<◌, true, Option, Some, None}
use Rattle.rsvp_base.specs.declared.part.Part.{Part}
use Rattle.rsvp_base.specs.declared.session.Sender.{Sender}
use Rattle.rsvp_base.specs.declared.style.StyleKind.{StyleKind}
use Rattle.rsvp_base.specs.declared.style.StyleKind.TheVariants as style
use Rattle.rsvp_base.specs.Orders.{Names}
use Rattle.rsvp_base.specs.Table.{get, has, size}
use Rattle.rsvp_base.specs.TokenBucket.{TokenBucket, IsSound}
use Rattle.rsvp_objects.specs.AdspecLaws.{IsAdspec}
use Rattle.rsvp_messages.specs.declared.ask.Ask.{Ask}
use Rattle.rsvp_messages.specs.declared.ask.Ask.TheVariants as ask
use Rattle.rsvp_messages.specs.declared.ask.Blame.{Blame}
use Rattle.rsvp_messages.specs.declared.ask.Tear.{Tear}
use Rattle.rsvp_messages.specs.declared.ask.Tear.TheVariants as tear
use Rattle.rsvp_messages.specs.declared.message.Message.{Message}
use Rattle.rsvp_messages.specs.declared.message.Message.TheVariants as message
use Rattle.rsvp_messages.specs.FlowTable.{FlowTable}

-- it names someone
abbrev pub IsSome : Names → Type 0
IsSome names = 0 < size names

-- it names addresses alone: each port is 0
abbrev pub IsScope : Names → Type 0
IsScope names = (s : Sender) → has names s ≡ true → s.port ≡ 0

-- what is there is so
abbrev pub WhereThere : {X : Type 0} → (X → Type 0) → Option X → Type 0
WhereThere P None = Unit {0}
WhereThere P (Some x) = P x

-- a sender with a flow, each at least 1
abbrev pub AreFlows : FlowTable → Type 0
AreFlows list = (s : Sender) (f : TokenBucket) → get list s ≡ Some f → IsSound f

pub record IsWildAsk (scope : Option Names) (flow : TokenBucket) : Type 0 where
  pub scope_is : WhereThere IsScope scope
  pub flow_is : IsSound flow

pub record IsFixedAsk (list : FlowTable) : Type 0 where
  pub some : 0 < size list
  pub flows : AreFlows list

pub record IsSharedAsk (part : Part) : Type 0 where
  pub some : IsSome part.senders
  pub flow : IsSound part.flow

abbrev pub IsProperAsk : Ask → Type 0
IsProperAsk (ask.Wild scope flow) = IsWildAsk scope flow
IsProperAsk (ask.Fixed list) = IsFixedAsk list
IsProperAsk (ask.Shared part) = IsSharedAsk part

-- an ask without SCOPE, as a ResvConf has it
abbrev pub HasNoScope : Ask → Type 0
HasNoScope (ask.Wild scope flow) = scope ≡ None
HasNoScope (ask.Fixed list) = Unit {0}
HasNoScope (ask.Shared part) = Unit {0}

abbrev pub IsProperTear : Tear → Type 0
IsProperTear (tear.Wild scope) = WhereThere IsScope scope
IsProperTear (tear.Fixed senders) = IsSome senders
IsProperTear (tear.Shared senders) = IsSome senders

-- both senders and flow, or neither; the senders so
abbrev pub AreBothOrNeither : (Names → Type 0) → Option Names → Option TokenBucket → Type 0
AreBothOrNeither P None None = Unit {0}
AreBothOrNeither P (Some names) (Some flow) = P names × IsSound flow
AreBothOrNeither P None (Some flow) = ⊥
AreBothOrNeither P (Some names) None = ⊥

abbrev pub IsProperBlameOf : StyleKind → Option Names → Option TokenBucket → Type 0
IsProperBlameOf style.Wild names flow = WhereThere IsScope names × WhereThere IsSound flow
IsProperBlameOf style.Fixed names flow = AreBothOrNeither (λ n. size n ≡ 1) names flow
IsProperBlameOf style.Shared names flow = AreBothOrNeither IsSome names flow

abbrev pub IsProperBlame : Blame → Type 0
IsProperBlame b = IsProperBlameOf b.style b.senders b.flow

abbrev pub IsProper : Message → Type 0
IsProper (message.Path m) = WhereThere (λ (e : Sender × TokenBucket). IsSound e.1) m.sender × WhereThere IsAdspec m.adspec
IsProper (message.Resv m) = IsProperAsk m.ask
IsProper (message.PathErr m) = Unit {0}
IsProper (message.ResvErr m) = IsProperBlame m.blame
IsProper (message.PathTear m) = Unit {0}
IsProper (message.ResvTear m) = IsProperTear m.tear
IsProper (message.ResvConf m) = IsProperAsk m.ask × HasNoScope m.ask
