-- Flows by sender as they are listed.
use Rattle.std.specs.Prelude.{◌≡◌, List, [], ◌∷◌, Option, Some, None}
use Rattle.rsvp_base.specs.Table.{empty, get}
use Rattle.rsvp_base.specs.TokenBucket.{TokenBucket}
use Rattle.rsvp_base.specs.declared.session.Sender.{Sender}
use Rattle.rsvp_messages.specs.FlowTable.{FlowTable}
use Rattle.style_rules.specs.Merge.{PartTable, put_some}
use Rattle.router_rules.specs.Asking.{flow_at}

-- a list of fixed filters has at least one; no list stands for none
abbrev pub flows_in : Option FlowTable → FlowTable
flows_in None = empty
flows_in (Some list) = list

-- each sender has the flow of its unit
abbrev pub AreFlowsOf : PartTable → FlowTable → Type 0
AreFlowsOf ps t = (x : Sender) (f : TokenBucket) → get t x ≡ Some f → flow_at ps x ≡ Some f

-- with each of these, where its unit has a flow
abbrev pub flows_with : PartTable → FlowTable → List Sender → FlowTable
flows_with ps t [] = t
flows_with ps t (x ∷ xs) = flows_with ps (put_some x (flow_at ps x) t) xs
