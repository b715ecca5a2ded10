-- Worked rows of path state, at router r of the line.
use Rattle.std.specs.Prelude.{◌≡◌, true, false, List, [], ◌∷◌, map as each, Option, Some, None}
use Rattle.std.specs.List.{range_with_len}
use Rattle.std.specs.Option.{option_map}
use Rattle.rsvp_base.specs.declared.flow.Peak.TheVariants.{Finite}
use Rattle.rsvp_base.specs.declared.style.StyleKind.TheVariants.{Wild}
use Rattle.rsvp_base.specs.Table.{get, size, with_rows}
use Rattle.router_rules.specs.RsvpMessages.declared.message.Message.{Message}
use Rattle.router_rules.specs.RsvpMessages.declared.message.Message.TheVariants as message
use Rattle.router_rules.specs.RsvpMessages.declared.message.Kind.TheVariants as kind
use Rattle.router_rules.specs.RsvpMessages.declared.fault.Fault.{Fault}
use Rattle.router_rules.specs.RsvpMessages.declared.fault.Fault.TheVariants as fault
use Rattle.router_rules.specs.RsvpMessages.declared.fault.MsgErr.{MsgErr}
use Rattle.router_rules.specs.RsvpObjects.declared.obj_err.ObjErr.TheVariants as obj
use Rattle.router_rules.specs.RsvpObjects.declared.adspec.Adspec.{Adspec}
use Rattle.router_rules.specs.declared.answers.Heard.TheVariants as heard
use Rattle.router_rules.specs.declared.answers.Why.TheVariants as why
use Rattle.router_rules.specs.declared.answers.LocalErr.TheVariants as local
use Rattle.router_rules.specs.Calls.{call_refusal}
use Rattle.router_rules.specs.Facts.{Facts, no_facts}
use Rattle.router_rules.specs.Inputs.{Came, Send, Unspelt, SendAs, DropAs, AdvertAs, Clear, Moved}
use Rattle.router_examples.specs.ThreeRouters.{ip, s1, r1, r2, t1, group, session, first, second, flow, usual, node, node_s, node_r, iface, came, waited, called, path, path_tear, resv_err}
use Rattle.router_examples.specs.ThreeRouters.{sent, refreshed, error}
use Rattle.router_rules.specs.Rule.{Outcome, rule}

-- r with the path of the first sender
abbrev pub with_path : Outcome
with_path = came (node_r 10000) 0 0 group (path true s1 first usual) no_facts

abbrev half_way : Outcome
half_way = waited (node_r 10000) 15000 15000 0 with_path.facts

abbrev due : Outcome
due = waited (node_r 10000) 30000 15000 0 half_way.facts

-- a Path is learnt and goes on without E_Police; it goes on again when the session comes due
pub record PathGoesOn : Type 0 where
  pub taken : with_path.heard ≡ heard.Taken
  pub on : with_path.sent ≡ sent 1 group (path false r2 first usual) ∷ []
  pub quiet : half_way.sent ≡ []
  pub again : due.sent ≡ refreshed 1 group (path false r2 first usual) ∷ []

-- what is kept of a Path that had an ADSPEC
abbrev told : Adspec
told = record { broken = false; hops = 1; rate = Finite 10000; latency = 100; mtu = 1500; load = Some false; others = [] }

abbrev telling : Option Adspec → Message
telling adspec = message.Path (record { session = session; police = true; hop = record { addr = s1; handle = 0 }; period = 30000; sender = Some (first, usual); adspec = adspec })

abbrev advertised : Outcome
advertised = came (node_r 10000) 0 0 group (telling (Some told)) no_facts

-- of the first sender, where it has a path
abbrev kept_adspec : Outcome → Option (Option Adspec)
kept_adspec o = option_map (λ x. x.adspec) (get o.facts.paths (session, first))

-- the ADSPEC of the last Path that was taken, or none where it had none; it stays while the path lives, and goes with it
pub record AdspecsAreKept : Type 0 where
  pub kept : kept_adspec advertised ≡ Some (Some told)
  pub other : kept_adspec (came (node_r 10000) 5 0 group (telling (Some (record told { latency = 101 }))) advertised.facts) ≡ Some (Some (record told { latency = 101 }))
  pub none : kept_adspec (came (node_r 10000) 5 0 group (telling None) advertised.facts) ≡ Some None
  pub again : kept_adspec (came (node_r 10000) 5 0 group (telling (Some told)) with_path.facts) ≡ Some (Some told)
  pub dropped : kept_adspec (came (node_r 10000) 5 1 group (telling None) advertised.facts) ≡ Some (Some told)
  pub lives : kept_adspec (waited (node_r 10000) 157499 1 0 advertised.facts) ≡ Some (Some told)
  pub gone : kept_adspec (came (node_r 10000) 5 0 group (path_tear s1 first) advertised.facts) ≡ None

-- what goes on of it: one hop more, and no more than the interface has
abbrev passing : Option Adspec → Message
passing adspec = message.Path (record { session = session; police = false; hop = record { addr = r2; handle = 0 }; period = 30000; sender = Some (first, usual); adspec = adspec })

-- what the node sends on where this came after it
abbrev sent_after : Adspec → List Send
sent_after adspec = (came (node_r 10000) 5 0 group (telling (Some adspec)) advertised.facts).sent

-- a fragment of another service, and with its break bit
abbrev other_service : Adspec
other_service = record told { others = 0x02000000 ∷ [] }

abbrev other_broken : Adspec
other_broken = record told { hops = 2; others = 0x02800000 ∷ [] }

-- a Path goes on where its ADSPEC is another by the interface by which it leaves: what an interface hides is not told
pub record AdspecsGoOn : Type 0 where
  pub on : advertised.sent ≡ sent 1 group (passing (Some (record told { hops = 2 }))) ∷ []
  pub same : sent_after told ≡ []
  pub hidden : sent_after (record told { rate = Finite 12000 }) ≡ []
  pub lower : sent_after (record told { rate = Finite 9000 }) ≡ sent 1 group (passing (Some (record told { hops = 2; rate = Finite 9000 }))) ∷ []
  pub slower : sent_after (record told { latency = 101 }) ≡ sent 1 group (passing (Some (record told { hops = 2; latency = 101 }))) ∷ []
  pub smaller : sent_after (record told { mtu = 576 }) ≡ sent 1 group (passing (Some (record told { hops = 2; mtu = 576 }))) ∷ []
  pub broken : sent_after (record told { broken = true }) ≡ sent 1 group (passing (Some (record told { hops = 2; broken = true }))) ∷ []
  pub unread : sent_after other_service ≡ sent 1 group (passing (Some other_broken)) ∷ []
  pub silent : (came (node_r 10000) 5 0 group (telling None) advertised.facts).sent ≡ sent 1 group (passing None) ∷ []
  pub narrow : (came (node_r 5000) 0 0 group (telling (Some told)) no_facts).sent ≡ sent 1 group (passing (Some (record told { hops = 2; rate = Finite 5000 }))) ∷ []
  pub again : (waited (node_r 10000) 30000 15000 0 (waited (node_r 10000) 15000 15000 0 advertised.facts).facts).sent ≡ refreshed 1 group (passing (Some (record told { hops = 2 }))) ∷ []

-- sixteen senders, none of them the first
abbrev pub sixteen : Facts
sixteen = record no_facts {
  paths = with_rows no_facts.paths (each
      (λ port. (
        (session, record { addr = s1; port = port }),
        record { iface = 0; hop = record { addr = s1; handle = 0 }; tspec = usual; police = false; adspec = None; dies = 100000 },
      )) (range_with_len 1 16));
}

-- what is not for this node, or not by the tree, or without a sender, or one too many
pub record PathsDropped : Type 0 where
  pub not_inward : (came (node_r 10000) 0 1 group (path true s1 first usual) no_facts).heard ≡ heard.Dropped why.NotInward
  pub not_mine : (came (node_r 10000) 0 0 r1 (path true s1 first usual) no_facts).heard ≡ heard.Dropped why.NotMine
  pub no_sender : (came (node_r 10000) 0 0 group
      (message.Path (record { session = session; police = true; hop = record { addr = s1; handle = 0 }; period = 30000; sender = None; adspec = None })) no_facts).heard
      ≡ heard.Dropped why.NoSender
  pub full : (came (node_r 10000) 0 0 group (path true s1 first usual) sixteen).heard ≡ heard.Dropped why.Full
  pub none_sent : (came (node_r 10000) 0 0 group (path true s1 first usual) sixteen).sent ≡ []

-- a PathTear goes on, where it comes from the path's hop; a path that is not refreshed dies
abbrev torn : Outcome
torn = came (node_r 10000) 0 0 group (path_tear s1 first) with_path.facts

pub record PathsEnd : Type 0 where
  pub taken : torn.heard ≡ heard.Taken
  pub on : torn.sent ≡ sent 1 group (path_tear r2 first) ∷ []
  pub gone : size torn.facts.paths ≡ 0
  pub no_countdown : size torn.facts.due ≡ 0
  pub other_hop : (came (node_r 10000) 0 0 group (path_tear (ip 10 0 1 9) first) with_path.facts).heard ≡ heard.Dropped why.NoState
  pub other_sender : (came (node_r 10000) 0 0 group (path_tear s1 second) with_path.facts).heard ≡ heard.Dropped why.NoState
  pub lives : size (waited (node_r 10000) 157499 1 0 with_path.facts).facts.paths ≡ 1
  pub dies : (waited (node_r 10000) 157500 1 0 with_path.facts).sent ≡ sent 1 group (path_tear r2 first) ∷ []
  pub cleared : (rule (node_r 10000) (node_r 10000) 0 Clear with_path.facts).sent ≡ []

-- a local sender's Path asks for policing; the sender is this node's, and goes as it came
abbrev sending : Outcome
sending = called (node_s 10000) 0 (SendAs session first usual) no_facts

pub record LocalSenders : Type 0 where
  pub on : sending.sent ≡ sent 0 group (path true s1 first usual) ∷ []
  pub same : (called (node_s 10000) 5 (SendAs session first usual) sending.facts).sent ≡ []
  pub more : (called (node_s 10000) 5 (SendAs session first (flow 2000 2000 64 1500)) sending.facts).sent ≡ sent 0 group (path true s1 first (flow 2000 2000 64 1500)) ∷ []
  pub off : (called (node_s 10000) 5 (DropAs session first) sending.facts).sent ≡ sent 0 group (path_tear s1 first) ∷ []
  pub not_mine : call_refusal (node_r 10000) (SendAs session first usual) no_facts ≡ Some local.NotMine
  pub absent : call_refusal (node_s 10000) (DropAs session second) sending.facts ≡ Some local.Absent

-- what its path offers begins here, by the interface
abbrev begun : Adspec
begun = record told { latency = 0 }

abbrev asked : Outcome
asked = called (node_s 10000) 5 (AdvertAs session first) sending.facts

-- the Path of a local sender says it from then on, and until the sender ends
pub record LocalSendersAreAdvertised : Type 0 where
  pub on : asked.sent ≡ sent 0 group (telling (Some begun)) ∷ []
  pub again : (called (node_s 10000) 6 (AdvertAs session first) asked.facts).sent ≡ []
  pub same : (called (node_s 10000) 6 (SendAs session first usual) asked.facts).sent ≡ []
  pub stays : (called (node_s 10000) 7 (SendAs session first usual) (called (node_s 10000) 6 (SendAs session first (flow 2000 2000 64 1500)) asked.facts).facts).sent
      ≡ sent 0 group (telling (Some begun)) ∷ []
  pub anew : (called (node_s 10000) 7 (SendAs session first usual) (called (node_s 10000) 6 (DropAs session first) asked.facts).facts).sent ≡ sent 0 group (telling None) ∷ []
  pub due : (waited (node_s 10000) 30000 15000 0 (waited (node_s 10000) 15000 15000 0 asked.facts).facts).sent ≡ refreshed 0 group (telling (Some begun)) ∷ []
  pub narrow : (called (node_s 5000) 5 (AdvertAs session first) sending.facts).sent ≡ sent 0 group (telling (Some (record begun { rate = Finite 5000 }))) ∷ []
  pub absent : call_refusal (node_s 10000) (AdvertAs session second) sending.facts ≡ Some local.Absent

-- a node off the new tree tears its offer down
pub record PathsMove : Type 0 where
  pub away : (rule (node_r 10000) (node (iface r1 10000 ∷ iface r2 10000 ∷ []) None 0) 0 Moved with_path.facts).sent ≡ sent 1 group (path_tear r2 first) ∷ []
  pub back : (rule (node (iface r1 10000 ∷ iface r2 10000 ∷ []) None 0) (node_r 10000) 0 Moved with_path.facts).sent ≡ sent 1 group (path false r2 first usual) ∷ []

-- a Path with an object of an unknown class, and what is answered
abbrev unknown : Fault → MsgErr
unknown why = record { fault = why; kind = Some kind.Path; hint = record { session = Some session; hop = Some (record { addr = s1; handle = 0 }); style = None; sender = Some first } }

abbrev of_class : Outcome
of_class = rule (node_r 10000) (node_r 10000) 0 (Came 0 group (Unspelt (unknown (fault.Object (obj.Class 20 64 1))))) no_facts

-- a Resv that asks for another service than controlled load
abbrev of_service : Outcome
of_service = rule (node_r 10000) (node_r 10000) 0 (Came 1 r2 (Unspelt (record {
  fault = fault.Object (obj.Service 60);
  kind = Some kind.Resv;
  hint = record { session = Some session; hop = Some (record { addr = t1; handle = 0 }); style = Some Wild; sender = None };
}))) with_path.facts

pub record FaultsAreAnswered : Type 0 where
  pub told : of_class.heard ≡ heard.Answered 13 16385
  pub answer : of_class.sent ≡ sent 0 s1 (message.PathErr (record { session = session; err = error r1 false 13 16385; sender = Some first })) ∷ []
  pub service : of_service.heard ≡ heard.Answered 21 2
  pub service_answer : of_service.sent ≡ sent 1 t1 (resv_err r2 (error r2 false 21 2) Wild None None) ∷ []
  pub not_here : (rule (node_r 10000) (node_r 10000) 0 (Came 0 r1 (Unspelt (unknown (fault.Object (obj.Class 20 64 1))))) no_facts).heard ≡ heard.Dropped why.Unspelt
  pub no_code : (rule (node_r 10000) (node_r 10000) 0 (Came 0 group (Unspelt (unknown (fault.Missing 5)))) no_facts).heard ≡ heard.Dropped why.Unspelt

-- a PathErr goes to the path's hop, and ends at a local sender
abbrev path_err : Message
path_err = message.PathErr (record { session = session; err = error t1 false 21 4; sender = Some first })

abbrev error_on : Outcome
error_on = came (node_r 10000) 0 1 r2 path_err with_path.facts

pub record PathErrorsGoOn : Type 0 where
  pub on : error_on.sent ≡ sent 0 s1 path_err ∷ []
  pub taken : error_on.heard ≡ heard.Taken
  pub not_outward : (came (node_r 10000) 0 0 r1 path_err with_path.facts).heard ≡ heard.Dropped why.NotOutward
  pub no_state : (came (node_r 10000) 0 1 r2 path_err no_facts).heard ≡ heard.Dropped why.NoState
  pub ends : (came (node_s 10000) 0 0 s1 path_err sending.facts).heard ≡ heard.Taken
  pub ends_quietly : (came (node_s 10000) 0 0 s1 path_err sending.facts).sent ≡ []
