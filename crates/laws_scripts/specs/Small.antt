-- A script of one node, which sends to itself: an example of what the laws speak of.
use Rattle.std.specs.Prelude.{ℕ, List, [], ◌∷◌, ◌++◌, false, codes}
use Rattle.rsvp_base.specs.declared.flow.Peak.TheVariants.{Finite}
use Rattle.rsvp_base.specs.declared.session.Sender.{Sender}
use Rattle.rsvp_base.specs.declared.session.Session.{Session}
use Rattle.rsvp_base.specs.declared.style.StyleKind.TheVariants.{Shared}
use Rattle.rsvp_base.specs.Orders.{names_from}
use Rattle.rsvp_base.specs.TokenBucket.{TokenBucket}
use Rattle.router_rules.specs.Inputs.{SendAs, WantAs}
use Rattle.network_model.specs.Events.{AtNode, Rounds}
use Rattle.network_model.specs.Runs.{Plan}
use Rattle.script_grammar.specs.Grammar.{IsScript}

abbrev pub small_text : List ℕ
small_text =
    codes "node a\nend a1 a 10.0.0.1 5 1500\nsend a 239.1.1.1/17/5000 10.0.0.1:5000 1/1/1/1/1500\n"
    ++ codes "want a 239.1.1.1/17/5000 SE 10.0.0.1:5000 1/1/1/1/1500\nrounds 1\n"

abbrev pub small_session : Session
small_session = record { group = record { 0 = 4009820417 }; proto = 17; port = 5000 }

abbrev pub small_sender : Sender
small_sender = record { addr = record { 0 = 167772161 }; port = 5000 }

abbrev pub small_flow : TokenBucket
small_flow = record { r = 1; b = 1; p = Finite 1; low = 1; most = 1500 }

abbrev pub small_plan : Plan
small_plan = record {
  quarter = 7500;
  seed = 1;
  net = record { nodes = 1; ends = (record { node = 0; iface = record { addr = record { 0 = 167772161 }; capacity = 5; mtu = 1500; latency = 0 } }) ∷ []; links = []; hops = [] };
  names = codes "a1" ∷ [];
  stale = [];
  events = AtNode 0 (SendAs small_session small_sender small_flow) ∷ AtNode 0 (WantAs small_session Shared (names_from (small_sender ∷ [])) small_flow false) ∷ Rounds 1 ∷ [];
}

abbrev pub ASmallScriptIsOne : Type 0
ASmallScriptIsOne = IsScript small_text small_plan
