use Rattle.std.proofs.Common.{◌↔◌, map, take}
use Rattle.rsvp_base.specs.Members.{In}
use Rattle.rsvp_base.specs.declared.session.Session.{Session}
use Rattle.tree_model.specs.Chains.{NoRepeats}
use Rattle.network_demand.proofs.sessions.sessions_of.Given as goal

-- the sessions of the senders so far, each once
abbrev pub invariant-loop-sender : goal.invariant-loop-sender
invariant-loop-sender l =
    record {
      once : NoRepeats l.sessions.items;
      all : (s : Session) → In s l.sessions.items ↔ In s (map (λ x. x.session) (take l.sender-index l.senders));
    }
