use Rattle.std.proofs.Common.{◌↔◌, map, take}
use Rattle.rsvp_base.specs.Members.{In}
use Rattle.rsvp_base.specs.declared.session.Session.{Session}
use Rattle.tree_model.specs.Chains.{NoRepeats}
use Rattle.network_demand.proofs.ends.sessions_of.Given as goal

-- the sessions of the wants so far, each once
abbrev pub invariant-loop-want : goal.invariant-loop-want
invariant-loop-want l =
    record {
      once : NoRepeats l.sessions.items;
      all : (s : Session) → In s l.sessions.items ↔ In s (map (λ w. w.session) (take l.want-index l.wants));
    }
