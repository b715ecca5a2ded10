use Rattle.std.proofs.Common.{◌↔◌, take}
use Rattle.rsvp_base.specs.Members.{In}
use Rattle.rsvp_base.specs.declared.session.Session.{Session}
use Rattle.tree_model.specs.Chains.{NoRepeats}
use Rattle.network_demand.proofs.Clashes.{IsFoundBy}
use Rattle.network_demand.proofs.clashing.clashing.Given as goal

-- those of the wants so far, each once
abbrev pub invariant-loop-want : goal.invariant-loop-want
invariant-loop-want l =
    record {
      once : NoRepeats l.found.items;
      all : (s : Session) → In s l.found.items ↔ IsFoundBy l.wants (take l.want-index l.wants) s;
    }
