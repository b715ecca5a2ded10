use Rattle.std.proofs.Common.{◌↔◌, drop}
use Rattle.rsvp_base.specs.Members.{In}
use Rattle.network_demand.proofs.sessions.is_among.Given as goal

-- it is among the rest, if it is among them
abbrev pub invariant-loop-one : goal.invariant-loop-one
invariant-loop-one l = In l.session (drop l.one-index l.sessions) ↔ In l.session l.sessions
