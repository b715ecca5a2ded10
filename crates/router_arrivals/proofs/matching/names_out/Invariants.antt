use Rattle.std.specs.Prelude.{◌≡◌, ◌≤◌, take}
use Rattle.rsvp_base.specs.Table.{size}
use Rattle.router_rules.specs.NodeConfig.{goes_out}
use Rattle.router_arrivals.proofs.Outward.{out_of}
use Rattle.router_arrivals.proofs.matching.names_out.Given as goal

abbrev pub invariant-loop-i : goal.invariant-loop-i
invariant-loop-i l = record {
  names : l.names ≡ out_of l.style (goes_out l.config l.session l.iface) (take l.i l.list);
  few : size l.names ≤ l.i;
}
