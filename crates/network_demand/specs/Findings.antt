-- All that is found in what hosts ask of a network; those who ask stand in the order in which they began.
use Rattle.std.specs.Prelude.{◌≡◌, List, map as each}
use Rattle.network_demand.specs.Demands.{AreDemands}
use Rattle.tree_model.specs.Networks.{Net}
use Rattle.tree_model.specs.Wants.{Locals}
use Rattle.network_demand.specs.Askers.{asking, what_it_asks}
use Rattle.network_demand.specs.Late.{starved}
use Rattle.network_demand.specs.Misfits.{AreMisfits}
use Rattle.network_demand.specs.Strays.{idle}
use Rattle.network_demand.specs.declared.findings.Findings.{Findings}
use Rattle.network_demand.specs.declared.late.Begun.{Begun}

pub record AreFindings (net : Net) (l : Locals) (begun : List Begun) (f : Findings) : Type 0 where
  pub owed : AreDemands net l f.owed.items
  pub misfits : AreMisfits net l f.misfits
  -- each want, in order, and where it asks by itself
  pub askers : each what_it_asks f.askers.items ≡ each (asking net l) l.wants
  pub starved : f.starved.items ≡ starved net.ends begun f.askers.items
  pub idle : f.idle.items ≡ idle net l.senders
