use Rattle.std.specs.Prelude.{◌≡◌, ◌≤◌, false, length, map as each, take}
use Rattle.rsvp_base.specs.Table.{empty}
use Rattle.rsvp_messages.specs.Units.{asked_units, AskedUnit}
use Rattle.router_rules.specs.Asking.{refusal, Asker as AskerOf}
use Rattle.router_rules.specs.NodeConfig.{NodeConfig}
use Rattle.resv_admission.specs.Units.{refusal_of}
use Rattle.resv_admission.proofs.units.refuse_units.Given as goal

abbrev pub invariant-loop-k : goal.invariant-loop-k
invariant-loop-k l = record {
  errors : (p : NodeConfig) (o : AskerOf) → each (refusal_of p o) l.done.errors ≡ each (λ (u : AskedUnit). refusal p o false l.code l.value u.names u.flow) (take l.k (asked_units l.ask));
  few : length l.done.errors ≤ l.k;
  left_out : l.done.left_out ≡ false;
  parts : l.done.parts ≡ empty;
}
