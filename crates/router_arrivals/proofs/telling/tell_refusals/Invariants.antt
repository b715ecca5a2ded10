use Rattle.std.specs.Prelude.{◌≡◌, map as each, fold, take}
use Rattle.router_rules.specs.Asking.{asker_of}
use Rattle.router_rules.specs.Sends.{error_send}
use Rattle.resv_admission.specs.Units.{refusal_of}
use Rattle.resv_admission.specs.declared.refusals.Refusal.{Refusal}
use Rattle.router_arrivals.proofs.telling.tell_refusals.Given as goal

abbrev pub invariant-loop-i : goal.invariant-loop-i
invariant-loop-i g l = l.out ≡ fold g.O.Outbox.posted l.initial.out (each (λ (r : Refusal). error_send (refusal_of l.config (asker_of l.config 0 l.iface l.message) r)) (take l.i l.list))
