use Rattle.std.proofs.Common.{◌≡◌, drop}
use Rattle.std.specs.List.{list_any}
use Rattle.std.specs.Option.{option_copied}
use Rattle.traffic_control.specs.Policing.{passes_by}
use Rattle.error_sends.proofs.Walking.{fact_in, rows_in}
use Rattle.traffic_control.proofs.beside.is_passed.Given as goal

abbrev pub invariant-loop-k : goal.invariant-loop-k
invariant-loop-k g l =
    record {
      at : option_copied l.next ≡ fact_in l.table.facts l.fn.session l.k;
      none : list_any (passes_by l.iface l.unit l.part) (drop l.k (rows_in l.table.facts l.fn.session)) ≡ list_any (passes_by l.iface l.unit l.part) (rows_in l.table.facts l.fn.session);
    }
