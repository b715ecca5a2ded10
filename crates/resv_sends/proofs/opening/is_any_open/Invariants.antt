use Rattle.std.proofs.Common.{◌≡◌, drop}
use Rattle.std.specs.List.{list_any}
use Rattle.std.specs.Option.{option_copied}
use Rattle.resv_sends.specs.Taking.{is_resv_open}
use Rattle.resv_sends.proofs.Walking.{fact_in, rows_in}
use Rattle.resv_sends.proofs.opening.is_any_open.Given as goal

abbrev pub invariant-loop-k : goal.invariant-loop-k
invariant-loop-k g l =
    record {
      at : option_copied l.next ≡ fact_in l.table.facts l.fn.session l.k;
      none : list_any (is_resv_open g.S.Style.kind_is l.up l.unit) (drop l.k (rows_in l.table.facts l.fn.session))
          ≡ list_any (is_resv_open g.S.Style.kind_is l.up l.unit) (rows_in l.table.facts l.fn.session);
    }
