use Rattle.std.proofs.Common.{◌≡◌, ◌||◌, drop, fold, is_some, None}
use Rattle.std.specs.List.{filter_map}
use Rattle.std.specs.Option.{option_copied, option_map}
use Rattle.style_rules.specs.Lines.{next_hops}
use Rattle.error_sends.specs.Going.{are_some, conf_at, going_row}
use Rattle.error_sends.specs.Runs.{said_from}
use Rattle.error_sends.proofs.Walking.{fact_in, rows_in}
use Rattle.error_sends.proofs.resv_conf.tell_confs.Given as goal

abbrev pub invariant-loop-k : goal.invariant-loop-k
invariant-loop-k g l =
    record {
      at : option_copied l.next ≡ fact_in l.table.facts l.message.session l.k;
      told : fold g.O.Outbox.posted l.out (said_from next_hops (option_map going_row l.last) (filter_map (conf_at l.message g.S.Style.kind_is) (drop l.k (rows_in l.table.facts l.message.session))))
          ≡ fold g.O.Outbox.posted l.initial.out (said_from next_hops None (filter_map (conf_at l.message g.S.Style.kind_is) (rows_in l.table.facts l.message.session)));
      some : (is_some l.last || are_some (filter_map (conf_at l.message g.S.Style.kind_is) (drop l.k (rows_in l.table.facts l.message.session))))
          ≡ are_some (filter_map (conf_at l.message g.S.Style.kind_is) (rows_in l.table.facts l.message.session));
    }
