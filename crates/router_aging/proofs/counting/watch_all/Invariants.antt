use Rattle.std.proofs.Common.{◌≡◌, ◌≤◌, cond, false, take, Some, None}
use Rattle.std.specs.List.{list_any}
use Rattle.std.specs.Ordering.{eq_by_cmp}
use Rattle.rsvp_base.specs.Orders.{sessions}
use Rattle.rsvp_base.specs.Table.{get, keys, size}
use Rattle.rsvp_base.specs.declared.session.Session.{Session}
use Rattle.router_aging.proofs.counting.watch_all.Given as goal

abbrev pub invariant-loop-k : goal.invariant-loop-k
invariant-loop-k l =
    record {
      at : (s : Session) → get l.touched s ≡ cond (list_any (eq_by_cmp sessions.cmp s) (take l.k (keys l.due))) (Some false) None;
      size : size l.touched ≤ l.k;
    }
