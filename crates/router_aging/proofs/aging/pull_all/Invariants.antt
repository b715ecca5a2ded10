use Rattle.std.proofs.Common.{◌≡◌, ℕ}
use Rattle.rsvp_base.specs.Table.{changed, size}
use Rattle.router_rules.specs.Facts.{Facts, resvs_of}
use Rattle.resv_admission.specs.State.{resv_at}
use Rattle.blockade_state.specs.Touched.{touched_by}
use Rattle.resv_admission.specs.Dying.{IsBookBut, IsBookButWith}
use Rattle.router_aging.specs.Passed.{sessions_in}
use Rattle.router_aging.proofs.aging.pull_all.Given as goal

abbrev pub invariant-loop-gone : goal.invariant-loop-gone
invariant-loop-gone g l =
    record {
      facts : l.table.facts ≡ l.initial.table.facts;
      kept : IsBookButWith g.S.Style.kind_is l.table.facts l.table.dead l.book.entries;
      book : (c : ℕ) (f : Facts) → resvs_of g.S.Style.kind_is f ≡ changed (resv_at c) l.initial.table.facts → IsBookBut g.S.Style.kind_is l.initial.table.dead f l.initial.book.entries
          → IsBookBut g.S.Style.kind_is l.table.dead f l.book.entries;
      touched : touched_by (sessions_in l.table.dead) l.touched ≡ touched_by (sessions_in l.initial.table.dead) l.initial.touched;
      ifaces : l.book.ifaces ≡ l.initial.book.ifaces;
    }

abbrev pub decreases-loop-gone : goal.decreases-loop-gone
decreases-loop-gone g l = size l.table.dead
