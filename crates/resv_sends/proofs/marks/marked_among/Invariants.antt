use Rattle.std.proofs.Common.{◌≡◌, ◌≤◌, map as each, take}
use Rattle.rsvp_base.specs.Table.{size}
use Rattle.local_state.specs.Wants.{asked_row}
use Rattle.resv_sends.specs.Taking.{is_marked_in, requests_of}
use Rattle.resv_sends.proofs.Marked.{so_far}
use Rattle.resv_sends.proofs.marks.marked_among.Given as goal

abbrev pub invariant-loop-i : goal.invariant-loop-i
invariant-loop-i l =
    record {
      marked : l.marked ≡ so_far (is_marked_in l.style (requests_of l.style l.tables l.session l.up l.own) l.up l.own) (each asked_row (take l.i l.wants));
      few : size l.marked ≤ l.i;
    }
