use Rattle.std.proofs.Common.{ap, arith, length, sym, ◌∙◌}
use Rattle.admission_book.specs.Book.{Bookings}
use Rattle.path_state.specs.Paths.{PathMap}
use Rattle.resv_state.specs.Resvs.{ResvMap}
use Rattle.router_core.proofs.Opened.{is_booked, is_opened}
use Rattle.router_core.proofs.opening.open_tables.Goals as goal

pub returns-clause-state : goal.returns-clause-state
returns-clause-state c =
    let own = c.in_ok-senders.ensures in
    let resvs = c.in_ok-wild.ensures in
    is_opened c.args.config _ _ _ _ _ _ _ _ own.0 own.1 own.2 resvs.0 resvs.1 resvs.2 c.in_ok-paths.ensures c.in_ok-walls.ensures

pub returns-clause-sound : goal.returns-clause-sound
returns-clause-sound c =
    let own = c.in_ok-senders.ensures in
    let resvs = c.in_ok-wild.ensures in
    let ifaces = ap (λ (b : Bookings). length b.ifaces) c.in_ok-book.ensures ∙ ap length (sym c.ifaces-ifaces.ensures.is) in
    record {
      pulled = record {
        paths = ap (λ (m : PathMap). m.dead.rows) c.in_ok-paths.ensures;
        wild = ap (λ (m : ResvMap). m.dead.rows) resvs.0;
        fixed = ap
            (λ (m : ResvMap). m.dead.rows) resvs.1;
        shared = ap (λ (m : ResvMap). m.dead.rows) resvs.2;
      };
      booked = is_booked c.args.config _ _ _ _ _ _ _ _ own.0 own.1 own.2 resvs.0 resvs.1 resvs.2 c.in_ok-paths.ensures c.in_ok-walls.ensures c.in_ok-book.book c.in_ok-book.ensures;
      few = omega (arith, ifaces, c.ifaces-ifaces.ensures.few);
    }

pub returns-clause-place : goal.returns-clause-place
returns-clause-place c = ap (λ (b : Bookings). b.ifaces) c.in_ok-book.ensures
