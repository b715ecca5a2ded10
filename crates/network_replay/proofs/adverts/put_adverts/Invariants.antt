use Rattle.std.proofs.Common.{◌≡◌, ℕ, ◌+◌, List}
use Rattle.std.specs.Prelude.{Result, length}
use Rattle.rsvp_base.specs.declared.room.NoMemory.{NoMemory}
use Rattle.network_flight.specs.Runs.{adverts_report}
use Rattle.network_flight.specs.Worlds.{World}
use Rattle.network_replay.specs.Agreeing.{AreNodes}
use Rattle.network_replay.specs.Reporting.{Says}
use Rattle.network_replay.proofs.Reports.{reports_from}
use Rattle.network_replay.proofs.adverts.put_adverts.Given as goal

abbrev pub invariant-loop-end : goal.invariant-loop-end
invariant-loop-end g l =
    (q : ℕ) (w : World) (left : ℕ) (r : Result (Unit {0}) NoMemory) (after : List ℕ) → w.net ≡ l.wires → AreNodes g.R.Router.seen q w l.nodes → l.end + left ≡ length l.wires.ends
    → Says r l.out.items after (reports_from q l.names adverts_report w l.end left) → Says r l.initial.out.items after (reports_from q l.names adverts_report w 0 (length l.wires.ends))
