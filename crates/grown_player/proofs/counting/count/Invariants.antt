use Rattle.std.proofs.Common.{◌≡◌, ℕ}
use Rattle.network_model.specs.Worlds.{World}
use Rattle.network_replay.specs.Agreeing.{Agrees}
use Rattle.grown_network.specs.Booked.{booked_up_to}
use Rattle.grown_player.proofs.Counted.{IsSmall}
use Rattle.grown_player.proofs.counting.count.Given as goal

-- what the first ends hold, which is not too much to count
abbrev pub invariant-loop-end : goal.invariant-loop-end
invariant-loop-end g l =
    record {
      counted : (q : ℕ) (w : World) → Agrees g.R.Router.seen q l.world w → l.booked ≡ booked_up_to l.wires w l.end;
      small : IsSmall l.end l.booked;
    }
