use Rattle.std.proofs.Common.{◌≡◌, ◌+◌, ℕ, length, take}
use Rattle.network_demand.specs.Fits.{taken_at, room_at}
use Rattle.network_demand.proofs.room.take_all.Given as goal

-- those so far found room
abbrev pub invariant-loop-want : goal.invariant-loop-want
invariant-loop-want l =
    record {
      size : length l.rooms.items ≡ length l.initial.rooms.items;
      room : (full n : ℕ) → room_at full l.rooms.items n + taken_at l.once l.routing n (take l.want-index l.wants) ≡ room_at full l.initial.rooms.items n;
    }
