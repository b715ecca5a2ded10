use Rattle.std.proofs.Common.{◌≡◌, ◌++◌, map as each}
use Rattle.std.specs.List.{range_with_len}
use Rattle.grown_network.specs.Hosts.{local_sender}
use Rattle.grown_network.proofs.hosts.add_senders.Given as goal

abbrev pub invariant-loop-i : goal.invariant-loop-i
invariant-loop-i l = l.all.items ≡ l.initial.all.items ++ each (local_sender l.style l.word) (range_with_len 0 l.i)
