use Rattle.std.proofs.Common.{◌≡◌, ℕ, take}
use Rattle.laws_sends.specs.State.{State}
use Rattle.laws_sends.specs.Seen.{ways_seen}
use Rattle.path_sends.proofs.via.upstream.Given as goal

abbrev pub invariant-loop-sender : goal.invariant-loop-sender
invariant-loop-sender l = (c : ℕ) (n : State) → n.place ≡ l.config → n.walls ≡ l.walls → l.up ≡ ways_seen c n l.session l.style l.hop (take l.sender-index l.sender-items)
