use Rattle.std.proofs.Common.{◌≡◌, ℕ, ◌<◌, ◌≤◌, Some, length}
use Rattle.std.specs.Prelude.{slice_get, map as each}
use Rattle.network_flight.specs.Steps.{Piece, state_after, sent, step}
use Rattle.network_flight.specs.Worlds.{World}
use Rattle.network_replay.specs.Agreeing.{IsNode, AreReady}
use Rattle.network_replay.specs.Mailing.{ArePut}
use Rattle.network_replay.specs.Posting.{Post}
use Rattle.network_replay.proofs.Waiting.{sent_behind}
use Rattle.network_replay.proofs.stepping.wait_all.Given as goal

-- the nodes before this one have waited, and those from it on are as they were
abbrev pub invariant-loop-n : goal.invariant-loop-n
invariant-loop-n g l =
    record {
      words : l.words ≡ state_after l.n l.initial.words;
      many : length l.nodes.items ≡ length l.initial.nodes.items;
      places : each g.R.Router.seen.place l.nodes.items ≡ each g.R.Router.seen.place l.initial.nodes.items;
      wires : l.mail.net ≡ l.initial.mail.net;
      room : length l.mail.flight ≤ 8192;
      later : (m : ℕ) → l.n ≤ m → slice_get l.nodes.items m ≡ slice_get l.initial.nodes.items m;
      waited : (q : ℕ) (w : World) → AreReady g.R.Router.seen q l.initial.mail.net l.initial.words l.initial.nodes.items w
          → (m : ℕ) (r : g.row.R.Denot) → m < l.n → slice_get l.nodes.items m ≡ Some r → IsNode g.R.Router.seen q (step q (Piece l.ms) w) m r;
      put : (q : ℕ) (w : World) → AreReady g.R.Router.seen q l.initial.mail.net l.initial.words l.initial.nodes.items w
          → (new : Post) → ArePut l.mail new (sent_behind q w l.ms l.n) → ArePut l.initial.mail new (each (λ x. x.0) (sent q (Piece l.ms) w));
    }
