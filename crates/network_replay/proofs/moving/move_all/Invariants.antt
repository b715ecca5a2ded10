use Rattle.std.proofs.Common.{◌≡◌, ℕ, ◌<◌, ◌≤◌, List, Some, length}
use Rattle.std.specs.Prelude.{slice_get, map as each}
use Rattle.std.specs.List.{All}
use Rattle.rsvp_base.specs.declared.addr.Addr.{Addr}
use Rattle.tree_model.specs.declared.hops.LinkHop.{LinkHop}
use Rattle.network_flight.specs.Steps.{Reroute, sent, step}
use Rattle.network_flight.specs.Worlds.{World}
use Rattle.network_replay.specs.Agreeing.{IsNode}
use Rattle.network_replay.specs.Mailing.{ArePut}
use Rattle.network_replay.specs.Moving.{AreMoving}
use Rattle.network_replay.specs.Routed.{bare, trees_in}
use Rattle.network_replay.specs.Posting.{Post}
use Rattle.network_replay.proofs.Turns.{sent_on}
use Rattle.network_replay.proofs.moving.move_all.Given as goal

-- the nodes before this one have moved, and those from it on are as they were
abbrev pub invariant-loop-n : goal.invariant-loop-n
invariant-loop-n g l =
    record {
      many : length l.nodes.items ≡ length l.initial.nodes.items;
      places : each (λ r. bare (g.R.Router.seen.place r)) l.nodes.items ≡ each (λ r. bare (g.R.Router.seen.place r)) l.initial.nodes.items;
      routed : All (λ r. trees_in (g.R.Router.seen.place r).routes ≡ trees_in l.initial.routes.items) l.nodes.items;
      trees : trees_in l.routes.items ≡ trees_in l.initial.routes.items;
      wires : l.mail.net ≡ l.initial.mail.net;
      room : length l.mail.flight ≤ 8192;
      later : (m : ℕ) → l.n ≤ m → slice_get l.nodes.items m ≡ slice_get l.initial.nodes.items m;
      moved : (q : ℕ) (w : World) (a s : Addr) (hops : List LinkHop) → AreMoving g.R.Router.seen q l.initial.mail.net (trees_in l.initial.routes.items) l.initial.nodes.items a s hops w
          → (m : ℕ) (r : g.row.R.Denot) → m < l.n → slice_get l.nodes.items m ≡ Some r → IsNode g.R.Router.seen q (step q (Reroute a s hops) w) m r;
      put : (q : ℕ) (w : World) (a s : Addr) (hops : List LinkHop) → AreMoving g.R.Router.seen q l.initial.mail.net (trees_in l.initial.routes.items) l.initial.nodes.items a s hops w
          → (new : Post) → ArePut l.mail new (sent_on q w (Reroute a s hops) l.n) → ArePut l.initial.mail new (each (λ x. x.0) (sent q (Reroute a s hops) w));
    }
