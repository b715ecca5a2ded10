use Rattle.std.proofs.Common.{ℕ, List}
use Rattle.std.specs.Prelude.{Result}
use Rattle.rsvp_base.specs.declared.room.NoMemory.{NoMemory}
use Rattle.router_rules.specs.Adverts.{adverts_of}
use Rattle.network_replay.specs.Reporting.{Says}
use Rattle.network_replay.proofs.Offers.{offers_behind}
use Rattle.network_replay.proofs.adverts.put_paths.Given as goal

abbrev pub invariant-loop-k : goal.invariant-loop-k
invariant-loop-k g l =
    let see = g.R.Router.seen in
    let said : ℕ → ℕ → List ℕ = λ c k. offers_behind l.name (adverts_of (see.facts l.node c) l.iface) k in
    (c : ℕ) (r : Result (Unit {0}) NoMemory) (after : List ℕ) → Says r l.out.items after (said c l.k) → Says r l.initial.out.items after (said c 0)
