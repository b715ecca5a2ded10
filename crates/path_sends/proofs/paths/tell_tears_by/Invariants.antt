use Rattle.std.proofs.Common.{◌≡◌, ◌==◌, map as each, fold}
use Rattle.std.specs.Int.{bit_at}
use Rattle.std.specs.List.{filter, range_with_len}
use Rattle.router_rules.specs.Sends.{path_tear}
use Rattle.laws_sends.specs.Told.{offer_key}
use Rattle.path_sends.proofs.paths.tell_tears_by.Given as goal

abbrev pub invariant-loop-i : goal.invariant-loop-i
invariant-loop-i g l =
    l.out ≡ fold g.O.Outbox.posted l.initial.out (each (λ i. path_tear l.config (offer_key (l.session, l.sender) i)) (filter (λ i. bit_at l.ways i == 1) (range_with_len 0 l.i)))
