use Rattle.std.proofs.Common.{◌≡◌, ◌==◌, ◌&&◌, false, map as each, fold}
use Rattle.std.specs.Int.{bit_at}
use Rattle.std.specs.List.{filter, range_with_len}
use Rattle.std.specs.Option.{option_map}
use Rattle.router_rules.specs.Sends.{is_new_offer, path_send}
use Rattle.laws_sends.specs.Told.{offer_key}
use Rattle.path_sends.specs.Offering.{as_offer}
use Rattle.path_sends.proofs.paths.tell_new_by.Given as goal

abbrev pub invariant-loop-i : goal.invariant-loop-i
invariant-loop-i g l =
    l.out ≡ fold g.O.Outbox.posted l.initial.out (each (λ i. path_send l.config false (offer_key (l.session, l.sender) i, as_offer l.offered))
    (filter (λ i. (bit_at l.ways i == 1) && is_new_offer l.config i (as_offer l.offered) (option_map as_offer l.before)) (range_with_len 0 l.i)))
