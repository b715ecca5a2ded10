use Rattle.std.proofs.Common.{◌≡◌, take}
use Rattle.std.specs.Prelude.{fold}
use Rattle.std.specs.List.{flat_map}
use Rattle.router_aging.specs.Telling.{offer_by, told_again}
use Rattle.router_aging.proofs.telling.tell_session.Given as goal

abbrev pub invariant-loop-i : goal.invariant-loop-i
invariant-loop-i g l = l.out ≡ fold g.O.Outbox.posted l.initial.out (flat_map (λ x. told_again l.config (l.session, x) (offer_by l.senders l.paths.facts (l.session, x))) (take l.i l.list))
