use Rattle.std.proofs.Common.{◌≡◌, fold, take}
use Rattle.std.specs.List.{flat_map}
use Rattle.router_rounds.specs.SenderMoves.{torn_of}
use Rattle.router_rounds.proofs.moving.tear_session.Given as goal

abbrev pub invariant-loop-i : goal.invariant-loop-i
invariant-loop-i g l = l.out ≡ fold g.O.Outbox.posted l.initial.out (flat_map (λ x. torn_of (record l.tables.config { routes = l.old }) l.tables.config (l.session, x)) (take l.i l.list))
