use Rattle.std.proofs.Common.{sym, subst}
use Rattle.std.specs.Prelude.{List}
use Rattle.network_flight.specs.Steps.{Step}
use Rattle.network_replay.specs.Running.{Ran}
use Rattle.network_replay.specs.Sights.{ShowsRun, sights}
use Rattle.network_replay.proofs.Shown.{run_none}
use Rattle.network_replay.proofs.Runnings.{well, ran_none, some_piece, no_piece}
use Rattle.network_replay.proofs.world.World.last_piece.Goals as goal

pub returns-then-ms-eq0-clause-made : goal.returns-then-ms-eq0-clause-made
returns-then-ms-eq0-clause-made g c = λ t q w agrees.
    let see = g.R.Router.seen in
    subst (λ (ss : List Step). Ran see q c.args.self.now.names well t t c.args.self.now ss w) (sym (no_piece q c.args.ms c.if-ms-eq0.true))
    (ran_none q c.args.self.now.names see t c.args.self.now w agrees)

pub returns-clause-made : goal.returns-clause-made
returns-clause-made g c = λ t q w agrees.
    let see = g.R.Router.seen in
    subst (λ (ss : List Step). Ran see q c.args.self.now.names c.piece.result t t c.piece.new.self ss w) (sym (some_piece q c.args.ms c.if-ms-eq0.false)) (c.piece.ensures.made t q w agrees)

pub returns-then-ms-eq0-clause-told : goal.returns-then-ms-eq0-clause-told
returns-then-ms-eq0-clause-told g c = λ q w agrees.
    let a = c.args.watch.now in
    subst (λ (ss : List Step). ShowsRun g.W.Watch.saw well a a (sights q ss w)) (sym (no_piece q c.args.ms c.if-ms-eq0.true)) (run_none g.W.Watch.saw well a)

pub returns-clause-told : goal.returns-clause-told
returns-clause-told g c = λ q w agrees.
    subst (λ (ss : List Step). ShowsRun g.W.Watch.saw c.piece.result c.args.watch.now c.piece.new.watch (sights q ss w)) (sym (some_piece q c.args.ms c.if-ms-eq0.false))
    (c.piece.ensures.told q w agrees)
