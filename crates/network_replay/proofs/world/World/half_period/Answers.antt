use Rattle.std.proofs.Common.{◌≡◌, ◌∙◌, ◌*◌, ◌∷◌, [], subst, ap}
use Rattle.network_flight.specs.Steps.{Piece}
use Rattle.network_replay.specs.Running.{Ran}
use Rattle.network_replay.specs.Sights.{ShowsRun, sights}
use Rattle.network_replay.proofs.world.World.half_period.Goals as goal

pub returns-clause-made : goal.returns-clause-made
returns-clause-made g c = λ t q w agrees.
    let same : c.half_ms-ms.result ≡ 2 * q = c.half_ms-ms.ensures.half ∙ ap (λ n. 2 * n) agrees.quarter in
    subst (λ n. Ran g.R.Router.seen q c.args.self.now.names c.piece.result t t c.piece.new.self (Piece n ∷ []) w) same (c.piece.ensures.made t q w agrees)

pub returns-clause-told : goal.returns-clause-told
returns-clause-told g c = λ q w agrees.
    let same : c.half_ms-ms.result ≡ 2 * q = c.half_ms-ms.ensures.half ∙ ap (λ n. 2 * n) agrees.quarter in
    subst (λ n. ShowsRun g.W.Watch.saw c.piece.result c.args.watch.now c.piece.new.watch (sights q (Piece n ∷ []) w)) same (c.piece.ensures.told q w agrees)
