use Rattle.std.proofs.Common.{◌≡◌, ◌≤◌, ◌*◌, ◌∙◌, subst, sym, ap, refl, arith, length}
use Rattle.network_flight.specs.Steps.{Piece, state_after}
use Rattle.network_replay.specs.Routed.{trees_in}
use Rattle.network_replay.specs.Agreeing.{NetworkState, Agrees}
use Rattle.std.proofs.lemmas.List.Elements.{All-weaker}
use Rattle.router_rules.specs.NodeConfig.{NodeConfig}
use Rattle.network_replay.proofs.Runnings.{ran_silent, one_crowded}
use Rattle.network_replay.proofs.Stepped.{step_crowds, step_made, counted_none, ready}
use Rattle.network_replay.proofs.world.World.pass_time.Goals as goal

pub wait_all-requires-clause-short : goal.wait_all-requires-clause-short
wait_all-requires-clause-short g c =
    let i = c.self.inside in
    let le : c.args.ms ≤ 2 * i.quarter = subst (λ (v : NetworkState g.row.R.Denot). c.args.ms ≤ 2 * v.quarter) (sym c.self.view_is) c.requires.short in
    All-weaker (λ (p : NodeConfig). p.quarter ≡ i.quarter) (λ (p : NodeConfig). c.args.ms ≤ 2 * p.quarter) (λ p e. omega (arith, e, le)) _ c.self.invariant.timed

pub returns-then-is_full-clause-made : goal.returns-then-is_full-clause-made
returns-then-is_full-clause-made g c = λ t q w agrees.
    let see = g.R.Router.seen in
    let i = c.self.inside in
    let old : NetworkState g.row.R.Denot =
    record {
      quarter = i.quarter;
      post = i.mail;
      names = i.names.items;
      nodes = i.nodes.items;
      trees = trees_in i.routes.items;
      words = i.words;
      delivered = i.delivered;
      trace = i.trace;
      refused = i.refused;
    } in
    let at : Agrees see q old w = subst (λ (v : NetworkState g.row.R.Denot). Agrees see q v w) (sym c.self.view_is) agrees in
    let put = c.wait_all.ensures.put q w (ready see q old w at) in
    one_crowded q c.args.self.now.names see t old (Piece c.args.ms) w (step_crowds q (Piece c.args.ms) w i.mail c.wait_all.new.mail at.roomy at.flight put
    (sym c.is_full.ensures.full ∙ c.if-is_full.true))

pub returns-clause-made : goal.returns-clause-made
returns-clause-made g c = λ t q w agrees.
    let see = g.R.Router.seen in
    let i = c.self.inside in
    let old : NetworkState g.row.R.Denot =
    record {
      quarter = i.quarter;
      post = i.mail;
      names = i.names.items;
      nodes = i.nodes.items;
      trees = trees_in i.routes.items;
      words = i.words;
      delivered = i.delivered;
      trace = i.trace;
      refused = i.refused;
    } in
    let at : Agrees see q old w = subst (λ (v : NetworkState g.row.R.Denot). Agrees see q v w) (sym c.self.view_is) agrees in
    let are = ready see q old w at in
    let put = c.wait_all.ensures.put q w are in
    let drawn = c.wait_all.ensures.words ∙ ap (λ n. state_after n i.words) at.nodes.many ∙ ap (λ x. state_after (length w.nodes) x) at.words in
    let v : NetworkState g.row.R.Denot = record old { post = c.wait_all.new.mail; nodes = c.wait_all.new.nodes.items; words = c.wait_all.new.words } in
    ran_silent q c.args.self.now.names see t v (Piece c.args.ms) w refl
    (step_made q (Piece c.args.ms) w i.mail c.wait_all.new.mail at.roomy at.flight put see old v at refl refl refl (sym c.is_full.ensures.full ∙ c.if-is_full.false) at.going refl
    (c.wait_all.ensures.nodes q w are) drawn (counted_none see q old w at) at.trace)
