use Rattle.std.proofs.Common.{ℕ, fold, ap, ◌∙◌, map as each}
use Rattle.router_rules.specs.NodeConfig.{tree}
use Rattle.router_rules.specs.Sends.{path_tear}
use Rattle.laws_sends.specs.Told.{offer_key}
use Rattle.laws_sends.specs.Routes.{ways_out}
use Rattle.path_sends.specs.Ways.{ways_but}
use Rattle.router_rounds.proofs.moving.tear_sender.Goals as goal

pub returns : goal.returns
returns g c =
    let p = c.args.config.now in
    c.tell_gone_ways.ensures
    ∙ ap (λ (w : ℕ). fold g.O.Outbox.posted c.args.out.now (each (λ i. path_tear p (offer_key (c.args.session, c.args.sender) i))
    (ways_but p w (ways_out (tree p c.args.session c.args.sender))))) c.ways_by-ways.ensures
