use Rattle.std.proofs.Common.{ℕ, map as each, fold, ap, ◌∙◌}
use Rattle.router_rules.specs.Sends.{path_tear}
use Rattle.laws_sends.specs.Told.{offer_key}
use Rattle.path_sends.specs.Ways.{ways_but}
use Rattle.path_sends.proofs.Telling.{only_these}
use Rattle.path_sends.proofs.paths.tell_gone_ways.Goals as goal

pub returns : goal.returns
returns g c =
    let p = c.args.config.now in
    let say = λ (i : ℕ). path_tear p (offer_key (c.args.session, c.args.sender) i) in
    let same = only_these p _ _ _ c.only_in.ensures ∙ ap (ways_but p c.args.old) c.ways_of-ways.ensures in
    c.tell_tears_by.ensures ∙ ap (λ is. fold g.O.Outbox.posted c.args.out.now (each say is)) same
