use Rattle.std.proofs.Common.{ℕ, map as each, fold, ap, ◌∙◌}
use Rattle.router_rules.specs.Sends.{path_tear}
use Rattle.laws_sends.specs.Told.{offer_key}
use Rattle.path_sends.specs.Ways.{ways_in}
use Rattle.path_sends.proofs.Telling.{all_said}
use Rattle.path_sends.proofs.paths.tell_path_tears.Goals as goal

pub returns : goal.returns
returns g c =
    let p = c.args.config.now in
    let say = λ (i : ℕ). path_tear p (offer_key (c.args.session, c.args.sender) i) in
    let same = ap (ways_in p) c.ways_of-ways.ensures ∙ all_said p c.args.session c.args.sender in
    c.tell_tears_by.ensures ∙ ap (λ is. fold g.O.Outbox.posted c.args.out.now (each say is)) same
