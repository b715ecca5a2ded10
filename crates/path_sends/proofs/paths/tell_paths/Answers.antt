use Rattle.std.proofs.Common.{ℕ, map as each, fold, ap, ◌∙◌}
use Rattle.router_rules.specs.Sends.{path_send}
use Rattle.laws_sends.specs.Told.{offer_key}
use Rattle.path_sends.specs.Offering.{as_offer}
use Rattle.path_sends.specs.Ways.{ways_in}
use Rattle.path_sends.proofs.Telling.{all_said}
use Rattle.path_sends.proofs.paths.tell_paths.Goals as goal

pub returns : goal.returns
returns g c =
    let p = c.args.config.now in
    let say = λ (i : ℕ). path_send p c.args.refresh (offer_key (c.args.session, c.args.sender) i, as_offer c.args.offered.now) in
    let same = ap (ways_in p) c.ways_of-ways.ensures ∙ all_said p c.args.session c.args.sender in
    c.tell_paths_by.ensures ∙ ap (λ is. fold g.O.Outbox.posted c.args.out.now (each say is)) same
