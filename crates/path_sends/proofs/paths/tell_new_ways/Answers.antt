use Rattle.std.proofs.Common.{ℕ, false, map as each, fold, ap, ◌∙◌}
use Rattle.router_rules.specs.Sends.{path_send}
use Rattle.laws_sends.specs.Told.{offer_key}
use Rattle.path_sends.specs.Offering.{as_offer}
use Rattle.path_sends.specs.Ways.{ways_but}
use Rattle.path_sends.proofs.Telling.{only_these}
use Rattle.path_sends.proofs.paths.tell_new_ways.Goals as goal

pub returns : goal.returns
returns g c =
    let p = c.args.config.now in
    let say = λ (i : ℕ). path_send p false (offer_key (c.args.session, c.args.sender) i, as_offer c.args.offered.now) in
    let same = only_these p _ _ _ c.only_in.ensures ∙ ap (λ ways. ways_but p ways c.args.old) c.ways_of-ways.ensures in
    c.tell_paths_by.ensures ∙ ap (λ is. fold g.O.Outbox.posted c.args.out.now (each say is)) same
