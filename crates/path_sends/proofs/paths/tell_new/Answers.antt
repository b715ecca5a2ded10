use Rattle.std.proofs.Common.{ℕ, false, map as each, fold, sym, ap, ◌∙◌}
use Rattle.std.specs.List.{filter}
use Rattle.std.specs.Option.{option_map}
use Rattle.router_rules.specs.Facts.{SenderKey}
use Rattle.router_rules.specs.Inputs.{Send}
use Rattle.router_rules.specs.NodeConfig.{outward}
use Rattle.router_rules.specs.Sends.{is_new_offer, path_send}
use Rattle.laws_sends.specs.Told.{offer_key, told_new}
use Rattle.laws_sends.proofs.Onward.{none_pass}
use Rattle.path_sends.specs.Offering.{as_offer}
use Rattle.path_sends.specs.Ways.{ways_in}
use Rattle.path_sends.proofs.Telling.{all_said}
use Rattle.path_sends.proofs.paths.tell_new.Goals as goal

pub returns-then-is_again : goal.returns-then-is_again
returns-then-is_again g c =
    let p = c.args.config.now in
    let k : SenderKey = (c.args.session, c.args.sender) in
    let before = option_map as_offer c.args.before.now in
    let o = as_offer c.in-Some.offered in
    let say : ℕ → Send = λ i. path_send p false (offer_key k i, o) in
    ap (λ is. fold g.O.Outbox.posted c.args.out.now (each say is))
    (sym (none_pass (λ i. is_new_offer p i o before) (outward p k.0 k.1) (λ i. c.is_again.ensures.old c.if-is_again.true p i)))
    ∙ ap (λ w. fold g.O.Outbox.posted c.args.out.now (told_new p k before (option_map as_offer w))) (sym c.in-Some.is)

pub returns : goal.returns
returns g c =
    let p = c.args.config.now in
    let k : SenderKey = (c.args.session, c.args.sender) in
    let before = option_map as_offer c.args.before.now in
    let o = as_offer c.in-Some.offered in
    let say : ℕ → Send = λ i. path_send p false (offer_key k i, o) in
    let same = ap (ways_in p) c.ways_of-ways.ensures ∙ all_said p c.args.session c.args.sender in
    c.tell_new_by.ensures ∙ ap (λ is. fold g.O.Outbox.posted c.args.out.now (each say (filter (λ i. is_new_offer p i o before) is))) same
    ∙ ap (λ w. fold g.O.Outbox.posted c.args.out.now (told_new p k before (option_map as_offer w))) (sym c.in-Some.is)
