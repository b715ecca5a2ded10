use Rattle.std.proofs.Common.{ℕ, false, Option, fold, sym, ap, ◌∙◌, map as each}
use Rattle.std.specs.Option.{option_map}
use Rattle.rsvp_base.specs.Table.{empty}
use Rattle.router_rules.specs.Facts.{SenderKey}
use Rattle.router_rules.specs.NodeConfig.{tree}
use Rattle.router_rules.specs.Offers.{Offer}
use Rattle.router_rules.specs.Sends.{path_send}
use Rattle.laws_sends.specs.Told.{offer_key}
use Rattle.laws_sends.specs.Routes.{ways_out}
use Rattle.path_sends.specs.Offering.{as_offer}
use Rattle.path_sends.specs.Ways.{ways_but}
use Rattle.router_rounds.specs.SenderMoves.{new_of}
use Rattle.router_rounds.proofs.moving.tell_sender.Goals as goal

pub returns-in_default : goal.returns-in_default
returns-in_default g c = λ clock.
    let p = c.args.tables.now.config in
    let k : SenderKey = (c.args.session, c.args.sender) in
    ap (λ (w : Option Offer). fold g.O.Outbox.posted c.args.out.now (new_of (record p { routes = c.args.old.now }) p k w))
    (sym (ap (option_map as_offer) c.in_default.is) ∙ c.offered.ensures clock empty)

pub returns : goal.returns
returns g c = λ clock.
    let p = c.args.tables.now.config in
    let k : SenderKey = (c.args.session, c.args.sender) in
    c.tell_new_ways.ensures
    ∙ ap (λ (w : ℕ). fold g.O.Outbox.posted c.args.out.now (each (λ i. path_send p false (offer_key k i, as_offer c.in-Some.offer)) (ways_but p (ways_out (tree p k.0 k.1)) w))) c.ways_by-ways.ensures
    ∙ ap (λ (w : Option Offer). fold g.O.Outbox.posted c.args.out.now (new_of (record p { routes = c.args.old.now }) p k w))
    (sym (ap (option_map as_offer) c.in-Some.is) ∙ c.offered.ensures clock empty)
