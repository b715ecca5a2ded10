use Rattle.std.proofs.Common.{List, fold, refl, sym, ap, ◌∙◌, arith}
use Rattle.std.specs.List.{flat_map}
use Rattle.std.proofs.lemmas.List.{take_all}
use Rattle.rsvp_base.specs.Orders.{Names}
use Rattle.rsvp_base.specs.Table.{empty, keys}
use Rattle.rsvp_base.specs.declared.session.Sender.{Sender}
use Rattle.router_aging.proofs.Offers.{told_more}
use Rattle.router_state.specs.Whole.{state_of}
use Rattle.router_rounds.specs.SenderMoves.{torn_of}
use Rattle.router_rounds.proofs.Moved.{torn_all}
use Rattle.router_rounds.proofs.moving.tear_session.Goals as goal

pub loop-i-preserved : goal.loop-i-preserved
loop-i-preserved g c =
    let p = c.args.tables.now.config in
    let say = λ (x : Sender). torn_of (record p { routes = c.args.old.now }) p (c.args.session, x) in
    c.tear_sender.ensures ∙ told_more g.O.Outbox.posted say c.args.out.now c.loop-i.out c.as_slice-list.result.now c.loop-i.i _ c.loop-i-test.true c.loop-i.invariant

pub returns : goal.returns
returns g c = λ clock.
    let p = c.args.tables.now.config in
    let m = state_of c.args.tables.now empty in
    let say = λ (x : Sender). torn_of (record p { routes = c.args.old.now }) p (c.args.session, x) in
    c.loop-i.invariant ∙ ap (λ (xs : List Sender). fold g.O.Outbox.posted c.args.out.now (flat_map say xs))
    (take_all c.loop-i.i c.as_slice-list.result.now (omega (arith, c.loop-i-test.false)) ∙ c.as_slice-list.ensures.senders)
    ∙ ap (λ (names : Names). fold g.O.Outbox.posted c.args.out.now (flat_map say (keys names))) (c.of-known.ensures.known clock m refl refl)
    ∙ ap (fold g.O.Outbox.posted c.args.out.now) (sym (torn_all (record p { routes = c.args.old.now }) m refl clock c.args.session))
