use Rattle.router_arrivals.specs.Asked.{want_refusal}
use Rattle.router_arrivals.proofs.Wanting.{asked_away}
use Rattle.router_arrivals.proofs.asking.put_wants.Goals as goal

pub returns-clause-others : goal.returns-clause-others
returns-clause-others c = λ j off.
    let m = c.args.tables.now.wants in
    asked_away (want_refusal m c.args.session c.args.style c.args.senders.now c.args.flow c.args.confirm) c.args.session c.args.style c.args.senders.now c.args.flow c.args.confirm m c.ask.new.wants
    c.ask.ensures.wants j off
