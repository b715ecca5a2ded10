use Rattle.std.proofs.Common.{Some, None, sym, ap, ◌∙◌}
use Rattle.router_state.specs.Whole.{state_of}
use Rattle.resv_sends.proofs.Sent.{own_seen, path_seen}
use Rattle.resv_sends.proofs.telling.offered.Goals as goal

pub returns-in-Some : goal.returns-in-Some
returns-in-Some c = λ clock said. ap (λ o. Some o) c.own.ensures ∙ own_seen clock (state_of c.args.tables.now said) (c.args.session, c.args.sender) c.in-Some.own.tspec c.in-Some.own.advertised
    (sym c.in-Some.ensures.flow) (sym c.in-Some.ensures.advertised)

pub returns-in-Some-find : goal.returns-in-Some-find
returns-in-Some-find c = λ clock said. ap (λ o. Some o) c.passed.ensures ∙ path_seen clock (state_of c.args.tables.now said) (c.args.session, c.args.sender) (sym c.in_default.ensures.flow)
    (Some c.in-Some-find.fact.now) c.in-Some-find.ensures.fact

pub returns-in-None : goal.returns-in-None
returns-in-None c = λ clock said. path_seen clock (state_of c.args.tables.now said) (c.args.session, c.args.sender) (sym c.in_default.ensures.flow) None c.in-None.ensures.fact
