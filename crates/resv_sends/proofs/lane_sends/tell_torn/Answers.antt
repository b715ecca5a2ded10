use Rattle.std.proofs.Common.{fold, ap, ◌∙◌}
use Rattle.std.proofs.lemmas.Bool.{both_ways}
use Rattle.router_state.specs.Whole.{state_of}
use Rattle.resv_sends.proofs.Said.{is_nobody, is_somebody, torn_none, torn_some}
use Rattle.resv_sends.proofs.lane_sends.tell_torn.Goals as goal

pub returns-then-is_empty : goal.returns-then-is_empty
returns-then-is_empty g c = λ clock said.
    ap (fold g.O.Outbox.posted c.args.out.now)
    (torn_none clock (state_of c.args.tables.now said) c.args.session c.args.style c.args.hop c.args.was.now c.toward-now.result c.names_via-among.result c.gone_among-names.result
    (c.toward-now.ensures clock said) (c.names_via-among.ensures clock said) c.gone_among-names.ensures
    (is_nobody c.gone_among-names.result (c.is_empty.ensures.0 c.if-is_empty.true)))

pub returns : goal.returns
returns g c = λ clock said.
    c.post.ensures
    ∙ ap (fold g.O.Outbox.posted c.args.out.now)
    (torn_some clock (state_of c.args.tables.now said) c.args.session c.args.style c.args.hop c.args.was.now c.toward-now.result c.names_via-among.result c.gone_among-names.result
    (c.toward-now.ensures clock said) (c.names_via-among.ensures clock said) c.gone_among-names.ensures
    (is_somebody c.gone_among-names.result (λ none. both_ways _ c.if-is_empty.false (c.is_empty.ensures.1 none)))
    c.hop_to.result (c.hop_to.ensures clock said) c.tear_of.result c.tear_of.ensures)
