use Rattle.std.specs.Prelude.{[], ◌∷◌}
use Rattle.std.proofs.Common.{sym, ◌∙◌}
use Rattle.rsvp_base.specs.declared.style.StyleKind.TheVariants.{Wild, Fixed, Shared}
use Rattle.router_state.specs.State.{facts_of}
use Rattle.router_state.specs.Whole.{state_of}
use Rattle.router_arrivals.proofs.Conflicts.{first_against, not_against}
use Rattle.router_arrivals.proofs.styles.style_conflict.Goals as goal

pub returns-then-stands_against : goal.returns-then-stands_against
returns-then-stands_against c = λ clock said. first_against (facts_of clock (state_of c.args.tables.now said)) c.args.session c.args.style Wild (Fixed ∷ Shared ∷ [])
    (sym c.if-stands_against.true ∙ c.stands_against.ensures clock said)

pub returns-then-stands_against-2 : goal.returns-then-stands_against-2
returns-then-stands_against-2 c = λ clock said.
    let f = facts_of clock (state_of c.args.tables.now said) in
    first_against f c.args.session c.args.style Fixed (Shared ∷ []) (sym c.if-stands_against-2.true ∙ c.stands_against-2.ensures clock said)
    ∙ not_against f c.args.session c.args.style Wild (Fixed ∷ Shared ∷ []) (sym c.if-stands_against.false ∙ c.stands_against.ensures clock said)

pub returns-then-stands_against-3 : goal.returns-then-stands_against-3
returns-then-stands_against-3 c = λ clock said.
    let f = facts_of clock (state_of c.args.tables.now said) in
    first_against f c.args.session c.args.style Shared [] (sym c.if-stands_against-3.true ∙ c.stands_against-3.ensures clock said)
    ∙ not_against f c.args.session c.args.style Fixed (Shared ∷ []) (sym c.if-stands_against-2.false ∙ c.stands_against-2.ensures clock said)
    ∙ not_against f c.args.session c.args.style Wild (Fixed ∷ Shared ∷ []) (sym c.if-stands_against.false ∙ c.stands_against.ensures clock said)

pub returns : goal.returns
returns c = λ clock said.
    let f = facts_of clock (state_of c.args.tables.now said) in
    not_against f c.args.session c.args.style Shared [] (sym c.if-stands_against-3.false ∙ c.stands_against-3.ensures clock said)
    ∙ not_against f c.args.session c.args.style Fixed (Shared ∷ []) (sym c.if-stands_against-2.false ∙ c.stands_against-2.ensures clock said)
    ∙ not_against f c.args.session c.args.style Wild (Fixed ∷ Shared ∷ []) (sym c.if-stands_against.false ∙ c.stands_against.ensures clock said)
