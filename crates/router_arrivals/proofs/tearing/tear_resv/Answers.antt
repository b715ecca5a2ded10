use Rattle.std.proofs.Common.{Bool, cond, sym, ap, ◌∙◌}
use Rattle.rsvp_messages.specs.Units.{tear_names, tear_style}
use Rattle.router_rules.specs.declared.answers.Heard.TheVariants as heard
use Rattle.router_rules.specs.declared.answers.Why.TheVariants as why
use Rattle.router_rules.specs.Asking.{torn_resvs}
use Rattle.router_rules.specs.Facts.{resvs_of, with_resvs}
use Rattle.router_state.specs.State.{facts_of}
use Rattle.router_state.specs.Whole.{state_of}
use Rattle.router_arrivals.proofs.tearing.tear_resv.Goals as goal

pub returns-then-tear_by_style-clause-heard : goal.returns-then-tear_by_style-clause-heard
returns-then-tear_by_style-clause-heard c = λ clock said. ap (λ b. cond b heard.Taken (heard.Dropped why.NoState)) (sym c.if-tear_by_style.true ∙ c.tear_by_style.ensures.had clock said)

pub returns-then-tear_by_style-clause-facts : goal.returns-then-tear_by_style-clause-facts
returns-then-tear_by_style-clause-facts c = λ clock said.
    let m = c.args.message.now in
    let f = facts_of clock (state_of c.args.tables.now said) in
    let st = tear_style m.tear in
    c.tear_by_style.ensures.facts clock said ∙ ap (λ (b : Bool). with_resvs st (torn_resvs b m.session (c.args.iface, m.hop.addr) (tear_names m.tear) (resvs_of st f)) f)
    (c.tear_by_style.ensures.had clock said)

pub returns-else-tear_by_style-clause-heard : goal.returns-else-tear_by_style-clause-heard
returns-else-tear_by_style-clause-heard c = λ clock said. ap (λ b. cond b heard.Taken (heard.Dropped why.NoState)) (sym c.if-tear_by_style.false ∙ c.tear_by_style.ensures.had clock said)

pub returns-else-tear_by_style-clause-facts : goal.returns-else-tear_by_style-clause-facts
returns-else-tear_by_style-clause-facts c = λ clock said.
    let m = c.args.message.now in
    let f = facts_of clock (state_of c.args.tables.now said) in
    let st = tear_style m.tear in
    c.tear_by_style.ensures.facts clock said ∙ ap (λ (b : Bool). with_resvs st (torn_resvs b m.session (c.args.iface, m.hop.addr) (tear_names m.tear) (resvs_of st f)) f)
    (c.tear_by_style.ensures.had clock said)
