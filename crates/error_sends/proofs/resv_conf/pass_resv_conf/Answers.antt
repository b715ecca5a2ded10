use Rattle.std.proofs.Common.{fold, sym, ap, ◌∙◌}
use Rattle.rsvp_messages.specs.Units.{ask_style}
use Rattle.router_rules.specs.NodeConfig.{NodeConfig, is_own}
use Rattle.laws_sends.specs.State.{table_in}
use Rattle.error_sends.proofs.Confs.{own_heard, own_sent, passed_heard, passed_sent, table_seen, unwished_heard}
use Rattle.error_sends.proofs.resv_conf.pass_resv_conf.Goals as goal

pub returns-then-is_own-clause-heard : goal.returns-then-is_own-clause-heard
returns-then-is_own-clause-heard g c = λ clock n place wild fixed shared. own_heard clock n c.args.message.now
    (ap (λ (p : NodeConfig). is_own p c.args.message.now.confirm) place ∙ sym c.is_own.ensures ∙ c.if-is_own.true)

pub returns-then-is_own-clause-sent : goal.returns-then-is_own-clause-sent
returns-then-is_own-clause-sent g c = λ clock n place wild fixed shared.
    ap (fold g.O.Outbox.posted c.args.out.now) (own_sent clock n c.args.message.now (ap (λ (p : NodeConfig). is_own p c.args.message.now.confirm) place ∙ sym c.is_own.ensures ∙ c.if-is_own.true))

pub returns-then-not-tell_by_style-clause-heard : goal.returns-then-not-tell_by_style-clause-heard
returns-then-not-tell_by_style-clause-heard g c = λ clock n place wild fixed shared.
    let st = ask_style c.args.message.now.ask in
    unwished_heard clock n c.args.message.now (ap (λ (p : NodeConfig). is_own p c.args.message.now.confirm) place ∙ sym c.is_own.ensures ∙ c.if-is_own.false) (table_in st n) (table_seen clock n st)
    (sym (c.tell_by_style.ensures.some n wild fixed shared) ∙ c.if-not-tell_by_style.true)

pub returns-then-not-tell_by_style-clause-sent : goal.returns-then-not-tell_by_style-clause-sent
returns-then-not-tell_by_style-clause-sent g c = λ clock n place wild fixed shared.
    let st = ask_style c.args.message.now.ask in
    c.tell_by_style.ensures.sent n wild fixed shared
    ∙ ap (fold g.O.Outbox.posted c.args.out.now) (passed_sent clock n c.args.message.now (ap (λ (p : NodeConfig). is_own p c.args.message.now.confirm) place ∙ sym c.is_own.ensures
    ∙ c.if-is_own.false) (table_in st n) (table_seen clock n st))

pub returns-clause-heard : goal.returns-clause-heard
returns-clause-heard g c = λ clock n place wild fixed shared.
    let st = ask_style c.args.message.now.ask in
    passed_heard clock n c.args.message.now (ap (λ (p : NodeConfig). is_own p c.args.message.now.confirm) place ∙ sym c.is_own.ensures ∙ c.if-is_own.false) (table_in st n) (table_seen clock n st)
    (sym (c.tell_by_style.ensures.some n wild fixed shared) ∙ c.if-not-tell_by_style.false)

pub returns-clause-sent : goal.returns-clause-sent
returns-clause-sent g c = λ clock n place wild fixed shared.
    let st = ask_style c.args.message.now.ask in
    c.tell_by_style.ensures.sent n wild fixed shared
    ∙ ap (fold g.O.Outbox.posted c.args.out.now) (passed_sent clock n c.args.message.now (ap (λ (p : NodeConfig). is_own p c.args.message.now.confirm) place ∙ sym c.is_own.ensures
    ∙ c.if-is_own.false) (table_in st n) (table_seen clock n st))
