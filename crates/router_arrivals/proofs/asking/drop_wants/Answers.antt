use Rattle.std.specs.Prelude.{◌≡◌, false, nat_lt, None, Bool}
use Rattle.std.proofs.Common.{sym, ap, ◌∙◌}
use Rattle.rsvp_base.specs.Orders.{sessions, units}
use Rattle.rsvp_base.specs.Table.{get, size}
use Rattle.rsvp_base.specs.Under.{under}
use Rattle.router_rules.specs.Calls.{needs, unless}
use Rattle.router_rules.specs.Facts.{Facts, Wants}
use Rattle.router_rules.specs.declared.answers.LocalErr.TheVariants as local
use Rattle.router_state.specs.State.{facts_of}
use Rattle.router_state.specs.Whole.{state_of}
use Rattle.router_arrivals.proofs.Wanting.{left, left_away, none_left}
use Rattle.router_arrivals.proofs.asking.drop_wants.Goals as goal

pub returns-then-quit-clause-others : goal.returns-then-quit-clause-others
returns-then-quit-clause-others c = λ j off. left_away c.args.tables.now.wants c.args.session j off ∙ ap (λ (t : Wants). get t j) (sym c.quit.ensures.gone)

pub returns-else-quit-clause-others : goal.returns-else-quit-clause-others
returns-else-quit-clause-others c = λ j off. left_away c.args.tables.now.wants c.args.session j off ∙ ap (λ (t : Wants). get t j) (sym c.quit.ensures.gone)

pub returns-else-quit-clause-facts : goal.returns-else-quit-clause-facts
returns-else-quit-clause-facts c = λ clock said.
    let m = c.args.tables.now.wants in
    let f : Facts = facts_of clock (state_of c.args.tables.now said) in
    let none : nat_lt 0 (size (under sessions units m c.args.session)) ≡ false = sym c.quit.ensures.had ∙ c.if-quit.false in
    let same = c.quit.ensures.gone ∙ none_left m c.args.session none in
    (λ i. record f { wants = same i })
    ∙ ap (λ (b : Bool). record f {
      senders = unless (needs b local.Absent None) f.senders f.senders;
      advertised = unless (needs b local.Absent None) f.advertised f.advertised;
      wants = unless (needs b local.Absent None) (left m c.args.session) m;
    }) (sym none)

pub returns-else-quit-clause-err : goal.returns-else-quit-clause-err
returns-else-quit-clause-err c =
    let m = c.args.tables.now.wants in
    let same = c.quit.ensures.gone ∙ none_left m c.args.session (sym c.quit.ensures.had ∙ c.if-quit.false) in
    λ i. record c.args.tables.now { wants = same i }
