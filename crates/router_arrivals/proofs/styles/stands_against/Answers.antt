use Rattle.std.specs.Prelude.{◌&&◌}
use Rattle.std.proofs.Common.{sym, ap, ◌∙◌}
use Rattle.router_rules.specs.Asking.{has_style}
use Rattle.router_state.specs.State.{facts_of}
use Rattle.router_state.specs.Whole.{state_of}
use Rattle.router_arrivals.proofs.styles.stands_against.Goals as goal

pub returns-then-is_other : goal.returns-then-is_other
returns-then-is_other c = λ clock said. c.has_style.ensures clock said ∙ ap (λ b. b && has_style (facts_of clock (state_of c.args.tables.now said)) c.args.session c.args.other)
    (sym c.if-is_other.true ∙ c.is_other.ensures)
