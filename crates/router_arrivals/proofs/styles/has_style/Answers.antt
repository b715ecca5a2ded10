use Rattle.std.specs.Prelude.{◌||◌}
use Rattle.std.specs.List.{list_any}
use Rattle.std.proofs.Common.{sym, ap, ◌∙◌}
use Rattle.rsvp_base.specs.Orders.{sessions, units}
use Rattle.rsvp_base.specs.Table.{values}
use Rattle.rsvp_base.specs.Under.{under}
use Rattle.router_rules.specs.Requests.{is_style}
use Rattle.router_arrivals.proofs.Conflicts.{resvs_seen}
use Rattle.router_arrivals.proofs.styles.has_style.Goals as goal

pub returns-then-has_resvs : goal.returns-then-has_resvs
returns-then-has_resvs c = λ clock said.
    let wants = list_any (λ w. is_style w.style c.args.style) (values (under sessions units c.args.tables.now.wants c.args.session)) in
    ap (λ b. b || wants) (sym c.if-has_resvs.true ∙ c.has_resvs.ensures ∙ resvs_seen clock c.args.tables.now said c.args.style c.args.session)

pub returns : goal.returns
returns c = λ clock said.
    let wants = list_any (λ w. is_style w.style c.args.style) (values (under sessions units c.args.tables.now.wants c.args.session)) in
    c.has_wants.ensures ∙ ap (λ b. b || wants) (sym c.if-has_resvs.false ∙ c.has_resvs.ensures ∙ resvs_seen clock c.args.tables.now said c.args.style c.args.session)
