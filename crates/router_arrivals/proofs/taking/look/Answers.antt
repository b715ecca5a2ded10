use Rattle.rsvp_base.specs.Table.{empty}
use Rattle.rsvp_base.specs.declared.style.StyleKind.TheVariants.{Wild, Fixed, Shared}
use Rattle.router_state.specs.Whole.{state_of}
use Rattle.router_arrivals.proofs.Booked.{few_all, few_in}
use Rattle.router_arrivals.proofs.taking.look.Goals as goal

pub returns : goal.returns
returns c =
    let t = c.args.tables.now in
    few_all (state_of t empty) (few_in Wild t.wild.facts c.limits-wild.ensures.within) (few_in Fixed t.fixed.facts c.limits-fixed.ensures.within)
    (few_in Shared t.shared.facts c.limits-shared.ensures.within)
