use Rattle.std.proofs.Common.{◌<◌, ◌≤◌, Option, subst, arith}
use Rattle.rsvp_base.specs.Orders.{Names}
use Rattle.rsvp_base.specs.Table.{size}
use Rattle.router_rules.specs.Asking.{names_that_match}
use Rattle.resv_admission.proofs.Steps.{cut_few}
use Rattle.resv_admission.proofs.matching.Matching.of_list.Goals as goal

pub returns-in-Some-clause-many : goal.returns-in-Some-clause-many
returns-in-Some-clause-many c =
    let few : size c.in-Some.list ≤ 16 = omega (arith, c.len.ensures.size, c.len.ensures.few) in (
      (λ e. absurd (cc)),
      (λ many. absurd (cut_few c.in-Some.list c.args.self.now few (subst (λ (w : Option Names). 16 < size (names_that_match w c.args.self.now)) c.in-Some.is many))),
    )
