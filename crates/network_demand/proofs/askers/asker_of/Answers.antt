use Rattle.std.proofs.Common.{◌≡◌, ◌∙◌, sym, ap, subst}
use Rattle.network_demand.specs.Asked.{locals_of}
use Rattle.network_demand.specs.Demands.{AreDemands, AreLocals}
use Rattle.tree_model.specs.Wants.{Locals}
use Rattle.network_demand.specs.Askers.{numbers_owing, only_want, reached}
use Rattle.network_demand.proofs.Alone.{can_ask_alone, reached_is}
use Rattle.network_demand.proofs.askers.asker_of.Goals as goal

pub demand-requires : goal.demand-requires
demand-requires c =
    subst (AreLocals c.args.routing.now) (sym c.in_ok-alone.ensures) (can_ask_alone c.args.routing.now (locals_of c.args.locals.now) c.args.want.now c.requires.asked c.requires.one)

pub returns : goal.returns
returns c =
    let net = c.args.routing.now in
    let l = locals_of c.args.locals.now in
    let w = c.args.want.now in
    let books = c.in_ok-demand.demand.ends.items in
    let are : AreDemands net (only_want l w) books = subst (λ (k : Locals). AreDemands net k books) c.in_ok-alone.ensures c.in_ok-demand.ensures.ends in
    let ends : c.in_ok-numbers_owing.field-0.items ≡ reached net l w = c.in_ok-numbers_owing.ensures ∙ ap numbers_owing c.as_slice.ensures.value ∙ reached_is net l w books are in
    λ i. (c.copy_of.ensures i, ends i)
