use Rattle.std.proofs.Common.{◌≡◌, List, length, ap, ◌∙◌, arith}
use Rattle.std.specs.List.{filter}
use Rattle.network_demand.specs.Asked.{locals_of}
use Rattle.network_demand.specs.declared.hop_want.HopWant.{HopWant}
use Rattle.network_demand.proofs.Inside.{index_in}
use Rattle.network_demand.specs.Counts.{asked_in, is_something}
use Rattle.network_demand.proofs.Bounds.{few_asked}
use Rattle.network_demand.proofs.resvs.asked_in.Goals as goal

pub hop_wants-requires-clause-nodes : goal.hop_wants-requires-clause-nodes
hop_wants-requires-clause-nodes g c = λ k d lt. c.requires.locals.nodes _ (index_in c.args.locals.now.wants.items k d lt)

pub returns-clause-asked : goal.returns-clause-asked
returns-clause-asked g c = c.count_of_wanted.ensures ∙ ap (λ (ws : List HopWant). length (filter is_something ws)) (c.as_slice.ensures.value ∙ c.in_ok-wants.ensures)

pub returns-clause-few : goal.returns-clause-few
returns-clause-few g c =
    let net = c.args.routing.now in
    let l = locals_of c.args.locals.now in
    let is : c.count_of_wanted.result ≡ asked_in g.S.Style.kind_is net l c.args.order.now c.args.session =
    c.count_of_wanted.ensures ∙ ap (λ (ws : List HopWant). length (filter is_something ws)) (c.as_slice.ensures.value ∙ c.in_ok-wants.ensures) in
    let few = few_asked g.S.Style.kind_is net l c.args.order.now c.args.session c.nodes-nodes.ensures.valid c.requires.order in
    omega (arith, is, few)
