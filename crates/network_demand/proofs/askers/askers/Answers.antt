use Rattle.std.proofs.Common.{List, sym, subst}
use Rattle.network_demand.proofs.Inside.{index_in}
use Rattle.rsvp_base.specs.Members.{In}
use Rattle.tree_model.specs.declared.locals.LocalWant.{LocalWant}
use Rattle.network_demand.proofs.askers.askers.Goals as goal

pub asker_of-requires-clause-one : goal.asker_of-requires-clause-one
asker_of-requires-clause-one c =
    let w : LocalWant = c.want-item.result in
    let ws = c.as_slice-want-items.result.now in
    subst (λ (xs : List LocalWant). In w xs) c.as_slice-want-items.ensures.value
    (subst (λ (x : LocalWant). In x ws) (sym c.want-item.is) (index_in ws c.loop-want.want-index w c.loop-want-test.true))
