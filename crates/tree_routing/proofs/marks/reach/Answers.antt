use Rattle.std.proofs.Common.{◌∙◌, ap, arith, length}
use Rattle.std.proofs.lemmas.List.{length-replicate}
use Rattle.tree_routing.specs.Marks.{marked}
use Rattle.tree_routing.proofs.MarkLaws.{none_marked}
use Rattle.tree_routing.proofs.marks.reach.Goals as goal

pub mark_from-requires-clause-below : goal.mark_from-requires-clause-below
mark_from-requires-clause-below c = λ k i.
    let lt = c.requires.below k i in
    let is = c.as_mut_slice.ensures.value ∙ c.in_ok-marks.ensures in
    let size = ap length is ∙ length-replicate _ _ in
    omega arith

pub mark_from-requires-clause-none : goal.mark_from-requires-clause-none
mark_from-requires-clause-none c = λ v. ap (λ ms. marked ms v) (c.as_mut_slice.ensures.value ∙ c.in_ok-marks.ensures) ∙ none_marked _ v
