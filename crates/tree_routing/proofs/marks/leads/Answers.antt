use Rattle.std.proofs.Common.{◌≡◌, ◌∙◌, sym, ap}
use Rattle.tree_routing.specs.Marks.{marked}
use Rattle.tree_routing.proofs.MarkLaws.{reached}
use Rattle.tree_routing.proofs.marks.leads.Goals as goal

pub returns : goal.returns
returns c =
    let r = c.in_ok-marks.ensures in
    let same : c.is_marked.result ≡ marked c.in_ok-marks.marks.items c.args.to = c.is_marked.ensures ∙ ap (λ ms. marked ms c.args.to) c.as_slice.ensures.value in
    (λ t. r.leads c.args.to (sym same ∙ t), λ w. same ∙ reached c.args.hops.now c.args.from c.args.to c.in_ok-marks.marks.items r w)
