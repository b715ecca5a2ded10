use Rattle.std.proofs.Common.{◌≡◌, ◌∙◌, ap, length, take, arith}
use Rattle.tree_model.specs.Networks.{ends_of, iface_of}
use Rattle.tree_routing.proofs.WayLaws.{few_before, iface_below}
use Rattle.tree_routing.proofs.ways.iface_of.Goals as goal

pub count_of-requires : goal.count_of-requires
count_of-requires c = few_before c.args.ends.now c.args.end c.node_of.result c.requires.few

pub returns-clause-few : goal.returns-clause-few
returns-clause-few c =
    let below = iface_below c.args.ends.now c.args.end c.requires.few c.requires.inside in
    let is : c.count_of.result ≡ iface_of c.args.ends.now c.args.end = c.count_of.ensures ∙ ap (λ n. length (ends_of (take c.args.end c.args.ends.now) n)) c.node_of.ensures in
    omega arith
