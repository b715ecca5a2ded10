-- How networks are stored as numbers: what values of models need.
use Rattle.std.specs.Prelude.{ℕ, List, refl}
use Rattle.std.specs.Coded.{Coded, code_by, coded×, coded_ℕ, coded_list}
use Rattle.tree_model.specs.declared.hops.End.{End}
use Rattle.tree_model.specs.declared.hops.TreeHop.{TreeHop}
use Rattle.tree_model.specs.contracts.hops.End as end
use Rattle.tree_model.specs.contracts.hops.TreeHop as tree_hop
use Rattle.tree_model.specs.Networks.{Net}

abbrev pub net_code : Coded Net
net_code =
    code_by ((ℕ × List End)
    × (List (List ℕ)
    × List TreeHop)) (coded× (coded× coded_ℕ (coded_list (end.the_row).coded)) (coded× (coded_list (coded_list coded_ℕ)) (coded_list (tree_hop.the_row).coded)))
    (λ n. ((n.nodes, n.ends), (n.links, n.hops))) (λ p. record { nodes = p.0.0; ends = p.0.1; links = p.1.0; hops = p.1.1 }) (λ _. refl)
