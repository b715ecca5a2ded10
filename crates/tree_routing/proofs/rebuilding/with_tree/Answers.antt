use Rattle.std.proofs.Common.{◌∙◌, ◌++◌, not, sym, ap, subst, arith, length, length-append, List, map as each}
use Rattle.std.specs.List.{filter}
use Rattle.std.proofs.lemmas.List.{length-map}
use Rattle.std.proofs.lemmas.Result.{err_from_is_err_and}
use Rattle.tree_model.specs.declared.hops.TreeHop.{TreeHop}
use Rattle.tree_model.specs.Trees.{of_tree, tree}
use Rattle.tree_routing.specs.declared.known.Known.{Known}
use Rattle.tree_routing.specs.Known.{plain, AreKnown}
use Rattle.tree_routing.specs.Reroutes.{tree_hop, with_before}
use Rattle.tree_routing.proofs.Rebuilt.{beside_none, beside_few, part_moved, plain_all, all_known}
use Rattle.tree_routing.proofs.rebuilding.with_tree.Goals as goal

pub grow-requires-clause-none : goal.grow-requires-clause-none
grow-requires-clause-none c = ap (λ (rs : List TreeHop). tree rs c.args.group c.args.source) c.in-Ok.ensures.hops ∙ beside_none c.args.group c.args.source c.args.hops.now

pub grow-requires-clause-few : goal.grow-requires-clause-few
grow-requires-clause-few c =
    let g = c.args.group in
    let s = c.args.source in
    let rs = c.args.hops.now in
    let hs = c.args.tree.now in
    let kept = length-map c.in-Ok.all.items (λ (k : Known). k.hop) in
    let all = ap length c.in-Ok.ensures.hops in
    let few = beside_few g s rs in
    let more = length-append (filter (λ (r : TreeHop). not (of_tree g s r)) rs) (each (tree_hop g s) hs) in
    let mine = length-map hs (tree_hop g s) in
    let room = c.requires.room in
    omega arith

pub returns-in_err-grow-clause-err : goal.returns-in_err-grow-clause-err
returns-in_err-grow-clause-err c = λ nodes.
    let p = err_from_is_err_and c.from_residual.result c.from_residual.ensures.1 in
    rw (p.1, p.2) (c.in_err-grow.ensures nodes c.args.hops.now)

pub returns-clause-hops : goal.returns-clause-hops
returns-clause-hops c =
    let g = c.args.group in
    let s = c.args.source in
    let all : List Known = c.grow.new.all.items in
    ap plain (c.in-Ok-with_befores.ensures ∙ ap (λ (ks : List Known). each (with_before c.args.ends.now ks) ks) c.as_slice.ensures.value) ∙ plain_all c.args.ends.now all all
    ∙ (c.in_ok-grow.ensures 0 c.args.hops.now).1
    ∙ ap (λ (rs : List TreeHop). rs ++ each (tree_hop g s) c.args.tree.now) c.in-Ok.ensures.hops
    ∙ sym (part_moved g s c.args.hops.now c.args.tree.now)

pub returns-clause-known : goal.returns-clause-known
returns-clause-known c =
    let all : List Known = c.grow.new.all.items in
    subst (AreKnown c.args.ends.now) (sym (c.in-Ok-with_befores.ensures ∙ ap (λ (ks : List Known). each (with_before c.args.ends.now ks) ks) c.as_slice.ensures.value))
    (all_known c.args.ends.now all (c.in_ok-grow.ensures 0 c.args.hops.now).2)
