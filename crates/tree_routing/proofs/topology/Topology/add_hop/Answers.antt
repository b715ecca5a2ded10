use Rattle.std.proofs.Common.{◌≡◌, ◌++◌, ◌∷◌, [], List, arith, sym, subst, true, Ok, Err}
use Rattle.std.proofs.lemmas.Grind.{common_steps}
use Rattle.tree_model.specs.Valid.{IsValid}
use Rattle.tree_routing.specs.declared.known.Known.{Known}
use Rattle.tree_routing.specs.Known.{net_of, AreKnown}
use Rattle.tree_routing.proofs.ValidMore.{below_all, vertex_most, hop_answer, hop_kept}
use Rattle.tree_routing.proofs.ReroutedLaws.{before_below, befores_below}
use Rattle.tree_routing.proofs.topology.Topology.add_hop.Goals as goal

pub check_loop-requires-clause-below : goal.check_loop-requires-clause-below
check_loop-requires-clause-below c = below_all c.self.inside.ends.items c.self.inside.hops.items c.as_slice-3.result.now c.self.invariant.1 c.as_slice-3.ensures.value

pub check_loop-requires-clause-from : goal.check_loop-requires-clause-from
check_loop-requires-clause-from c =
    vertex_most c.self.inside.hops.items c.as_slice-2.result.now c.as_slice-3.result.now c.know-known.result.vertex c.args.group _ c.know-known.ensures.vertex c.as_slice-2.ensures.value
    c.as_slice-3.ensures.value

pub check_loop-requires-clause-befores : goal.check_loop-requires-clause-befores
check_loop-requires-clause-befores c = befores_below c.self.inside.ends.items c.self.inside.hops.items c.as_slice-3.result.now c.self.invariant.1 c.as_slice-3.ensures.value

pub check_loop-requires-clause-before : goal.check_loop-requires-clause-before
check_loop-requires-clause-before c =
    before_below c.self.inside.ends.items c.as_slice.result.now c.self.inside.hops.items c.as_slice-2.result.now c.as_slice-3.result.now
    (record { group = c.args.group; source = c.args.source; hop = record { from = c.args.from; to = c.args.to } })
    c.know-known.result.before c.know-known.ensures.before c.as_slice.ensures.value c.as_slice-2.ensures.value c.as_slice-3.ensures.value c.self.invariant.1

pub invariant_of-self-in-Ok : goal.invariant_of-self-in-Ok
invariant_of-self-in-Ok c =
    let is : c.push.new.self.items ≡ c.self.inside.hops.items ++ c.know-known.result ∷ [] = grind (arith, common_steps) in
    let grown : c.can_grow.result ≡ true = grind (arith, common_steps) in
    let answer = hop_answer c.args.self.now c.self.inside.nodes c.self.inside.ends.items c.as_slice.result.now c.self.inside.links.items c.self.inside.hops.items c.as_slice-2.result.now
    c.as_slice-3.result.now _ c.know-known.result (Ok tt) (sym c.self.view_is) c.as_slice.ensures.value c.as_slice-2.ensures.value c.as_slice-3.ensures.value
    c.know-known.ensures.hop c.know-known.ensures.vertex c.know-known.ensures.before c.self.invariant.0 c.self.invariant.1 (c.can_grow.ensures.0 grown) c.in-Ok.ensures in
    subst (λ (ks : List Known). IsValid (net_of c.self.inside.nodes c.self.inside.ends.items c.self.inside.links.items ks) × AreKnown c.self.inside.ends.items ks) (sym is)
    (hop_kept c.args.self.now c.self.inside.nodes c.self.inside.ends.items c.as_slice.result.now c.self.inside.links.items c.self.inside.hops.items c.as_slice-2.result.now _ c.know-known.result
    (sym c.self.view_is) c.as_slice.ensures.value c.as_slice-2.ensures.value
    c.know-known.ensures.hop c.know-known.ensures.vertex c.know-known.ensures.before c.self.invariant.0 c.self.invariant.1 c.requires answer)

pub returns-else-is_err-clause-answer : goal.returns-else-is_err-clause-answer
returns-else-is_err-clause-answer c =
    let grown : c.can_grow.result ≡ true = grind (arith, common_steps) in
    hop_answer c.args.self.now c.self.inside.nodes c.self.inside.ends.items c.as_slice.result.now c.self.inside.links.items c.self.inside.hops.items c.as_slice-2.result.now c.as_slice-3.result.now _
    c.know-known.result (Ok tt) (sym c.self.view_is) c.as_slice.ensures.value c.as_slice-2.ensures.value c.as_slice-3.ensures.value
    c.know-known.ensures.hop c.know-known.ensures.vertex c.know-known.ensures.before c.self.invariant.0 c.self.invariant.1 (c.can_grow.ensures.0 grown) c.in-Ok.ensures

pub returns-in-Err-clause-answer : goal.returns-in-Err-clause-answer
returns-in-Err-clause-answer c =
    let grown : c.can_grow.result ≡ true = grind (arith, common_steps) in
    hop_answer c.args.self.now c.self.inside.nodes c.self.inside.ends.items c.as_slice.result.now c.self.inside.links.items c.self.inside.hops.items c.as_slice-2.result.now c.as_slice-3.result.now _
    c.know-known.result (Err c.in-Err.why) (sym c.self.view_is) c.as_slice.ensures.value c.as_slice-2.ensures.value c.as_slice-3.ensures.value
    c.know-known.ensures.hop c.know-known.ensures.vertex c.know-known.ensures.before c.self.invariant.0 c.self.invariant.1 (c.can_grow.ensures.0 grown) c.in-Err.ensures
