use Rattle.std.proofs.Common.{◌≡◌, ℕ, List, [], ◌∷◌, ◌++◌, Some, length, refl, sym, ap, subst, ◌∙◌, arith}
use Rattle.std.specs.Prelude.{slice_get, slice_set}
use Rattle.std.proofs.lemmas.Grind.{common_steps}
use Rattle.std.proofs.lemmas.Option.{slice_get_read}
use Rattle.std.proofs.lemmas.Result.{err_from_is_err_and}
use Rattle.router_rules.specs.Calls.{with_left}
use Rattle.router_rules.specs.Facts.{Facts}
use Rattle.router_rules.specs.Inputs.{Stale}
use Rattle.network_model.specs.LeftFacts.{facts_at}
use Rattle.stale_state.specs.AtNodes.{AreKept, ifaces_at_node, list_of}
use Rattle.stale_state.specs.Kept.{facts_of, stale_of}
use Rattle.stale_state.specs.Standing.{IsLeftOut, Stands}
use Rattle.stale_state.specs.declared.at_node.AtNode.{AtNode}
use Rattle.stale_state.specs.declared.fact.Left.{Left}
use Rattle.stale_state.specs.declared.fact.LeftOver.{LeftOver}
use Rattle.stale_state.proofs.Listing.{books_from, facts_more, kept_more, kept_same, list_more}
use Rattle.stale_state.proofs.leavings.Leavings.add.Goals as goal

pub invariant_of-self-in-Break-branch-2 : goal.invariant_of-self-in-Break-branch-2
invariant_of-self-in-Break-branch-2 c =
    let ls : List LeftOver = c.args.self.now.facts.items in
    let ns : List AtNode = c.args.self.now.nodes.items in
    let old : AtNode = c.index_mut.result.now in
    let at : slice_get ns c.args.node ≡ Some old = slice_get_read ns (length ns) c.args.node old refl c.requires.there c.index_mut.ensures.value in
    let is : facts_of old ≡ facts_at (list_of ls) c.args.node = c.args.self.now.kept.at c.args.node old at in
    record {
      kept = subst (λ (xs : List LeftOver). AreKept xs (slice_set ns c.args.node c.add.new.self)) (sym c.in_ok-reserve.ensures.items)
          (kept_same ls ns c.args.node c.add.new.self c.args.self.now.kept (c.in_err-add.ensures.err_facts ∙ is)
          (λ none. c.in_err-add.ensures.err_ifaces ∙ c.args.self.now.kept.none none c.args.node old at));
    }

pub returns-in_err-add-clause-refused : goal.returns-in_err-add-clause-refused
returns-in_err-add-clause-refused c =
    let ls : List LeftOver = c.args.self.now.facts.items in
    let ns : List AtNode = c.args.self.now.nodes.items in
    let old : AtNode = c.index_mut.result.now in
    let at : slice_get ns c.args.node ≡ Some old = slice_get_read ns (length ns) c.args.node old refl c.requires.there c.index_mut.ensures.value in
    let is : facts_of old ≡ facts_at (list_of ls) c.args.node = c.args.self.now.kept.at c.args.node old at in
    let p = err_from_is_err_and c.from_residual-in_err-add.result c.from_residual-in_err-add.ensures.1 in
    rw (p.1, p.2) (subst (λ (f : Facts). IsLeftOut (ifaces_at_node c.args.ends.now c.args.node) (stale_of c.args.fact c.args.left) f c.in_err-add.field-0.0) is c.in_err-add.ensures.refused)

pub returns-in_err-add-clause-ends : goal.returns-in_err-add-clause-ends
returns-in_err-add-clause-ends c = books_from c.args.ends.now c.args.self.now.nodes.items c.args.node c.add.new.self c.requires.ends c.in_err-add.ensures.booked

pub invariant_of-self-2 : goal.invariant_of-self-2
invariant_of-self-2 c =
    let ls : List LeftOver = c.args.self.now.facts.items in
    let ns : List AtNode = c.args.self.now.nodes.items in
    let old : AtNode = c.index_mut.result.now in
    let at : slice_get ns c.args.node ≡ Some old = slice_get_read ns (length ns) c.args.node old refl c.requires.there c.index_mut.ensures.value in
    let is : facts_of old ≡ facts_at (list_of ls) c.args.node = c.args.self.now.kept.at c.args.node old at in
    let pushed : c.push.new.self.items ≡ ls ++ record { node = c.args.node; fact = c.copy_of-kept.result; left = c.args.left } ∷ [] = grind (arith, common_steps) in
    let more : c.push.new.self.items ≡ ls ++ record { node = c.args.node; fact = c.args.fact; left = c.args.left } ∷ [] = pushed
    ∙ ap (λ (f : Left). ls ++ record { node = c.args.node; fact = f; left = c.args.left } ∷ []) c.copy_of-kept.ensures in
    let l : LeftOver = record { node = c.args.node; fact = c.args.fact; left = c.args.left } in
    record {
      kept = subst (λ (xs : List LeftOver). AreKept xs (slice_set ns c.args.node c.add.new.self)) (sym more)
          (kept_more ls ns l c.add.new.self c.args.self.now.kept (c.in_ok-add.ensures.ok.facts ∙ ap (with_left (stale_of c.args.fact c.args.left)) is));
    }

pub returns-clause-stands : goal.returns-clause-stands
returns-clause-stands c =
    let ls : List LeftOver = c.args.self.now.facts.items in
    let ns : List AtNode = c.args.self.now.nodes.items in
    let old : AtNode = c.index_mut.result.now in
    let at : slice_get ns c.args.node ≡ Some old = slice_get_read ns (length ns) c.args.node old refl c.requires.there c.index_mut.ensures.value in
    let is : facts_of old ≡ facts_at (list_of ls) c.args.node = c.args.self.now.kept.at c.args.node old at in
    let pushed : c.push.new.self.items ≡ ls ++ record { node = c.args.node; fact = c.copy_of-kept.result; left = c.args.left } ∷ [] = grind (arith, common_steps) in
    let more : c.push.new.self.items ≡ ls ++ record { node = c.args.node; fact = c.args.fact; left = c.args.left } ∷ [] = pushed
    ∙ ap (λ (f : Left). ls ++ record { node = c.args.node; fact = f; left = c.args.left } ∷ []) c.copy_of-kept.ensures in
    let l : LeftOver = record { node = c.args.node; fact = c.args.fact; left = c.args.left } in
    let s : Stale = stale_of c.args.fact c.args.left in
    let now : facts_of c.add.new.self ≡ facts_at (list_of c.push.new.self.items) c.args.node =
    c.in_ok-add.ensures.ok.facts ∙ ap (with_left s) is ∙ sym (facts_more (list_of ls) c.args.node s) ∙ ap (λ (xs : List (ℕ × Stale)). facts_at xs c.args.node) (sym (list_more ls l))
    ∙ ap (λ (xs : List LeftOver). facts_at (list_of xs) c.args.node) (sym more) in
    subst (λ (z : Facts × Facts). Stands (ifaces_at_node c.args.ends.now c.args.node) s z.0 z.1) (λ i. (is i, now i)) c.in_ok-add.ensures.ok

pub returns-clause-ends : goal.returns-clause-ends
returns-clause-ends c = books_from c.args.ends.now c.args.self.now.nodes.items c.args.node c.add.new.self c.requires.ends c.in_ok-add.ensures.booked
