use Rattle.std.proofs.Common.{sym, ap, ◌∙◌, arith, length, map as each}
use Rattle.rsvp_base.specs.Sets.{with_keys}
use Rattle.rsvp_base.specs.Table.{size}
use Rattle.path_state.specs.declared.fact.PathFact.{PathFact}
use Rattle.router_aging.proofs.Adding.{size_next}
use Rattle.router_aging.proofs.known.add_paths.Goals as goal

pub loop-fact-init : goal.loop-fact-init
loop-fact-init c =
    let items = c.into_iter-fact-iterator.ensures.into_iter_gives in
    record {
      found = ap (λ fs. with_keys c.args.found.now (each (λ (f : PathFact). f.sender) fs)) items ∙ ap (with_keys c.args.found.now) c.of_session-fact-items.ensures.senders;
      size = omega (arith, ap length items, c.of_session-fact-items.ensures.few, c.requires);
    }

pub add-requires : goal.add-requires
add-requires c =
    let more = size_next c.loop-fact.found c.in-Some.fact.now.sender in
    omega (arith, more, c.loop-fact.invariant.size, ap length c.in-Some.ensures.steps)

pub loop-fact-preserved : goal.loop-fact-preserved
loop-fact-preserved c =
    let more = size_next c.loop-fact.found c.in-Some.fact.now.sender in
    let steps = c.in-Some.ensures.steps in
    record {
      found = ap (λ n. with_keys n (each (λ (f : PathFact). f.sender) c.next.new.self)) c.add.ensures ∙ ap (λ fs. with_keys c.loop-fact.found (each (λ (f : PathFact). f.sender) fs)) (sym steps)
          ∙ c.loop-fact.invariant.found;
      size = omega (arith, ap size c.add.ensures, more, c.loop-fact.invariant.size, ap length steps);
    }

pub returns : goal.returns
returns c = ap (λ fs. with_keys c.loop-fact.found (each (λ (f : PathFact). f.sender) fs)) (sym c.in-None.ensures.steps.0) ∙ c.loop-fact.invariant.found
