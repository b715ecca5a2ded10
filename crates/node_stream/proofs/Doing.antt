-- A router did what its rule says of an input.
use Rattle.std.proofs.Common.{◌≡◌, ℕ, ◌≤◌, length, refl, sym, subst, arith}
use Rattle.std.specs.Prelude.{fold}
use Rattle.laws_bounds.proofs.Bounded.{a_step_keeps_a_node_within_bounds}
use Rattle.laws_bounds.proofs.AllSends.{few_are_sent}
use Rattle.laws_bounds.specs.CountLaws.{IsFewInput}
use Rattle.network_replay.specs.Following.{Seen}
use Rattle.router_rules.proofs.Fronting.{fronts_are_the_rule}
use Rattle.router_rules.specs.Bounds.{IsWithinBounds}
use Rattle.router_rules.specs.Inputs.{Input}
use Rattle.router_rules.specs.NodeConfig.{NodeConfig}
use Rattle.router_rules.specs.Rule.{facts_after, sent_after}
use Rattle.router_rules.specs.Steps.{IsFit, clock_after}
use Rattle.node_stream.specs.Posting.{Posted, nothing_posted, with_post}
use Rattle.node_stream.specs.States.{AreLimits, HasDone, IsWithin, stands_at}
use Rattle.node_stream.specs.declared.state.Limits.{Limits}
use Rattle.node_stream.proofs.Posted.{first_posted}

module _ {R : Type 0} (see : Seen R) (old new : R) (limits : Limits) (i : Input) (from to : Posted) (its : AreLimits (see.place old) limits) (place : see.place new ≡ see.place old) (fit : IsFit (see.place old) i)
    (few : IsFewInput i) (empty : from ≡ nothing_posted) where
  pub has_done : (c : ℕ) → see.facts new (clock_after c i) ≡ facts_after (see.place old) (see.place old) (clock_after c i) i (see.facts old c)
      → to ≡ fold with_post from (sent_after (see.place old) (see.place old) (clock_after c i) i (see.facts old c))
      → IsWithin (stands_at see old c) → HasDone (stands_at see old c) i (stands_at see new (clock_after c i)) to
  has_done c facts sent within =
      let p = see.place old in
      let f = see.facts old c in
      let some : 1 ≤ p.quarter = omega (arith, its.quarter, its.some) in
      let ifaces : length p.ifaces ≤ 16 = omega (arith, its.ifaces, its.few) in
      let all = first_posted from to (sent_after p p (clock_after c i) i f) empty sent (few_are_sent p c i f some ifaces within fit few) in
      let kept : IsWithinBounds p (clock_after c i) (facts_after p p (clock_after c i) i f) =
      subst (IsWithinBounds p (clock_after c i)) (sym (fronts_are_the_rule.facts p p (clock_after c i) i f))
      (a_step_keeps_a_node_within_bounds p p c i f (record { quarter = refl; ifaces = refl; some = some }) fit within) in
      record {
        stands = λ j. record { place = place j; clock = clock_after c i; facts = facts j };
        within = subst (λ (q : NodeConfig). IsWithinBounds q (clock_after c i) (see.facts new (clock_after c i))) (sym place)
            (subst (IsWithinBounds p (clock_after c i)) (sym facts) kept);
        posted = all;
      }
