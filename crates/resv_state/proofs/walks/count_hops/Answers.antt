use Rattle.std.proofs.Common.{◌≡◌, ◌+◌, true, false, cond, drop, Some, sym, ap, ◌∙◌, arith}
use Rattle.style_rules.specs.Lines.{next_hops}
use Rattle.soft_table.specs.Walks.{is_last, changes}
use Rattle.soft_table.proofs.Steps.{met, all_met}
use Rattle.resv_state.specs.Resvs.{held_key}
use Rattle.resv_state.specs.Walks.{rests, held_under, hops_in}
use Rattle.resv_state.proofs.Walked.{within, hop_here}
use Rattle.resv_state.proofs.walks.count_hops.Goals as goal

pub loop-held-init : goal.loop-held-init
loop-held-init c = record { k = 0; at = sym (c.into_iter-held-iterator.ensures.into_iter_gives ∙ c.of_session-held-items.ensures); counted = omega arith; few = omega arith }

pub overflow_add-count : goal.overflow_add-count
overflow_add-count c =
    let at = c.loop-held.invariant in
    let st = met rests held_key c.args.session c.args.table.now.facts at.k c.in-Some.held.now c.next.new.self (at.at ∙ c.in-Some.ensures.steps) in
    omega (arith, at.few, within (held_under c.args.session c.args.table.now.facts) at.k st.0.row st.0.at, c.requires)

pub returns : goal.returns
returns c =
    let at = c.loop-held.invariant in
    let e = ap (λ es. c.loop-held.count + changes next_hops c.loop-held.last (hops_in es)) (all_met rests held_key c.args.session c.args.table.now.facts at.k (at.at ∙ c.in-None.ensures.steps.0)) in
    omega (arith, e, at.counted)

pub loop-held-preserved-then-not-is_last_hop : goal.loop-held-preserved-then-not-is_last_hop
loop-held-preserved-then-not-is_last_hop c =
    let at = c.loop-held.invariant in
    let h = c.in-Some.held.now in
    let st = met rests held_key c.args.session c.args.table.now.facts at.k h c.next.new.self (at.at ∙ c.in-Some.ensures.steps) in
    let rest = hops_in (drop (at.k + 1) (held_under c.args.session c.args.table.now.facts)) in
    let hop = (held_key h).1.0 in
    let here = hop_here c.loop-held.last c.args.session c.args.table.now.facts at.k h st.0 in
    let new : is_last next_hops c.loop-held.last hop ≡ false = sym c.is_last_hop.ensures ∙ c.if-not-is_last_hop.true in
    let step = here ∙ ap (λ b. cond b (changes next_hops c.loop-held.last rest) (1 + changes next_hops (Some hop) rest)) new in
    record { k = at.k + 1; at = sym st.1; counted = omega (arith, step, at.counted); few = omega (arith, at.few) }

pub loop-held-preserved : goal.loop-held-preserved
loop-held-preserved c =
    let at = c.loop-held.invariant in
    let h = c.in-Some.held.now in
    let st = met rests held_key c.args.session c.args.table.now.facts at.k h c.next.new.self (at.at ∙ c.in-Some.ensures.steps) in
    let rest = hops_in (drop (at.k + 1) (held_under c.args.session c.args.table.now.facts)) in
    let hop = (held_key h).1.0 in
    let here = hop_here c.loop-held.last c.args.session c.args.table.now.facts at.k h st.0 in
    let old : is_last next_hops c.loop-held.last hop ≡ true = sym c.is_last_hop.ensures ∙ c.if-not-is_last_hop.false in
    let step = here ∙ ap (λ b. cond b (changes next_hops c.loop-held.last rest) (1 + changes next_hops (Some hop) rest)) old in
    record { k = at.k + 1; at = sym st.1; counted = omega (arith, step, at.counted); few = omega (arith, at.few) }
