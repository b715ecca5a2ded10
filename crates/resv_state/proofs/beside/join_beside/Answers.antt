use Rattle.std.proofs.Common.{◌≡◌, ◌+◌, true, false, cond, drop, map as each, refl, sym, ap, ◌∙◌}
use Rattle.flow_merge.specs.FlowOrder.{flow_join}
use Rattle.style_rules.specs.Lines.{LineKey}
use Rattle.soft_table.proofs.Steps.{met, all_met}
use Rattle.resv_state.specs.Merging.{held_said, is_beside, joined_with}
use Rattle.resv_state.specs.Resvs.{held_key}
use Rattle.resv_state.specs.Walks.{rests, held_under}
use Rattle.resv_state.proofs.Entries.{joined_here}
use Rattle.resv_state.proofs.beside.join_beside.Goals as goal

pub loop-held-init : goal.loop-held-init
loop-held-init c = record { k = 0; at = sym (c.into_iter-held-iterator.ensures.into_iter_gives ∙ c.of_session-held-items.ensures); joined = refl }

pub returns : goal.returns
returns c =
    let at = c.loop-held.invariant in
    ap (λ es. joined_with c.args.key.now c.loop-held.joined (each held_said es)) (sym (all_met rests held_key c.args.session c.args.table.now.facts at.k (at.at ∙ c.in-None.ensures.steps.0)))
    ∙ at.joined

pub loop-held-preserved-then-is_beside : goal.loop-held-preserved-then-is_beside
loop-held-preserved-then-is_beside c =
    let key = c.args.key.now in
    let at = c.loop-held.invariant in
    let h = c.in-Some.held.now in
    let st = met rests held_key c.args.session c.args.table.now.facts at.k h c.next.new.self (at.at ∙ c.in-Some.ensures.steps) in
    let rest = each held_said (drop (at.k + 1) (held_under c.args.session c.args.table.now.facts)) in
    let own : c.key.result.1 ≡ (held_key h).1 = ap (λ (q : LineKey). q.1) c.key.ensures in
    let beside : is_beside key (held_key h).1 ≡ true = ap (is_beside key) (sym own) ∙ sym c.is_beside.ensures ∙ c.if-is_beside.true in
    let joined = joined_here key c.loop-held.joined c.args.session c.args.table.now.facts at.k h st.0
    ∙ ap (λ b. joined_with key (cond b (flow_join c.loop-held.joined h.fact.part.flow) c.loop-held.joined) rest) beside ∙ ap (λ f. joined_with key f rest) (sym c.join-joined.ensures) in
    record { k = at.k + 1; at = sym st.1; joined = sym joined ∙ at.joined }

pub loop-held-preserved : goal.loop-held-preserved
loop-held-preserved c =
    let key = c.args.key.now in
    let at = c.loop-held.invariant in
    let h = c.in-Some.held.now in
    let st = met rests held_key c.args.session c.args.table.now.facts at.k h c.next.new.self (at.at ∙ c.in-Some.ensures.steps) in
    let rest = each held_said (drop (at.k + 1) (held_under c.args.session c.args.table.now.facts)) in
    let own : c.key.result.1 ≡ (held_key h).1 = ap (λ (q : LineKey). q.1) c.key.ensures in
    let apart : is_beside key (held_key h).1 ≡ false = ap (is_beside key) (sym own) ∙ sym c.is_beside.ensures ∙ c.if-is_beside.false in
    let joined = joined_here key c.loop-held.joined c.args.session c.args.table.now.facts at.k h st.0
    ∙ ap (λ b. joined_with key (cond b (flow_join c.loop-held.joined h.fact.part.flow) c.loop-held.joined) rest) apart in
    record { k = at.k + 1; at = sym st.1; joined = sym joined ∙ at.joined }
