use Rattle.std.proofs.Common.{◌≡◌, ◌+◌, true, false, cond, drop, refl, sym, ap, ◌∙◌}
use Rattle.std.specs.Prelude.{nat_le}
use Rattle.std.specs.Ordering.{eq_by_cmp}
use Rattle.rsvp_base.specs.Sets.{union}
use Rattle.rsvp_base.specs.Table.{size}
use Rattle.style_rules.specs.Lines.{LineKey}
use Rattle.soft_table.proofs.Steps.{met, all_met}
use Rattle.resv_state.specs.Resvs.{held_key}
use Rattle.resv_state.specs.Walks.{rests, held_under, with_names}
use Rattle.resv_state.proofs.Walked.{names_here, no_room}
use Rattle.resv_state.proofs.walks.fits_names.Goals as goal

pub loop-held-init : goal.loop-held-init
loop-held-init c = record {
  k = 0;
  at = sym (c.into_iter-held-iterator.ensures.into_iter_gives ∙ c.of_session-held-items.ensures);
  named = ap
      (λ n. with_names c.args.key.now n (held_under c.args.session c.args.table.now.facts)) c.copy-names.ensures.same;
}

pub returns : goal.returns
returns c =
    let at = c.loop-held.invariant in
    ap (λ n. nat_le n 16) (c.len.ensures.size ∙ ap (λ es. size (with_names c.args.key.now c.loop-held.names es))
    (sym (all_met rests held_key c.args.session c.args.table.now.facts at.k (at.at ∙ c.in-None.ensures.steps.0))) ∙ ap size at.named)

pub returns-in-Err : goal.returns-in-Err
returns-in-Err c =
    let at = c.loop-held.invariant in
    let st = met rests held_key c.args.session c.args.table.now.facts at.k c.in-Some.held.now c.next.new.self (at.at ∙ c.in-Some.ensures.steps) in
    let own : c.key.result.1 ≡ (held_key c.in-Some.held.now).1 = ap (λ (q : LineKey). q.1) c.key.ensures in
    no_room c.args.key.now c.loop-held.names c.args.session c.args.table.now.facts at.k c.in-Some.held.now st.0
    (ap (eq_by_cmp rests.cmp c.args.key.now) (sym own) ∙ sym c.is_rest.ensures ∙ c.if-not-is_rest.true) (c.in-Err.ensures.full.0 refl) _ at.named

pub loop-held-preserved-in-Ok : goal.loop-held-preserved-in-Ok
loop-held-preserved-in-Ok c =
    let at = c.loop-held.invariant in
    let h = c.in-Some.held.now in
    let st = met rests held_key c.args.session c.args.table.now.facts at.k h c.next.new.self (at.at ∙ c.in-Some.ensures.steps) in
    let rest = drop (at.k + 1) (held_under c.args.session c.args.table.now.facts) in
    let own : c.key.result.1 ≡ (held_key h).1 = ap (λ (q : LineKey). q.1) c.key.ensures in
    let apart : eq_by_cmp rests.cmp c.args.key.now (held_key h).1 ≡ false = ap (eq_by_cmp rests.cmp c.args.key.now) (sym own) ∙ sym c.is_rest.ensures ∙ c.if-not-is_rest.true in
    let named = names_here c.args.key.now c.loop-held.names c.args.session c.args.table.now.facts at.k h st.0
    ∙ ap (λ b. with_names c.args.key.now (cond b c.loop-held.names (union c.loop-held.names h.fact.part.senders)) rest) apart
    ∙ ap (λ n. with_names c.args.key.now n rest) (sym c.in-Ok.ensures.ok) in
    record { k = at.k + 1; at = sym st.1; named = sym named ∙ at.named }

pub loop-held-preserved : goal.loop-held-preserved
loop-held-preserved c =
    let at = c.loop-held.invariant in
    let h = c.in-Some.held.now in
    let st = met rests held_key c.args.session c.args.table.now.facts at.k h c.next.new.self (at.at ∙ c.in-Some.ensures.steps) in
    let rest = drop (at.k + 1) (held_under c.args.session c.args.table.now.facts) in
    let own : c.key.result.1 ≡ (held_key h).1 = ap (λ (q : LineKey). q.1) c.key.ensures in
    let same : eq_by_cmp rests.cmp c.args.key.now (held_key h).1 ≡ true = ap (eq_by_cmp rests.cmp c.args.key.now) (sym own) ∙ sym c.is_rest.ensures ∙ c.if-not-is_rest.false in
    let named = names_here c.args.key.now c.loop-held.names c.args.session c.args.table.now.facts at.k h st.0
    ∙ ap (λ b. with_names c.args.key.now (cond b c.loop-held.names (union c.loop-held.names h.fact.part.senders)) rest) same in
    record { k = at.k + 1; at = sym st.1; named = sym named ∙ at.named }
