use Rattle.std.proofs.Common.{◌≤◌, ◌+◌, take, sym, ap, subst, ◌∙◌}
use Rattle.std.specs.List.{filter_map}
use Rattle.rsvp_base.specs.Sets.{union}
use Rattle.rsvp_base.specs.Table.{size}
use Rattle.style_rules.specs.Tally.{TallyTable, tally_of, names_of_tally}
use Rattle.soft_table.proofs.Steps.{met, all_met}
use Rattle.resv_state.specs.Merging.{held_on}
use Rattle.resv_state.specs.Resvs.{held_key}
use Rattle.resv_state.specs.Walks.{rests, held_under}
use Rattle.resv_state.proofs.Merged.{all_taken, room_on, on_more}
use Rattle.resv_state.proofs.merging.merge_on.Goals as goal

pub loop-held-init : goal.loop-held-init
loop-held-init g c = record { k = 0; at = sym (c.into_iter-held-iterator.ensures.into_iter_gives ∙ c.of_session-held-items.ensures); merged = c.new-merger.ensures }

pub add_on-requires : goal.add_on-requires
add_on-requires g c =
    let at = c.loop-held.invariant in
    let st = met rests held_key c.args.session c.args.table.now.facts at.k c.in-Some.held.now c.next.new.self (at.at ∙ c.in-Some.ensures.steps) in
    subst (λ (t : TallyTable). size (union (names_of_tally t) c.in-Some.held.now.fact.part.senders) ≤ 16) (sym at.merged)
    (room_on c.args.session c.args.table.now.facts at.k c.in-Some.held.now st.0 g.S.Style.kind_is c.args.iface c.requires)

pub loop-held-preserved : goal.loop-held-preserved
loop-held-preserved g c =
    let at = c.loop-held.invariant in
    let st = met rests held_key c.args.session c.args.table.now.facts at.k c.in-Some.held.now c.next.new.self (at.at ∙ c.in-Some.ensures.steps) in
    record {
      k = at.k + 1;
      at = sym st.1;
      merged = c.add_on.ensures (filter_map (held_on c.args.iface) (take at.k (held_under c.args.session c.args.table.now.facts))) at.merged
          ∙ ap (tally_of g.S.Style.kind_is) (sym (on_more c.args.session c.args.table.now.facts at.k c.in-Some.held.now st.0 c.args.iface));
    }

pub returns : goal.returns
returns g c =
    let at = c.loop-held.invariant in
    at.merged ∙ ap (λ es. tally_of g.S.Style.kind_is (filter_map (held_on c.args.iface) es))
    (all_taken (held_under c.args.session c.args.table.now.facts) at.k (all_met rests held_key c.args.session c.args.table.now.facts at.k (at.at ∙ c.in-None.ensures.steps.0)))
