use Rattle.std.proofs.Common.{◌≡◌, ◌≤◌, ◌++◌, length, take, List, sym, ap, subst, ◌∙◌, arith}
use Rattle.std.specs.List.{filter_map}
use Rattle.std.proofs.Math.Seq.{take-length}
use Rattle.rsvp_base.specs.Sets.{union}
use Rattle.rsvp_base.specs.Table.{size}
use Rattle.rsvp_base.specs.declared.part.Part.{Part}
use Rattle.rsvp_base.specs.declared.style.Unit.{Unit as UnitOf}
use Rattle.style_rules.specs.Tally.{TallyTable, tally_of, names_of_tally}
use Rattle.style_rules.specs.Toward.{Request}
use Rattle.resv_state.specs.Merging.{names_via, held_toward, want_request, one_of}
use Rattle.resv_state.specs.Walks.{held_under}
use Rattle.resv_state.proofs.Merged.{room_via, append_within, toward_within, wants_within, filter_got}
use Rattle.std.proofs.lemmas.List.{append-nil, append_assoc}
use Rattle.resv_state.proofs.merging.merge_toward.Goals as goal

pub loop-row-init : goal.loop-row-init
loop-row-init g c = c.merge_resvs-merger.ensures ∙ ap (tally_of g.S.Style.kind_is) (sym (append-nil (filter_map (held_toward c.args.up.now) (held_under c.args.session c.args.table.now.facts))))

pub add_cut-requires : goal.add_cut-requires
add_cut-requires g c =
    let up = c.args.up.now in
    let us = held_under c.args.session c.args.table.now.facts in
    let ws = c.as_slice-row-items.result.now in
    let i = c.loop-row.row-index in
    subst (λ (t : TallyTable). size (union (names_of_tally t) (names_via up)) ≤ 16) (sym c.loop-row.invariant)
    (room_via g.S.Style.kind_is up (filter_map (held_toward up) us ++ filter_map (want_request up) (take i ws)) c.row-item.result.1.flow c.requires
    (append_within (names_via up) (filter_map (held_toward up) us) (filter_map (want_request up) (take i ws)) (toward_within up us) (wants_within up (take i ws))))

pub loop-row-preserved : goal.loop-row-preserved
loop-row-preserved g c =
    let up = c.args.up.now in
    let st = g.S.Style.kind_is in
    let ws = c.as_slice-row-items.result.now in
    let i = c.loop-row.row-index in
    let front : List Request = filter_map (held_toward up) (held_under c.args.session c.args.table.now.facts) in
    let so_far : List Request = filter_map (want_request up) (take i ws) in
    c.add_cut.ensures (front ++ so_far) c.loop-row.invariant ∙ ap (λ (w : UnitOf × Part). tally_of st ((front ++ so_far) ++ one_of (want_request up w))) c.row-item.is
    ∙ ap (tally_of st) (append_assoc front so_far _ ∙ ap (λ zs. front ++ zs) (sym (filter_got (want_request up) ws i c.row-item.result c.loop-row-test.true)))

pub returns : goal.returns
returns g c =
    let up = c.args.up.now in
    let ws = c.as_slice-row-items.result.now in
    let end : c.loop-row.row-index ≡ length ws = omega arith in
    c.loop-row.invariant ∙ ap (λ zs. tally_of g.S.Style.kind_is (filter_map (held_toward up) (held_under c.args.session c.args.table.now.facts) ++ filter_map (want_request up) zs))
    (ap (λ i. take i ws) end ∙ take-length ws ∙ c.as_slice-row-items.ensures.rows)
