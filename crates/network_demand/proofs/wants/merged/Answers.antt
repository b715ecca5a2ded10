use Rattle.std.proofs.Common.{◌≡◌, ◌≤◌, ◌∙◌, map as each, length, take, ap, sym, subst, arith}
use Rattle.std.proofs.Math.Seq.{take-length}
use Rattle.rsvp_base.specs.Sets.{union}
use Rattle.rsvp_base.specs.Table.{size}
use Rattle.style_rules.specs.Merge.{merge}
use Rattle.style_rules.specs.Tally.{TallyTable, tally_of, names_of_tally}
use Rattle.network_demand.specs.Steps.{cuts}
use Rattle.network_demand.proofs.Merged.{unwalled, parts_open, none_blockaded, room}
use Rattle.network_demand.proofs.wants.merged.Goals as goal

pub add-requires : goal.add-requires
add-requires g c =
    subst (λ (t : TallyTable). size (union (names_of_tally t) c.in-Some.part.senders) ≤ 16) (sym c.loop-part.invariant)
    (room c.args.names.now g.S.Style.kind_is (take c.loop-part.part-index c.args.parts.now) _ c.in-Some.part c.requires (sym c.cut.ensures ∙ c.in-Some.is))

pub returns : goal.returns
returns g c =
    let all : take c.loop-part.part-index c.args.parts.now ≡ c.args.parts.now = ap (λ i. take i c.args.parts.now) (let e : c.loop-part.part-index ≡ length c.args.parts.now = omega arith in e)
    ∙ take-length c.args.parts.now in
    let rest = cuts c.args.names.now c.args.parts.now in
    c.finish.ensures.unblockaded (each unwalled rest) (c.loop-part.invariant ∙ ap (λ ps. tally_of g.S.Style.kind_is (each unwalled (cuts c.args.names.now ps))) all) (none_blockaded rest)
    ∙ ap (merge g.S.Style.kind_is) (parts_open rest)
