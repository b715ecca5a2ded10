use Rattle.std.proofs.Common.{◌≡◌, ℕ, ◌+◌, take, sym, ap, subst, ◌∙◌, refl, arith}
use Rattle.std.proofs.lemmas.List.{length-take, take_all}
use Rattle.path_state.specs.Paths.{AreByKey, path_keys, via as kept_via}
use Rattle.path_state.specs.declared.fact.PathFact.{PathFact}
use Rattle.rsvp_base.specs.Table.{Table, put_in, size}
use Rattle.laws_sends.specs.State.{State, no_state}
use Rattle.laws_sends.specs.Seen.{ways_seen}
use Rattle.laws_sends.proofs.Via.{seen_all, seen_few, seen_more, seen_none, take_one}
use Rattle.path_sends.proofs.via.upstream.Goals as goal
use Rattle.path_sends.proofs.via.upstream.Goals.{After-line_for-line}

pub loop-sender-init : goal.loop-sender-init
loop-sender-init c = λ clock n at aw. c.new-up.ensures ∙ seen_none clock n c.args.session c.args.style c.args.hop

-- the ways with one line more
added : (c : After-line_for-line) (clock : ℕ) (n : State) → n.place ≡ c.args.config.now → n.walls ≡ c.args.walls.now
    → put_in c.loop-sender.up c.line_for-line.result.name (record { outward = c.line_for-line.result.outward; wall = c.line_for-line.result.wall })
    ≡ ways_seen clock n c.args.session c.args.style c.args.hop (take (c.loop-sender.sender-index + 1) c.as_slice-sender-items.result.now)
added c clock n at aw =
    (λ i. put_in (c.loop-sender.invariant clock n at aw i) (c.line_for-line.ensures clock n at aw i).0 (c.line_for-line.ensures clock n at aw i).1)
    ∙ seen_more clock n c.args.session c.args.style c.args.hop (take c.loop-sender.sender-index c.as_slice-sender-items.result.now) _
    ∙ ap (ways_seen clock n c.args.session c.args.style c.args.hop) (sym (take_one c.as_slice-sender-items.result.now c.loop-sender.sender-index _ c.loop-sender-test.true))

pub unreachable-requires : goal.unreachable-requires
unreachable-requires c =
    let d = (goal.at.unreachable-requires c).After-line_for-line in
    let n : State = record (no_state c.args.config.now) { walls = c.args.walls.now } in
    let xs = take (c.loop-sender.sender-index + 1) c.as_slice-sender-items.result.now in
    let few = seen_few 0 n c.args.session c.args.style c.args.hop xs in
    let same = ap size (added d 0 n refl refl) in
    let long = length-take (c.loop-sender.sender-index + 1) c.as_slice-sender-items.result.now in
    let many = c.in_default.ensures.full.0 refl in
    absurd (omega (arith, few, same, long, many, c.as_slice-sender-items.ensures.few))

pub loop-sender-preserved : goal.loop-sender-preserved
loop-sender-preserved c = λ clock n at aw. c.in-Ok.ensures.ok ∙ added (goal.at.loop-sender-preserved c).After-line_for-line clock n at aw

pub returns : goal.returns
returns c = λ clock n at ap_is aw.
    let items = c.as_slice-sender-items.result.now in
    c.loop-sender.invariant clock n at aw ∙ ap (ways_seen clock n c.args.session c.args.style c.args.hop) (take_all c.loop-sender.sender-index items c.loop-sender-test.false)
    ∙ seen_all clock n c.args.session c.args.style c.args.hop items c.senders_via-names.result c.as_slice-sender-items.ensures.senders
    (subst (λ (t : Table path_keys (PathFact × ℕ)). AreByKey t) (sym ap_is) c.limits.ensures.keyed)
    (c.senders_via-names.ensures ∙ ap (λ (t : Table path_keys (PathFact × ℕ)). kept_via t c.args.session c.args.hop.0 c.args.hop.1) (sym ap_is))
