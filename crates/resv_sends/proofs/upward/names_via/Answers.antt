use Rattle.std.proofs.Common.{◌≡◌, ◌+◌, map as each, take, refl, sym, ap, ◌∙◌, arith}
use Rattle.std.proofs.lemmas.List.{length-map, length-take, map-append, take_all}
use Rattle.rsvp_base.specs.Orders.{senders}
use Rattle.rsvp_base.specs.Sets.{set_of, with_key}
use Rattle.rsvp_base.specs.Styles.{name_of}
use Rattle.rsvp_base.specs.Table.{size}
use Rattle.rsvp_base.proofs.Counts.{size-set_of}
use Rattle.laws_sends.proofs.Via.{set_of_more, take_one}
use Rattle.router_state.specs.Whole.{state_of}
use Rattle.resv_sends.proofs.Named.{names_all}
use Rattle.resv_sends.proofs.upward.names_via.Goals as goal
use Rattle.resv_sends.proofs.upward.names_via.Goals.{After-name_of}

-- the names with one more
added : (c : After-name_of) → with_key c.loop-sender.names c.name_of.result ≡ set_of {o = senders}
    (each (name_of c.args.style) (take (c.loop-sender.sender-index + 1) c.as_slice-sender-items.result.now))
added c =
    let xs = c.as_slice-sender-items.result.now in
    (λ i. with_key (c.loop-sender.invariant i) (c.name_of.ensures i)) ∙ sym (set_of_more senders (each (name_of c.args.style) (take c.loop-sender.sender-index xs)) (name_of c.args.style _))
    ∙ ap (λ ks. set_of {o = senders} ks) (sym (map-append (name_of c.args.style) (take c.loop-sender.sender-index xs) _)
    ∙ ap (each (name_of c.args.style)) (sym (take_one xs c.loop-sender.sender-index _ c.loop-sender-test.true)))

pub unreachable-requires : goal.unreachable-requires
unreachable-requires c =
    let d = (goal.at.unreachable-requires c).After-name_of in
    let xs = take (c.loop-sender.sender-index + 1) c.as_slice-sender-items.result.now in
    let few = size-set_of senders (each (name_of c.args.style) xs) in
    let same = ap size (added d) in
    let names = length-map xs (name_of c.args.style) in
    let long = length-take (c.loop-sender.sender-index + 1) c.as_slice-sender-items.result.now in
    let many = c.in_default.ensures.full.0 refl in
    absurd (omega (arith, few, same, names, long, many, c.as_slice-sender-items.ensures.few))

pub loop-sender-preserved : goal.loop-sender-preserved
loop-sender-preserved c = c.in-Ok.ensures.ok ∙ added (goal.at.loop-sender-preserved c).After-name_of

pub returns : goal.returns
returns c = λ clock said.
    let items = c.as_slice-sender-items.result.now in
    c.loop-sender.invariant ∙ ap (λ xs. set_of {o = senders} (each (name_of c.args.style) xs)) (take_all c.loop-sender.sender-index items c.loop-sender-test.false)
    ∙ names_all clock (state_of c.args.tables.now said) c.args.session c.args.style c.args.hop items c.senders_via-via.result c.as_slice-sender-items.ensures.senders c.limits.ensures.keyed
    c.senders_via-via.ensures
