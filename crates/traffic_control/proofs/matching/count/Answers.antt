use Rattle.std.proofs.Common.{◌+◌, cond, take, sym, ap, ◌∙◌, arith}
use Rattle.std.proofs.lemmas.List.{take_all}
use Rattle.rsvp_base.specs.Orders.{senders, sessions}
use Rattle.rsvp_base.specs.Under.{under}
use Rattle.traffic_control.specs.Policing.{count_of}
use Rattle.traffic_control.proofs.Counting.{at_place, counted_all, counted_more}
use Rattle.traffic_control.proofs.matching.count.Goals as goal
use Rattle.traffic_control.proofs.matching.count.Goals.{then-is_counted, else-is_counted}

pub loop-k-preserved : goal.loop-k-preserved
loop-k-preserved c =
    let p = c.args.config.now in
    let s = c.args.session in
    let st = c.args.style in
    let i = c.args.iface in
    let part = c.args.part.now in
    let marked = c.args.marked in
    let t = c.args.paths.now.facts in
    let at = at_place p s st i part marked t c.limits.ensures.keyed c.loop-k.k c.in-Some.path.now c.in-Some.ensures in
    let more = counted_more p s st i part marked t c.loop-k.k c.in-Some.path.now at in
    let before = count_of p s st i part marked (take c.loop-k.k (under sessions senders t s).rows) in
    let is = c.loop-k.invariant.counted in
    let few = c.loop-k.invariant.few in
    elim c.if-is_counted.branch [
      | then-is_counted w ↦
          let now = more ∙ ap (λ b. before + cond b 1 0) (sym c.is_counted.ensures ∙ w.if-is_counted.true) in
          record { counted = omega (arith, w.count-is, is, now); few = omega (arith, w.count-is, few) }
      | else-is_counted w ↦
          let now = more ∙ ap (λ b. before + cond b 1 0) (sym c.is_counted.ensures ∙ w.if-is_counted.false) in
          record { counted = omega (arith, w.count-is, is, now); few = omega (arith, w.count-is, few) }
    ]

pub returns-in_default : goal.returns-in_default
returns-in_default c =
    c.loop-k.invariant.counted
    ∙ ap (count_of c.args.config.now c.args.session c.args.style c.args.iface c.args.part.now c.args.marked)
    (counted_all c.args.config.now c.args.session c.args.style c.args.iface c.args.part.now c.args.marked c.args.paths.now.facts c.loop-k.k c.in_default.ensures)

pub returns : goal.returns
returns c =
    let few = c.limits.ensures.within.one c.args.session in
    c.loop-k.invariant.counted
    ∙ ap (count_of c.args.config.now c.args.session c.args.style c.args.iface c.args.part.now c.args.marked)
    (take_all c.loop-k.k (under sessions senders c.args.paths.now.facts c.args.session).rows (omega (arith, few, c.loop-k-test.false)))
