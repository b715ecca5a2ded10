use Rattle.std.proofs.Common.{ap, ◌∙◌, arith, get_or}
use Rattle.rsvp_base.specs.Table.{size}
use Rattle.router_aging.proofs.Adding.{own_more, size_next}
use Rattle.router_aging.proofs.known.add_own.Goals as goal

pub add-requires : goal.add-requires
add-requires c =
    let more = size_next c.loop-i.found (get_or c.args.own.now c.loop-i.i c.index-own-i.result).sender in
    omega (arith, more, c.loop-i.invariant.size, c.loop-i-test.true, c.requires.few)

pub loop-i-preserved : goal.loop-i-preserved
loop-i-preserved c =
    let more = size_next c.loop-i.found (get_or c.args.own.now c.loop-i.i c.index-own-i.result).sender in
    record {
      found = c.add.ensures ∙ own_more c.args.found.now c.loop-i.found c.args.own.now c.loop-i.i c.index-own-i.result c.loop-i-test.true c.loop-i.invariant.found;
      size = omega (arith, ap size c.add.ensures, more, c.loop-i.invariant.size);
    }
