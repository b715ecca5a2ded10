use Rattle.std.proofs.Common.{refl, ap, arith}
use Rattle.rsvp_base.specs.Orders.{Names}
use Rattle.rsvp_base.specs.Sets.{union}
use Rattle.rsvp_base.specs.Table.{size}
use Rattle.sent_state.proofs.Listing.{few_within}
use Rattle.sent_state.proofs.asking.put_among.Goals as goal

pub unreachable-requires : goal.unreachable-requires
unreachable-requires c =
    let few = few_within c.args.names.now c.args.more.now c.args.among.now c.requires (omega (arith, c.len.ensures.size, c.len.ensures.few)) in
    let over = c.in_default.ensures.full.0 refl in
    let same = ap (λ (n : Names). size (union c.args.names.now n)) c.cut.ensures in
    omega (arith, few, over, same)
