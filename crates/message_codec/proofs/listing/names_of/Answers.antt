use Rattle.std.proofs.Common.{ap, arith}
use Rattle.rsvp_base.specs.Orders.{Names}
use Rattle.rsvp_base.specs.Table.{size}
use Rattle.message_codec.proofs.ReadLists.{size_with_key, names_step}
use Rattle.message_codec.proofs.listing.names_of.Goals as goal

pub loop-filter-preserved : goal.loop-filter-preserved
loop-filter-preserved c = record {
  names = names_step c.loop-filter.senders _ c.add.new.senders c.args.filters.now c.loop-filter.filter-index c.filter-item.result c.loop-filter.invariant.names c.loop-filter-test.true
      c.filter-item.is c.add.ensures;
  few = let grew = size_with_key c.loop-filter.senders c.filter-item.result.0 in let few = c.loop-filter.invariant.few in omega (arith, ap (λ (s : Names). size s) c.add.ensures);
}
