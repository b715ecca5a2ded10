use Rattle.std.proofs.Common.{refl, ap, ◌∙◌, arith, ◌≤◌, length}
use Rattle.router_core.proofs.Emptying.{all_empty, none_below, one_below}
use Rattle.router_core.proofs.clearing.clear_book.Goals as goal

pub loop-iface-init : goal.loop-iface-init
loop-iface-init c = record { done = none_below c.args.book.now.entries; ifaces = refl }

pub loop-iface-preserved : goal.loop-iface-preserved
loop-iface-preserved c = record {
  done = one_below c.loop-iface.iface c.loop-iface.book.entries c.clear_iface.new.book.entries c.loop-iface.invariant.done c.clear_iface.ensures.none c.clear_iface.ensures.less;
  ifaces = c.clear_iface.ensures.ifaces ∙ c.loop-iface.invariant.ifaces;
}

pub returns-clause-none : goal.returns-clause-none
returns-clause-none c =
    let few : length c.loop-iface.book.ifaces ≤ c.loop-iface.iface = omega (arith, c.requires, c.loop-iface-test.false, ap length c.loop-iface.invariant.ifaces) in
    all_empty c.loop-iface.iface c.loop-iface.book c.held-held.ensures.within few c.loop-iface.invariant.done
