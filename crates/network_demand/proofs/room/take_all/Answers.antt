use Rattle.std.proofs.Common.{subst, sym, arith}
use Rattle.rsvp_base.specs.Members.{In}
use Rattle.network_demand.specs.declared.hop_want.HopWant.{HopWant}
use Rattle.network_demand.proofs.Inside.{index_in}
use Rattle.network_demand.proofs.room.take_all.Goals as goal

pub take-requires : goal.take-requires
take-requires c =
    let w : HopWant = c.want-item.result in
    let there : In w c.args.wants.now = subst (λ (x : HopWant). In x c.args.wants.now) (sym c.want-item.is) (index_in c.args.wants.now c.loop-want.want-index w c.loop-want-test.true) in
    let lt = c.requires w there in
    let at = c.node_of.ensures in
    let size = c.loop-want.invariant.size in
    omega arith
