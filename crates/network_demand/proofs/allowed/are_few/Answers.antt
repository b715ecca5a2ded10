use Rattle.std.proofs.Common.{List, get_or, refl, subst, arith}
use Rattle.std.specs.List.{All}
use Rattle.tree_model.specs.declared.locals.LocalSender.{LocalSender}
use Rattle.network_demand.specs.Demands.{few_of}
use Rattle.network_demand.proofs.SessionLists.{all_more, taken_all}
use Rattle.network_demand.proofs.allowed.are_few.Goals as goal

pub loop-sender-preserved : goal.loop-sender-preserved
loop-sender-preserved c =
    let d : LocalSender = record { node = 0; session = record { group = record { 0 = 0 }; proto = 0; port = 0 }; sender = record { addr = record { 0 = 0 }; port = 0 } } in
    let here : few_of c.args.senders.now (get_or c.args.senders.now c.loop-sender.sender-index d) = omega (arith, c.count.ensures, c.if-count-gt16.false) in
    all_more (few_of c.args.senders.now) c.args.senders.now c.loop-sender.sender-index d c.loop-sender-test.true c.loop-sender.invariant here

pub returns : goal.returns
returns c = (
  λ t. subst (λ (xs : List LocalSender). All (few_of c.args.senders.now) xs)
      (taken_all c.args.senders.now c.loop-sender.sender-index c.loop-sender-test.false c.loop-sender.auto.sender-index-end) c.loop-sender.invariant,
  λ a. refl,
)
