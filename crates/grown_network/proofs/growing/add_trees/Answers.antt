use Rattle.std.proofs.Common.{suc, take, drop, get_or, sym, subst}
use Rattle.tree_model.specs.declared.locals.LocalSender.{LocalSender}
use Rattle.tree_model.specs.Networks.{Net}
use Rattle.grown_network.specs.Growing.{AreApart, TakesTree}
use Rattle.grown_network.proofs.HopLists.{in_at, split_at}
use Rattle.grown_network.proofs.Senders.{takes_next}
use Rattle.grown_network.proofs.growing.add_trees.Goals as goal

pub add_tree-requires-clause-home : goal.add_tree-requires-clause-home
add_tree-requires-clause-home c = c.requires.apart.home_at _ (in_at c.args.senders.now c.loop-sender.sender-index _ c.loop-sender-test.true)

pub add_tree-requires-clause-takes : goal.add_tree-requires-clause-takes
add_tree-requires-clause-takes c =
    let i = c.loop-sender.sender-index in
    let d : LocalSender = record { node = 0; session = record { group = record { 0 = 0 }; proto = 0; port = 0 }; sender = record { addr = record { 0 = 0 }; port = 0 } } in
    let x : LocalSender = get_or c.args.senders.now i d in
    subst (λ (n : Net). TakesTree n x) (sym c.loop-sender.invariant) (takes_next (take i c.args.senders.now) x (drop (suc i) c.args.senders.now)
    (subst AreApart (split_at c.args.senders.now i d c.loop-sender-test.true) c.requires.apart))
