use Rattle.std.proofs.Common.{List, sym, ap, subst, ◌∙◌}
use Rattle.std.specs.List.{flat_map}
use Rattle.tree_model.specs.declared.locals.LocalSender.{LocalSender}
use Rattle.grown_network.specs.Grown.{net_with, tree_of}
use Rattle.grown_network.specs.Growing.{AreApart}
use Rattle.grown_network.proofs.Senders.{apart}
use Rattle.grown_network.proofs.Valid.{longest_of}
use Rattle.grown_network.proofs.grown.grow.Goals as goal

pub routing-requires : goal.routing-requires
routing-requires c = subst AreApart (sym (c.as_slice.ensures.value ∙ c.in_ok-senders.ensures)) (apart c.args.seed)

pub rounds_for-rounds-requires : goal.rounds_for-rounds-requires
rounds_for-rounds-requires c =
    longest_of c.args.seed c.in_ok-routing.routing (c.in_ok-routing.ensures ∙ ap (λ (xs : List LocalSender). net_with (flat_map tree_of xs)) (c.as_slice.ensures.value ∙ c.in_ok-senders.ensures))
