-- The overhead of all nodes is that of all senders and sessions.
use Rattle.std.proofs.Common.{◌≡◌, ◌+◌, ◌∙◌, List}
use Rattle.std.specs.Prelude.{◌↔◌, map as each, sum_by}
use Rattle.std.specs.List.{range_with_len}
use Rattle.rsvp_base.specs.Members.{In}
use Rattle.rsvp_base.specs.Table.{size}
use Rattle.rsvp_base.specs.declared.session.Session.{Session}
use Rattle.tree_model.specs.Chains.{NoRepeats}
use Rattle.tree_model.specs.Networks.{Net}
use Rattle.tree_model.specs.Valid.{IsValid}
use Rattle.tree_model.specs.Wants.{Locals}
use Rattle.tree_model.specs.declared.locals.LocalSender.{LocalSender}
use Rattle.tree_routing.specs.Order.{AreByRank}
use Rattle.tree_routing.specs.declared.group_hop.GroupHop.{GroupHop}
use Rattle.network_demand.specs.Counts.{paths_of, resvs_of}
use Rattle.network_demand.specs.Overhead.{asked_lanes, overhead, path_overhead}
use Rattle.network_demand.proofs.Lanes.{resvs_are}
use Rattle.network_demand.proofs.Senders.{paths_are}
use Rattle.network_demand.proofs.CountSums.{sum_plus}

pub overhead_is : (net : Net) (l : Locals) (order : List GroupHop) → IsValid net → AreByRank net order → (ss : List Session) → NoRepeats ss
    → ((s : Session) → In s ss ↔ In s (each (λ (x : LocalSender). x.session) l.senders)) → overhead net l ≡ sum_by (paths_of net) l.senders + sum_by (resvs_of net l order) ss
overhead_is net l order valid by ss once these =
    sum_plus (λ n. sum_by (path_overhead net n) l.senders) (λ n. size (asked_lanes net l n)) (range_with_len 0 net.nodes)
    ∙ (λ i. paths_are net valid l.senders i + resvs_are net l order valid by ss once these i)
