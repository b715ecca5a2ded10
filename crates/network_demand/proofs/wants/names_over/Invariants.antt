use Rattle.std.proofs.Common.{◌≡◌, ◌≤◌, ◌∷◌, [], map, drop}
use Rattle.std.specs.List.{filter}
use Rattle.rsvp_base.specs.Sets.{with_keys}
use Rattle.rsvp_base.specs.Table.{size}
use Rattle.rsvp_base.specs.Styles.{name_of}
use Rattle.network_demand.specs.Steps.{goes_over, names_among}
use Rattle.network_demand.proofs.wants.names_over.Given as goal

-- the names so far and of the rest are all, and no more than there were senders
abbrev pub invariant-loop-sender : goal.invariant-loop-sender
invariant-loop-sender g l =
    record {
      names : with_keys l.names (map (name_of g.S.Style.kind_is) (filter (goes_over l.routing l.group (l.hop ∷ [])) (drop l.sender-index l.senders)))
          ≡ names_among g.S.Style.kind_is l.routing l.group (l.hop ∷ []) l.senders;
      few : size l.names ≤ l.sender-index;
    }
