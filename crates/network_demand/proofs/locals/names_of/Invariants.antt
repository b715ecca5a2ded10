use Rattle.std.proofs.Common.{◌≡◌, ◌≤◌, map, drop}
use Rattle.rsvp_base.specs.Sets.{set_of, with_keys}
use Rattle.rsvp_base.specs.Table.{size}
use Rattle.rsvp_base.specs.Styles.{name_of}
use Rattle.network_demand.proofs.locals.names_of.Given as goal

-- the names so far and of the rest are all, and no more than there were senders
abbrev pub invariant-loop-sender : goal.invariant-loop-sender
invariant-loop-sender g l =
    record {
      names : with_keys l.names (map (name_of g.S.Style.kind_is) (drop l.sender-index l.senders)) ≡ set_of (map (name_of g.S.Style.kind_is) l.senders);
      few : size l.names ≤ l.sender-index;
    }
