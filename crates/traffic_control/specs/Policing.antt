-- The flags of an entry, as the tables are seen at a clock.
use Rattle.std.specs.Prelude.{ℕ, ◌==◌, Bool, not, ◌&&◌, ◌||◌, List, length}
use Rattle.std.specs.List.{filter}
use Rattle.std.specs.Ordering.{eq_by_cmp}
use Rattle.flow_merge.specs.FlowOrder.{flow_le}
use Rattle.path_state.specs.declared.fact.PathFact.{PathFact}
use Rattle.resv_state.specs.Merging.{SessionRow}
use Rattle.rsvp_base.specs.Orders.{units}
use Rattle.rsvp_base.specs.Sets.{cut, is_none}
use Rattle.rsvp_base.specs.Styles.{name_of}
use Rattle.rsvp_base.specs.Table.{has}
use Rattle.rsvp_base.specs.declared.entry_key.EntryKey.{EntryKey}
use Rattle.rsvp_base.specs.declared.part.Part.{Part}
use Rattle.rsvp_base.specs.declared.session.Sender.{Sender}
use Rattle.rsvp_base.specs.declared.session.Session.{Session}
use Rattle.rsvp_base.specs.declared.style.StyleKind.{StyleKind}
use Rattle.rsvp_base.specs.declared.style.Unit.{Unit as UnitOf}
use Rattle.router_rules.specs.Flags.{police_at}
use Rattle.router_rules.specs.NodeConfig.{NodeConfig, goes_out}
use Rattle.router_rules.specs.declared.entry.Police.{Police}
use Rattle.router_state.specs.State.{State, facts_of}

unfoldable pub police_seen : ℕ → State → ℕ → EntryKey → Part → Police
police_seen c n i k part = police_at n.place (facts_of c n) i k part

-- ---- as the tables have them
-- the entry names the sender and its tree goes out of the interface; and, where only those are counted, it asked for policing
abbrev pub is_counted : NodeConfig → Session → StyleKind → ℕ → Part → Bool → Sender → Bool → Bool
is_counted p s st i part marked x police = (has part.senders (name_of st x) && goes_out p s i x) && (not marked || police)

abbrev pub count_of : NodeConfig → Session → StyleKind → ℕ → Part → Bool → List (Sender × (PathFact × ℕ)) → ℕ
count_of p s st i part marked es = length (filter (λ e. is_counted p s st i part marked e.0 e.1.0.police) es)

-- a reservation shares a sender with the entry, is not merged into it, and has a flow for which the entry's cannot stand
abbrev pub passes_by : ℕ → UnitOf → Part → SessionRow → Bool
passes_by i u part e =
    (not ((e.0.0.0 == i) && eq_by_cmp units.cmp e.0.1 u) && not (is_none (cut part.senders e.1.0.part.senders))) && not (flow_le e.1.0.part.flow part.flow)
