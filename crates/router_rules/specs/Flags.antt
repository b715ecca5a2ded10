-- Policing flags, with which an entry of a book is handed to traffic control (RFC 2205, 3.8; RFC 2209, 2: UPDATE
-- TRAFFIC CONTROL, E_Police_Flag, M_Police_Flag, B_Police_Flag).
use Rattle.std.specs.Prelude.{ℕ, ◌==◌, nat_lt, Bool, not, ◌&&◌, List, map as each, length}
use Rattle.std.specs.List.{filter, list_any}
use Rattle.std.specs.Ordering.{eq_by_cmp}
use Rattle.rsvp_base.specs.declared.part.Part.{Part}
use Rattle.rsvp_base.specs.declared.session.Sender.{Sender}
use Rattle.rsvp_base.specs.declared.session.Session.{Session}
use Rattle.rsvp_base.specs.declared.style.StyleKind.{StyleKind}
use Rattle.rsvp_base.specs.declared.style.StyleKind.TheVariants.{Fixed}
use Rattle.rsvp_base.specs.declared.style.Unit.{Unit as UnitOf}
use Rattle.rsvp_base.specs.Orders.{units}
use Rattle.rsvp_base.specs.Sets.{cut, is_none}
use Rattle.rsvp_base.specs.Table.{has}
use Rattle.style_rules.specs.FlowOrder.{flow_le}
use Rattle.style_rules.specs.Lines.{NextHop}
use Rattle.rsvp_base.specs.declared.entry_key.EntryKey.{EntryKey}
use Rattle.rsvp_base.specs.Styles.{name_of}
use Rattle.router_rules.specs.declared.entry.Entry.{Entry}
use Rattle.router_rules.specs.declared.entry.Police.{Police}
use Rattle.router_rules.specs.Books.{book}
use Rattle.router_rules.specs.Facts.{Facts, PathState, ResvState, paths_in, resvs_in}
use Rattle.router_rules.specs.NodeConfig.{NodeConfig, goes_out}
use Rattle.router_rules.specs.Requests.{is_style}

-- the paths whose sender the entry names and whose tree goes out of the interface; local senders do not count
abbrev pub is_matching : NodeConfig → Session → StyleKind → ℕ → Part → Sender × PathState → Bool
is_matching p s st i part e = has part.senders (name_of st e.0) && goes_out p s i e.0

abbrev pub matching : NodeConfig → Facts → Session → StyleKind → ℕ → Part → List (Sender × PathState)
matching p f s st i part = filter (is_matching p s st i part) (paths_in f s).rows

-- the reservations of the style that share a sender with the entry and are not merged into it
abbrev pub is_beside : ℕ → UnitOf → Part → (NextHop × UnitOf) × ResvState → Bool
is_beside i u part e = not ((e.0.0.0 == i) && eq_by_cmp units.cmp e.0.1 u) && not (is_none (cut part.senders e.1.part.senders))

abbrev pub beside : Facts → Session → StyleKind → ℕ → UnitOf → Part → List ((NextHop × UnitOf) × ResvState)
beside f s st i u part = filter (is_beside i u part) (resvs_in st f s).rows

module _ (p : NodeConfig) (f : Facts) (i : ℕ) where
  -- E: a sender asked for it. M: senders are merged. B: another reservation has a flow for which the entry's cannot stand
  abbrev pub police_at : EntryKey → Part → Police
  police_at k part = record {
    e = list_any (λ x. x.1.police) (matching p f k.session k.style i part);
    m = not (is_style k.style Fixed) && nat_lt 1 (length (matching p f k.session k.style i part));
    b = list_any (λ r. not (flow_le r.1.part.flow part.flow)) (beside f k.session k.style i k.unit part);
  }

  abbrev pub entry_at : EntryKey × Part → Entry
  entry_at e = record { key = e.0; part = e.1; police = police_at e.0 e.1 }

  -- the entries of an interface's book, by session, style and unit
  abbrev pub entries_at : List Entry
  entries_at = each entry_at (book f i).rows

-- a shut front, which contracts cite
unfoldable pub entries_of : NodeConfig → Facts → ℕ → List Entry
entries_of p f i = entries_at p f i
