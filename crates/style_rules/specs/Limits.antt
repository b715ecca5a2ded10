-- The limits of a table of reservations: for each style at most 1,024 lines, 32 sessions, and of each session 64 next hops
-- and 16 names.
use Rattle.std.specs.Prelude.{◌≤◌, nat_le, Bool, ◌&&◌, List, map as each}
use Rattle.std.specs.List.{filter, flat_map, list_all}
use Rattle.std.specs.Ordering.{eq_by_cmp}
use Rattle.rsvp_base.specs.declared.session.Session.{Session}
use Rattle.rsvp_base.specs.declared.style.StyleKind.{StyleKind}
use Rattle.rsvp_base.specs.Sets.{Set, set_of}
use Rattle.rsvp_base.specs.Table.{size, keys}
use Rattle.rsvp_base.specs.Orders.{sessions, styles, Names}
use Rattle.style_rules.specs.Lines.{Line, next_hops, next_hop, line_keys, line_key}

abbrev pub of_style : StyleKind → List Line → List Line
of_style st ls = filter (λ l. eq_by_cmp styles.cmp st l.style) ls

abbrev pub of_session : Session → List Line → List Line
of_session s ls = filter (λ l. eq_by_cmp sessions.cmp s l.session) ls

-- ---- what is counted
abbrev pub line_keys_of : List Line → Set line_keys
line_keys_of ls = set_of (each line_key ls)

abbrev pub sessions_of : List Line → Set sessions
sessions_of ls = set_of (each (λ l. l.session) ls)

abbrev pub next_hops_of : List Line → Set next_hops
next_hops_of ls = set_of (each next_hop ls)

abbrev pub names_of : List Line → Names
names_of ls = set_of (flat_map (λ l. keys l.part.senders) ls)

-- ---- the limits
-- the lines of the style are within them
pub record IsWithinLimits (st : StyleKind) (ls : List Line) : Type 0 where
  pub lines : size (line_keys_of (of_style st ls)) ≤ 1024
  pub sessions : size (sessions_of (of_style st ls)) ≤ 32
  pub next_hops : (s : Session) → size (next_hops_of (of_session s (of_style st ls))) ≤ 64
  pub names : (s : Session) → size (names_of (of_session s (of_style st ls))) ≤ 16

-- the same as a test
abbrev pub session_within : List Line → Session → Bool
session_within ls s = nat_le (size (next_hops_of (of_session s ls))) 64 && nat_le (size (names_of (of_session s ls))) 16

abbrev pub table_within : List Line → Bool
table_within ls =
    nat_le (size (line_keys_of ls)) 1024 && (nat_le (size (sessions_of ls)) 32 && list_all (session_within ls) (each (λ l. l.session) ls))

abbrev pub within_limits : StyleKind → List Line → Bool
within_limits st ls = table_within (of_style st ls)
