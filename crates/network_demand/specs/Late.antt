-- Wants that starve, since a node came late with another style.
--
-- A router answers a Resv with error 5 where a want of its own has another style in the session. So a want begins well, and its
-- reservation runs through a node; where that node then begins to ask in another style, what stood there is refreshed no longer.
use Rattle.std.specs.Prelude.{ℕ, Bool, false, true, not, ◌&&◌, ◌==◌, List, [], ◌∷◌, ◌++◌, if◌then◌else◌}
use Rattle.std.specs.List.{filter, flat_map, list_any}
use Rattle.std.specs.Ordering.{eq_by_cmp}
use Rattle.rsvp_base.specs.Orders.{sessions, styles}
use Rattle.rsvp_base.specs.declared.session.Session.{Session}
use Rattle.tree_model.specs.Networks.{node_of}
use Rattle.tree_model.specs.declared.hops.End.{End}
use Rattle.tree_model.specs.declared.locals.LocalWant.{LocalWant}
use Rattle.network_demand.specs.declared.askers.Asker.{Asker}
use Rattle.network_demand.specs.declared.late.Begun.{Begun}
use Rattle.network_demand.specs.declared.late.Starved.{Starved}

-- ---- who asks, in the order in which they began
-- a node that asks for a session
abbrev pub is_begun_of : ℕ → Session → Begun → Bool
is_begun_of n s b = (b.node == n) && eq_by_cmp sessions.cmp s b.session

-- with one more, which keeps its place where it asks already
abbrev pub begun_with : List Begun → Begun → List Begun
begun_with bs b = if list_any (is_begun_of b.node b.session) bs then bs else bs ++ b ∷ []

-- without one that asks no longer
abbrev pub begun_without : List Begun → ℕ → Session → List Begun
begun_without bs n s = filter (λ b. not (is_begun_of n s b)) bs

-- a node stands among these before one that asks for the same session
abbrev pub comes_after : List Begun → Begun → ℕ → Bool
comes_after [] b n = false
comes_after (x ∷ xs) b n = if is_begun_of b.node b.session x then false else if is_begun_of n b.session x then true else comes_after xs b n

-- ---- what starves
-- it asks for the session of a want in another style
abbrev pub is_of_other : Begun → LocalWant → Bool
is_of_other b w = eq_by_cmp sessions.cmp b.session w.session && not (eq_by_cmp styles.cmp b.style w.style)

-- one who asks lets a want starve at an end that owes something for it: it asks in another style, the end is of its node, and the
-- want's node began before
abbrev pub starves : List End → List Begun → Begun → LocalWant → ℕ → Bool
starves ends bs b w e = is_of_other b w && (node_of ends e == b.node && comes_after bs b w.node)

module _ (ends : List End) (bs : List Begun) where
  abbrev pub starved_at : Begun → LocalWant → ℕ → List Starved
  starved_at b w e = if starves ends bs b w e then (record { late = b; want = w; end = e }) ∷ [] else []

  -- at the ends where the want by itself asks for something
  abbrev pub starved_of : Begun → Asker → List Starved
  starved_of b a = flat_map (starved_at b a.want) a.ends.items

  abbrev pub starved_by : List Asker → Begun → List Starved
  starved_by askers b = flat_map (starved_of b) askers

  -- all that starves, by who came late
  abbrev pub starved : List Asker → List Starved
  starved askers = flat_map (starved_by askers) bs
