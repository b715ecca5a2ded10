-- Whether demands fit: what wants take of the limits of each node's tables, and what ends can carry.
use Rattle.std.specs.Prelude.{◌≡◌, ℕ, ◌==◌, ◌≤◌, Bool, true, false, cond, List, [], ◌∷◌, length, Some, sum_by, unwrap_or, slice_get}
use Rattle.std.specs.List.{All}
use Rattle.std.specs.Ordering.{eq_by_cmp}
use Rattle.rsvp_base.specs.Members.{In}
use Rattle.rsvp_base.specs.Orders.{sessions}
use Rattle.rsvp_base.specs.Table.{get}
use Rattle.rsvp_base.specs.declared.part.Part.{Part}
use Rattle.rsvp_base.specs.declared.session.Session.{Session}
use Rattle.rsvp_base.specs.declared.style.StyleKind.{StyleKind}
use Rattle.rsvp_base.specs.declared.style.StyleKind.TheVariants.{Wild}
use Rattle.rsvp_base.specs.declared.iface.Iface.{Iface}
use Rattle.style_rules.specs.Lines.{BookTable, held}
use Rattle.rsvp_base.specs.declared.entry_key.EntryKey.{EntryKey}
use Rattle.tree_model.specs.declared.hops.End.{End}
use Rattle.tree_model.specs.Networks.{Net, node_of}
use Rattle.tree_routing.specs.declared.group_hop.GroupHop.{GroupHop}
use Rattle.tree_model.specs.declared.locals.LocalWant.{LocalWant}
use Rattle.tree_model.specs.Wants.{Locals}
use Rattle.network_demand.specs.declared.hop_want.HopWant.{HopWant}
use Rattle.network_demand.specs.Books.{book_at}
use Rattle.network_demand.specs.Steps.{hop_wants}

-- ---- room at nodes
abbrev pub one_at_most : {X : Type 0} → List X → ℕ
one_at_most [] = 0
one_at_most (x ∷ xs) = 1

-- what is wanted over a hop takes a line for each of its parts; counted once, it takes one next hop if it has a part
abbrev pub amount : Bool → HopWant → ℕ
amount true w = one_at_most w.parts.rows
amount false w = length w.parts.rows

-- it takes that at the node that the hop goes out of
abbrev pub amount_at : Bool → Net → ℕ → HopWant → ℕ
amount_at once net n w = cond (node_of net.ends w.hop.from == n) (amount once w) 0

abbrev pub taken_at : Bool → Net → ℕ → List HopWant → ℕ
taken_at once net n ws = sum_by (amount_at once net n) ws

-- the room at a node; where there is no such node, the room that each had
abbrev pub room_at : ℕ → List ℕ → ℕ → ℕ
room_at full rooms n = unwrap_or (slice_get rooms n) full

-- what sessions take together
abbrev pub all_taken : StyleKind → Net → Locals → List GroupHop → ℕ → List Session → ℕ
all_taken st net l order n ss = sum_by (λ s. taken_at false net n (hop_wants st net l s order)) ss

-- what is wanted of sessions in a style finds room: at a node 1,024 lines, and 64 next hops of each session
pub record FindRoom (st : StyleKind) (net : Net) (l : Locals) (order : List GroupHop) (ss : List Session) : Type 0 where
  pub lines : (n : ℕ) → all_taken st net l order n ss ≤ 1024
  pub next_hops : (s : Session) (n : ℕ) → In s ss → taken_at true net n (hop_wants st net l s order) ≤ 64

-- ---- what an end can carry
pub record IsCarried (b : BookTable) (i : Iface) : Type 0 where
  pub capacity : held b ≤ i.capacity
  pub mtu : (k : EntryKey) (p : Part) → get b k ≡ Some p → p.flow.most ≤ i.mtu

abbrev pub AreCarried : List BookTable → List End → Type 0
AreCarried books ends = (e : ℕ) (x : End) → slice_get ends e ≡ Some x → IsCarried (book_at books e) x.iface

-- ---- styles
-- the style of the first of these wants that is of the session
abbrev pub first_style : Session → StyleKind → List LocalWant → StyleKind
first_style s st [] = st
first_style s st (w ∷ ws) = cond (eq_by_cmp sessions.cmp s w.session) w.style (first_style s st ws)

-- each of these wants that is of the session has the style of the first
abbrev pub IsOfOneStyle : List LocalWant → Session → Type 0
IsOfOneStyle ws s = All (λ w. w.session ≡ s → w.style ≡ first_style s Wild ws) ws

abbrev pub AreOfOneStyle : List LocalWant → Type 0
AreOfOneStyle ws = (v w : LocalWant) → In v ws → In w ws → v.session ≡ w.session → v.style ≡ w.style
