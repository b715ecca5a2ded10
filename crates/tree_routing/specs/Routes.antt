-- What a routing answers.
use Rattle.std.specs.Prelude.{◌≡◌, ℕ, Bool, true, false, List, map as each, Option}
use Rattle.std.specs.declared.cmp.Ordering.{Ordering}
use Rattle.rsvp_base.specs.Keys.{Keys, by, numbers, pairs}
use Rattle.rsvp_base.specs.Members.{In}
use Rattle.rsvp_base.specs.Orders.{addrs}
use Rattle.rsvp_base.specs.Rows.{AreRows, table_of}
use Rattle.rsvp_base.specs.Sets.{set_of, with_key}
use Rattle.rsvp_base.specs.Table.{without}
use Rattle.rsvp_base.specs.declared.addr.Addr.{Addr}
use Rattle.tree_model.specs.declared.hops.End.{End}
use Rattle.tree_model.specs.declared.hops.TreeHop.{TreeHop}
use Rattle.tree_model.specs.Networks.{Net, iface_of}
use Rattle.tree_model.specs.Trees.{tree_keys, key_of, goes_out_of, iface_in, inward, outward}

-- the interface by which the tree comes into a node
abbrev pub inward_iface : Net → ℕ → Addr → Addr → Option ℕ
inward_iface net n g s = iface_in net.ends (inward net n g s)

-- an interface by which the tree leaves a node
abbrev pub LeavesBy : Net → ℕ → Addr → Addr → ℕ → Type 0
LeavesBy net n g s i = (e : ℕ) × In e (outward net n g s) × (iface_of net.ends e ≡ i)

-- hops of trees by group, source, and the ends that they go out of and into
pub hop_apart : (a b : TreeHop) → ◌≡◌ {A = (Addr × Addr) × (ℕ × ℕ)} ((a.group, a.source), (a.hop.from, a.hop.to)) ((b.group, b.source), (b.hop.from, b.hop.to)) → a ≡ b
hop_apart a b e = λ i. record { group = (e i).0.0; source = (e i).0.1; hop = record { from = (e i).1.0; to = (e i).1.1 } }

abbrev pub hop_keys : Keys TreeHop
hop_keys = by (λ (r : TreeHop). ((r.group, r.source), (r.hop.from, r.hop.to))) hop_apart (pairs (pairs addrs addrs) (pairs numbers numbers))

-- how a hop stands to those of a tree
abbrev pub against_tree : Addr → Addr → TreeHop → Ordering
against_tree g s r = tree_keys.cmp (key_of r) (g, s)

-- ---- over the hops of a tree
-- the hop goes out of the node by this interface
abbrev pub IsWayOf : List End → ℕ → TreeHop → ℕ → Type 0
IsWayOf ends n r i = (goes_out_of ends n r.hop ≡ true) × (iface_of ends r.hop.from ≡ i)

abbrev pub IsWay : List End → ℕ → List TreeHop → ℕ → Type 0
IsWay ends n rs i = (r : TreeHop) × In r rs × IsWayOf ends n r i

-- a tree as a row of a set
abbrev pub as_row : Addr × Addr → (Addr × Addr) × Unit {0}
as_row t = (t, tt)

-- the list of a set of trees with one more
abbrev pub IsWithTree : List (Addr × Addr) → Addr × Addr → List (Addr × Addr) → Type 0
IsWithTree xs t ys = (up : AreRows tree_keys as_row xs) → each as_row ys ≡ (with_key (table_of tree_keys as_row xs up) t).rows

-- the list of a set of trees without one
abbrev pub IsWithoutTree : List (Addr × Addr) → Addr × Addr → List (Addr × Addr) → Type 0
IsWithoutTree xs t ys = (up : AreRows tree_keys as_row xs) → each as_row ys ≡ (without (table_of tree_keys as_row xs up) t).rows

-- with the tree, or without it
abbrev pub IsTreePut : List (Addr × Addr) → Addr × Addr → Bool → List (Addr × Addr) → Type 0
IsTreePut xs t true ys = IsWithTree xs t ys
IsTreePut xs t false ys = IsWithoutTree xs t ys

-- a hop as a row of a set
abbrev pub hop_row : TreeHop → TreeHop × Unit {0}
hop_row r = (r, tt)

-- the list of a set of hops with one more
abbrev pub IsWithHop : List TreeHop → TreeHop → List TreeHop → Type 0
IsWithHop xs r ys = (up : AreRows hop_keys hop_row xs) → each hop_row ys ≡ (with_key (table_of hop_keys hop_row xs up) r).rows

-- these are the hops of all trees in order, each once
abbrev pub AreInOrder : List TreeHop → List TreeHop → Type 0
AreInOrder hops xs = each hop_row xs ≡ (set_of {o = hop_keys} hops).rows
