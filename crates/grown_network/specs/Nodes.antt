-- The nodes of a grown network and their links: 64 nodes, of which each but node 0 hangs on the node above it by a link.
use Rattle.std.specs.Prelude.{ℕ, ◌+◌, ◌-◌, ◌*◌, ◌/◌, List, [], ◌∷◌, ◌++◌, map as each, codes, if◌then◌else◌, ◌==◌}
use Rattle.std.specs.Fmt.{decimal}
use Rattle.std.specs.List.{flat_map, range_with_len}
use Rattle.rsvp_base.specs.declared.addr.Addr.{Addr}
use Rattle.script_words.specs.Addresses.{of_bytes}
use Rattle.tree_model.specs.declared.hops.End.{End}

-- the node on which node k hangs, from 1 on
abbrev pub above : ℕ → ℕ
above k = (k - 1) / 2

-- ---- the link of node k: end dk of the node above, 10.1.k.1, and end uk of node k, 10.1.k.2
abbrev pub end_of : ℕ → Addr → End
end_of node addr = record { node = node; iface = record { addr = addr; capacity = 70000000; mtu = 1500; latency = 0 } }

abbrev pub ends_of_link : ℕ → List End
ends_of_link k = end_of (above k) (of_bytes 10 1 k 1) ∷ end_of k (of_bytes 10 1 k 2) ∷ []

abbrev pub names_of_link : ℕ → List (List ℕ)
names_of_link k = (codes "d" ++ decimal k) ∷ (codes "u" ++ decimal k) ∷ []

-- the numbers of dk and uk
abbrev pub down_end : ℕ → ℕ
down_end k = 2 * (k - 1)

abbrev pub up_end : ℕ → ℕ
up_end k = 2 * (k - 1) + 1

-- ---- the links of the nodes from 1 to n
unfoldable pub ends_up_to : ℕ → List End
ends_up_to n = flat_map ends_of_link (range_with_len 1 n)

unfoldable pub names_up_to : ℕ → List (List ℕ)
names_up_to n = flat_map names_of_link (range_with_len 1 n)

unfoldable pub links_up_to : ℕ → List (List ℕ)
links_up_to n = each (λ k. down_end k ∷ up_end k ∷ []) (range_with_len 1 n)

-- ---- the address of a node: that of d1 for node 0, and of uk for node k
abbrev pub home : ℕ → Addr
home n = if n == 0 then of_bytes 10 1 1 1 else of_bytes 10 1 n 2
