-- Where a datagram goes that is sent out of an end of a link (a shared medium has up to eight ends).
use Rattle.std.specs.Prelude.{◌≡◌, ℕ, nat_le, nat_lt, Bool, true, false, ◌&&◌, List, [], ◌∷◌, map as each, Option, None, Some, slice_get}
use Rattle.std.specs.List.{filter, flat_map}
use Rattle.rsvp_base.specs.declared.addr.Addr.{Addr}
use Rattle.tree_model.specs.Goals.{addr_of}
use Rattle.router_examples.specs.RouterRules.Inputs.{Send, Spelt}
use Rattle.router_examples.specs.RouterRules.NodeConfig.{is_addr}
use Rattle.tree_model.specs.declared.hops.End.{End}
use Rattle.tree_model.specs.Networks.{Net, end_at, peers}
use Rattle.network_model.specs.Worlds.{Item}

-- a multicast group: 224.0.0.0 to 239.255.255.255 (RFC 1112, 4)
abbrev pub is_group : Addr → Bool
is_group a = nat_le 3758096384 a.0 && nat_lt a.0 4026531840

-- an end has the address of a host, so what is sent to it goes nowhere else
abbrev pub NoEndIsAGroup : Net → Type 0
NoEndIsAGroup net = (e : ℕ) (x : End) → slice_get net.ends e ≡ Some x → is_group x.iface.addr ≡ false

-- those of the ends that have the address, or else all
abbrev pub or_all : List ℕ → List ℕ → List ℕ
or_all [] all = all
or_all (e ∷ es) all = e ∷ es

abbrev pub addressed : Net → Addr → List ℕ → List ℕ
addressed net dst es = or_all (filter (λ e. is_addr (addr_of net e) dst) es) es

-- to every other end of the link for a group; else to the one that has the address, and where none has it to every other
abbrev pub ends_toward : Net → Bool → Addr → List ℕ → List ℕ
ends_toward net true dst es = es
ends_toward net false dst es = addressed net dst es

-- what goes out of no end vanishes, and so does what goes out of an end that is in no link
abbrev pub goes_to : Net → Option ℕ → Addr → List ℕ
goes_to net None dst = []
goes_to net (Some e) dst = ends_toward net (is_group dst) dst (peers net.links e)

-- one copy of a send, with its mark
abbrev pub copy_to : ℕ → Send → ℕ → Item × Bool
copy_to born s e = (record { end = e; dst = s.dst; arrival = Spelt s.message; born = born }, s.refresh)

-- the copies of what a node sends by its interface, of a step of this number
abbrev pub copies_of : Net → ℕ → ℕ → Send → List (Item × Bool)
copies_of net born n s = each (copy_to born s) (goes_to net (end_at net.ends n s.iface) s.dst)

abbrev pub all_copies : Net → ℕ → ℕ → List Send → List (Item × Bool)
all_copies net born n ss = flat_map (copies_of net born n) ss
