-- The want of a hop from what is asked at the node that it goes into: the local wants there, and the wants of hops out of it.
use Rattle.std.specs.Prelude.{ℕ, Bool, ◌==◌, List, [], ◌++◌, map as each, unwrap_or, slice_get}
use Rattle.std.specs.List.{filter, flat_map, list_all}
use Rattle.rsvp_base.specs.declared.addr.Addr.{Addr}
use Rattle.rsvp_base.specs.declared.part.Part.{Part}
use Rattle.rsvp_base.specs.declared.session.Sender.{Sender}
use Rattle.rsvp_base.specs.declared.session.Session.{Session}
use Rattle.rsvp_base.specs.declared.style.StyleKind.{StyleKind}
use Rattle.rsvp_base.specs.declared.style.StyleKind.TheVariants.{Wild, Fixed, Shared}
use Rattle.rsvp_base.specs.Orders.{Names}
use Rattle.rsvp_base.specs.Sets.{set_of}
use Rattle.rsvp_base.specs.Table.{values}
use Rattle.rsvp_base.specs.Styles.{name_of}
use Rattle.style_rules.specs.Parts.{part_cut}
use Rattle.tree_model.specs.declared.hops.LinkHop.{LinkHop}
use Rattle.tree_model.specs.Networks.{Net}
use Rattle.tree_model.specs.Trees.{tree, goes_out_of}
use Rattle.tree_model.specs.Ranks.{has_hop}
use Rattle.tree_routing.specs.declared.group_hop.GroupHop.{GroupHop}
use Rattle.tree_model.specs.declared.locals.LocalWant.{LocalWant}
use Rattle.network_demand.specs.declared.hop_want.HopWant.{HopWant}
use Rattle.tree_model.specs.Wants.{Locals, live, as_list, is_wanted_at, want}

-- the names of all live senders of a session
abbrev pub all_names : StyleKind → Locals → Session → Names
all_names st l s = set_of (each (name_of st) (live l s))

-- a local want with the names that it is for: a wildcard one is for all of its session
abbrev pub widened : StyleKind → Names → Part → Part
widened Wild all p = record { senders = all; flow = p.flow }
widened Fixed all p = p
widened Shared all p = p

-- the parts of the local wants at a node
abbrev pub local_parts : StyleKind → Session → Names → ℕ → List LocalWant → List Part
local_parts st s all n ws = each (λ w. widened st all w.part) (filter (is_wanted_at st s n) ws)

abbrev pub local_at : StyleKind → Locals → Session → ℕ → List Part
local_at st l s n = local_parts st s (all_names st l s) n l.wants

abbrev pub wants_at : StyleKind → Net → Locals → Session → List LinkHop → ℕ → List Part
wants_at st net l s hs n = flat_map (λ h. values (want st net l s h)) (filter (goes_out_of net.ends n) hs)

-- what is asked at a node by its local wants and over these hops
abbrev pub asked_at : StyleKind → Net → Locals → Session → List LinkHop → ℕ → List Part
asked_at st net l s hs n = local_at st l s n ++ wants_at st net l s hs n

-- the sender's tree has each of these hops
abbrev pub goes_over : Net → Addr → List LinkHop → Sender → Bool
goes_over net g hs x = list_all (has_hop (tree net.hops g x.addr)) hs

-- the names of those of some senders whose trees have each of these hops
abbrev pub names_among : StyleKind → Net → Addr → List LinkHop → List Sender → Names
names_among st net g hs xs = set_of (each (name_of st) (filter (goes_over net g hs) xs))

-- parts cut to names; what names nobody falls away
abbrev pub cuts : Names → List Part → List Part
cuts names ps = flat_map (λ p. as_list (part_cut p names)) ps

-- the hops of a group
abbrev pub hops_in : Addr → List GroupHop → List LinkHop
hops_in g xs = each (λ x. x.hop) (filter (λ x. x.group.0 == g.0) xs)

-- what stands for a node in a list of what stands for each
abbrev pub at_node : {X : Type 0} → List (List X) → ℕ → List X
at_node all n = unwrap_or (slice_get all n) []

-- the want of each of the hops of the session's group
abbrev pub hop_wants : StyleKind → Net → Locals → Session → List GroupHop → List HopWant
hop_wants st net l s xs = each (λ h. record { hop = h; parts = want st net l s h }) (hops_in s.group xs)
