-- The want of a hop: what is wanted beyond it of the senders whose trees have it.
use Rattle.std.specs.Prelude.{ℕ, Bool, ◌&&◌, ◌==◌, List, [], ◌∷◌, ◌++◌, map as each, Option, None, Some}
use Rattle.std.specs.List.{filter, flat_map, list_all}
use Rattle.std.specs.Ordering.{eq_by_cmp}
use Rattle.rsvp_base.specs.declared.part.Part.{Part}
use Rattle.rsvp_base.specs.declared.session.Session.{Session}
use Rattle.rsvp_base.specs.declared.session.Sender.{Sender}
use Rattle.rsvp_base.specs.declared.style.StyleKind.{StyleKind}
use Rattle.rsvp_base.specs.declared.style.StyleKind.TheVariants.{Wild, Fixed, Shared}
use Rattle.rsvp_base.specs.Orders.{sessions, styles, Names}
use Rattle.rsvp_base.specs.Sets.{set_of}
use Rattle.rsvp_base.specs.Table.{empty, values}
use Rattle.rsvp_base.specs.Styles.{name_of}
use Rattle.style_rules.specs.Parts.{part_cut, part_of}
use Rattle.style_rules.specs.Merge.{merge, PartTable}
use Rattle.tree_model.specs.declared.hops.LinkHop.{LinkHop}
use Rattle.tree_model.specs.Networks.{Net, node_of}
use Rattle.tree_model.specs.Trees.{tree}
use Rattle.tree_model.specs.Ranks.{has_hop, followers, rank}
use Rattle.tree_model.specs.Fuel.{by_fuel}
use Rattle.tree_model.specs.declared.locals.LocalSender.{LocalSender}
use Rattle.tree_model.specs.declared.locals.LocalWant.{LocalWant}

-- who sends where, and who wants what
pub record Locals : Type 0 where
  pub senders : List LocalSender
  pub wants : List LocalWant

-- ---- names
abbrev pub of_session : Session → LocalSender → Bool
of_session s x = eq_by_cmp sessions.cmp s x.session

-- the senders of a session, wherever they are: those that are live
abbrev pub live : Locals → Session → List Sender
live l s = each (λ x. x.sender) (filter (of_session s) l.senders)

-- the tree of the sender's address in the session's group has each of these hops
abbrev pub goes_over : Net → Session → List LinkHop → Sender → Bool
goes_over net s hs x = list_all (has_hop (tree net.hops s.group x.addr)) hs

-- the names, as the style lists them, of the live senders whose trees have each of these hops
abbrev pub names : StyleKind → Net → Locals → Session → List LinkHop → Names
names st net l s hs = set_of (each (name_of st) (filter (goes_over net s hs) (live l s)))

-- ---- wants
abbrev pub as_list : Option Part → List Part
as_list None = []
as_list (Some p) = p ∷ []

-- what is wanted of these names: a wildcard want is for all of them
abbrev pub wanted_of : StyleKind → Names → Part → Option Part
wanted_of Wild ns p = part_of ns p.flow
wanted_of Fixed ns p = part_cut p ns
wanted_of Shared ns p = part_cut p ns

-- a want of the session and style at the node
abbrev pub is_wanted_at : StyleKind → Session → ℕ → LocalWant → Bool
is_wanted_at st s n w = (w.node == n) && (eq_by_cmp sessions.cmp s w.session && eq_by_cmp styles.cmp st w.style)

-- the local wants at the node that the hop goes into
abbrev pub own : StyleKind → Net → Locals → Session → LinkHop → List Part
own st net l s h = flat_map (λ w. as_list (wanted_of st (names st net l s (h ∷ [])) w.part)) (filter (is_wanted_at st s (node_of net.ends h.to)) l.wants)

-- what a hop that follows brings: its want, cut to the names whose trees have both hops
abbrev pub brought : StyleKind → Net → Locals → Session → LinkHop → (LinkHop → PartTable) → LinkHop → List Part
brought st net l s h want h' = flat_map (λ p. as_list (part_cut p (names st net l s (h ∷ h' ∷ [])))) (values (want h'))

-- the want of a hop from those of the hops that follow it
abbrev pub want_from : StyleKind → Net → Locals → Session → LinkHop → (LinkHop → PartTable) → PartTable
want_from st net l s h want = merge st (own st net l s h ++ flat_map (brought st net l s h want) (followers net s.group h))

-- the want of a hop; chains from it are as long as its rank at most
unfoldable pub want : StyleKind → Net → Locals → Session → LinkHop → PartTable
want st net l s h = by_fuel (want_from st net l s) empty (rank net s.group h) h
