-- The demand of an end, and whether the demands of a network fit.
use Rattle.std.specs.Prelude.{◌≡◌, ℕ, ◌≤◌, List, [], ◌∷◌, map as each, Option, None, Some, slice_get}
use Rattle.std.specs.List.{filter, flat_map}
use Rattle.rsvp_base.specs.Keys.{Keys, numbers, pairs}
use Rattle.rsvp_base.specs.Members.{In}
use Rattle.rsvp_base.specs.declared.addr.Addr.{Addr}
use Rattle.rsvp_base.specs.declared.part.Part.{Part}
use Rattle.rsvp_base.specs.declared.session.Session.{Session}
use Rattle.rsvp_base.specs.declared.style.StyleKind.{StyleKind}
use Rattle.rsvp_base.specs.declared.style.StyleKind.TheVariants.{Wild, Fixed, Shared}
use Rattle.rsvp_base.specs.Orders.{sessions}
use Rattle.rsvp_base.specs.Sets.{set_of}
use Rattle.rsvp_base.specs.Table.{keys, get}
use Rattle.style_rules.specs.Lines.{Line, BookTable, book_of_end, held}
use Rattle.rsvp_base.specs.declared.entry_key.EntryKey.{EntryKey}
use Rattle.style_rules.specs.Limits.{IsWithinLimits}
use Rattle.tree_model.specs.declared.hops.End.{End}
use Rattle.tree_model.specs.declared.hops.LinkHop.{LinkHop}
use Rattle.tree_model.specs.Networks.{Net, node_of}
use Rattle.tree_model.specs.Trees.{hops_of, goes_out_of}
use Rattle.tree_model.specs.declared.locals.LocalWant.{LocalWant}
use Rattle.tree_model.specs.Wants.{Locals, want}

abbrev pub addr_of_end : Option End → Addr
addr_of_end None = record { 0 = 0 }
addr_of_end (Some e) = e.iface.addr

-- the address of an end
abbrev pub addr_of : Net → ℕ → Addr
addr_of net e = addr_of_end (slice_get net.ends e)

-- hops by their ends, each once
abbrev pub end_pairs : Keys (ℕ × ℕ)
end_pairs = pairs numbers numbers

abbrev pub hops_in_order : List LinkHop → List LinkHop
hops_in_order hs = each (λ p. record { from = p.0; to = p.1 }) (keys (set_of {o = end_pairs} (each (λ h. (h.from, h.to)) hs)))

-- the sessions that someone wants something of, each once
abbrev pub sessions_named : Locals → List Session
sessions_named l = keys (set_of {o = sessions} (flat_map (λ w. w.session ∷ []) l.wants))

-- what is wanted over a hop, as lines at the end that it goes out of
abbrev pub hop_lines : StyleKind → Net → Locals → Session → LinkHop → List Line
hop_lines st net l s h = each (λ e. record { style = st; session = s; end = h.from; next = addr_of net h.to; unit = e.0; part = e.1 }) (want st net l s h).rows

-- what is wanted over all hops out of a node, by style, session, end, next hop and unit
abbrev pub goal : Net → Locals → ℕ → List Line
goal net l n =
    flat_map (λ st. flat_map (λ s. flat_map (hop_lines st net l s) (filter (goes_out_of net.ends n) (hops_in_order (hops_of net.hops s.group)))) (sessions_named l)) (Wild ∷ Fixed ∷ Shared ∷ [])

-- the demand of an end: of each session and style, the merge of the wants of its hops
abbrev pub demand_of : Net → Locals → ℕ → BookTable
demand_of net l e = book_of_end e (goal net l (node_of net.ends e))

-- each end can carry what it owes, each session is wanted in one style, and no node needs more than its tables hold
pub record DemandsFit (net : Net) (l : Locals) : Type 0 where
  pub capacity : (e : ℕ) (x : End) → slice_get net.ends e ≡ Some x → held (demand_of net l e) ≤ x.iface.capacity
  pub mtu : (e : ℕ) (x : End) (k : EntryKey) (p : Part) → slice_get net.ends e ≡ Some x → get (demand_of net l e) k ≡ Some p → p.flow.most ≤ x.iface.mtu
  pub one_style : (v w : LocalWant) → In v l.wants → In w l.wants → v.session ≡ w.session → v.style ≡ w.style
  pub limits : (n : ℕ) (st : StyleKind) → IsWithinLimits st (goal net l n)
