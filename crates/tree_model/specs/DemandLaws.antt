-- The claims of the public laws.
use Rattle.std.specs.Prelude.{◌≡◌, ℕ, ◌≤◌, true, List, [], ◌∷◌, Some, slice_get}
use Rattle.rsvp_base.specs.Members.{In}
use Rattle.rsvp_base.specs.declared.part.Part.{Part}
use Rattle.rsvp_base.specs.declared.session.Session.{Session}
use Rattle.rsvp_base.specs.declared.session.Sender.{Sender}
use Rattle.rsvp_base.specs.declared.style.StyleKind.{StyleKind}
use Rattle.rsvp_base.specs.declared.style.StyleKind.TheVariants.{Fixed}
use Rattle.rsvp_base.specs.declared.style.Unit.{Unit as UnitOf}
use Rattle.rsvp_base.specs.declared.style.Unit.TheVariants.{Of}
use Rattle.rsvp_base.specs.Sets.{IsWithin}
use Rattle.rsvp_base.specs.Table.{empty, get, has, size}
use Rattle.style_rules.specs.Merge.{PartTable}
use Rattle.style_rules.specs.Lines.{Line, AreUnder, book_of_end, held}
use Rattle.rsvp_base.specs.declared.entry_key.EntryKey.{EntryKey}
use Rattle.style_rules.specs.Limits.{IsWithinLimits}
use Rattle.tree_model.specs.declared.hops.End.{End}
use Rattle.tree_model.specs.declared.hops.LinkHop.{LinkHop}
use Rattle.tree_model.specs.Networks.{Net, node_of}
use Rattle.tree_model.specs.Trees.{hops_of}
use Rattle.tree_model.specs.Ranks.{Follows}
use Rattle.tree_model.specs.declared.locals.LocalWant.{LocalWant}
use Rattle.tree_model.specs.Wants.{Locals, names, want_from, want}
use Rattle.tree_model.specs.Goals.{goal}

-- where no chain is closed, the want of each hop comes of those of the hops that follow it; what is no hop of the group has
-- none; and no other values do so
pub record WantEquation (st : StyleKind) (net : Net) (l : Locals) (s : Session) : Type 0 where
  pub equation : (h : LinkHop) → want st net l s h ≡ want_from st net l s h (want st net l s)
  pub others : (h : LinkHop) → (In h (hops_of net.hops s.group) → ⊥) → want st net l s h ≡ empty
  pub alone : (f : LinkHop → PartTable) → ((h : LinkHop) → In h (hops_of net.hops s.group) → f h ≡ want_from st net l s h f) → (h : LinkHop) → In h (hops_of net.hops s.group) → f h ≡ want st net l s h

-- a part that is wanted over a hop names senders whose trees have it
abbrev pub WantNames : StyleKind → Net → Locals → Session → Type 0
WantNames st net l s = (h : LinkHop) (u : UnitOf) (p : Part) → get (want st net l s h) u ≡ Some p → IsWithin p.senders (names st net l s (h ∷ []))

-- where each local want of a fixed filter names one sender, so does each part that is wanted over a hop, and its unit is that name
abbrev pub AFixedUnitIsItsName : Net → Locals → Session → Type 0
AFixedUnitIsItsName net l s = ((w : LocalWant) → In w l.wants → w.style ≡ Fixed → size w.part.senders ≡ 1)
    → (h : LinkHop) (u : UnitOf) (p : Part) → get (want Fixed net l s h) u ≡ Some p → (size p.senders ≡ 1) × ((x : Sender) → has p.senders x ≡ true → u ≡ Of x)

-- a name over two hops that meet in a node is over both together, and then the one follows the other
abbrev pub CommonNameMakesAFollower : StyleKind → Net → Locals → Session → Type 0
CommonNameMakesAFollower st net l s = (h h' : LinkHop) (x : Sender) → has (names st net l s (h ∷ [])) x ≡ true
    → has (names st net l s (h' ∷ [])) x ≡ true → node_of net.ends h'.from ≡ node_of net.ends h.to
    → (has (names st net l s (h ∷ h' ∷ [])) x ≡ true) × Follows net s.group h h'

-- where the demands fit, lines that are each under a line of a node's goal are within the limits of its tables, and at each of
-- its ends within capacity and MTU
pub record FitBoundsTheGoal (net : Net) (l : Locals) : Type 0 where
  pub limits : (n : ℕ) (st : StyleKind) (ls : List Line) → AreUnder ls (goal net l n) → IsWithinLimits st ls
  pub capacity : (e : ℕ) (x : End) (ls : List Line) → slice_get net.ends e ≡ Some x → AreUnder ls (goal net l (node_of net.ends e)) → held (book_of_end e ls) ≤ x.iface.capacity
  pub mtu : (e : ℕ) (x : End) (ls : List Line) (k : EntryKey) (p : Part) → slice_get net.ends e ≡ Some x
      → AreUnder ls (goal net l (node_of net.ends e)) → get (book_of_end e ls) k ≡ Some p → p.flow.most ≤ x.iface.mtu
