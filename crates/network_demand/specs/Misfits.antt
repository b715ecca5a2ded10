-- What does not fit in the demands of a network.
use Rattle.std.specs.Prelude.{◌≡◌, ◌≢◌, ◌↔◌, ℕ, max, nat_lt, Bool, false, true, List, [], ◌∷◌, length, Option, None, Some, slice_get}
use Rattle.std.specs.List.{filter, range_with_len}
use Rattle.rsvp_base.specs.Members.{In}
use Rattle.rsvp_base.specs.declared.entry_key.EntryKey.{EntryKey}
use Rattle.rsvp_base.specs.declared.part.Part.{Part}
use Rattle.rsvp_base.specs.declared.session.Session.{Session}
use Rattle.style_rules.specs.Lines.{BookTable, held}
use Rattle.tree_model.specs.Chains.{NoRepeats}
use Rattle.tree_model.specs.Goals.{DemandsFit, demand_of}
use Rattle.tree_model.specs.Networks.{Net}
use Rattle.tree_model.specs.Wants.{Locals}
use Rattle.tree_model.specs.declared.hops.End.{End}
use Rattle.tree_model.specs.declared.locals.LocalWant.{LocalWant}
use Rattle.network_demand.specs.declared.misfits.Misfits.{Misfits}

-- ---- ends
-- the size of the largest packet that entries allow
abbrev pub largest_of : List (EntryKey × Part) → ℕ
largest_of [] = 0
largest_of (r ∷ rs) = max r.1.flow.most (largest_of rs)

-- what an end owes passes its capacity
abbrev pub is_over : Option End → BookTable → Bool
is_over None b = false
is_over (Some x) b = nat_lt x.iface.capacity (held b)

-- a packet of what it owes may be larger than its MTU
abbrev pub is_large : Option End → BookTable → Bool
is_large None b = false
is_large (Some x) b = nat_lt x.iface.mtu (largest_of b.rows)

-- the ends, by number, of which this holds beside what they owe
abbrev pub numbers_with : (Option End → BookTable → Bool) → List End → (ℕ → BookTable) → List ℕ
numbers_with p ends owed = filter (λ e. p (slice_get ends e) (owed e)) (range_with_len 0 (length ends))

-- ---- sessions
-- a want is of the same session and of another style
abbrev pub IsOtherStyle : LocalWant → LocalWant → Type 0
IsOtherStyle other w = (other.session ≡ w.session) × (other.style ≢ w.style)

-- someone wants the session of a want in another style
pub record Differs (ws : List LocalWant) (w : LocalWant) : Type 0 where
  pub other : LocalWant
  pub wanted : In other ws
  pub differ : IsOtherStyle other w

-- a session is wanted in two styles
pub record HasTwoStyles (ws : List LocalWant) (s : Session) : Type 0 where
  pub one : LocalWant
  pub wanted : In one ws
  pub of_it : one.session ≡ s
  pub differs : Differs ws one

-- ---- all
-- what does not fit, end by end and session by session
pub record AreMisfits (net : Net) (l : Locals) (m : Misfits) : Type 0 where
  pub over : m.over.items ≡ numbers_with is_over net.ends (demand_of net l)
  pub large : m.large.items ≡ numbers_with is_large net.ends (demand_of net l)
  pub once : NoRepeats m.clashing.items
  pub clashing : (s : Session) → In s m.clashing.items ↔ HasTwoStyles l.wants s
  -- the tables of a node are too small: where nothing else is wrong, and the demands do not fit
  pub tables : (m.tables ≡ true) ↔ ((m.over.items ≡ []) × (m.large.items ≡ []) × (m.clashing.items ≡ []) × (DemandsFit net l → ⊥))

-- nothing is found
pub record AreNone (m : Misfits) : Type 0 where
  pub over : m.over.items ≡ []
  pub large : m.large.items ≡ []
  pub clashing : m.clashing.items ≡ []
  pub tables : m.tables ≡ false
