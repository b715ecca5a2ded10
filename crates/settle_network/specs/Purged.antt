-- A network that was purged: nothing stale is left in it, whether or not what is asked of it fits.
use Rattle.std.specs.Prelude.{◌≡◌, ℕ, ◌<◌, ◌≤◌, length, Some, slice_get}
use Rattle.rsvp_base.specs.declared.entry_key.EntryKey.{EntryKey}
use Rattle.rsvp_base.specs.declared.part.Part.{Part}
use Rattle.rsvp_base.specs.Table.{get}
use Rattle.style_rules.specs.Lines.{BookTable, held}
use Rattle.style_rules.specs.Parts.{IsPartAtMost}
use Rattle.router_rules.specs.Books.{book}
use Rattle.router_rules.specs.Facts.{Facts}
use Rattle.tree_model.specs.Goals.{demand_of}
use Rattle.tree_model.specs.Networks.{iface_of, node_of}
use Rattle.network_model.specs.Locals.{locals_of}
use Rattle.network_model.specs.Sound.{ArePathsSound, AreResvsSound}
use Rattle.network_model.specs.Worlds.{World}

-- each entry of the book b has one of its session, style and unit in the book d, with at least its senders and its flow; and so the
-- book b promises no more than d
pub record IsBookAtMost (b d : BookTable) : Type 0 where
  pub entries : (k : EntryKey) (x : Part) → get b k ≡ Some x → (y : Part) × (get d k ≡ Some y) × IsPartAtMost x y
  pub sum : held b ≤ held d

-- the book of each end, as its node keeps it, is at most the demand of the end: it has no session, style or sender that nobody below
-- wants
abbrev pub AreBooksAtMostDemands : World → Type 0
AreBooksAtMostDemands u =
    (e : ℕ) (f : Facts) → e < length u.net.ends → slice_get u.nodes (node_of u.net.ends e) ≡ Some f → IsBookAtMost (book f (iface_of u.net.ends e)) (demand_of u.net (locals_of u) e)

-- paths are those of live senders along their trees, reservations lie below the wants, and books below the demands
pub record HasNothingStale (u : World) : Type 0 where
  pub paths : ArePathsSound u
  pub resvs : AreResvsSound u
  pub books : AreBooksAtMostDemands u
