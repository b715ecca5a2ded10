-- A session that has settled, in a network where others may ask for more than fits.
use Rattle.std.specs.Prelude.{◌≡◌, ℕ, ◌<◌, true, length, Some, slice_get}
use Rattle.rsvp_base.specs.declared.entry_key.EntryKey.{EntryKey}
use Rattle.rsvp_base.specs.declared.session.Session.{Session}
use Rattle.rsvp_base.specs.Table.{get}
use Rattle.style_rules.specs.Lines.{BookTable}
use Rattle.router_rules.specs.Books.{book}
use Rattle.router_rules.specs.Facts.{Facts}
use Rattle.tree_model.specs.Goals.{demand_of}
use Rattle.tree_model.specs.Networks.{iface_of, node_of}
use Rattle.network_model.specs.Locals.{locals_of}
use Rattle.network_model.specs.Steps.{Step, is_quiet}
use Rattle.network_model.specs.Worlds.{World}
use Rattle.settle_resvs.specs.Sessions.{AreExactOf, HasNoFlowErrorOf, IsFreeOfBlockadesOf, TakesAllOf}

-- two books have the same entries of a session
abbrev pub HaveTheSameOf : Session → BookTable → BookTable → Type 0
HaveTheSameOf s b d = (k : EntryKey) → k.session ≡ s → get b k ≡ get d k

-- the book of each end, as its node keeps it, has the entries of the session that the demand of the end has
abbrev pub HasItsDemands : Session → World → Type 0
HasItsDemands s u =
    (e : ℕ) (f : Facts) → e < length u.net.ends → slice_get u.nodes (node_of u.net.ends e) ≡ Some f → HaveTheSameOf s (book f (iface_of u.net.ends e)) (demand_of u.net (locals_of u) e)

-- its reservations are the wants, its entries in books are those of the demands, whatever arrives of it is taken whole, and nothing is
-- left of its refusals and blockades
pub record HasSettledFor (q : ℕ) (s : Session) (u : World) : Type 0 where
  pub exact : AreExactOf s u
  pub entries : HasItsDemands s u
  pub takes_all : (t : Step) → is_quiet t ≡ true → TakesAllOf s q t u
  pub no_flow_error : HasNoFlowErrorOf s u
  pub no_blockade : IsFreeOfBlockadesOf s u
