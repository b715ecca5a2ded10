-- A network that is fresh: it keeps no path, no reservation and no blockade, and hosts begin to send and receivers ask, one call after the other,
-- before anything is delivered.
use Rattle.std.specs.Prelude.{◌≡◌, ℕ, [], false, true, Some, slice_get}
use Rattle.rsvp_base.specs.Members.{In}
use Rattle.rsvp_base.specs.Table.{empty, get, has}
use Rattle.rsvp_base.specs.TokenBucket.{IsSound, TokenBucket}
use Rattle.router_rules.specs.Facts.{Facts, SenderKey, Want, WantKey, no_facts, no_resvs}
use Rattle.router_rules.specs.Inputs.{AdvertAs, DropAs, Local, QuitAll, SendAs, WantAs}
use Rattle.router_rules.specs.Steps.{IsFitList}
use Rattle.tree_model.specs.declared.hops.LinkHop.{LinkHop}
use Rattle.tree_model.specs.Networks.{node_of}
use Rattle.tree_model.specs.Trees.{tree}
use Rattle.network_model.specs.Bounds.{AreBounds}
use Rattle.network_model.specs.Links.{is_group}
use Rattle.network_model.specs.Worlds.{Item, World}
use Rattle.settle_passes.specs.Passes.{IsPathOver}
use Rattle.settle_openings.specs.Opening.{IsFirstPath}

-- no node keeps a path, a reservation or a blockade, the Paths of its local senders are in flight, over each hop that their trees have out of
-- their nodes, and nothing else is; and no want has a mark. Whether all fits is left open
pub record IsFresh (q : ℕ) (w : World) : Type 0 where
  pub bounds : AreBounds q w
  pub paths : (n : ℕ) (f : Facts) → slice_get w.nodes n ≡ Some f → f.paths ≡ empty
  pub resvs : (n : ℕ) (f : Facts) → slice_get w.nodes n ≡ Some f → f.resvs ≡ no_resvs
  pub walls : (n : ℕ) (f : Facts) → slice_get w.nodes n ≡ Some f → f.walls ≡ empty
  pub unmarked : (n : ℕ) (f : Facts) (k : WantKey) (x : Want) → slice_get w.nodes n ≡ Some f → get f.wants k ≡ Some x → x.confirm ≡ false
  pub sent : (y : Item) → In y w.flight → IsFirstPath q w y
  pub all : (n : ℕ) (f : Facts) (k : SenderKey) (t : TokenBucket) (h : LinkHop) → slice_get w.nodes n ≡ Some f → get f.senders k ≡ Some t → In h (tree w.net.hops k.0.group k.1.addr)
      → node_of w.net.ends h.from ≡ n → IsPathOver w k t h

-- a world of which nothing was asked yet
pub record IsEmpty (q : ℕ) (w : World) : Type 0 where
  pub bounds : AreBounds q w
  pub nodes : (n : ℕ) (f : Facts) → slice_get w.nodes n ≡ Some f → f ≡ no_facts
  pub flight : w.flight ≡ []

-- a call of a fit form (`IsFitCall`): a host begins to send to a group, as a sender that its node does not have yet, or a receiver asks for
-- something, and not for a confirmation
abbrev pub IsFirstCall : World → ℕ → Local → Type 0
IsFirstCall w n (SendAs s x t) = IsSound t × (is_group s.group ≡ true) × ((f : Facts) → slice_get w.nodes n ≡ Some f → has f.senders (s, x) ≡ false)
IsFirstCall w n (WantAs s st names flow mark) = IsFitList st names × IsSound flow × (mark ≡ false)
IsFirstCall w n (DropAs s x) = ⊥
IsFirstCall w n (AdvertAs s x) = ⊥
IsFirstCall w n (QuitAll s) = ⊥
