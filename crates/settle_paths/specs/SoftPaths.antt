-- Path state of a sender at an end, as soft state: what is kept there, and which Paths speak of it.
use Rattle.std.specs.Prelude.{◌≡◌, ℕ, ◌==◌, cond, false, Option, None, Some, slice_get}
use Rattle.std.specs.Option.{option_and_then}
use Rattle.rsvp_base.specs.declared.addr.Addr.{Addr}
use Rattle.rsvp_base.specs.Table.{get}
use Rattle.rsvp_base.specs.TokenBucket.{TokenBucket}
use Rattle.rsvp_messages.specs.declared.message.Message.TheVariants as message
use Rattle.rsvp_messages.specs.declared.message.PathMsg.{PathMsg}
use Rattle.calm_rounds.specs.SoftStates.{SoftState}
use Rattle.router_rules.specs.Facts.{SenderKey, PathState}
use Rattle.router_rules.specs.Inputs.{Spelt}
use Rattle.tree_model.specs.Networks.{Net, node_of, iface_of}
use Rattle.tree_model.specs.Trees.{inward}
use Rattle.network_model.specs.Steps.{Step, Track}
use Rattle.network_model.specs.Worlds.{Item, World}
use Rattle.laws_network.specs.Known.{IsKnown}

-- a hop address and a flow
abbrev pub PathValue : Type 0
PathValue = Addr × TokenBucket

abbrev pub value_of : PathState → PathValue
value_of x = (x.hop.addr, x.tspec)

-- the path of a key in a node
abbrev pub path_at : World → ℕ → SenderKey → Option PathState
path_at u n k = option_and_then (λ f. get f.paths k) (slice_get u.nodes n)

-- where it came by this interface
abbrev pub by_iface : ℕ → Option PathState → Option (PathValue × ℕ)
by_iface i None = None
by_iface i (Some x) = cond (x.iface == i) (Some (value_of x, x.dies)) None

-- the item is a Path of the key that comes to the end, by which the sender's tree comes into its node
pub record SaysPath (net : Net) (k : SenderKey) (e : ℕ) (y : Item) (v : PathValue) : Type 0 where
  pub end : y.end ≡ e
  pub path : PathMsg
  pub spelt : y.arrival ≡ Spelt (message.Path path)
  pub session : path.session ≡ k.0
  pub sender : path.sender ≡ Some (k.1, v.1)
  pub hop : v.0 ≡ path.hop.addr
  pub inward : inward net (node_of net.ends e) k.0.group k.1.addr ≡ Some e

-- of what is renewed nothing is said yet
abbrev pub soft_path : ℕ → World → SenderKey → ℕ → SoftState World Step Item Track PathValue
soft_path q w k e = record {
  sane = IsKnown q w;
  kept = λ u. by_iface (iface_of w.net.ends e) (path_at u (node_of w.net.ends e) k);
  says = SaysPath w.net k e;
  letter = λ y. false;
  life = λ y. 0;
  below = λ v v0. v ≡ v0;
  due = λ u. None;
  fires = λ s u. ⊥;
  track = None;
}
