-- When path state at the end of a hop is renewed: what is asked of the two nodes, and of what is sent over the hop.
use Rattle.std.specs.Prelude.{◌≡◌, ℕ, ◌+◌, ◌≤◌, true, Some, slice_get}
use Rattle.rsvp_base.specs.Members.{In}
use Rattle.rsvp_base.specs.Table.{get, has}
use Rattle.rsvp_base.specs.TokenBucket.{TokenBucket}
use Rattle.rsvp_messages.specs.declared.message.Message.TheVariants as message
use Rattle.rsvp_messages.specs.declared.message.PathMsg.{PathMsg}
use Rattle.rsvp_messages.specs.declared.message.PathTearMsg.{PathTearMsg}
use Rattle.router_rules.specs.Facts.{Facts, SenderKey}
use Rattle.router_rules.specs.Inputs.{Came, Spelt}
use Rattle.router_rules.specs.Known.{known}
use Rattle.router_rules.specs.NodeConfig.{lifetime}
use Rattle.tree_model.specs.declared.hops.LinkHop.{LinkHop}
use Rattle.tree_model.specs.Networks.{Net, node_of, iface_of}
use Rattle.network_model.specs.Laws.{config_in}
use Rattle.network_model.specs.Worlds.{Item, World}
use Rattle.settle_paths.specs.SoftPaths.{PathValue, by_iface, SaysPath}
use Rattle.router_rules.specs.Steps.{facts_then}

-- the node of the end that keeps has the value once the item has come, for as long as the Path sets it: it does not drop the
-- Path
abbrev pub IsKeptPath : ℕ → Net → SenderKey → ℕ → PathValue → World → Item → PathMsg → Type 0
IsKeptPath q net k e v u y m =
    let n : ℕ = node_of net.ends e in
    (f : Facts) → slice_get u.nodes n ≡ Some f
    → by_iface (iface_of net.ends e) (get (facts_then (config_in q u n) (config_in q u n) u.clock (Came (iface_of net.ends e) y.dst (Spelt (message.Path m))) f).paths k)
    ≡ Some (v, u.clock + lifetime (config_in q u n) m.period)

-- ---- the Path of a sender is said over the hop and is kept, of what is sent from step b on
pub record IsSaidPath (q : ℕ) (net : Net) (k : SenderKey) (h : LinkHop) (v : PathValue) (b : ℕ) (u : World) : Type 0 where
  -- each Path of the sender that is sent to the end that keeps says the value, and no PathTear of the sender is sent there
  pub carried : (y : Item) (m : PathMsg) (t : TokenBucket) → In y u.flight → b ≤ y.born → y.end ≡ h.to → y.arrival ≡ Spelt (message.Path m)
      → m.session ≡ k.0 → m.sender ≡ Some (k.1, t) → SaysPath net k h.to y v
  pub spared : (y : Item) (m : PathTearMsg) → In y u.flight → b ≤ y.born → y.end ≡ h.to → y.arrival ≡ Spelt (message.PathTear m) → m.session ≡ k.0 → m.sender ≡ Some k.1 → ⊥
  -- each that arrives is taken
  pub taken : (y : Item) → In y u.flight → b ≤ y.born → (says : SaysPath net k h.to y v) → IsKeptPath q net k h.to v u y says.path
  -- the node before the hop knows the sender, so it offers its Path
  pub knows : (f : Facts) → slice_get u.nodes (node_of net.ends h.from) ≡ Some f → has (known f k.0) k.1 ≡ true
