-- The claims of the public laws: which nodes a step changes, and where a send goes.
use Rattle.std.specs.Prelude.{◌≡◌, ◌↔◌, ℕ, ◌+◌, Bool, true, false, [], map as each, ◌++◌, slice_get, Some}
use Rattle.std.specs.List.{remove}
use Rattle.rsvp_base.specs.declared.addr.Addr.{Addr}
use Rattle.rsvp_base.specs.Members.{In}
use Rattle.tree_model.specs.Goals.{addr_of}
use Rattle.router_examples.specs.RouterRules.Facts.{Facts}
use Rattle.router_examples.specs.RouterRules.Inputs.{Wait, Came, Send}
use Rattle.router_examples.specs.RouterRules.NodeConfig.{NodeConfig}
use Rattle.router_examples.specs.RouterRules.Rule.{rule}
use Rattle.tree_model.specs.declared.hops.End.{End}
use Rattle.tree_model.specs.Networks.{Net, end_at, iface_of, link_of, peers}
use Rattle.network_model.specs.Links.{is_group, goes_to, copy_to}
use Rattle.network_model.specs.Steps.{Step, Piece, Deliver, Lose, Copy, Trace, Report, Flags, Adverts, Inject, word_for, outcome, sent, step}
use Rattle.network_model.specs.Worlds.{Item, World, config_of}

abbrev pub config_in : ℕ → World → ℕ → NodeConfig
config_in q w n = config_of q w.net w.trees n

-- the node of the end follows its rule, all others stay as they are; the item is gone
pub record ADeliveryChangesOneNode (q : ℕ) (w : World) (k : ℕ) (x : Item) (e : End) : Type 0 where
  pub node : (f : Facts) → slice_get w.nodes e.node ≡ Some f
      → slice_get (step q (Deliver k) w).nodes e.node ≡ Some (rule (config_in q w e.node) (config_in q w e.node) w.clock (Came (iface_of w.net.ends x.end) x.dst x.arrival) f).facts
  pub others : (n : ℕ) → (n ≡ e.node → ⊥) → slice_get (step q (Deliver k) w).nodes n ≡ slice_get w.nodes n
  pub flight : (step q (Deliver k) w).flight ≡ remove w.flight k ++ each (λ y. y.0) (sent q (Deliver k) w)

-- each node waits, with a word of its own
abbrev pub APieceChangesEveryNode : ℕ → World → ℕ → Type 0
APieceChangesEveryNode q w ms =
    (n : ℕ) (f : Facts) → slice_get w.nodes n ≡ Some f → slice_get (step q (Piece ms) w).nodes n ≡ Some (rule (config_in q w n) (config_in q w n) (w.clock + ms) (Wait ms (word_for w.words n)) f).facts

-- what is lost, copied, written or injected
abbrev pub is_still : Step → Bool
is_still (Lose k) = true
is_still (Copy k) = true
is_still (Trace on) = true
is_still (Report e) = true
is_still Flags = true
is_still Adverts = true
is_still (Inject e dst a) = true
is_still _ = false

pub record TheRestChangeNoNode (q : ℕ) (w : World) (s : Step) : Type 0 where
  pub nodes : (step q s w).nodes ≡ w.nodes
  pub sends : sent q s w ≡ []

-- to each other end of the link, or to the one that has the address; and nowhere where the end is in no link
pub record WhereASendGoes (net : Net) (a : ℕ) (dst : Addr) : Type 0 where
  pub group : is_group dst ≡ true → goes_to net (Some a) dst ≡ peers net.links a
  pub one : is_group dst ≡ false → (e : ℕ) → In e (peers net.links a) → addr_of net e ≡ dst → (x : ℕ) → In x (goes_to net (Some a) dst) ↔ (In x (peers net.links a) × (addr_of net x ≡ dst))
  pub none : is_group dst ≡ false → ((e : ℕ) → In e (peers net.links a) → addr_of net e ≡ dst → ⊥) → goes_to net (Some a) dst ≡ peers net.links a
  pub nowhere : link_of net.links a ≡ [] → goes_to net (Some a) dst ≡ []

-- what a step sends are the copies of what its nodes send
pub record IsCopyOf (q : ℕ) (s : Step) (w : World) (x : Item × Bool) : Type 0 where
  pub node : ℕ
  pub facts : Facts
  pub there : slice_get w.nodes node ≡ Some facts
  pub send : Send
  pub sent : In send (outcome q s w node facts).sent
  pub end : ℕ
  pub goes : In end (goes_to w.net (end_at w.net.ends node send.iface) send.dst)
  pub is : x ≡ copy_to w.made send end

abbrev pub WhatIsSentIsCopied : ℕ → Step → World → Type 0
WhatIsSentIsCopied q s w = (x : Item × Bool) → In x (sent q s w) ↔ IsCopyOf q s w x
