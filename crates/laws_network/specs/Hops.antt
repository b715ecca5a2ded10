-- The previous or next hop that a message says (RFC 2205, A.2), and the end by which a node sends it.
use Rattle.std.specs.Prelude.{◌≡◌, ℕ, Bool, Option, None, Some}
use Rattle.rsvp_base.specs.declared.addr.Addr.{Addr}
use Rattle.rsvp_base.specs.Members.{In}
use Rattle.rsvp_messages.specs.declared.message.Message.{Message}
use Rattle.rsvp_messages.specs.declared.message.Message.TheVariants as message
use Rattle.tree_model.specs.Goals.{addr_of}
use Rattle.tree_model.specs.Networks.{end_at, peers}
use Rattle.network_model.specs.Laws.{IsCopyOf}
use Rattle.network_model.specs.Steps.{Step}
use Rattle.network_model.specs.Worlds.{Item, World}

-- the address in its RSVP_HOP; a PathErr and a ResvConf have none
abbrev pub hop_of : Message → Option Addr
hop_of (message.Path m) = Some m.hop.addr
hop_of (message.Resv m) = Some m.hop.addr
hop_of (message.PathErr m) = None
hop_of (message.ResvErr m) = Some m.hop.addr
hop_of (message.PathTear m) = Some m.hop.addr
hop_of (message.ResvTear m) = Some m.hop.addr
hop_of (message.ResvConf m) = None

-- the item is a copy of what a node sends by the step; it leaves by an end of that node, of this address, to another end of
-- the link
pub record LeavesBy (q : ℕ) (s : Step) (w : World) (x : Item × Bool) (a : Addr) : Type 0 where
  pub copy : IsCopyOf q s w x
  pub end : ℕ
  pub at : end_at w.net.ends copy.node copy.send.iface ≡ Some end
  pub addr : a ≡ addr_of w.net end
  pub to : In x.0.end (peers w.net.links end)
