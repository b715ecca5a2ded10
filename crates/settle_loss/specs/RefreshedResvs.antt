-- Reservations that are refreshed as RFC 2205 asks (3.7), over one hop and of a whole session, and one that lives until the third refresh
-- from now on may arrive.
use Rattle.std.specs.Prelude.{◌≡◌, ℕ, ◌+◌, ◌*◌, ◌≤◌, List, Some}
use Rattle.rsvp_base.specs.declared.part.Part.{Part}
use Rattle.rsvp_base.specs.declared.session.Session.{Session}
use Rattle.rsvp_base.specs.Members.{In}
use Rattle.rsvp_base.specs.Table.{get}
use Rattle.rsvp_messages.specs.declared.message.Message.TheVariants as message
use Rattle.rsvp_messages.specs.declared.message.ResvMsg.{ResvMsg}
use Rattle.calm_rounds.specs.Loss.{IsRefreshed}
use Rattle.router_rules.specs.Inputs.{Spelt}
use Rattle.tree_model.specs.Goals.{addr_of}
use Rattle.tree_model.specs.Networks.{Net, node_of}
use Rattle.tree_model.specs.Trees.{hops_of}
use Rattle.tree_model.specs.Wants.{want}
use Rattle.network_model.specs.Locals.{locals_of}
use Rattle.network_model.specs.Steps.{Step, Track, OfStyle, machine}
use Rattle.network_model.specs.Worlds.{Item, World}
use Rattle.laws_network.specs.Refreshes.{due_at}
use Rattle.settle_resvs.specs.Said.{HopKey, hop_over, resv_key}
use Rattle.settle_resvs.specs.SoftResvs.{kept_at}

-- the track of the Resvs of a session and style over a hop
abbrev pub resv_over : Net → HopKey → Track
resv_over net k = record { from = addr_of net k.from; to = k.to; session = k.session; key = OfStyle k.style }

-- of any three successive Resvs one arrives in time
abbrev pub IsResvRefreshed : ℕ → Net → HopKey → List Step → World → Type 0
IsResvRefreshed q net k ss w = IsRefreshed (machine q) (λ u. due_at u (node_of net.ends k.from) k.session) (Some (resv_over net k)) ss w

-- over each hop over which something of the session is wanted in the world o, of any three successive Resvs of its style one arrives in time
abbrev pub AreResvsRefreshedIn : ℕ → Session → World → List Step → World → Type 0
AreResvsRefreshedIn q s o ss w =
    (k : HopKey) (v : Part) → k.session ≡ s → In (hop_over k) (hops_of o.net.hops k.session.group) → get (want k.style o.net (locals_of o) k.session (hop_over k)) k.unit ≡ Some v
    → IsResvRefreshed q o.net k ss w

-- of what is wanted at the start, as it then stays
abbrev pub AreResvsRefreshed : ℕ → Session → List Step → World → Type 0
AreResvsRefreshed q s ss w = AreResvsRefreshedIn q s w ss w

-- the part is reserved at the end that keeps, and lives 15 quarters of a period from the moment on at which the node that asks
-- refreshes next
pub record DoesResvLast (q : ℕ) (w : World) (k : HopKey) (v : Part) : Type 0 where
  pub dies : ℕ
  pub kept : kept_at w.net (resv_key w.net k) w ≡ Some (v, dies)
  pub moment : ℕ
  pub due : due_at w (node_of w.net.ends k.from) k.session ≡ Some moment
  pub long : moment + 15 * q ≤ dies

-- each Resv in flight is for a full lifetime
abbrev pub AreResvsFull : ℕ → World → Type 0
AreResvsFull q w = (y : Item) (m : ResvMsg) → In y w.flight → y.arrival ≡ Spelt (message.Resv m) → m.period ≡ 4 * q
