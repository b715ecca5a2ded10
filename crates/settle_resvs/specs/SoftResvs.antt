-- A reservation that comes over a hop, as soft state: what is kept there, and which Resvs speak of it (RFC 2205, 3.1.4).
use Rattle.std.specs.Prelude.{◌≡◌, ℕ, Bool, true, false, Option, None, Some, slice_get}
use Rattle.std.specs.Option.{option_map, option_and_then}
use Rattle.rsvp_base.specs.declared.addr.Addr.{Addr}
use Rattle.rsvp_base.specs.declared.part.Part.{Part}
use Rattle.rsvp_base.specs.declared.session.Session.{Session}
use Rattle.rsvp_base.specs.declared.style.StyleKind.{StyleKind}
use Rattle.rsvp_base.specs.declared.style.Unit.{Unit as UnitOf}
use Rattle.rsvp_base.specs.Members.{In}
use Rattle.rsvp_base.specs.Orders.{Names}
use Rattle.rsvp_base.specs.Sets.{IsWithin}
use Rattle.rsvp_base.specs.Table.{get}
use Rattle.rsvp_messages.specs.declared.message.Message.TheVariants as message
use Rattle.rsvp_messages.specs.declared.message.ResvMsg.{ResvMsg}
use Rattle.rsvp_messages.specs.Units.{AskedUnit, ask_style, asked_units}
use Rattle.style_rules.specs.Lines.{LineKey}
use Rattle.style_rules.specs.Parts.{has_name}
use Rattle.calm_rounds.specs.SoftStates.{SoftState}
use Rattle.tree_model.specs.Goals.{addr_of}
use Rattle.router_rules.specs.Facts.{ResvState, resvs_of}
use Rattle.router_rules.specs.Inputs.{Spelt}
use Rattle.tree_model.specs.Networks.{Net, node_of, iface_of}
use Rattle.network_model.specs.Steps.{Step, Track}
use Rattle.network_model.specs.Worlds.{Item, World}
use Rattle.laws_network.specs.Known.{IsKnown}

-- ---- a session, style and unit, from the next hop that asks to the end that keeps. Whether an end has the address of the next
-- hop is left open: what is left over may name any
pub record ResvKey : Type 0 where
  pub session : Session
  pub style : StyleKind
  pub unit : UnitOf
  pub next : Addr
  pub to : ℕ

-- the reservation of the key is on the interface of the end that keeps, of the next hop
abbrev pub line_key_of : Net → ResvKey → LineKey
line_key_of net k = (k.session, ((iface_of net.ends k.to, k.next), k.unit))

-- ---- what is kept
abbrev pub resv_at : World → ℕ → StyleKind → LineKey → Option ResvState
resv_at u n st key = option_and_then (λ f. get (resvs_of st f) key) (slice_get u.nodes n)

abbrev pub kept_of : ResvState → Part × ℕ
kept_of r = (r.part, r.dies)

abbrev pub kept_at : Net → ResvKey → World → Option (Part × ℕ)
kept_at net k u = option_map kept_of (resv_at u (node_of net.ends k.to) k.style (line_key_of net k))

-- ---- cuts: some of the names of a part, one at least, with its flow
pub record IsCut (x p : Part) : Type 0 where
  pub names : IsWithin x.senders p.senders
  pub flow : x.flow ≡ p.flow
  pub named : has_name x ≡ true

-- with each part each cut of it is allowed
abbrev pub AllowsCuts : (Part → Bool) → Type 0
AllowsCuts allowed = (x p : Part) → IsCut x p → allowed p ≡ true → allowed x ≡ true

-- ---- what is said
-- these names are asked for; where no list is given, any
abbrev pub AsksFor : Option Names → Names → Type 0
AsksFor None names = Unit {0}
AsksFor (Some list) names = names ≡ list

-- the item is a Resv of the session and style, to the end that keeps, from the next hop that asks; one of its units is the key's,
-- and asks for the part. A wildcard Resv without SCOPE asks for each part with its flow
pub record SaysResv (net : Net) (k : ResvKey) (y : Item) (v : Part) : Type 0 where
  pub end : y.end ≡ k.to
  pub dst : y.dst ≡ addr_of net k.to
  pub resv : ResvMsg
  pub spelt : y.arrival ≡ Spelt (message.Resv resv)
  pub session : resv.session ≡ k.session
  pub style : ask_style resv.ask ≡ k.style
  pub hop : resv.hop.addr ≡ k.next
  pub unit : AskedUnit
  pub asks : In unit (asked_units resv.ask)
  pub at : unit.unit ≡ k.unit
  pub names : AsksFor unit.names v.senders
  pub flow : v.flow ≡ unit.flow

-- ---- the soft state; of what is renewed nothing is said yet
abbrev pub soft_resv : ℕ → World → ResvKey → SoftState World Step Item Track Part
soft_resv q w k = record {
  sane = IsKnown q w;
  kept = kept_at w.net k;
  says = SaysResv w.net k;
  letter = λ y. false;
  life = λ y. 0;
  below = IsCut;
  due = λ u. None;
  fires = λ s u. ⊥;
  track = None;
}
