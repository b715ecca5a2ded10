-- A Resv with a fixed filter that a node has sent back over a hop: of each sender it says what goes toward the hop, and nothing else.
use Rattle.std.proofs.Common.{◌≡◌, ℕ, ◌<◌, [], ◌∷◌, length, true, Option, Some, inl, sym, refl, ap, subst, ◌∙◌}
use Rattle.std.specs.Prelude.{◌↔◌}
use Rattle.rsvp_base.specs.declared.addr.Addr.{Addr}
use Rattle.rsvp_base.specs.declared.part.Part.{Part}
use Rattle.rsvp_base.specs.declared.session.Sender.{Sender}
use Rattle.rsvp_base.specs.declared.session.Session.{Session}
use Rattle.rsvp_base.specs.declared.style.StyleKind.{StyleKind}
use Rattle.rsvp_base.specs.declared.style.StyleKind.TheVariants.{Fixed, Shared, Wild}
use Rattle.rsvp_base.specs.declared.style.Unit.{Unit as UnitOf}
use Rattle.rsvp_base.specs.declared.style.Unit.TheVariants.{Of}
use Rattle.rsvp_base.specs.Members.{In}
use Rattle.rsvp_base.specs.Orders.{Names, senders}
use Rattle.rsvp_base.specs.Styles.{part_unit}
use Rattle.rsvp_base.specs.Table.{get, has}
use Rattle.rsvp_base.proofs.Counts.{in_set_of}
use Rattle.rsvp_base.proofs.Members.{in_each}
use Rattle.rsvp_base.proofs.SetLaws.{and_both}
use Rattle.rsvp_messages.specs.declared.ask.Ask.{Ask}
use Rattle.rsvp_messages.specs.declared.ask.Ask.TheVariants as ask
use Rattle.rsvp_messages.specs.declared.message.Message.TheVariants as message
use Rattle.rsvp_messages.specs.declared.message.ResvMsg.{ResvMsg}
use Rattle.rsvp_messages.specs.Units.{AskedUnit, ask_style, asked_units, fixed_unit, only}
use Rattle.style_rules.specs.Lines.{NextHop}
use Rattle.style_rules.specs.Merge.{PartTable}
use Rattle.style_rules.specs.PartLaws.{part_at_most_told, same_part}
use Rattle.style_rules.specs.Parts.{IsOfStyle}
use Rattle.style_rules.proofs.StyleLaws.{unit_name, unit_of_names}
use Rattle.laws_bounds.specs.SendLaws.{ArePartsOf, IsAskedOf}
use Rattle.laws_bounds.proofs.Asks.{style_told, units_told}
use Rattle.router_rules.specs.Asking.{ask_of}
use Rattle.router_rules.specs.Inputs.{Spelt}
use Rattle.router_rules.specs.NodeConfig.{own}
use Rattle.tree_model.specs.declared.hops.LinkHop.{LinkHop}
use Rattle.tree_model.specs.Goals.{addr_of}
use Rattle.tree_model.specs.Networks.{Net, end_at}
use Rattle.tree_model.specs.Trees.{hops_of, tree}
use Rattle.tree_model.specs.Wants.{live}
use Rattle.tree_model.proofs.Following.{has_hop_in}
use Rattle.tree_model.proofs.Ifaces.{interfaces_are_ends}
use Rattle.tree_model.proofs.WantLaws.{name_told, want_names}
use Rattle.network_model.specs.Locals.{locals_of}
use Rattle.network_model.specs.Sound.{IsSoundPart}
use Rattle.network_model.specs.Worlds.{Item, World, config_of}
use Rattle.laws_network.proofs.Known.{of_some}
use Rattle.laws_network.proofs.Standing.{own_end}
use Rattle.settle_paths.specs.PreviousHops.{IsPrevious}
use Rattle.settle_paths.proofs.PreviousHops.{ends_there, same_by_addr}
use Rattle.settle_resvs.specs.Said.{resv_key}
use Rattle.settle_resvs.specs.SoftResvs.{AsksFor, SaysResv}
use Rattle.settle_passes.specs.Reserving.{IsReserving}
use Rattle.settle_confirmations.proofs.Leading.{key_of}
use Rattle.settle_confirmations.proofs.Taken.{one_unit}

-- ---- units and parts of a fixed filter are of one sender
pub fixed_told : (k : Ask) (b : AskedUnit) (x : Sender) → ask_style k ≡ Fixed → In b (asked_units k) → b.unit ≡ Of x → b.names ≡ Some (only x)
fixed_told (ask.Wild scope t) b x st i e = let bad : Wild ≡ Fixed = st in absurd (cc)
fixed_told (ask.Shared p) b x st i e = let bad : Shared ≡ Fixed = st in absurd (cc)
fixed_told (ask.Fixed list) b x st i e =
    let r = in_each fixed_unit b list.rows i in
    let is : Of r.0.0 ≡ Of x = ap (λ (z : AskedUnit). z.unit) (sym r.2) ∙ e in
    let same : r.0.0 ≡ x = cc in
    ap (λ (z : AskedUnit). z.names) r.2 ∙ ap (λ (z : Sender). Some (only z)) same

pub only_one : (x : Sender) → has (only x) x ≡ true
only_one x = in_set_of senders (x ∷ []) x (inl refl)

pub fixed_name : (p : Part) (x : Sender) → IsOfStyle Fixed p → part_unit Fixed p ≡ Of x → has p.senders x ≡ true
fixed_name p x styled e =
    let first = unit_name Fixed p styled.named in
    let is : Of first.name ≡ Of x = sym first.unit ∙ e in
    let same : first.name ≡ x = cc in
    subst (λ (z : Sender). has p.senders z ≡ true) same first.there

pub fixed_alone : (p : Part) (x z : Sender) → IsOfStyle Fixed p → part_unit Fixed p ≡ Of x → has p.senders z ≡ true → z ≡ x
fixed_alone p x z styled e h = let is : Of z ≡ Of x = sym (unit_of_names Fixed p z styled h) ∙ e in cc

pub fixed_unit_of : (p : Part) (un : UnitOf) → IsOfStyle Fixed p → part_unit Fixed p ≡ un → (x : Sender) × (un ≡ Of x)
fixed_unit_of p un styled e = let first = unit_name Fixed p styled.named in (first.name, sym e ∙ first.unit)

-- two that are said of one sender over a hop are one part
pub same_said : (net : Net) (s : Session) (x : Sender) (h : LinkHop) (y : Item) (v c : Part) → SaysResv net (resv_key net (key_of s x h)) y v → SaysResv net (resv_key net (key_of s x h)) y c → v ≡ c
same_said net s x h y v c a b =
    let spelt : Spelt (message.Resv a.resv) ≡ Spelt (message.Resv b.resv) = sym a.spelt ∙ b.spelt in
    let msg : a.resv ≡ b.resv = cc in
    let asks : In b.unit (asked_units a.resv.ask) = subst (λ (z : ResvMsg). In b.unit (asked_units z.ask)) (sym msg) b.asks in
    let unit : a.unit ≡ b.unit = one_unit a.resv.ask a.unit b.unit a.asks asks (a.at ∙ sym b.at) in
    let listed = fixed_told a.resv.ask a.unit x a.style a.asks a.at in
    let mine : v.senders ≡ only x = subst (λ (z : Option Names). AsksFor z v.senders) listed a.names in
    let theirs : c.senders ≡ only x = subst (λ (z : Option Names). AsksFor z c.senders) (ap (λ (z : AskedUnit). z.names) (sym unit) ∙ listed) b.names in
    same_part v c (mine ∙ sym theirs) (a.flow ∙ ap (λ (z : AskedUnit). z.flow) unit ∙ sym b.flow)

-- whoever a sound part names sends, and its tree has the hop
sound_of : (w : World) (s : Session) (e : ℕ) (next : Addr) (un : UnitOf) (p : Part) (sound : IsSoundPart Fixed w s e next un p) (x : Sender) → has p.senders x ≡ true
    → In x (live (locals_of w) s) × In sound.hop (tree w.net.hops s.group x.addr)
sound_of w s e next un p sound x h =
    let up = part_at_most_told p sound.wanted sound.below in
    let a = name_told Fixed w.net (locals_of w) s (sound.hop ∷ []) x (want_names Fixed w.net (locals_of w) s sound.hop un sound.wanted sound.is x (up.names x h)) in
    let is : x ≡ a.0 = a.3 in (
      subst (λ (z : Sender). In z (live (locals_of w) s)) (sym is) a.1,
      subst (λ (z : Sender). In sound.hop (tree w.net.hops s.group z.addr)) (sym is) (has_hop_in (tree w.net.hops s.group a.0.addr) sound.hop (and_both _ _ a.2).0),
    )

-- ---- a Resv in flight, which a node sent back to a previous hop, with what goes there
module _ (q : ℕ) (s : Session) (w : World) (r : IsReserving q s w) (z : Item) (flies : In z w.flight) (resv : ResvMsg) (spelt : z.arrival ≡ Spelt (message.Resv resv)) (of : resv.session ≡ s)
    (n : ℕ) (hop : NextHop) (h : LinkHop) (previous : IsPrevious w.net n s hop h) (dst : z.dst ≡ hop.1) (by : resv.hop.addr ≡ own (config_of q w.net w.trees n) hop.0)
    (table : PartTable) (are : ArePartsOf Fixed table) (whole : ask_of Fixed table ≡ Some resv.ask) where
  inside : (h.from < length w.net.ends) × (h.to < length w.net.ends)
  inside = ends_there w.net r.paths.bounds.net s.group h previous.there

  pub asks_fixed : ask_style resv.ask ≡ Fixed
  asks_fixed = style_told Fixed table resv.ask whole

  -- it goes over the hop
  pub from : z.end ≡ h.from
  from = same_by_addr w.net r.paths.bounds.net z.end h.from (r.paths.bounds.flight z flies).end inside.0 (sym (r.addressed z resv flies spelt) ∙ dst ∙ sym previous.addr)

  pub to : resv.hop.addr ≡ addr_of w.net h.to
  to =
      let end : end_at w.net.ends n hop.0 ≡ Some h.to = (λ j. end_at w.net.ends (sym previous.node j) (sym previous.iface j)) ∙ (interfaces_are_ends w.net).end_of_iface h.to inside.1 in
      by ∙ own_end q w.net w.trees n hop.0 h.to end

  units_are : (b : AskedUnit) → In b (asked_units resv.ask) ↔ IsAskedOf table b
  units_are b = units_told Fixed table resv.ask b are whole

  -- what it says of a sender goes toward the hop
  pub says_goes : (x : Sender) (k : LinkHop) (d : Part) → In k (hops_of w.net.hops s.group) → SaysResv w.net (resv_key w.net (key_of s x k)) z d → (k ≡ h) × (get table (Of x) ≡ Some d)
  says_goes x k d there says =
      let one : Spelt (message.Resv says.resv) ≡ Spelt (message.Resv resv) = sym says.spelt ∙ spelt in
      let msg : says.resv ≡ resv = cc in
      let asks : In says.unit (asked_units resv.ask) = subst (λ (b : ResvMsg). In says.unit (asked_units b.ask)) msg says.asks in
      let t = (units_are says.unit).0 asks in
      let k_in = ends_there w.net r.paths.bounds.net s.group k there in
      let from_is : k.from ≡ h.from = sym says.end ∙ from in
      let to_is : k.to ≡ h.to = same_by_addr w.net r.paths.bounds.net k.to h.to k_in.1 inside.1 (sym says.hop ∙ ap (λ (b : ResvMsg). b.hop.addr) msg ∙ to) in
      let listed : AsksFor (Some t.part.senders) d.senders = subst (λ (b : Option Names). AsksFor b d.senders) t.names says.names in
      let part : t.part ≡ d = sym (same_part d t.part listed (says.flow ∙ t.flow)) in (
        (λ j. record { from = from_is j; to = to_is j }),
        ap (get table) (sym says.at) ∙ t.there ∙ ap Some part,
      )

  -- and what goes toward the hop it says
  module _ (x : Sender) (d : Part) (goes : get table (Of x) ≡ Some d) where
    abbrev pub unit_for : AskedUnit
    unit_for = record { unit = Of x; names = Some d.senders; flow = d.flow }

    pub asks_for : In unit_for (asked_units resv.ask)
    asks_for = (units_are unit_for).1 (record { part = d; there = goes; names = refl; flow = refl })

    abbrev pub goes_says : SaysResv w.net (resv_key w.net (key_of s x h)) z d
    goes_says = record {
      end = from;
      dst = r.addressed z resv flies spelt ∙ ap (addr_of w.net) from;
      resv = resv;
      spelt = spelt;
      session = of;
      style = asks_fixed;
      hop = to;
      unit = record { unit = Of x; names = Some d.senders; flow = d.flow };
      asks = asks_for;
      at = refl;
      names = refl;
      flow = refl;
    }

    -- the sender of it sends, and its tree has the hop
    pub lives : In x (live (locals_of w) s) × In h (tree w.net.hops s.group x.addr)
    lives =
        let k = r.sound.items z resv unit_for flies spelt asks_for in
        let sound : IsSoundPart Fixed w s z.end resv.hop.addr (Of x) (record { senders = k.names; flow = d.flow }) =
        subst (λ (b : StyleKind × Session). IsSoundPart b.0 w b.1 z.end resv.hop.addr (Of x) (record { senders = k.names; flow = d.flow })) (λ j. (asks_fixed j, of j)) k.sound in
        let same : d.senders ≡ k.names = of_some d.senders k.names k.named in
        let named : has k.names x ≡ true = subst (λ (b : Names). has b x ≡ true) same (fixed_name d x (are (Of x) d goes).0 (are (Of x) d goes).1) in
        let t = sound_of w s z.end resv.hop.addr (Of x) (record { senders = k.names; flow = d.flow }) sound x named in
        let sound_in = ends_there w.net r.paths.bounds.net s.group sound.hop sound.there in
        let from_is : sound.hop.from ≡ h.from = sound.from ∙ from in
        let to_is : sound.hop.to ≡ h.to = same_by_addr w.net r.paths.bounds.net sound.hop.to h.to sound_in.1 inside.1 (sound.to ∙ to) in
        (t.0, subst (λ (b : LinkHop). In b (tree w.net.hops s.group x.addr)) (λ j. record { from = from_is j; to = to_is j }) t.1)
