-- A Resv that a node has just sent: it goes back over a hop, and asks for what goes toward the hop.
use Rattle.std.proofs.Common.{◌≡◌, ℕ, ◌<◌, length, true, false, Option, Some, sym, refl, ap, subst, ◌∙◌}
use Rattle.std.specs.Prelude.{slice_get}
use Rattle.rsvp_base.specs.declared.addr.Addr.{Addr}
use Rattle.rsvp_base.specs.declared.part.Part.{Part}
use Rattle.rsvp_base.specs.declared.session.Sender.{Sender}
use Rattle.rsvp_base.specs.declared.session.Session.{Session}
use Rattle.rsvp_base.specs.declared.style.StyleKind.{StyleKind}
use Rattle.rsvp_base.specs.Members.{In}
use Rattle.rsvp_base.specs.Orders.{Names as NameSet}
use Rattle.rsvp_base.specs.Styles.{name_of}
use Rattle.rsvp_base.specs.Table.{get, has}
use Rattle.rsvp_base.specs.TokenBucket.{TokenBucket}
use Rattle.router_rules.specs.RsvpMessages.declared.message.Message.TheVariants as message
use Rattle.router_rules.specs.RsvpMessages.declared.message.ResvMsg.{ResvMsg}
use Rattle.router_rules.specs.RsvpMessages.Units.{AskedUnit, ask_style, asked_units}
use Rattle.router_rules.specs.Lines.{LineKey}
use Rattle.laws_bounds.specs.SendLaws.{IsAskedOf}
use Rattle.laws_bounds.proofs.Asks.{units_told}
use Rattle.laws_bounds.proofs.Knowing.{known_and_via}
use Rattle.router_rules.specs.Facts.{Facts, ResvState, resvs_of}
use Rattle.router_rules.specs.Inputs.{Spelt}
use Rattle.router_rules.specs.Known.{names_via}
use Rattle.router_rules.specs.NodeConfig.{NodeConfig}
use Rattle.router_rules.specs.Requests.{toward}
use Rattle.tree_model.specs.declared.hops.End.{End}
use Rattle.tree_model.specs.declared.hops.LinkHop.{LinkHop}
use Rattle.tree_model.specs.Goals.{addr_of, addr_of_end}
use Rattle.tree_model.specs.Networks.{iface_of, node_of, peers}
use Rattle.tree_model.specs.Ranks.{rank}
use Rattle.tree_model.specs.Trees.{hops_of, tree}
use Rattle.tree_model.proofs.Ifaces.{interfaces_are_ends}
use Rattle.tree_model.proofs.Links.{hop_linked, peers_both}
use Rattle.tree_model.proofs.TreeLaws.{out_tested}
use Rattle.network_model.specs.Bounds.{AreBounds}
use Rattle.network_model.specs.Links.{is_group}
use Rattle.network_model.specs.Sound.{ArePathsSound, IsSoundPart, IsSoundResv, IsSoundUnit}
use Rattle.network_model.specs.Worlds.{Item, World, config_of}
use Rattle.network_model.proofs.Changing.{where_a_send_goes}
use Rattle.laws_network.proofs.Known.{of_some}
use Rattle.laws_network.proofs.Standing.{peer_there, same_end, some_at}
use Rattle.settle_paths.specs.PreviousHops.{IsPrevious}
use Rattle.settle_paths.proofs.PreviousHops.{ahead, ends_there, one_previous, same_by_addr}
use Rattle.settle_resvs.specs.Said.{HopKey, IsOver, hop_over, lane_of, resv_key}
use Rattle.settle_resvs.specs.SoftResvs.{AsksFor, SaysResv}
use Rattle.settle_resvs.proofs.ResvSends.{IsResvSent}
use Rattle.settle_resvs.proofs.TowardNames.{parts_of_style, toward_names}
use Rattle.settle_resvs.proofs.TowardWants.{toward_is_at_most_the_want}
use Rattle.settle_passes.specs.Passes.{Knows}
use Rattle.settle_passes.proofs.SoundParts.{named_below}
use Rattle.settle_senders.specs.Following.{ArePathsFromKnown, HasSenderNamed}
use Rattle.settle_openings.specs.Opening.{GoesOn, Names}

module _ (q : ℕ) (w : World) (bounds : AreBounds q w) (sound : ArePathsSound w) (y : Item) (m : ResvMsg) (p : IsResvSent q w.net w.trees w y m) where
  abbrev here : NodeConfig
  here = config_of q w.net w.trees p.node

  host : (e : ℕ) → e < length w.net.ends → is_group (addr_of w.net e) ≡ false
  host e lt = let x = some_at w.net.ends e lt in ap (λ (z : Option End). is_group (addr_of_end z)) x.1 ∙ bounds.hosts e x.0 x.1

  -- it goes back over a hop of its group, to the end whose address it is sent to
  pub back_over : (h : LinkHop) × IsPrevious w.net p.node p.lane.session p.lane.hop h × (h.from ≡ y.end) × (h.to ≡ p.end) × (y.dst ≡ addr_of w.net y.end)
  back_over =
      let a = ahead w p.node p.facts sound p.after p.lane.session p.lane.hop p.by.0 p.by.1 in
      let h = a.way in
      let there = ends_there w.net bounds.net p.lane.session.group h a.previous.there in
      let of = (interfaces_are_ends w.net).iface_of_end p.node p.lane.hop.0 p.end p.at in
      let to : h.to ≡ p.end = same_end w.net h.to p.end there.1 of.0 (a.previous.node ∙ sym of.1) (a.previous.iface ∙ sym of.2) in
      let linked : In h.to (peers w.net.links h.from) = hop_linked w.net bounds.net p.lane.session.group p.by.0.addr h a.there in
      let back : In h.from (peers w.net.links p.end) = subst (λ (z : ℕ). In h.from (peers w.net.links z)) to (peers_both w.net bounds.net h.from h.to linked) in
      let group : is_group p.lane.hop.1 ≡ false = subst (λ (z : Addr). is_group z ≡ false) a.previous.addr (host h.from there.0) in
      let dst : y.dst ≡ addr_of w.net y.end = p.dst ∙ sym (((where_a_send_goes w.net p.end p.lane.hop.1).one group h.from back a.previous.addr y.end).0 p.goes).1 in
      let from : h.from ≡ y.end = same_by_addr w.net bounds.net h.from y.end there.0 (peer_there w.net bounds.net p.end y.end p.to) (a.previous.addr ∙ sym p.dst ∙ dst) in
      (h, a.previous, from, to, dst)

  asked_of : (v : AskedUnit) → In v (asked_units m.ask) → IsAskedOf (toward here p.facts p.lane) v
  asked_of v asks =
      (units_told p.lane.style (toward here p.facts p.lane) m.ask v (parts_of_style here w.clock p.facts (bounds.facts p.node p.facts p.after) p.lane) p.asks).0 asks

  -- each unit of it is sound, where what nodes keep is
  pub unit_is_sound : ((st : StyleKind) (n : ℕ) (f : Facts) (k : LineKey) (r : ResvState) → slice_get w.nodes n ≡ Some f → get (resvs_of st f) k ≡ Some r → IsSoundResv st w n k r)
      → (v : AskedUnit) → In v (asked_units m.ask) → IsSoundUnit w y m v
  unit_is_sound facts v asks =
      let h = back_over in
      let asked = asked_of v asks in
      let x = toward_is_at_most_the_want q w bounds sound p.node p.facts p.after p.lane h.0 h.1
      (named_below w facts p.lane.style p.node p.facts p.lane.session (rank w.net p.lane.session.group h.0) p.after) v.unit asked.part asked.there in
      record {
        names = asked.part.senders;
        named = asked.names;
        sound = subst (λ (z : StyleKind × Session × ℕ × Addr × TokenBucket). IsSoundPart z.0 w z.1 z.2 z.3 v.unit (record { senders = asked.part.senders; flow = z.4 }))
            (λ j. (sym p.style j, sym p.session j, h.2 j, (ap (addr_of w.net) h.3 ∙ sym p.hop) j, sym asked.flow j)) x;
      }

  -- each name of it is known where it goes
  pub name_is_known : ArePathsFromKnown w → (v : AskedUnit) (names : NameSet) (x : Sender) → In v (asked_units m.ask) → v.names ≡ Some names → has names x ≡ true
      → HasSenderNamed w y.end m.session (ask_style m.ask) x
  name_is_known from_known v names x asks named there =
      let h = back_over in
      let within = bounds.facts p.node p.facts p.after in
      let asked = asked_of v asks in
      let same : names ≡ asked.part.senders = of_some names asked.part.senders (sym named ∙ asked.names) in
      let via : has (names_via p.facts p.lane) x ≡ true =
      (toward_names here w.clock p.facts within p.lane v.unit asked.part asked.there).1 x (ap (λ (z : NameSet). has z x) (sym same) ∙ there) in
      let a = (known_and_via.all_by p.facts p.lane x).0 via in
      let comes = (known_and_via.via_by p.facts p.lane.session p.lane.hop a.sender).0 a.among in
      let z = ahead w p.node p.facts sound p.after p.lane.session p.lane.hop a.sender comes in
      let over : z.way ≡ h.0 = one_previous w.net bounds.net p.node p.lane.session p.lane.hop z.way h.0 z.previous h.1 in
      let from : z.way.from ≡ y.end = ap (λ (d : LinkHop). d.from) over ∙ h.2 in
      let knows : Knows w (node_of w.net.ends z.way.from) (p.lane.session, a.sender) =
      from_known.facts p.node p.facts (p.lane.session, a.sender) comes.path z.way p.after comes.there z.there z.previous.node in
      record {
        sender = a.sender;
        knows = subst (λ (d : ℕ × Session). Knows w (node_of w.net.ends d.0) (d.1, a.sender)) (λ j. (from j, sym p.session j)) knows;
        leaves = out_tested w.net (node_of w.net.ends y.end) y.end m.session.group a.sender.addr
            (z.way, subst (λ (d : Session). In z.way (tree w.net.hops d.group a.sender.addr)) (sym p.session) z.there, from, refl);
        name = a.name ∙ ap (λ (d : StyleKind). name_of d a.sender) (sym p.style);
      }

  -- ---- a hop over which it goes
  module _ (k : HopKey) (there : In (hop_over k) (hops_of w.net.hops k.session.group)) where
    abbrev asker : ℕ
    asker = node_of w.net.ends k.from

    same_lane : IsOver w.net k y m.session m.hop.addr (ask_style m.ask) → (p.node ≡ asker) × (p.lane ≡ lane_of w.net k)
    same_lane o =
        let x = back_over in
        let inside = ends_there w.net bounds.net k.session.group (hop_over k) there in
        let of = (interfaces_are_ends w.net).iface_of_end p.node p.lane.hop.0 p.end p.at in
        let end : p.end ≡ k.from = same_by_addr w.net bounds.net p.end k.from of.0 inside.1 (sym p.hop ∙ o.from) in
        let session : p.lane.session ≡ k.session = sym p.session ∙ o.session in
        let style : p.lane.style ≡ k.style = sym p.style ∙ o.style in
        let from : x.0.from ≡ k.to = x.2 ∙ o.end in
        let to : x.0.to ≡ k.from = x.3 ∙ end in
        let iface : p.lane.hop.0 ≡ iface_of w.net.ends k.from = sym x.1.iface ∙ ap (iface_of w.net.ends) to in
        let addr : p.lane.hop.1 ≡ addr_of w.net k.to = sym x.1.addr ∙ ap (addr_of w.net) from in
        (sym x.1.node ∙ ap (node_of w.net.ends) to, λ i. record { session = session i; style = style i; hop = (iface i, addr i) })

    -- it asks for what goes toward the hop
    pub asks_for : (g : Facts) → slice_get w.nodes asker ≡ Some g → (v : Part) → get (toward (config_of q w.net w.trees asker) g (lane_of w.net k)) k.unit ≡ Some v
        → y.arrival ≡ Spelt (message.Resv m) → IsOver w.net k y m.session m.hop.addr (ask_style m.ask) → SaysResv w.net (resv_key w.net k) y v
    asks_for g at v goes spelt o =
        let same = same_lane o in
        let facts : p.facts ≡ g = of_some p.facts g (sym p.after ∙ ap (λ (z : ℕ). slice_get w.nodes z) same.0 ∙ at) in
        let unit : AskedUnit = record { unit = k.unit; names = Some v.senders; flow = v.flow } in
        let asked : IsAskedOf (toward here p.facts p.lane) unit =
        record { part = v; there = (λ j. get (toward (config_of q w.net w.trees (same.0 j)) (facts j) (same.1 j)) k.unit) ∙ goes; names = refl; flow = refl } in
        let asks = (units_told p.lane.style (toward here p.facts p.lane) m.ask unit (parts_of_style here w.clock p.facts (bounds.facts p.node p.facts p.after) p.lane) p.asks).1 asked in
        record {
          end = o.end;
          dst = back_over.4 ∙ ap (addr_of w.net) o.end;
          resv = m;
          spelt = spelt;
          session = o.session;
          style = o.style;
          hop = o.from;
          unit = unit;
          asks = asks;
          at = refl;
          names = refl;
          flow = refl;
        }

    -- and so for each name that goes on
    pub names_what_goes : (x : Sender) → GoesOn q w k x → y.arrival ≡ Spelt (message.Resv m) → IsOver w.net k y m.session m.hop.addr (ask_style m.ask) → Names w.net k x y
    names_what_goes x on spelt o = (on.part, asks_for on.facts on.there on.part on.goes spelt o, on.named)

    -- and what it asks for goes toward the hop
    pub goes_what_it_names : (x : Sender) → y.arrival ≡ Spelt (message.Resv m) → Names w.net k x y → GoesOn q w k x
    goes_what_it_names x spelt n =
        let says = n.1 in
        let both : Spelt (message.Resv m) ≡ Spelt (message.Resv says.resv) = sym spelt ∙ says.spelt in
        let is : says.resv ≡ m = (let z : m ≡ says.resv = cc in sym z) in
        let o : IsOver w.net k y m.session m.hop.addr (ask_style m.ask) =
        record {
          end = says.end;
          session = ap (λ (z : ResvMsg). z.session) (sym is) ∙ says.session;
          from = ap (λ (z : ResvMsg). z.hop.addr) (sym is) ∙ says.hop;
          style = ap (λ (z : ResvMsg). ask_style z.ask) (sym is) ∙ says.style;
        } in
        let same = same_lane o in
        let asked = asked_of says.unit (subst (λ (z : ResvMsg). In says.unit (asked_units z.ask)) is says.asks) in
        let listed : AsksFor (Some asked.part.senders) n.0.senders = subst (λ (z : Option NameSet). AsksFor z n.0.senders) asked.names says.names in
        record {
          facts = p.facts;
          there = ap (λ (z : ℕ). slice_get w.nodes z) (sym same.0) ∙ p.after;
          part = asked.part;
          goes = (λ j. get (toward (config_of q w.net w.trees (sym same.0 j)) p.facts (sym same.1 j)) (sym says.at j)) ∙ asked.there;
          named = ap (λ (z : NameSet). has z x) (sym listed) ∙ n.2;
        }
