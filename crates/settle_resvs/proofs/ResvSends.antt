-- What a Resv says that a quiet step sends, and over which hop it goes.
use Rattle.std.proofs.Common.{◌≡◌, ℕ, ◌+◌, ◌*◌, List, Bool, true, Some, sym, ap, subst, ◌∙◌}
use Rattle.std.specs.Prelude.{slice_get}
use Rattle.rsvp_base.specs.declared.addr.Addr.{Addr}
use Rattle.rsvp_base.specs.declared.session.Sender.{Sender}
use Rattle.rsvp_base.specs.Members.{In}
use Rattle.rsvp_messages.specs.declared.message.Message.TheVariants as message
use Rattle.rsvp_messages.specs.declared.message.ResvMsg.{ResvMsg}
use Rattle.rsvp_messages.specs.Units.{ask_style}
use Rattle.tree_model.specs.Goals.{addr_of}
use Rattle.laws_steps.specs.ReservationLaws.{IsOfLane}
use Rattle.laws_steps.proofs.Hopward.{what_a_resv_sent_says}
use Rattle.laws_bounds.specs.FactLaws.{ComesBy}
use Rattle.router_rules.specs.Asking.{ask_of}
use Rattle.router_rules.specs.Facts.{Facts}
use Rattle.router_rules.specs.Inputs.{Spelt}
use Rattle.router_rules.specs.Known.{Lane}
use Rattle.router_rules.specs.NodeConfig.{NodeConfig}
use Rattle.router_rules.specs.Requests.{toward}
use Rattle.router_rules.specs.Rule.{Outcome}
use Rattle.tree_model.specs.declared.hops.LinkHop.{LinkHop}
use Rattle.tree_model.specs.Networks.{Net, end_at, peers}
use Rattle.tree_model.proofs.Ifaces.{interfaces_are_ends}
use Rattle.network_model.specs.Bounds.{AreBounds}
use Rattle.network_model.specs.Links.{goes_to}
use Rattle.network_model.specs.Sound.{ArePathsSound}
use Rattle.network_model.specs.Steps.{Step, is_quiet, ms_of, outcome, sent, step}
use Rattle.network_model.specs.Worlds.{Item, World, config_of}
use Rattle.network_model.proofs.Stepping.{facts_after_made}
use Rattle.laws_network.proofs.Sends.{goes_to_end, goes_to_peers, sent_by_rule}
use Rattle.laws_network.proofs.Standing.{own_end, peer_there, same_end}
use Rattle.settle_paths.specs.PreviousHops.{IsPrevious, IsAhead}
use Rattle.settle_paths.proofs.PreviousHops.{ahead, ends_there, same_by_addr}
use Rattle.router_rules.specs.Steps.{node_step}

-- ---- a Resv in flight that a node sent in the step: it says what goes toward a previous hop of the node after the step
pub record IsResvSent (q : ℕ) (net : Net) (trees : List (Addr × Addr)) (u' : World) (y : Item) (m : ResvMsg) : Type 0 where
  pub node : ℕ
  pub facts : Facts
  pub after : slice_get u'.nodes node ≡ Some facts
  pub lane : Lane
  pub by : (x : Sender) × ComesBy facts lane.session lane.hop x
  pub asks : ask_of lane.style (toward (config_of q net trees node) facts lane) ≡ Some m.ask
  pub style : ask_style m.ask ≡ lane.style
  pub session : m.session ≡ lane.session
  pub end : ℕ
  pub at : end_at net.ends node lane.hop.0 ≡ Some end
  pub hop : m.hop.addr ≡ addr_of net end
  pub goes : In y.end (goes_to net (Some end) lane.hop.1)
  pub to : In y.end (peers net.links end)
  pub dst : y.dst ≡ lane.hop.1
  pub period : m.period ≡ 4 * q

pub resv_sent : (q : ℕ) (s : Step) (u : World) → is_quiet s ≡ true → AreBounds q u → (y : Item) (b : Bool) (m : ResvMsg) → In (y, b) (sent q s u) → y.arrival ≡ Spelt (message.Resv m)
    → IsResvSent q u.net u.trees (step q s u) y m
resv_sent q s u quiet bounds y b m i spelt =
    let r = sent_by_rule q s u y b (message.Resv m) quiet i spelt in
    let p : NodeConfig = config_of q u.net u.trees r.node in
    let after : Facts = (outcome q s u r.node r.facts).facts in
    let o : IsOfLane p after r.send m =
    subst (λ (z : Outcome). IsOfLane p z.facts r.send m) (sym r.by.is) (what_a_resv_sent_says.says (node_step p p u.clock (u.clock + ms_of s) r.by.input r.facts)
    (bounds.facts r.node r.facts r.there) r.send m r.sent r.says) in
    let e = goes_to_end u.net (end_at u.net.ends r.node r.send.iface) r.send.dst y.end r.to in
    let at : end_at u.net.ends r.node o.lane.hop.0 ≡ Some e.0 = ap (end_at u.net.ends r.node) (sym o.iface) ∙ e.1 in
    record {
      node = r.node;
      facts = after;
      after = facts_after_made q s u r.node r.facts r.there;
      lane = o.lane;
      by = o.by;
      asks = o.asks;
      style = o.style;
      session = o.session;
      end = e.0;
      at = at;
      hop = o.from ∙ own_end q u.net u.trees r.node o.lane.hop.0 e.0 at;
      goes = subst (λ (z : Addr). In y.end (goes_to u.net (Some e.0) z)) o.dst (subst (λ z. In y.end (goes_to u.net z r.send.dst)) e.1 r.to);
      to = goes_to_peers u.net (end_at u.net.ends r.node r.send.iface) e.0 r.send.dst y.end e.1 r.to;
      dst = r.dst ∙ o.dst;
      period = o.period;
    }

-- ---- its hop, where it comes to the end whose address it is sent to
module _ (q : ℕ) (w : World) (bounds : AreBounds q w) (paths : ArePathsSound w) (y : Item) (m : ResvMsg) (p : IsResvSent q w.net w.trees w y m) where
  way : IsAhead w p.node p.lane.session p.lane.hop p.by.0
  way = ahead w p.node p.facts paths p.after p.lane.session p.lane.hop p.by.0 p.by.1

  -- the hop goes out of the end to which it comes, into the end by which it left
  pub over_hop : y.dst ≡ addr_of w.net y.end → (h : LinkHop) × IsPrevious w.net p.node p.lane.session p.lane.hop h × (h.from ≡ y.end) × (h.to ≡ p.end)
  over_hop own =
      let h = way.way in
      let there = ends_there w.net bounds.net p.lane.session.group h way.previous.there in
      let of = (interfaces_are_ends w.net).iface_of_end p.node p.lane.hop.0 p.end p.at in (
        h,
        way.previous,
        same_by_addr w.net bounds.net h.from y.end there.0 (peer_there w.net bounds.net p.end y.end p.to) (way.previous.addr ∙ sym p.dst ∙ own),
        same_end w.net h.to p.end there.1 of.0 (way.previous.node ∙ sym of.1) (way.previous.iface ∙ sym of.2),
      )
