-- Each Resv of a session that arrives is taken whole, where the names that it lists are known.
use Rattle.std.proofs.Common.{◌≡◌, ℕ, List, true, Some, sym, refl, ap, subst, ◌∙◌}
use Rattle.std.specs.Prelude.{slice_get}
use Rattle.rsvp_base.specs.declared.addr.Addr.{Addr}
use Rattle.rsvp_base.specs.declared.session.Sender.{Sender}
use Rattle.rsvp_base.specs.declared.session.Session.{Session}
use Rattle.rsvp_base.specs.Members.{In}
use Rattle.rsvp_base.specs.Orders.{Names, senders}
use Rattle.rsvp_base.specs.Table.{has, kept}
use Rattle.rsvp_base.proofs.SetLaws.{and_made, has-kept}
use Rattle.rsvp_messages.specs.declared.message.Message.TheVariants as message
use Rattle.rsvp_messages.specs.declared.message.ResvMsg.{ResvMsg}
use Rattle.rsvp_messages.specs.Units.{AskedUnit, ask_style, asked_units}
use Rattle.style_rules.specs.PartLaws.{part_at_most_itself}
use Rattle.laws_bounds.proofs.Knowing.{known_and_via}
use Rattle.laws_steps.specs.AcceptingLaws.{IsTakenWhole}
use Rattle.router_rules.specs.Asking.{Asker, asker_of, matched}
use Rattle.router_rules.specs.Facts.{Facts}
use Rattle.router_rules.specs.Inputs.{Spelt}
use Rattle.router_rules.specs.Known.{known}
use Rattle.router_rules.specs.NodeConfig.{NodeConfig, goes_out}
use Rattle.tree_model.specs.declared.locals.LocalWant.{LocalWant}
use Rattle.tree_model.specs.Networks.{iface_of, node_of}
use Rattle.tree_model.specs.Wants.{Locals}
use Rattle.tree_model.proofs.Following.{in_tree}
use Rattle.tree_model.proofs.TreeLaws.{out_told}
use Rattle.network_model.specs.Bounds.{AreBounds}
use Rattle.network_model.specs.Locals.{locals_of}
use Rattle.network_model.specs.Sound.{AreResvsSound}
use Rattle.network_model.specs.Worlds.{Item, World, config_of}
use Rattle.laws_network.proofs.Known.{of_some}
use Rattle.laws_network.proofs.Standing.{goes_out_made}
use Rattle.settle_resvs.specs.GoalByIface.{goal_at}
use Rattle.settle_resvs.specs.Sessions.{SessionFits}
use Rattle.settle_resvs.proofs.SoundResvs.{part_again}
use Rattle.settle_passes.proofs.Growing.{HasNoLess}
use Rattle.settle_releases.proofs.Accepting.{AreResvsWithin, taken_as_matched}
use Rattle.settle_passes.proofs.Fitting.{as_before}
use Rattle.settle_senders.specs.Following.{AreNamesKnown, HasSenderNamed}

-- ---- where what nodes keep and ask for is within what was wanted before, which fitted
module _ (q : ℕ) (s : Session) (before : List Facts) (u : World) (bounds : AreBounds q u) (wanted : (x : LocalWant) → In x (locals_of u).wants → HasNoLess (locals_of (as_before before u)).wants x)
    (fit : SessionFits u.net (locals_of (as_before before u)) s) (within : AreResvsWithin before u) (y : Item) (m : ResvMsg) (i : In y u.flight) (spelt : y.arrival ≡ Spelt (message.Resv m))
    (of : m.session ≡ s) (f : Facts) (at : slice_get u.nodes (node_of u.net.ends y.end) ≡ Some f)
    (named : (v : AskedUnit) (ns : Names) (x : Sender) → In v (asked_units m.ask) → v.names ≡ Some ns → has ns x ≡ true → HasSenderNamed u y.end m.session (ask_style m.ask) x) where
  abbrev was : Locals
  was = locals_of (as_before before u)

  abbrev n : ℕ
  n = node_of u.net.ends y.end

  abbrev here : NodeConfig
  here = config_of q u.net u.trees n

  abbrev asks : Asker
  asks = asker_of here u.clock (iface_of u.net.ends y.end) m

  -- a name of a known sender whose tree goes out there matches
  matches : (x : Sender) → HasSenderNamed u y.end m.session (ask_style m.ask) x → has (matched here f asks) x ≡ true
  matches x h =
      let same : h.knows.facts ≡ f = of_some h.knows.facts f (sym h.knows.there ∙ at) in
      let knows : has (known f m.session) h.sender ≡ true = ap (λ (z : Facts). has (known z m.session) h.sender) (sym same) ∙ h.knows.known_one in
      let hop = out_told u.net n y.end m.session.group h.sender.addr h.leaves in
      let r = in_tree u.net.hops m.session.group h.sender.addr hop.0 hop.1 in
      let routed : In (m.session.group, h.sender.addr) u.trees = subst (λ (z : Addr × Addr). In z u.trees) (λ j. (r.2 j, r.3 j)) (bounds.routed r.0 r.1) in
      let out : goes_out here m.session (iface_of u.net.ends y.end) h.sender ≡ true = goes_out_made q u.net u.trees n m.session y.end h.sender routed h.leaves in
      (known_and_via.named_by (ask_style m.ask) (kept (goes_out here m.session (iface_of u.net.ends y.end)) (known f m.session)) x).1
      (record {
        sender = h.sender;
        among = has-kept senders (goes_out here m.session (iface_of u.net.ends y.end)) (known f m.session) h.sender ∙ and_made _ _ knows out;
        passes = refl;
        name = h.name;
      })

  pub taken_as_wanted : IsTakenWhole here here u.clock (iface_of u.net.ends y.end) m f (goal_at u.net was n)
  taken_as_wanted =
      taken_as_matched q s before u bounds wanted fit within y m i spelt of f at
      (λ v j x e. let z = within.items y m v i spelt j in matches x (named v z.names x j z.named e))

-- ---- where it is within what is wanted
itself_within : (u : World) → AreResvsSound u → AreResvsWithin u.nodes u
itself_within u sound = record {
  facts = λ st n f k r at h.
      let x = sound.facts st n f k r at h in
      record { end = x.end; at = x.at; sound = part_again st u (as_before u.nodes u) k.0 x.end k.1.0.1 k.1.1 r.part refl refl x.sound };
  items = λ y m v i spelt asks.
      let x = sound.items y m v i spelt asks in
      record {
        names = x.names;
        named = x.named;
        sound = part_again (ask_style m.ask) u (as_before u.nodes u) m.session y.end m.hop.addr v.unit (record { senders = x.names; flow = v.flow }) refl refl x.sound;
      };
}

pub taken_whole : (q : ℕ) (s : Session) (u : World) → AreBounds q u → SessionFits u.net (locals_of u) s → AreResvsSound u → AreNamesKnown u → (y : Item) (m : ResvMsg) → In y u.flight
    → y.arrival ≡ Spelt (message.Resv m) → m.session ≡ s → (f : Facts) → slice_get u.nodes (node_of u.net.ends y.end) ≡ Some f
    → IsTakenWhole (config_of q u.net u.trees (node_of u.net.ends y.end)) (config_of q u.net u.trees (node_of u.net.ends y.end)) u.clock (iface_of u.net.ends y.end) m f
    (goal_at u.net (locals_of u) (node_of u.net.ends y.end))
taken_whole q s u bounds fit sound names y m i spelt of f at =
    taken_as_wanted q s u.nodes u bounds (λ x j. record { want = x; among = j; node = refl; session = refl; style = refl; part = part_at_most_itself x.part }) fit
    (itself_within u sound) y m i spelt of f at (λ v ns x asks listed there. names.items y m v ns x i spelt asks listed there)
