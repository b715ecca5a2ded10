-- What a Path says that a quiet step sends, and a PathTear.
use Rattle.std.proofs.Common.{◌≡◌, ℕ, ◌+◌, ◌*◌, length, Bool, true, false, Some, ◌⊎◌, inl, inr, ⊎_elim, sym, ap, subst, ◌∙◌}
use Rattle.std.specs.Prelude.{slice_get}
use Rattle.std.proofs.lemmas.Bool.{lt-ltb}
use Rattle.rsvp_base.specs.declared.session.Sender.{Sender}
use Rattle.rsvp_base.specs.declared.session.Session.{Session}
use Rattle.rsvp_base.specs.Members.{In}
use Rattle.rsvp_base.specs.Table.{get, has}
use Rattle.rsvp_base.specs.TokenBucket.{TokenBucket}
use Rattle.rsvp_base.proofs.SetLaws.{and_made}
use Rattle.rsvp_messages.specs.declared.message.Message.TheVariants as message
use Rattle.rsvp_messages.specs.declared.message.PathMsg.{PathMsg}
use Rattle.rsvp_messages.specs.declared.message.PathTearMsg.{PathTearMsg}
use Rattle.tree_model.specs.Goals.{addr_of}
use Rattle.laws_network.specs.Sources.{IsLocalOffer, IsPathOffer}
use Rattle.laws_network.specs.SpeakingLaws.{IsOfOffer, IsOfGoneOffer}
use Rattle.laws_network.proofs.Speaking.{what_a_path_sent_says, why_a_path_tear_is_sent}
use Rattle.laws_bounds.specs.FactLaws.{is_way}
use Rattle.router_rules.specs.Facts.{Facts, PathState}
use Rattle.router_rules.specs.Inputs.{Spelt}
use Rattle.router_rules.specs.Known.{known}
use Rattle.router_rules.specs.NodeConfig.{NodeConfig}
use Rattle.router_rules.specs.Rule.{Outcome}
use Rattle.tree_model.specs.Networks.{Net, node_of, end_at, peers}
use Rattle.tree_model.specs.Trees.{outward}
use Rattle.network_model.specs.Bounds.{AreBounds}
use Rattle.network_model.specs.Steps.{Step, is_quiet, ms_of, outcome, sent, step}
use Rattle.network_model.specs.Worlds.{Item, World, config_of}
use Rattle.network_model.proofs.Stepping.{facts_after_made}
use Rattle.laws_network.proofs.Sends.{goes_to_peers, sent_by_rule}
use Rattle.laws_network.proofs.Standing.{own_end, way_out}
use Rattle.router_rules.specs.Steps.{node_step}

-- ---- a Path in flight that a node sent in the step
-- the node knows the sender after the step, and sends by an end by which the sender's tree leaves
pub record IsPathSent (q : ℕ) (net : Net) (u' : World) (y : Item) (m : PathMsg) : Type 0 where
  pub node : ℕ
  pub facts : Facts
  pub after : slice_get u'.nodes node ≡ Some facts
  pub sender : Sender
  pub tspec : TokenBucket
  pub of : m.sender ≡ Some (sender, tspec)
  pub source : (get facts.senders (m.session, sender) ≡ Some tspec) ⊎ ((x : PathState) × (get facts.paths (m.session, sender) ≡ Some x) × (tspec ≡ x.tspec))
  pub end : ℕ
  pub at : node_of net.ends end ≡ node
  pub leaves : In end (outward net node m.session.group sender.addr)
  pub hop : m.hop.addr ≡ addr_of net end
  pub to : In y.end (peers net.links end)
  pub dst : y.dst ≡ m.session.group
  pub period : m.period ≡ 4 * q

pub path_sent : (q : ℕ) (s : Step) (u : World) → is_quiet s ≡ true → AreBounds q u → (y : Item) (b : Bool) (m : PathMsg) → In (y, b) (sent q s u) → y.arrival ≡ Spelt (message.Path m)
    → IsPathSent q u.net (step q s u) y m
path_sent q s u quiet bounds y b m i spelt =
    let r = sent_by_rule q s u y b (message.Path m) quiet i spelt in
    let p : NodeConfig = config_of q u.net u.trees r.node in
    let after : Facts = (outcome q s u r.node r.facts).facts in
    let o : IsOfOffer p after r.send m =
    subst (λ (z : Outcome). IsOfOffer p z.facts r.send m) (sym r.by.is) (what_a_path_sent_says.says (node_step p p u.clock (u.clock + ms_of s) r.by.input r.facts)
    (bounds.facts r.node r.facts r.there) r.send m r.sent r.says) in
    let e = way_out q u.net u.trees r.node bounds.net o.key.session o.key.iface o.key.sender o.there o.way in
    let session : m.session ≡ o.key.session = ap (λ (z : PathMsg). z.session) o.is in
    record {
      node = r.node;
      facts = after;
      after = facts_after_made q s u r.node r.facts r.there;
      sender = o.key.sender;
      tspec = o.offer.tspec;
      of = ap (λ (z : PathMsg). z.sender) o.is;
      source = ⊎_elim
          (λ (l : IsLocalOffer after o.key o.offer). inl (ap (λ (z : Session). get after.senders (z, o.key.sender)) session ∙ l.there))
          (λ (l : IsPathOffer after o.key o.offer). inr (l.path, ap (λ (z : Session). get after.paths (z, o.key.sender)) session ∙ l.there, l.tspec)) o.source;
      end = e.0;
      at = e.2;
      leaves = subst (λ (z : Session). In e.0 (outward u.net r.node z.group o.key.sender.addr)) (sym session) e.3;
      hop = ap (λ (z : PathMsg). z.hop.addr) o.is ∙ own_end q u.net u.trees r.node o.key.iface e.0 e.1;
      to = goes_to_peers u.net (end_at u.net.ends r.node r.send.iface) e.0 r.send.dst y.end (ap (end_at u.net.ends r.node) o.iface ∙ e.1) r.to;
      dst = r.dst ∙ o.dst ∙ ap (λ (z : Session). z.group) (sym session);
      period = ap (λ (z : PathMsg). z.period) o.is;
    }

-- ---- a PathTear in flight that a node sent in the step: the sender's tree leaves by its end, and the node knows it no more
pub record IsTearSent (net : Net) (u' : World) (y : Item) (m : PathTearMsg) : Type 0 where
  pub node : ℕ
  pub facts : Facts
  pub after : slice_get u'.nodes node ≡ Some facts
  pub sender : Sender
  pub of : m.sender ≡ Some sender
  pub gone : has (known facts m.session) sender ≡ false
  pub end : ℕ
  pub at : node_of net.ends end ≡ node
  pub leaves : In end (outward net node m.session.group sender.addr)
  pub to : In y.end (peers net.links end)

pub tear_sent : (q : ℕ) (s : Step) (u : World) → is_quiet s ≡ true → AreBounds q u → (y : Item) (b : Bool) (m : PathTearMsg) → In (y, b) (sent q s u) → y.arrival ≡ Spelt (message.PathTear m)
    → IsTearSent u.net (step q s u) y m
tear_sent q s u quiet bounds y b m i spelt =
    let r = sent_by_rule q s u y b (message.PathTear m) quiet i spelt in
    let p : NodeConfig = config_of q u.net u.trees r.node in
    let after : Facts = (outcome q s u r.node r.facts).facts in
    let o : IsOfGoneOffer p p r.facts after r.send m =
    subst (λ (z : Outcome). IsOfGoneOffer p p r.facts z.facts r.send m) (sym r.by.is) (why_a_path_tear_is_sent (node_step p p u.clock (u.clock + ms_of s) r.by.input r.facts)
    (bounds.facts r.node r.facts r.there) r.send m r.sent r.says) in
    let e = way_out q u.net u.trees r.node bounds.net o.key.session o.key.iface o.key.sender o.there o.way in
    let session : m.session ≡ o.key.session = ap (λ (z : PathTearMsg). z.session) o.is in
    record {
      node = r.node;
      facts = after;
      after = facts_after_made q s u r.node r.facts r.there;
      sender = o.key.sender;
      of = ap (λ (z : PathTearMsg). z.sender) o.is;
      gone = ⊎_elim
          (λ (none : is_way p o.key ≡ false). let way : is_way p o.key ≡ true = and_made _ _ (lt-ltb o.key.iface (length p.ifaces) o.there) o.way in let bad : true ≡ false = sym way ∙ none in
          absurd (cc))
          (λ (g : has (known after o.key.session) o.key.sender ≡ false). ap (λ (z : Session). has (known after z) o.key.sender) session ∙ g) o.gone;
      end = e.0;
      at = e.2;
      leaves = subst (λ (z : Session). In e.0 (outward u.net r.node z.group o.key.sender.addr)) (sym session) e.3;
      to = goes_to_peers u.net (end_at u.net.ends r.node r.send.iface) e.0 r.send.dst y.end (ap (end_at u.net.ends r.node) o.iface ∙ e.1) r.to;
    }
