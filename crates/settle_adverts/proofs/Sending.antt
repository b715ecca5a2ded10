-- What a Path tells that a quiet step sends: its node begins or passes on, by the end by which the Path leaves.
use Rattle.std.proofs.Common.{◌≡◌, ℕ, ◌+◌, Option, None, Some, ◌⊎◌, inl, inr, ⊎_elim, true, sym, refl, ap, subst, ◌∙◌}
use Rattle.std.specs.Prelude.{slice_get}
use Rattle.rsvp_base.specs.declared.iface.Iface.{Iface}
use Rattle.rsvp_base.specs.declared.session.Sender.{Sender}
use Rattle.rsvp_base.specs.declared.session.Session.{Session}
use Rattle.rsvp_base.specs.Members.{In}
use Rattle.rsvp_base.specs.Table.{get, has}
use Rattle.rsvp_base.specs.TokenBucket.{TokenBucket}
use Rattle.rsvp_messages.specs.declared.message.Message.TheVariants as message
use Rattle.rsvp_messages.specs.declared.message.PathMsg.{PathMsg}
use Rattle.router_rules.specs.Facts.{Facts, PathState}
use Rattle.router_rules.specs.Inputs.{Spelt}
use Rattle.router_rules.specs.NodeConfig.{NodeConfig}
use Rattle.router_rules.specs.Offers.{advert_by, advert_of, own_advert}
use Rattle.router_rules.specs.Rule.{Outcome}
use Rattle.router_rules.specs.Steps.{node_step}
use Rattle.tree_model.specs.declared.hops.End.{End}
use Rattle.tree_model.specs.Networks.{Net, end_at, node_of, peers}
use Rattle.tree_model.specs.Trees.{outward}
use Rattle.network_model.specs.Bounds.{AreBounds}
use Rattle.network_model.specs.Steps.{Step, is_quiet, ms_of, outcome, sent, step}
use Rattle.network_model.specs.Worlds.{Item, World, config_of}
use Rattle.network_model.proofs.Stepping.{facts_after_made}
use Rattle.laws_network.specs.Sources.{IsLocalOffer, IsPathOffer}
use Rattle.laws_network.specs.SpeakingLaws.{IsOfOffer}
use Rattle.laws_network.proofs.Sends.{goes_to_peers, sent_by_rule}
use Rattle.laws_network.proofs.Speaking.{what_a_path_sent_says}
use Rattle.laws_network.proofs.Standing.{own_iface, way_out}

-- ---- of a local sender the ADSPEC begins where it is advertised; of another one that of its path goes on
abbrev pub IsBegun : End → Facts → Sender → TokenBucket → PathMsg → Type 0
IsBegun on f x t m = (get f.senders (m.session, x) ≡ Some t) × (m.adspec ≡ advert_by (Some on.iface) (own_advert (has f.advertised (m.session, x))))

abbrev pub IsPassed : End → Facts → Sender → PathMsg → Type 0
IsPassed on f x m = (path : PathState) × (get f.paths (m.session, x) ≡ Some path) × (m.adspec ≡ advert_by (Some on.iface) (advert_of path.adspec))

-- ---- the node that sends the Path, and the end by which it leaves
pub record IsAdspecSent (net : Net) (u' : World) (y : Item) (m : PathMsg) : Type 0 where
  pub node : ℕ
  pub facts : Facts
  pub after : slice_get u'.nodes node ≡ Some facts
  pub sender : Sender
  pub tspec : TokenBucket
  pub of : m.sender ≡ Some (sender, tspec)
  pub end : ℕ
  pub on : End
  pub is : slice_get net.ends end ≡ Some on
  pub at : node_of net.ends end ≡ node
  pub leaves : In end (outward net node m.session.group sender.addr)
  pub to : In y.end (peers net.links end)
  pub source : IsBegun on facts sender tspec m ⊎ IsPassed on facts sender m

pub adspec_sent : (q : ℕ) (s : Step) (u : World) → is_quiet s ≡ true → AreBounds q u → (y : Item) (mark : _) (m : PathMsg) → In (y, mark) (sent q s u) → y.arrival ≡ Spelt (message.Path m)
    → IsAdspecSent u.net (step q s u) y m
adspec_sent q s u quiet bounds y mark m i spelt =
    let r = sent_by_rule q s u y mark (message.Path m) quiet i spelt in
    let p : NodeConfig = config_of q u.net u.trees r.node in
    let after : Facts = (outcome q s u r.node r.facts).facts in
    let o : IsOfOffer p after r.send m =
    subst (λ (z : Outcome). IsOfOffer p z.facts r.send m) (sym r.by.is) (what_a_path_sent_says.says (node_step p p u.clock (u.clock + ms_of s) r.by.input r.facts)
    (bounds.facts r.node r.facts r.there) r.send m r.sent r.says) in
    let e = way_out q u.net u.trees r.node bounds.net o.key.session o.key.iface o.key.sender o.there o.way in
    let on = own_iface q u.net u.trees r.node o.key.iface e.0 e.1 in
    let session : m.session ≡ o.key.session = ap (λ (z : PathMsg). z.session) o.is in
    let tells : m.adspec ≡ advert_by (Some on.0.iface) o.offer.advert = ap (λ (z : PathMsg). z.adspec) o.is ∙ ap (λ (z : Option Iface). advert_by z o.offer.advert) on.2 in
    record {
      node = r.node;
      facts = after;
      after = facts_after_made q s u r.node r.facts r.there;
      sender = o.key.sender;
      tspec = o.offer.tspec;
      of = ap (λ (z : PathMsg). z.sender) o.is;
      end = e.0;
      on = on.0;
      is = on.1;
      at = e.2;
      leaves = subst (λ (z : Session). In e.0 (outward u.net r.node z.group o.key.sender.addr)) (sym session) e.3;
      to = goes_to_peers u.net (end_at u.net.ends r.node r.send.iface) e.0 r.send.dst y.end (ap (end_at u.net.ends r.node) o.iface ∙ e.1) r.to;
      source = ⊎_elim {C = IsBegun on.0 after o.key.sender o.offer.tspec m ⊎ IsPassed on.0 after o.key.sender m}
          (λ (l : IsLocalOffer after o.key o.offer).
          inl (
            ap (λ (z : Session). get after.senders (z, o.key.sender)) session ∙ l.there,
            tells ∙ ap (advert_by (Some on.0.iface)) l.advert ∙ ap (λ (z : Session). advert_by (Some on.0.iface) (own_advert (has after.advertised (z, o.key.sender)))) (sym session),
          ))
          (λ (l : IsPathOffer after o.key o.offer).
          inr (l.path, ap (λ (z : Session). get after.paths (z, o.key.sender)) session ∙ l.there, tells ∙ ap (advert_by (Some on.0.iface)) l.advert))
          o.source;
    }
