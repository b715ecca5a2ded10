-- An ADSPEC is read so: where paths are there and no Path is in flight, each path keeps the advertisement of its way where what is offered is kept, and
-- the other way round.
use Rattle.std.proofs.Common.{◌≡◌, ℕ, List, [], ◌∷◌, ◌++◌, Bool, true, false, cond, Option, Some, None, sym, refl, ap, subst, ◌∙◌}
use Rattle.std.specs.Prelude.{slice_get}
use Rattle.std.specs.Option.{option_and_then, option_map}
use Rattle.rsvp_base.specs.Members.{In}
use Rattle.rsvp_base.specs.Sets.{Set}
use Rattle.rsvp_base.specs.Table.{has}
use Rattle.rsvp_base.proofs.SetLaws.{and_both}
use Rattle.rsvp_messages.specs.RsvpObjects.declared.adspec.Adspec.{Adspec}
use Rattle.rsvp_messages.specs.declared.message.Message.TheVariants as message
use Rattle.rsvp_messages.specs.declared.message.PathMsg.{PathMsg}
use Rattle.router_rules.specs.Facts.{Facts, SenderKey, sender_keys}
use Rattle.router_rules.specs.Inputs.{Spelt}
use Rattle.router_rules.specs.Offers.{advert_by, advert_of, own_advert}
use Rattle.router_rules.specs.Sends.{told_at}
use Rattle.tree_model.specs.declared.hops.End.{End}
use Rattle.tree_model.specs.declared.hops.LinkHop.{LinkHop}
use Rattle.tree_model.specs.Networks.{Net, node_of, owner}
use Rattle.tree_model.specs.Ranks.{longest}
use Rattle.tree_model.specs.Trees.{tree}
use Rattle.tree_model.specs.Valid.{IsValid}
use Rattle.network_model.specs.Bounds.{AreHosts}
use Rattle.network_model.specs.Worlds.{Item, World}
use Rattle.laws_network.specs.Known.{advertised_at}
use Rattle.laws_network.proofs.Standing.{from_there, some_at}
use Rattle.settle_adverts.specs.Adverts.{AreAdvertsExact, advert_at, advert_over, is_advertised, is_among}
use Rattle.settle_adverts.specs.Demanded.{HasSettledAdverts}
use Rattle.settle_adverts.specs.Ways.{way}
use Rattle.settle_adverts.proofs.Composing.{first_told, next_told}
use Rattle.settle_adverts.proofs.Ways.{a_way_goes_hop_by_hop}
use Rattle.settle_passes.specs.Passes.{after_passes}
use Rattle.settle_passes.proofs.Spreading.{paths_are_set_up, paths_spread_one_hop_a_pass, there_spread}
use Rattle.settle_senders.specs.Adverts.{AreAdvertising, HasItsAdverts, adverts}
use Rattle.settle_senders.specs.Readings.{AreOffersKept, ArePathsThere, AreRooted, IsFromATree}
use Rattle.settle_senders.proofs.Offering.{IsFaithful}
use Rattle.settle_senders.proofs.OfferDeliveries.{spreading_rooted}
use Rattle.settle_senders.proofs.OfferPasses.{offers_after, paths_gone}
use Rattle.settle_senders.proofs.OfferEnds.{IsDue, comes_by, kept_due, offers_then}
use Rattle.adspec_path.proofs.Same.{told as same_is_told}

pub adverts_faithful : IsFaithful adverts
adverts_faithful = record {
  learnt = λ p c i m t. refl;
  sent = λ p i m o is. is;
  same = λ p i a b same. same_is_told (told_at p i a) (told_at p i b) (and_both _ _ same).1;
}

-- ---- what the advertisement of a way becomes over one hop more, of a sender that is advertised or is not
abbrev over_way : Net → SenderKey → Bool → ℕ → Option Adspec
over_way net k b n = cond b (advert_over net (way net k.0.group k.1.addr n)) None

module _ (net : Net) (valid : IsValid net) (k : SenderKey) (h : LinkHop) (x : End) (there : In h (tree net.hops k.0.group k.1.addr)) (at : slice_get net.ends h.from ≡ Some x) where
  longer : way net k.0.group k.1.addr (node_of net.ends h.to) ≡ way net k.0.group k.1.addr (node_of net.ends h.from) ++ h ∷ []
  longer = (a_way_goes_hop_by_hop net valid).along k.0.group k.1.addr h there

  from_root : (b : Bool) → owner net.ends k.1.addr ≡ Some (node_of net.ends h.from) → advert_by (Some x.iface) (own_advert b) ≡ over_way net k b (node_of net.ends h.to)
  from_root true own =
      let begins : way net k.0.group k.1.addr (node_of net.ends h.from) ≡ [] = (a_way_goes_hop_by_hop net valid).root k.0.group k.1.addr (node_of net.ends h.from) own in
      first_told net h x at ∙ ap (advert_over net) (sym (longer ∙ ap (λ (hs : List LinkHop). hs ++ h ∷ []) begins))
  from_root false own = refl

  from_hop : (b : Bool) (g : LinkHop) → In g (tree net.hops k.0.group k.1.addr) → node_of net.ends g.to ≡ node_of net.ends h.from
      → advert_by (Some x.iface) (advert_of (over_way net k b (node_of net.ends h.from))) ≡ over_way net k b (node_of net.ends h.to)
  from_hop true g before meet =
      let up : List LinkHop = way net k.0.group k.1.addr (node_of net.ends g.from) in
      let comes : way net k.0.group k.1.addr (node_of net.ends h.from) ≡ up ++ g ∷ [] =
      ap (way net k.0.group k.1.addr) (sym meet) ∙ (a_way_goes_hop_by_hop net valid).along k.0.group k.1.addr g before in
      let y = some_at net.ends g.from (from_there net valid k.0.group k.1.addr g before) in
      ap (λ (hs : List LinkHop). advert_by (Some x.iface) (advert_of (advert_over net hs))) comes
      ∙ next_told net up g h y.0 x y.1 at
      ∙ ap (advert_over net) (sym (longer ∙ ap (λ (hs : List LinkHop). hs ++ h ∷ []) comes))
  from_hop false g before meet = refl

module _ (q : ℕ) (u : World) (rooted : AreRooted q u) (paths_there : ArePathsThere u) (no_path : (y : Item) (m : PathMsg) → In y u.flight → y.arrival ≡ Spelt (message.Path m) → ⊥) where
  -- ---- a sender is advertised where its own node says so
  marked : (n : ℕ) (f : Facts) (k : SenderKey) → slice_get u.nodes n ≡ Some f → owner u.net.ends k.1.addr ≡ Some n → has f.advertised k ≡ is_advertised u k
  marked n f k at own =
      ap (λ (z : Option (Set sender_keys)). is_among z k) (sym (ap (option_map (λ (g : Facts). g.advertised)) at))
      ∙ ap (λ (z : Option ℕ). is_among (option_and_then (advertised_at u) z) k) (sym own)

  -- so the advertisement of the way is due
  is_due : (k : SenderKey) → IsDue adverts q u rooted paths_there no_path k (advert_at u k)
  is_due k = record {
    own = λ h x f t there at node sends.
        let root : owner u.net.ends k.1.addr ≡ Some (node_of u.net.ends h.from) = rooted.hosts.placed (node_of u.net.ends h.from) f k t node sends in
        ap (λ (b : Bool). advert_by (Some x.iface) (own_advert b)) (marked (node_of u.net.ends h.from) f k node root)
        ∙ from_root u.net rooted.bounds.net k h x there at (is_advertised u k) root;
    onward = λ g h x p before there meet at kept.
        ap (λ (z : Option Adspec). advert_by (Some x.iface) (advert_of z)) kept ∙ from_hop u.net rooted.bounds.net k h x there at (is_advertised u k) g before meet;
  }

  pub exact_then : AreOffersKept adverts u → AreAdvertsExact u
  exact_then offers = record {
    kept = λ n f k x at e.
        let c = comes_by adverts q u rooted paths_there no_path n f k x at e in
        kept_due adverts q u rooted paths_there no_path offers k c.3 c.4 (advert_at u k) (is_due k) n f x at e;
    carried = λ y m x t i spelt sender into. absurd (no_path y m i spelt);
  }

  pub offers_made : AreAdvertsExact u → AreOffersKept adverts u
  offers_made exact =
      offers_then adverts q u rooted paths_there no_path (λ k t live. record { due = advert_at u k; is_due = is_due k; kept = λ n f x at e. exact.kept n f k x at e })

-- ---- a network that has its adverts
pub adverts_are_said_still : (q n : ℕ) (w : World) → AreAdvertising q w → AreAdvertising q (after_passes q n w)
adverts_are_said_still q n w a =
    let r = offers_after adverts adverts_faithful q n w (spreading_rooted q w a.paths a.from) a.offers in
    record { paths = (paths_spread_one_hop_a_pass q n w a.paths).0; from = r.0.from; offers = r.1 }

pub adverts_are_set_up : (q : ℕ) (w : World) → AreAdvertising q w → HasItsAdverts q (after_passes q (longest w.net) w)
adverts_are_set_up q w a =
    let u : World = after_passes q (longest w.net) w in
    let rooted : AreRooted q w = spreading_rooted q w a.paths a.from in
    let r = offers_after adverts adverts_faithful q (longest w.net) w rooted a.offers in
    let done = paths_are_set_up q w a.paths in
    let gone : (y : Item) (m : PathMsg) → In y u.flight → y.arrival ≡ Spelt (message.Path m) → ⊥ = paths_gone q w rooted in
    record {
      paths = record { bounds = r.0.bounds; hosts = r.0.hosts; sound = done.0; complete = done.1; no_tear = r.0.no_tear };
      exact = exact_then q u r.0 (λ k t h live there. (t, done.1 k t h live there)) gone r.1;
      no_path = gone;
    }

pub adverts_that_are_there_are_said : (q : ℕ) (w : World) → HasItsAdverts q w → AreAdvertising q w
adverts_that_are_there_are_said q w s = record {
  paths = there_spread q w s.paths;
  from = from;
  offers = offers_made q w (spreading_rooted q w (there_spread q w s.paths) from) (λ k t h live there. (t, s.paths.complete k t h live there)) s.no_path s.exact;
}
  where
    from : (y : Item) → In y w.flight → IsFromATree w.net y
    from y i m x t spelt sender = absurd (s.no_path y m i spelt)

pub settled_adverts_are_there : (q : ℕ) (w : World) → AreHosts w → HasSettledAdverts q w → w.flight ≡ [] → HasItsAdverts q w
settled_adverts_are_there q w hosts s flight = record {
  paths = record {
    bounds = s.bounds;
    hosts = hosts;
    sound = s.sound;
    complete = λ k t h live there. (s.there k t h live there).0;
    no_tear = λ y m i spelt. nobody y i;
  };
  exact = s.exact;
  no_path = λ y m i spelt. nobody y i;
}
  where
    nobody : (y : Item) → In y w.flight → ⊥
    nobody y i = subst (In y) flight i

pub adverts_that_are_there_have_settled : (q : ℕ) (w : World) → HasItsAdverts q w → HasSettledAdverts q w
adverts_that_are_there_have_settled q w s = record {
  bounds = s.paths.bounds;
  sound = s.paths.sound;
  exact = s.exact;
  there = λ k t h live there. let p = s.paths.complete k t h live there in (p, s.exact.kept (node_of w.net.ends h.to) p.facts k p.path p.node p.there);
}
