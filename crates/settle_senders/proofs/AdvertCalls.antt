-- Calls: a host begins to send, advertises, or a receiver asks or quits. What is offered over each hop is kept behind it in the end still.
use Rattle.std.proofs.Common.{◌≡◌, ℕ, ◌+◌, [], false, Some, sym, refl, subst}
use Rattle.rsvp_base.specs.declared.session.Session.{Session}
use Rattle.rsvp_base.specs.Table.{get}
use Rattle.rsvp_base.specs.TokenBucket.{IsSound, TokenBucket}
use Rattle.style_rules.specs.PartLaws.{part_at_most_itself}
use Rattle.laws_bounds.specs.Frames.{calls_on_senders}
use Rattle.router_rules.specs.Facts.{SenderKey}
use Rattle.router_rules.specs.Inputs.{AdvertAs, Local, SendAs}
use Rattle.router_rules.specs.Steps.{IsFitCall}
use Rattle.tree_model.specs.Networks.{Net}
use Rattle.tree_model.specs.Ranks.{longest}
use Rattle.network_model.specs.Bounds.{AreHosts, IsStart}
use Rattle.network_model.specs.Steps.{At, step}
use Rattle.network_model.specs.Worlds.{World}
use Rattle.settle_passes.specs.Calls.{IsNew, after_send}
use Rattle.settle_passes.specs.Passes.{AreSpreading, after_passes}
use Rattle.settle_passes.proofs.Called.{spreading_then}
use Rattle.settle_network.specs.Settled.{HasSettled}
use Rattle.settle_releases.proofs.Receding.{IsReceding}
use Rattle.settle_releases.proofs.Falling.{fall}
use Rattle.settle_releases.proofs.Releasing.{receding_then, settled_recedes, settles_again, some_session}
use Rattle.settle_senders.specs.Adverts.{AreAdvertising, HasItsAdverts, after_advert, adverts}
use Rattle.settle_senders.proofs.AdvertsThere.{adverts_are_set_up, adverts_that_are_there_are_said, adverts_faithful}
use Rattle.settle_senders.proofs.Sending.{spreads}
use Rattle.settle_senders.proofs.Serving.{passes_sum}
use Rattle.settle_senders.proofs.OfferDeliveries.{sound_on_tree}
use Rattle.settle_senders.proofs.OfferCalls.{from_then, offers_call}

advertising_then : (q n : ℕ) (call : Local) (w : World) → AreAdvertising q w → AreSpreading q (step q (At n call) w) → AreAdvertising q (step q (At n call) w)
advertising_then q n call w start spreading = record {
  paths = spreading;
  from = from_then q n call w start.paths.bounds start.from;
  offers = offers_call q n call w start.paths.bounds adverts adverts_faithful spreading.hosts (sound_on_tree (step q (At n call) w) spreading.sound) start.offers;
}

pub an_advert_is_said : (q n : ℕ) (l : Local) (w : World) → AreAdvertising q w → IsFitCall l → calls_on_senders l ≡ false → AreAdvertising q (step q (At n l) w)
an_advert_is_said q n l w start fit spares = advertising_then q n l w start (spreading_then q n l w spares fit start.paths)

pub a_new_sender_is_said : (q n : ℕ) (k : SenderKey) (t : TokenBucket) (w : World) → AreAdvertising q w → IsSound t → IsNew w k → AreHosts (after_send q n k t w)
    → AreAdvertising q (after_send q n k t w)
a_new_sender_is_said q n k t w start fit new hosts = advertising_then q n (SendAs k.0 k.1 t) w start (spreads q n k t w start.paths fit new hosts)

pub an_advert_is_set_up : (q n : ℕ) (k : SenderKey) (w : World) → HasItsAdverts q w → HasItsAdverts q (after_passes q (longest w.net) (after_advert q n k w))
an_advert_is_set_up q n k w start = adverts_are_set_up q (after_advert q n k w) (an_advert_is_said q n (AdvertAs k.0 k.1) w (adverts_that_are_there_are_said q w start) tt refl)

pub a_new_sender_is_advertised : (q n : ℕ) (k : SenderKey) (t : TokenBucket) (w : World) → HasItsAdverts q w → IsSound t → IsNew w k → AreHosts (after_send q n k t w)
    → HasItsAdverts q (after_passes q (longest w.net) (after_advert q n k (after_send q n k t w)))
a_new_sender_is_advertised q n k t w start fit new hosts =
    adverts_are_set_up q (after_advert q n k (after_send q n k t w))
    (an_advert_is_said q n (AdvertAs k.0 k.1) (after_send q n k t w) (a_new_sender_is_said q n k t w (adverts_that_are_there_are_said q w start) fit new hosts) tt refl)

-- ---- where nothing is in flight reservations stay what they are, as no more is wanted than before
pub an_advert_leaves_reservations : (q n m : ℕ) (k : SenderKey) (w : World) → IsStart q w → HasSettled q w → w.flight ≡ []
    → HasSettled q (after_passes q (m + longest w.net) (after_advert q n k w))
an_advert_leaves_reservations q n m k w start settled quiet =
    subst (HasSettled q) (sym (passes_sum q m (longest w.net) u))
    (subst (λ (z : Net). HasSettled q (after_passes q (longest z) v)) (fall q some_session w.nodes m u (receding some_session)).2.net
    (settles_again q w.nodes v (λ c. (fall q c w.nodes m u (receding c)).0)))
  where
    u : World
    u = after_advert q n k w

    v : World
    v = after_passes q m u

    receding : (c : Session) → IsReceding q c w.nodes u
    receding c =
        let r = settled_recedes q w start settled quiet c in
        receding_then q n (AdvertAs k.0 k.1) w r.paths tt refl
        (λ f at taken key x e.
        let same : get f.wants key ≡ Some x = e in
        record { want = x; there = same; style = refl; part = part_at_most_itself x.part }) c w.nodes r
