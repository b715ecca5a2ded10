-- A host advertises while reservations follow paths: they do so still, as what is wanted stays.
use Rattle.std.proofs.Common.{◌≡◌, ℕ, ◌*◌, [], sym, refl, subst}
use Rattle.rsvp_base.specs.declared.part.Part.{Part}
use Rattle.rsvp_base.specs.declared.session.Session.{Session}
use Rattle.rsvp_base.specs.declared.style.StyleKind.{StyleKind}
use Rattle.rsvp_base.specs.declared.style.Unit.{Unit as UnitOf}
use Rattle.rsvp_base.specs.declared.addr.Addr.{Addr}
use Rattle.router_rules.specs.Facts.{SenderKey}
use Rattle.router_rules.specs.Inputs.{AdvertAs, Local}
use Rattle.network_model.specs.Locals.{locals_of}
use Rattle.network_model.specs.Sound.{IsSoundPart}
use Rattle.network_model.specs.Worlds.{World}
use Rattle.settle_resvs.specs.Sessions.{SessionFits}
use Rattle.settle_passes.specs.Passes.{AreSpreading}
use Rattle.settle_senders.specs.Following.{IsFollowing}
use Rattle.settle_resvs.proofs.SoundResvs.{part_again}
use Rattle.tree_model.specs.Wants.{Locals}
use Rattle.settle_senders.specs.Adverts.{AreAdvertising, HasItsAdverts, after_advert}
use Rattle.rsvp_base.specs.TokenBucket.{IsSound, TokenBucket}
use Rattle.tree_model.specs.Goals.{DemandsFit}
use Rattle.tree_model.specs.Ranks.{longest}
use Rattle.network_model.specs.Bounds.{AreHosts, IsStart}
use Rattle.settle_resvs.proofs.GoalByIface.{each_fits}
use Rattle.settle_network.specs.Settled.{HasSettled}
use Rattle.settle_passes.specs.Calls.{IsNew, after_send}
use Rattle.settle_passes.specs.Passes.{after_passes}
use Rattle.settle_passes.proofs.Serving.{settled_is_reserved}
use Rattle.settle_passes.proofs.Called.{known_on, senders_then, spares_senders, spreading_then, wants_same}
use Rattle.settle_senders.proofs.AdvertCalls.{a_new_sender_is_said, an_advert_is_said}
use Rattle.settle_senders.proofs.AdvertsThere.{adverts_are_set_up, adverts_that_are_there_are_said, adverts_are_said_still}
use Rattle.settle_senders.proofs.Sending.{a_reserving_session_follows}
use Rattle.settle_senders.proofs.Serving.{a_following_network_settles, a_new_sender_is_followed, begins, twice}
use Rattle.settle_senders.proofs.Called.{following_then}

module _ (q n : ℕ) (k : SenderKey) (w : World) (start : AreSpreading q w) where
  abbrev call : Local
  call = AdvertAs k.0 k.1

  abbrev asked : World
  asked = after_advert q n k w

  spreads : AreSpreading q asked
  spreads = spreading_then q n call w refl tt start

  -- ---- what hosts send and ask is the same
  locals_same : locals_of asked ≡ locals_of w
  locals_same = λ i. record { senders = senders_then q n call w (spares_senders q n call w refl) i; wants = wants_same q n call w refl i }

  -- so what is sound stays so
  sound_on : (st : StyleKind) (s : Session) (e : ℕ) (next : Addr) (u : UnitOf) (p : Part) → IsSoundPart st w s e next u p → IsSoundPart st asked s e next u p
  sound_on st s e next u p h = part_again st w asked s e next u p refl (sym locals_same) h

  -- ---- so reservations follow paths still
  follows : (s : Session) → IsFollowing q s w → IsFollowing q s asked
  follows s r = following_then q n call w start spreads (known_on q n call w (spares_senders q n call w refl)) sound_on s r (subst (λ (z : Locals). SessionFits w.net z s) (sym locals_same) r.fit)

pub an_advert_is_followed : (q n : ℕ) (s : Session) (k : SenderKey) (w : World) → IsFollowing q s w → IsFollowing q s (after_advert q n k w)
an_advert_is_followed q n s k w r = follows q n k w r.paths s r

-- ---- a settled network in which a new sender begins and advertises at once: what receivers wait for is reserved, and each path tells
pub a_settled_network_serves_an_advertised_sender : (q n : ℕ) (k : SenderKey) (t : TokenBucket) (w : World) → HasItsAdverts q w → HasSettled q w → w.flight ≡ [] → IsSound t → IsNew w k
    → AreHosts (after_send q n k t w) → DemandsFit w.net (locals_of (after_send q n k t w))
    → HasSettled q (after_passes q (2 * longest w.net) (after_advert q n k (after_send q n k t w)))
    × HasItsAdverts q (after_passes q (2 * longest w.net) (after_advert q n k (after_send q n k t w)))
a_settled_network_serves_an_advertised_sender q n k t w start settled quiet fit new hosts fits =
    let begun : World = after_send q n k t w in
    let told : World = after_advert q n k begun in
    let half : World = after_passes q (longest w.net) told in
    let ready : IsStart q w = begins q n k t w start.paths.bounds start.paths.hosts settled quiet fit new hosts fits in
    let said : AreAdvertising q told =
    an_advert_is_said q n (AdvertAs k.0 k.1) begun (a_new_sender_is_said q n k t w (adverts_that_are_there_are_said q w start) fit new hosts) tt refl in (
      a_following_network_settles q told
          (λ c.
          an_advert_is_followed q n c k begun
          (a_new_sender_is_followed q n c k t w (a_reserving_session_follows q c w (settled_is_reserved q w ready settled quiet c)) fit new hosts (each_fits w.net (locals_of begun) fits c))),
      subst (HasItsAdverts q) (sym (twice q told)) (adverts_are_set_up q half (adverts_are_said_still q (longest w.net) told said)),
    )
