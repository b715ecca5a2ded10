-- Passes: what is offered is kept behind each hop, and after H passes no Path is in flight.
use Rattle.std.proofs.Common.{◌≡◌, ℕ, zero, suc, length, Option, None, Some, arith, sym, refl, subst}
use Rattle.rsvp_base.specs.declared.session.Sender.{Sender}
use Rattle.rsvp_base.specs.Members.{In}
use Rattle.rsvp_base.specs.TokenBucket.{TokenBucket}
use Rattle.rsvp_messages.specs.declared.message.Message.TheVariants as message
use Rattle.rsvp_messages.specs.declared.message.PathMsg.{PathMsg}
use Rattle.router_rules.specs.Inputs.{Spelt}
use Rattle.tree_model.specs.Ranks.{longest}
use Rattle.network_model.specs.Events.{pass, passes}
use Rattle.network_model.specs.Steps.{Deliver, step}
use Rattle.network_model.specs.Worlds.{Item, World}
use Rattle.laws_network.specs.Known.{IsSameNet}
use Rattle.settle_passes.specs.Passes.{after_passes}
use Rattle.settle_passes.proofs.Deliveries.{known_self, same_next}
use Rattle.settle_passes.proofs.Spreading.{after_deliveries, run_then}
use Rattle.settle_senders.specs.Readings.{AreOffersKept, AreRooted, Reading}
use Rattle.settle_senders.proofs.Offering.{IsFaithful}
use Rattle.settle_senders.proofs.Further.{none_later}
use Rattle.settle_senders.proofs.OfferDeliveries.{from_anywhere, offers_next, rooted_next}

-- ---- what each delivery keeps, with what it asks of paths, so many deliveries keep, and so many passes
module _ (q : ℕ) (P : World → Type 0) (keeps : (u : World) → AreRooted q u → P u → P (step q (Deliver 0) u)) where
  pub deliveries_keep : (n : ℕ) (u : World) → AreRooted q u → P u → AreRooted q (after_deliveries q n u) × P (after_deliveries q n u)
  deliveries_keep zero u a p = (a, p)
  deliveries_keep (suc n) u a p = deliveries_keep n (step q (Deliver 0) u) (rooted_next q u a) (keeps u a p)

  pub passes_keep : (n : ℕ) (u : World) → AreRooted q u → P u → AreRooted q (after_passes q n u) × P (after_passes q n u)
  passes_keep zero u a p = (a, p)
  passes_keep (suc n) u a p =
      let v : World = after_deliveries q (length u.flight) u in
      let d = deliveries_keep (length u.flight) u a p in
      subst (λ (z : World). AreRooted q z × P z) (sym (run_then q (pass q u) (passes q n v) u)) (passes_keep n v d.0 d.1)

pub offers_after : {A : Type 0} (read : Reading A) → IsFaithful read → (q n : ℕ) (w : World) → AreRooted q w → AreOffersKept read w
    → AreRooted q (after_passes q n w) × AreOffersKept read (after_passes q n w)
offers_after read faithful q n w a offers = passes_keep q (AreOffersKept read) (λ u s p. offers_next q u s read faithful p) n w a offers

module _ (q : ℕ) where
  same_step : (o u : World) → AreRooted q u → IsSameNet o u → IsSameNet o (step q (Deliver 0) u)
  same_step o u a s = same_next q 0 u a.bounds o s

  pub same_after : (n : ℕ) (u : World) → AreRooted q u → IsSameNet u (after_passes q n u)
  same_after n u a = (passes_keep q (IsSameNet u) (same_step u) n u a (known_self q u a.bounds).same).1

-- after H passes no Path is in flight: from no node that is H hops away a hop goes on
pub paths_gone : (q : ℕ) (w : World) → AreRooted q w → (y : Item) (m : PathMsg) → In y (after_passes q (longest w.net) w).flight → y.arrival ≡ Spelt (message.Path m) → ⊥
paths_gone q w a y m i spelt = by m.sender refl
  where
    by : (o : Option (Sender × TokenBucket)) → m.sender ≡ o → ⊥
    by None is = (passes_keep q (AreRooted q) (λ u s p. rooted_next q u s) (longest w.net) w a a).0.paths.named y m i spelt is
    by (Some s) is =
        none_later q (AreRooted q) (λ u r. r.bounds) (λ u r. r.no_tear) (rooted_next q) (longest w.net) w a (omega arith) (λ z j. from_anywhere w.net z (a.from z j)) y m s.0 s.1 i spelt is
