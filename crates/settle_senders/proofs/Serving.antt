-- Reservations follow paths, pass by pass: 2 H passes on all are there.
use Rattle.std.proofs.Common.{◌≡◌, ℕ, zero, suc, ◌+◌, ◌*◌, List, [], length, inl, arith, sym, refl, ap, subst, ◌∙◌}
use Rattle.rsvp_base.specs.Members.{In}
use Rattle.rsvp_base.specs.declared.session.Session.{Session}
use Rattle.rsvp_base.specs.TokenBucket.{IsSound, TokenBucket}
use Rattle.router_rules.specs.Facts.{SenderKey}
use Rattle.tree_model.specs.Goals.{DemandsFit, addr_of}
use Rattle.tree_model.specs.Networks.{Net}
use Rattle.tree_model.specs.Ranks.{longest}
use Rattle.network_model.specs.Bounds.{AreBounds, AreHosts, IsStart}
use Rattle.network_model.specs.Events.{pass, passes}
use Rattle.network_model.specs.Locals.{locals_of}
use Rattle.network_model.specs.Steps.{Deliver, step}
use Rattle.network_model.specs.Worlds.{Item, World}
use Rattle.settle_resvs.specs.Sessions.{SessionFits}
use Rattle.settle_resvs.proofs.GoalByIface.{each_fits}
use Rattle.settle_resvs.proofs.SoundResvs.{part_again}
use Rattle.settle_resvs.proofs.WantStyles.{want_parts}
use Rattle.settle_network.specs.Settled.{HasSettled}
use Rattle.settle_passes.specs.Calls.{IsNew, after_send}
use Rattle.settle_passes.specs.Passes.{AreSpreading, after_passes}
use Rattle.settle_passes.specs.Reserving.{HasReserved, IsReserving}
use Rattle.settle_passes.proofs.Fitting.{as_before, demands_below, want_is_sound}
use Rattle.settle_passes.proofs.Rising.{reservations_are_set_up, reservations_rise_one_hop_a_pass}
use Rattle.settle_passes.proofs.Serving.{settled_again, settled_is_reserved}
use Rattle.settle_passes.proofs.Spreading.{after_deliveries, paths_are_set_up, run_then}
use Rattle.settle_senders.specs.Following.{IsFollowing}
use Rattle.settle_senders.proofs.Following.{following_next}
use Rattle.settle_senders.proofs.Sending.{a_reserving_session_follows, following_then, no_less, sound_on}

-- ---- passes, one after the other
following_on : (q : ℕ) (s : Session) (m : ℕ) (u : World) → IsFollowing q s u → IsFollowing q s (after_deliveries q m u)
following_on q s zero u r = r
following_on q s (suc m) u r = following_on q s m (step q (Deliver 0) u) (following_next q s u r)

pub reservations_follow_paths : (q n : ℕ) (s : Session) (w : World) → IsFollowing q s w → IsFollowing q s (after_passes q n w)
reservations_follow_paths q zero s w r = r
reservations_follow_paths q (suc n) s w r =
    let v : World = after_deliveries q (length w.flight) w in
    subst (λ (z : World). IsFollowing q s z) (sym (run_then q (pass q w) (passes q n v) w)) (reservations_follow_paths q n s v (following_on q s (length w.flight) w r))

-- so many passes and then so many more
pub passes_sum : (q m n : ℕ) (w : World) → after_passes q (m + n) w ≡ after_passes q n (after_passes q m w)
passes_sum q zero n w = let sum : zero + n ≡ n = omega arith in ap (λ (z : ℕ). after_passes q z w) sum
passes_sum q (suc m) n w =
    let v : World = after_deliveries q (length w.flight) w in
    let sum : suc m + n ≡ suc (m + n) = omega arith in
    ap (λ (z : ℕ). after_passes q z w) sum ∙ run_then q (pass q w) (passes q (m + n) v) w ∙ passes_sum q m n v ∙ ap (after_passes q n) (sym (run_then q (pass q w) (passes q m v) w))

-- the network stays
pub deliveries_stay : (q m : ℕ) (u : World) → (after_deliveries q m u).net ≡ u.net
deliveries_stay q zero u = refl
deliveries_stay q (suc m) u = deliveries_stay q m (step q (Deliver 0) u)

pub net_stays : (q n : ℕ) (w : World) → (after_passes q n w).net ≡ w.net
net_stays q zero w = refl
net_stays q (suc n) w =
    let v : World = after_deliveries q (length w.flight) w in
    ap (λ (z : World). z.net) (run_then q (pass q w) (passes q n v) w) ∙ net_stays q n v ∙ deliveries_stay q (length w.flight) w

-- ---- H passes on paths are there, and each node has asked for what goes from it
pub paths_reach_receivers_that_wait : (q : ℕ) (s : Session) (w : World) → IsFollowing q s w → IsReserving q s (after_passes q (longest w.net) w)
paths_reach_receivers_that_wait q s w r =
    let d = reservations_follow_paths q (longest w.net) s w r in
    let paths = paths_are_set_up q w r.paths in
    record {
      paths = record { bounds = d.paths.bounds; hosts = d.paths.hosts; sound = paths.0; complete = paths.1; no_tear = d.paths.no_tear };
      sound = d.sound;
      fit = d.fit;
      free = d.free;
      no_error = d.no_error;
      addressed = d.addressed;
      asked = d.asked;
    }

-- ---- H more, and reservations are
pub twice : (q : ℕ) (w : World) → after_passes q (2 * longest w.net) w ≡ after_passes q (longest (after_passes q (longest w.net) w).net) (after_passes q (longest w.net) w)
twice q w =
    let sum : 2 * longest w.net ≡ longest w.net + longest w.net = omega arith in
    ap (λ (n : ℕ). after_passes q n w) sum ∙ passes_sum q (longest w.net) (longest w.net) w
    ∙ ap (λ (z : Net). after_passes q (longest z) (after_passes q (longest w.net) w)) (sym (net_stays q (longest w.net) w))

pub receivers_that_wait_are_served : (q : ℕ) (s : Session) (w : World) → IsFollowing q s w
    → IsReserving q s (after_passes q (2 * longest w.net) w) × HasReserved s (after_passes q (2 * longest w.net) w)
receivers_that_wait_are_served q s w r =
    let u : World = after_passes q (longest w.net) w in
    let d = paths_reach_receivers_that_wait q s w r in
    subst (λ (z : World). IsReserving q s z × HasReserved s z) (sym (twice q w))
    ((reservations_rise_one_hop_a_pass q s (longest u.net) u d).0, reservations_are_set_up q s u d)

pub a_new_sender_is_followed : (q n : ℕ) (s : Session) (k : SenderKey) (t : TokenBucket) (w : World) → IsFollowing q s w → IsSound t → IsNew w k → AreHosts (after_send q n k t w)
    → SessionFits w.net (locals_of (after_send q n k t w)) s → IsFollowing q s (after_send q n k t w)
a_new_sender_is_followed q n s k t w r fit new hosts fits = following_then q n k t w r.paths fit new hosts s r fits

some_session : Session
some_session = record { group = record { 0 = 0 }; proto = 0; port = 0 }

pub a_following_network_settles : (q : ℕ) (w : World) → ((s : Session) → IsFollowing q s w) → HasSettled q (after_passes q (2 * longest w.net) w)
a_following_network_settles q w r =
    settled_again q some_session (after_passes q (2 * longest w.net) w) (λ c. (receivers_that_wait_are_served q c w (r c)).0) (λ c. (receivers_that_wait_are_served q c w (r c)).1.exact)

-- ---- a settled network in which nothing is in flight
module _ (q n : ℕ) (k : SenderKey) (t : TokenBucket) (w : World) (bounds : AreBounds q w) (locals : AreHosts w) (settled : HasSettled q w) (quiet : w.flight ≡ []) (fit : IsSound t)
    (new : IsNew w k) (hosts : AreHosts (after_send q n k t w)) (fits : DemandsFit w.net (locals_of (after_send q n k t w))) where
  abbrev begun : World
  begun = after_send q n k t w

  spreads : AreSpreading q w
  spreads = record {
    bounds = bounds;
    hosts = locals;
    sound = settled.paths_sound;
    no_tear = λ y m i. absurd (subst (λ (z : List Item). In y z) quiet i);
    offered = λ k' t' h live there knows. inl (settled.paths_complete k' t' h live there);
  }

  -- with the sender no less is wanted, so that what fits then fitted before
  pub begins : IsStart q w
  begins = record {
    bounds = bounds;
    locals = locals;
    fit = demands_below begun.nodes w
        (λ st s h there u p got.
        let more = sound_on q n k t w spreads fit new hosts st s h.from (addr_of w.net h.to) u p (want_is_sound w (want_parts q w bounds) st s h there u p got) in
        part_again st begun (as_before begun.nodes w) s h.from (addr_of w.net h.to) u p refl refl more)
        (no_less q n k t w spreads fit new hosts) fits;
  }

  pub a_settled_network_serves_a_sender : HasSettled q (after_passes q (2 * longest w.net) begun)
  a_settled_network_serves_a_sender =
      a_following_network_settles q begun
      (λ c. a_new_sender_is_followed q n c k t w (a_reserving_session_follows q c w (settled_is_reserved q w begins settled quiet c)) fit new hosts (each_fits w.net (locals_of begun) fits c))
