-- A datagram that was delivered, and what was told of it.
use Rattle.std.proofs.Common.{◌≡◌, ℕ, ◌+◌, List, [], ◌∷◌, ◌++◌, true, false, Option, None, Some, refl, ◌∙◌}
use Rattle.std.specs.Prelude.{slice_get, map as each, min, cond, Err}
use Rattle.std.specs.List.{remove}
use Rattle.rsvp_base.specs.declared.addr.Addr.{Addr}
use Rattle.router_rules.specs.declared.answers.Heard.{Heard}
use Rattle.network_flight.specs.Steps.{Deliver, sent, step}
use Rattle.network_flight.specs.Worlds.{World}
use Rattle.network_flight.specs.Parcels.{parcel}
use Rattle.network_replay.specs.Agreeing.{NetworkState, AreNodes, Agrees, most_count}
use Rattle.network_replay.specs.Due.{IsDue, heard_of, told}
use Rattle.network_replay.specs.Following.{Seen}
use Rattle.network_replay.specs.Mailing.{ArePut}
use Rattle.network_replay.specs.Posting.{Post}
use Rattle.network_replay.specs.Running.{Ran}
use Rattle.network_replay.specs.declared.world_err.WorldErr.TheVariants.{Crowded}
use Rattle.network_replay.proofs.Runnings.{well, ran_one, one_crowded}
use Rattle.network_replay.proofs.Stepped.{HasSetUp, step_crowds, step_made, due_here, counted_one, still_roomy, same_wires, others}
use Rattle.network_replay.proofs.Tellings.{told_here}

module _ {R : Type 0} (see : Seen R) (q : ℕ) (old : NetworkState R) (w : World) (agrees : Agrees see q old w) (k : ℕ) (end : ℕ) (dst : Addr) (hand : List ℕ) (mid new : Post)
    (there : slice_get old.post.flight k ≡ Some (record { end = end; dst = dst; bytes = hand })) (taken : mid ≡ record old.post { flight = remove old.post.flight k }) where
  pub due : IsDue mid.net end dst hand w k
  due = due_here see q old w agrees k mid.net end dst hand hand (same_wires see q old w agrees k mid taken) refl there

  module _ (put : ArePut mid new (each (λ x. x.0) (sent q (Deliver k) w))) where
    pub delivery_crowds : (names : List (List ℕ)) (o : List ℕ) (v : NetworkState R) → new.full ≡ true → Ran see q names (Err Crowded) o o v (Deliver k ∷ []) w
    delivery_crowds names o v full =
        one_crowded q names see o v (Deliver k) w (step_crowds q (Deliver k) w mid new (still_roomy see q old w agrees k mid taken) (others see q old w agrees k mid taken) put full)

    pub delivery_told : (o after : List ℕ) (v : NetworkState R) (h : Option Heard) → v.post ≡ new → new.full ≡ false → v.refused ≡ None → HasSetUp old v
        → AreNodes see q (step q (Deliver k) w) v.nodes → v.words ≡ old.words → v.delivered ≡ min (old.delivered + 1) most_count
        → v.trace ≡ old.trace → h ≡ heard_of q w k due.item → after ≡ o ++ cond old.trace (told (slice_get old.names end) due.item.arrival h) [] → Ran see q old.names well o after v (Deliver k ∷ []) w
    delivery_told o after v h posts full going quarter are drawn counted traced heard said =
        ran_one q old.names see o after (cond old.trace (told (slice_get old.names end) due.item.arrival h) []) v (Deliver k) w
        (step_made q (Deliver k) w mid new (still_roomy see q old w agrees k mid taken) (others see q old w agrees k mid taken) put see old v agrees refl
        (same_wires see q old w agrees k mid taken) posts full going quarter are (drawn ∙ agrees.words)
        (counted_one see q old w agrees k v.delivered (parcel dst hand end) there counted) (traced ∙ agrees.trace))
        (told_here q old.names w k due.item old.trace end h due.there due.is.end agrees.trace heard) said
