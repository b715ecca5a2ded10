-- A flow is read so: where paths are there but for their flows and no Path is in flight, each path keeps the flow of its sender where what is offered
-- is kept, and the other way round.
use Rattle.std.proofs.Common.{◌≡◌, ℕ, Some, sym, refl, subst, ◌∙◌}
use Rattle.std.specs.Prelude.{slice_get}
use Rattle.rsvp_base.specs.Members.{In}
use Rattle.rsvp_base.specs.Table.{get}
use Rattle.rsvp_base.specs.TokenBucket.{TokenBucket}
use Rattle.rsvp_base.proofs.SetLaws.{and_both}
use Rattle.rsvp_messages.specs.declared.message.Message.TheVariants as message
use Rattle.rsvp_messages.specs.declared.message.PathMsg.{PathMsg}
use Rattle.router_rules.specs.Facts.{Facts, PathState, SenderKey}
use Rattle.router_rules.specs.Inputs.{Spelt}
use Rattle.tree_model.specs.Networks.{node_of}
use Rattle.tree_model.specs.Ranks.{longest}
use Rattle.network_model.specs.Locals.{IsLive}
use Rattle.network_model.specs.Sound.{IsPathAt, IsSoundAt}
use Rattle.network_model.specs.Worlds.{Item, World}
use Rattle.network_model.proofs.NodeLocals.{is_live}
use Rattle.network_model.specs.Steps.{Deliver, step}
use Rattle.settle_paths.proofs.LiveSenders.{one_flow}
use Rattle.settle_passes.specs.Passes.{after_passes}
use Rattle.settle_passes.specs.Calls.{HasItsPaths}
use Rattle.settle_senders.specs.Flows.{HasItsFlows, IsTelling, flows}
use Rattle.settle_senders.specs.Readings.{AreOffersKept, ArePathsThere, AreRooted}
use Rattle.settle_senders.proofs.Offering.{IsFaithful}
use Rattle.settle_senders.proofs.OfferDeliveries.{offers_next, rooted_next, sound_on_tree, there_next}
use Rattle.settle_senders.proofs.OfferPasses.{passes_keep, paths_gone}
use Rattle.settle_senders.proofs.OfferEnds.{IsDue, kept_due, offers_then}
use Rattle.laws_bounds.proofs.Tests.{flow_told}

pub flows_faithful : IsFaithful flows
flows_faithful = record { learnt = λ p c i m t. refl; sent = λ p i m o is. refl; same = λ p i a b same. flow_told a.tspec b.tspec (and_both _ _ same).0 }

-- ---- deliveries and passes
pub telling_next : (q : ℕ) (u : World) → IsTelling q u → IsTelling q (step q (Deliver 0) u)
telling_next q u s = record {
  rooted = rooted_next q u s.rooted;
  there = there_next q u s.rooted s.there;
  offers = offers_next q u s.rooted flows flows_faithful s.offers;
}

pub flows_are_said_still : (q n : ℕ) (w : World) → IsTelling q w → IsTelling q (after_passes q n w)
flows_are_said_still q n w s = (passes_keep q (IsTelling q) (λ u a p. telling_next q u p) n w s.rooted s).1

module _ (q : ℕ) (u : World) (rooted : AreRooted q u) (paths_there : ArePathsThere u) (no_path : (y : Item) (m : PathMsg) → In y u.flight → y.arrival ≡ Spelt (message.Path m) → ⊥) where
  -- the flow of a sender is due at each node
  is_due : (k : SenderKey) (t : TokenBucket) → IsLive u k t → IsDue flows q u rooted paths_there no_path k (λ n. t)
  is_due k t live = record {
    own = λ h x f own there at node sends. one_flow u rooted.hosts k own t (is_live u (node_of u.net.ends h.from) f k own node sends) live;
    onward = λ g h x p before there meet at kept. kept;
  }

  module _ (offers : AreOffersKept flows u) where
    kept : (n : ℕ) (f : Facts) (k : SenderKey) (t : TokenBucket) (x : PathState) → IsLive u k t → slice_get u.nodes n ≡ Some f → get f.paths k ≡ Some x → x.tspec ≡ t
    kept n f k t x live at e = kept_due flows q u rooted paths_there no_path offers k t live (λ n. t) (is_due k t live) n f x at e

    pub paths_then : HasItsPaths q u
    paths_then = record {
      bounds = rooted.bounds;
      hosts = rooted.hosts;
      sound = record {
        facts = λ n f k x at e.
            let p = rooted.paths.facts n f k x at e in
            record { end = p.end; at = p.at; sound = subst (λ (z : TokenBucket). IsSoundAt u k p.end (x.hop.addr, z)) (sym (kept n f k p.sound.0 x p.sound.1.live at e)) p.sound.1 };
        items = λ y m x t i spelt sender way. absurd (no_path y m i spelt);
        named = λ y m i spelt none. no_path y m i spelt;
      };
      complete = λ k t h live there.
          let p = paths_there k t h live there in
          subst (λ (z : TokenBucket). IsPathAt u k z h) (sym p.1.tspec ∙ kept (node_of u.net.ends h.to) p.1.facts k t p.1.path live p.1.node p.1.there) p.1;
      no_tear = rooted.no_tear;
    }

pub flows_are_set_up : (q : ℕ) (w : World) → IsTelling q w → HasItsFlows q (after_passes q (longest w.net) w)
flows_are_set_up q w s =
    let u : World = after_passes q (longest w.net) w in
    let gone : (y : Item) (m : PathMsg) → In y u.flight → y.arrival ≡ Spelt (message.Path m) → ⊥ = paths_gone q w s.rooted in
    let r = flows_are_said_still q (longest w.net) w s in
    record { paths = paths_then q u r.rooted r.there gone r.offers; no_path = gone }

pub flows_that_are_there_are_said : (q : ℕ) (w : World) → HasItsFlows q w → IsTelling q w
flows_that_are_there_are_said q w s = record {
  rooted = rooted;
  there = there;
  offers = offers_then flows q w rooted there s.no_path
      (λ k t live. record {
        due = λ n. t;
        is_due = is_due q w rooted there s.no_path k t live;
        kept = λ n f x at e. one_flow w s.paths.hosts k x.tspec t (s.paths.sound.facts n f k x at e).sound.live live;
      });
}
  where
    rooted : AreRooted q w
    rooted = record {
      bounds = s.paths.bounds;
      hosts = s.paths.hosts;
      paths = sound_on_tree w s.paths.sound;
      no_tear = s.paths.no_tear;
      from = λ y i m x t spelt sender. absurd (s.no_path y m i spelt);
    }

    there : ArePathsThere w
    there k t h live in_tree = (t, s.paths.complete k t h live in_tree)
