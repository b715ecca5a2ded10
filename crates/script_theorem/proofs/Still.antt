-- A settled network stays settled while nothing but reports, trace switches and flag reports follow.
use Rattle.std.proofs.Common.{◌≡◌, ℕ, suc, ◌+◌, [], ◌∷◌, length, Bool, true, false, cond, Option, Some, None, arith, refl, sym, ap, subst}
use Rattle.std.specs.Prelude.{slice_get, ◌==◌}
use Rattle.rsvp_base.specs.declared.addr.Addr.{Addr}
use Rattle.rsvp_base.specs.declared.part.Part.{Part}
use Rattle.rsvp_base.specs.declared.session.Session.{Session}
use Rattle.rsvp_base.specs.declared.style.StyleKind.{StyleKind}
use Rattle.rsvp_base.specs.declared.style.Unit.{Unit as UnitOf}
use Rattle.rsvp_base.specs.TokenBucket.{TokenBucket}
use Rattle.calm_rounds.specs.Machine.{items_of}
use Rattle.rsvp_base.specs.Table.{get}
use Rattle.rsvp_messages.specs.Units.{ask_style}
use Rattle.router_rules.specs.Facts.{Facts, ResvState, SenderKey, resvs_of}
use Rattle.router_rules.specs.Inputs.{Came}
use Rattle.router_rules.specs.Rule.{Outcome}
use Rattle.tree_model.specs.declared.hops.End.{End}
use Rattle.tree_model.specs.Networks.{iface_of, node_of}
use Rattle.network_model.specs.Locals.{IsLive}
use Rattle.network_model.specs.Sound.{IsSoundAt, IsSoundPart, TakesAll}
use Rattle.network_model.specs.Steps.{Step, Piece, Deliver, Lose, Copy, At, ClearAt, Trace, Report, Flags, Adverts, Inject, Reroute, arrived}
use Rattle.network_model.specs.Steps.{came, came_by_end, ms_of, outcome, outcome_of, step, trace_after}
use Rattle.network_model.specs.Worlds.{Item, World}
use Rattle.settle_network.specs.Settled.{HasSettled}
use Rattle.script_theorem.specs.Writing.{ANetworkStaysSettled}
use Rattle.script_theorem.proofs.Writing.{IsIdle, idle}

-- ---- the trace switch and the numbers of steps and deliveries are nothing that is settled
module _ (q : ℕ) (u : World) (t : Bool) (d m : ℕ) where
  abbrev v : World
  v = record u { trace = t; delivered = d; made = m }

  live_in : (k : SenderKey) (x : TokenBucket) → IsLive u k x → IsLive v k x
  live_in k x l = record { node = l.node; senders = l.senders; at = l.at; sends = l.sends }

  live_of : (k : SenderKey) (x : TokenBucket) → IsLive v k x → IsLive u k x
  live_of k x l = record { node = l.node; senders = l.senders; at = l.at; sends = l.sends }

  at_in : (k : SenderKey) (e : ℕ) (x : Addr × TokenBucket) → IsSoundAt u k e x → IsSoundAt v k e x
  at_in k e x s = record { hop = s.hop; there = s.there; to = s.to; from = s.from; live = live_in k x.1 s.live }

  part_in : (st : StyleKind) (s : Session) (e : ℕ) (next : Addr) (x : UnitOf) (p : Part) → IsSoundPart st u s e next x p → IsSoundPart st v s e next x p
  part_in st s e next x p h = record { some = h.some; hop = h.hop; there = h.there; from = h.from; to = h.to; wanted = h.wanted; is = h.is; below = h.below }

  -- a node handles what is delivered by its facts, where it stands and the clock
  same_outcome : (k n : ℕ) (f : Facts) → outcome q (Deliver k) v n f ≡ outcome q (Deliver k) u n f
  same_outcome k n f = by (slice_get u.flight k)
    where
      by_node : (x : Item) (b : Bool)
          → outcome_of q (cond b (Some (Came (iface_of u.net.ends x.end) x.dst x.arrival)) None) (Deliver k) v n f
          ≡ outcome_of q (cond b (Some (Came (iface_of u.net.ends x.end) x.dst x.arrival)) None) (Deliver k) u n f
      by_node x true = refl
      by_node x false = refl

      by_end : (x : Item) (o : Option End) → outcome_of q (came_by_end x (iface_of u.net.ends x.end) o n) (Deliver k) v n f
          ≡ outcome_of q (came_by_end x (iface_of u.net.ends x.end) o n) (Deliver k) u n f
      by_end x None = refl
      by_end x (Some e) = by_node x (e.node == n)

      by : (o : Option Item) → outcome_of q (came v o n) (Deliver k) v n f ≡ outcome_of q (came u o n) (Deliver k) u n f
      by None = refl
      by (Some x) = by_end x (slice_get u.net.ends x.end)

  takes : (s : Step) → TakesAll q s u → TakesAll q s v
  takes (Deliver k) h = λ y m f x arr spelt at asked.
      subst
      (λ (z : Outcome). (r : ResvState) × (get (resvs_of (ask_style m.ask) z.facts) (m.session, ((iface_of u.net.ends y.end, m.hop.addr), x.unit)) ≡ Some r) × (x.names ≡ Some r.part.senders)
      × (x.flow ≡ r.part.flow))
      (sym (same_outcome k (node_of u.net.ends y.end) f)) (h y m f x arr spelt at asked)
  takes (Piece ms) h = λ y m f x arr spelt at asked. absurd (cc)
  takes (Lose k) h = λ y m f x arr spelt at asked. absurd (cc)
  takes (Copy k) h = λ y m f x arr spelt at asked. absurd (cc)
  takes (At n l) h = λ y m f x arr spelt at asked. absurd (cc)
  takes (ClearAt n) h = λ y m f x arr spelt at asked. absurd (cc)
  takes (Trace on) h = λ y m f x arr spelt at asked. absurd (cc)
  takes (Report e) h = λ y m f x arr spelt at asked. absurd (cc)
  takes Flags h = λ y m f x arr spelt at asked. absurd (cc)
  takes Adverts h = λ y m f x arr spelt at asked. absurd (cc)
  takes (Inject e dst a) h = λ y m f x arr spelt at asked. absurd (cc)
  takes (Reroute g s hops) h = λ y m f x arr spelt at asked. absurd (cc)

  still_settled : HasSettled q u → HasSettled q v
  still_settled h = record {
    paths_sound = record {
      facts = λ n f k x a g. let r = h.paths_sound.facts n f k x a g in record { end = r.end; at = r.at; sound = at_in k r.end (x.hop.addr, x.tspec) r.sound };
      items = λ y g x t i e j a. at_in (g.session, x) y.end (g.hop.addr, t) (h.paths_sound.items y g x t i e j a);
      named = h.paths_sound.named;
    };
    paths_complete = λ k x hop live there.
        let r = h.paths_complete k x hop (live_of k x live) there in
        record { facts = r.facts; node = r.node; path = r.path; there = r.there; iface = r.iface; hop = r.hop; tspec = r.tspec };
    resvs_sound = record {
      facts = λ st n f k r a g. let x = h.resvs_sound.facts st n f k r a g in record { end = x.end; at = x.at; sound = part_in st k.0 x.end k.1.0.1 k.1.1 r.part x.sound };
      items = λ y g x i e j.
          let r = h.resvs_sound.items y g x i e j in
          record { names = r.names; named = r.named; sound = part_in _ g.session y.end g.hop.addr x.unit (record { senders = r.names; flow = x.flow }) r.sound };
    };
    resvs_exact = λ st s hop i. let r = h.resvs_exact st s hop i in record { facts = r.facts; node = r.node; wanted = r.wanted; stands = r.stands };
    books = h.books;
    takes_all = λ s quiet. takes s (h.takes_all s quiet);
    no_flow_error = h.no_flow_error;
    no_blockade = record { walls = h.no_blockade.walls };
  }

module _ (q : ℕ) (s : Step) (u : World) (i : IsIdle q s u) where
  clock : u.clock + ms_of s ≡ u.clock
  clock = let time = i.no_time in omega (arith, time)

  delivered : u.delivered + length (items_of (arrived s u)) ≡ u.delivered
  delivered = let none : length (items_of (arrived s u)) ≡ 0 = ap length i.none_arrives in omega (arith, none)

  but_numbers : step q s u ≡ record u { trace = trace_after s u; delivered = u.delivered; made = suc u.made }
  but_numbers = λ k. record {
    net = i.net k;
    trees = u.trees;
    clock = clock k;
    nodes = i.nodes k;
    words = i.words k;
    trace = trace_after s u;
    delivered = delivered k;
    made = suc u.made;
    flight = i.flight k;
  }

pub a_network_stays_settled : ANetworkStaysSettled
a_network_stays_settled q u [] writes h = h
a_network_stays_settled q u (s ∷ ss) writes h =
    a_network_stays_settled q (step q s u) ss writes.1
    (subst (HasSettled q) (sym (but_numbers q s u (idle q s u writes.0))) (still_settled q u (trace_after s u) u.delivered (suc u.made) h))
