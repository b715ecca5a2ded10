-- Half periods, each followed by a pass, keep a network that opens.
use Rattle.std.proofs.Common.{◌≡◌, ℕ, zero, suc, pred, ◌*◌, ◌≤◌, length, List, [], ◌∷◌, ◌++◌, Option, None, Some, arith, sym, refl, ap, subst, ◌∙◌}
use Rattle.std.specs.List.{repeat}
use Rattle.rsvp_base.specs.declared.addr.Addr.{Addr}
use Rattle.rsvp_base.specs.declared.part.Part.{Part}
use Rattle.rsvp_base.specs.Members.{In}
use Rattle.rsvp_base.specs.Orders.{Names as NameSet}
use Rattle.rsvp_base.specs.Table.{get}
use Rattle.router_rules.specs.RsvpMessages.Units.{ask_style}
use Rattle.calm_rounds.specs.Hold.{Visited}
use Rattle.calm_rounds.specs.Machine.{run}
use Rattle.router_rules.specs.Facts.{Paths, resvs_of}
use Rattle.tree_model.specs.Goals.{addr_of}
use Rattle.tree_model.specs.Networks.{iface_of, node_of}
use Rattle.tree_model.specs.Trees.{hops_of}
use Rattle.network_model.specs.Events.{a_round, half, halves, pass, rounds}
use Rattle.network_model.specs.Sound.{TakesAll}
use Rattle.network_model.specs.Steps.{Deliver, Piece, Step, machine, outcome, step}
use Rattle.network_model.specs.Worlds.{World}
use Rattle.network_model.proofs.Machines.{in_arrived}
use Rattle.network_model.proofs.Stepping.{facts_after_made}
use Rattle.settle_paths.proofs.SoftPaths.{path_made}
use Rattle.settle_resvs.specs.Said.{HopKey, hop_over, resv_key}
use Rattle.settle_resvs.specs.SoftResvs.{AsksFor, SaysResv}
use Rattle.settle_resvs.proofs.SoftResvs.{resv_made}
use Rattle.settle_passes.proofs.Deliveries.{path_stays, tear_of_none}
use Rattle.settle_passes.proofs.Spreading.{run_then}
use Rattle.settle_openings.specs.Opening.{IsOpening, IsOpeningWith, IsRested, IsUntouched, LosesNothing, NothingIsLost}
use Rattle.settle_openings.proofs.Delivering.{opening_next}
use Rattle.settle_openings.proofs.Going.{bounds, resvs_on, some_session}
use Rattle.settle_openings.proofs.Kept.{renewed}
use Rattle.settle_openings.proofs.Lasting.{lasts_all}
use Rattle.settle_openings.proofs.Refreshing.{lasting'}
use Rattle.settle_openings.proofs.Starting.{an_untouched_network_rests}
use Rattle.settle_openings.proofs.Waiting.{going_on', paths_are, resv_is}

-- however many items are to renew what they can: all in flight may
pub with_all : (q n : ℕ) (w : World) → IsOpeningWith q n w → IsOpening q w
with_all q n w o = record { on = o.on; lasting = lasts_all q n w o.lasting }

pub an_untouched_network_opens : (q : ℕ) (w : World) → IsUntouched q w → IsRested q w × IsOpening q w
an_untouched_network_opens q w u = let o = an_untouched_network_rests q w u in (o, with_all q 0 w o)

-- ---- nothing is lost
-- what arrives is taken whole
takes_all : (q : ℕ) (w : World) → IsOpening q w → TakesAll q (Deliver 0) w
takes_all q w o y m f v arr spelt at asks =
    let follows = o.on.follows m.session in
    let i : In y w.flight = in_arrived (Deliver 0) w y arr in
    let x = follows.sound.items y m v i spelt asks in
    let k : HopKey = record { session = m.session; style = ask_style m.ask; unit = v.unit; from = x.sound.hop.to; to = y.end } in
    let there : In (hop_over k) (hops_of w.net.hops m.session.group) =
    subst (λ (z : ℕ). In (record { from = z; to = x.sound.hop.to }) (hops_of w.net.hops m.session.group)) x.sound.from x.sound.there in
    let part : Part = record { senders = x.names; flow = v.flow } in
    let says : SaysResv w.net (resv_key w.net k) y part =
    record {
      end = refl;
      dst = follows.addressed y m i spelt;
      resv = m;
      spelt = spelt;
      session = refl;
      style = refl;
      hop = sym x.sound.to;
      unit = v;
      asks = asks;
      at = refl;
      names = subst (λ (z : Option NameSet). AsksFor z x.names) (sym x.named) refl;
      flow = refl;
    } in
    let a = renewed q w o.on k there y arr part says in
    let n : ℕ = node_of w.net.ends y.end in
    let e : ℕ = iface_of w.net.ends y.end in (
      a.resv,
      ap (λ (z : Addr). get (resvs_of (ask_style m.ask) (outcome q (Deliver 0) w n f).facts) (m.session, ((e, z), v.unit))) (sym x.sound.to)
          ∙ sym (resv_made (step q (Deliver 0) w) n (ask_style m.ask) (m.session, ((e, addr_of w.net x.sound.hop.to), v.unit)) (outcome q (Deliver 0) w n f).facts
          (facts_after_made q (Deliver 0) w n f at))
          ∙ a.kept,
      x.named ∙ ap (λ (z : Part). Some z.senders) (sym a.is),
      ap (λ (z : Part). z.flow) (sym a.is),
    )

pub a_delivery_loses_nothing : (q : ℕ) (w : World) → IsOpening q w → LosesNothing w (step q (Deliver 0) w) × TakesAll q (Deliver 0) w
a_delivery_loses_nothing q w o = (
  record {
    paths = λ n f k x at e.
        let a = path_stays q 0 w (bounds q w o.on) n f k x (tear_of_none w (o.on.follows some_session).paths.no_tear k) at e in
        (a.2, path_made (step q (Deliver 0) w) n k a.2 a.0 a.1 a.3);
    resvs = λ n f st key d x at e h.
        let a = resvs_on q w o.on n f at st key d x e h in
        (a.0, resv_made (step q (Deliver 0) w) n st key _ (facts_after_made q (Deliver 0) w n f at) ∙ a.1, a.2);
  },
  takes_all q w o,
)

pub half_a_period_keeps_an_opening : (q : ℕ) (w : World) → IsRested q w → IsOpening q (step q (Piece (2 * q)) w) × LosesNothing w (step q (Piece (2 * q)) w)
half_a_period_keeps_an_opening q w o =
    let le : 2 * q ≤ 2 * q = omega arith in (
      record { on = going_on' q (2 * q) w le o.on o.lasting; lasting = lasting' q (2 * q) w le o.on o.lasting },
      record {
        paths = λ n f k x at e. (
          x,
          path_made (step q (Piece (2 * q)) w) n k x _ (facts_after_made q (Piece (2 * q)) w n f at)
              (ap (λ (z : Paths). get z k) (paths_are q (2 * q) w le o.on o.lasting n f at) ∙ e),
        );
        resvs = λ n f st key d x at e h.
            (d, resv_made (step q (Piece (2 * q)) w) n st key _ (facts_after_made q (Piece (2 * q)) w n f at) ∙ resv_is q (2 * q) w le o.on o.lasting n f at st key ∙ e, h);
      },
    )

-- nothing arrives in half a period
none_arrives : (q ms : ℕ) (w : World) → TakesAll q (Piece ms) w
none_arrives q ms w y m f v arr spelt at asks = let bad : None ≡ Some y = arr in absurd (cc)

-- ---- passes
module _ (q : ℕ) where
  opening_on : (m n : ℕ) (w : World) → n ≤ m → IsOpeningWith q n w
      → Visited (machine q) (IsOpening q) (repeat m (Deliver 0 ∷ [])) w × IsRested q (run (machine q) (repeat m (Deliver 0 ∷ [])) w)
  opening_on zero n w le o = let none : n ≡ 0 = omega (arith, le) in (with_all q n w o, subst (λ (z : ℕ). IsOpeningWith q z w) none o)
  opening_on (suc m) n w le o =
      let r = opening_on m (pred n) (step q (Deliver 0) w) (omega (arith, le)) (opening_next q n w o) in ((with_all q n w o, r.0), r.1)

  pass_visits : (w : World) → IsOpening q w → Visited (machine q) (IsOpening q) (pass q w) w × IsRested q (run (machine q) (pass q w) w)
  pass_visits w o = opening_on (length w.flight) (length w.flight) w (omega arith) o

  pub a_pass_rests_an_opening : (w : World) → IsOpening q w → IsRested q (run (machine q) (pass q w) w)
  a_pass_rests_an_opening w o = (pass_visits w o).1

  -- ---- halves and rounds
  Goes : (World → List Step) → Type 0
  Goes steps = (w : World) → IsRested q w → Visited (machine q) (IsOpening q) (steps w) w × IsRested q (run (machine q) (steps w) w)

  pub a_half_rests_an_opening : (w : World) → IsRested q w → Visited (machine q) (IsOpening q) (half q w) w × IsRested q (run (machine q) (half q w) w)
  a_half_rests_an_opening w o = let r = pass_visits (step q (Piece (2 * q)) w) (half_a_period_keeps_an_opening q w o).0 in ((with_all q 0 w o, r.0), r.1)

  visited_join : (ss ts : List Step) (w : World) → Visited (machine q) (IsOpening q) ss w → Visited (machine q) (IsOpening q) ts (run (machine q) ss w) → Visited (machine q) (IsOpening q) (ss ++ ts) w
  visited_join [] ts w v t = t
  visited_join (s ∷ ss) ts w v t = (v.0, visited_join ss ts (step q s w) v.1 t)

  halves_on : (n : ℕ) (w : World) → IsRested q w → Visited (machine q) (IsOpening q) (halves q n w) w × IsRested q (run (machine q) (halves q n w) w)
  halves_on zero w o = (with_all q 0 w o, o)
  halves_on (suc n) w o =
      let a = a_half_rests_an_opening w o in
      let u : World = run (machine q) (half q w) w in
      let b = halves_on n u a.1 in
      (visited_join (half q w) (halves q n u) w a.0 b.0, subst (λ (z : World). IsRested q z) (sym (run_then q (half q w) (halves q n u) w)) b.1)

  rounds_on : (n : ℕ) (w : World) → IsRested q w → Visited (machine q) (IsOpening q) (rounds q n w) w × IsRested q (run (machine q) (rounds q n w) w)
  rounds_on zero w o = (with_all q 0 w o, o)
  rounds_on (suc n) w o =
      let a = halves_on 4 w o in
      let u : World = run (machine q) (a_round q w) w in
      let b = rounds_on n u a.1 in
      (visited_join (a_round q w) (rounds q n u) w a.0 b.0, subst (λ (z : World). IsRested q z) (sym (run_then q (a_round q w) (rounds q n u) w)) b.1)

  pub rounds_keep_an_opening : (n : ℕ) (w : World) → IsUntouched q w → Visited (machine q) (IsOpening q) (rounds q n w) w × IsRested q (run (machine q) (rounds q n w) w)
  rounds_keep_an_opening n w u = rounds_on n w (an_untouched_network_rests q w u)

  -- ---- by none of these steps is anything lost
  lost_join : (ss ts : List Step) (w : World) → NothingIsLost q ss w → NothingIsLost q ts (run (machine q) ss w) → NothingIsLost q (ss ++ ts) w
  lost_join [] ts w v t = t
  lost_join (s ∷ ss) ts w v t = (v.0, lost_join ss ts (step q s w) v.1 t)

  deliveries_lose_nothing : (m n : ℕ) (w : World) → IsOpeningWith q n w → NothingIsLost q (repeat m (Deliver 0 ∷ [])) w
  deliveries_lose_nothing zero n w o = tt
  deliveries_lose_nothing (suc m) n w o = (a_delivery_loses_nothing q w (with_all q n w o), deliveries_lose_nothing m (pred n) (step q (Deliver 0) w) (opening_next q n w o))

  half_loses_nothing : (w : World) → IsRested q w → NothingIsLost q (half q w) w
  half_loses_nothing w o =
      let u : World = step q (Piece (2 * q)) w in
      let a = half_a_period_keeps_an_opening q w o in
      ((a.1, none_arrives q (2 * q) w), deliveries_lose_nothing (length u.flight) (length u.flight) u a.0)

  halves_lose_nothing : (n : ℕ) (w : World) → IsRested q w → NothingIsLost q (halves q n w) w
  halves_lose_nothing zero w o = tt
  halves_lose_nothing (suc n) w o =
      let u : World = run (machine q) (half q w) w in
      lost_join (half q w) (halves q n u) w (half_loses_nothing w o) (halves_lose_nothing n u (a_half_rests_an_opening w o).1)

  lose_nothing : (n : ℕ) (w : World) → IsRested q w → NothingIsLost q (rounds q n w) w
  lose_nothing zero w o = tt
  lose_nothing (suc n) w o =
      let u : World = run (machine q) (a_round q w) w in
      lost_join (a_round q w) (rounds q n u) w (halves_lose_nothing 4 w o) (lose_nothing n u (halves_on 4 w o).1)

  pub rounds_lose_nothing : (n : ℕ) (w : World) → IsUntouched q w → NothingIsLost q (rounds q n w) w
  rounds_lose_nothing n w u = lose_nothing n w (an_untouched_network_rests q w u)
