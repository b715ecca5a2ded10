-- A sender ends: what holds in each world on the way, behind each delivery of however many passes.
use Rattle.std.proofs.Common.{◌≡◌, ℕ, zero, suc, ◌+◌, ◌*◌, List, [], ◌++◌, length, Bool, true, Option, None, Some, ⊎_elim, arith, sym, refl, subst, ◌∙◌}
use Rattle.rsvp_base.specs.Members.{In}
use Rattle.rsvp_base.specs.declared.session.Session.{Session}
use Rattle.rsvp_base.specs.TokenBucket.{TokenBucket}
use Rattle.rsvp_messages.specs.declared.message.Message.TheVariants as message
use Rattle.rsvp_messages.specs.declared.message.ResvErrMsg.{ResvErrMsg}
use Rattle.router_rules.specs.Facts.{SenderKey}
use Rattle.router_rules.specs.Inputs.{Spelt}
use Rattle.calm_rounds.specs.Hold.{Visited}
use Rattle.calm_rounds.proofs.Holding.{visited_map}
use Rattle.tree_model.specs.Ranks.{longest}
use Rattle.tree_model.proofs.RankLaws.{rank_some}
use Rattle.network_model.specs.Bounds.{AreBounds, AreHosts, IsStart}
use Rattle.network_model.specs.Events.{passes}
use Rattle.network_model.specs.Locals.{locals_of}
use Rattle.network_model.specs.Sound.{HasNoFlowError, IsFreeOfBlockade, TakesAll}
use Rattle.network_model.specs.Steps.{Deliver, Step, is_quiet, machine, sent, step}
use Rattle.network_model.specs.Worlds.{Item, World}
use Rattle.network_model.proofs.Machines.{in_flight_after}
use Rattle.settle_resvs.proofs.WantStyles.{want_parts}
use Rattle.settle_network.specs.Settled.{HasSettled}
use Rattle.settle_passes.specs.Calls.{HasItsPaths, SendsAt, after_drop}
use Rattle.settle_passes.specs.Passes.{after_passes}
use Rattle.settle_passes.specs.Reserving.{AreAskedFor}
use Rattle.settle_passes.proofs.Spreading.{after_deliveries, deliveries}
use Rattle.settle_senders.specs.Ending.{AreAsksOfLive, AreNamesLive, AreNoMoreThanWanted, EndsHoldNoMore, SetNoBlockade, TakesForLive}
use Rattle.settle_senders.proofs.Asking.{asks_next, paths_next}
use Rattle.settle_senders.proofs.Ending.{IsLettingGo, asks_for_no_more, flow, forgotten, letting_go_next, lets_go, names_live, no_end_holds_more}
use Rattle.settle_senders.proofs.Ending.{no_resv_names_it, settled_has_paths, taken_then, takes_all_then, then_on, was}
use Rattle.settle_senders.proofs.Erring.{AreAllLow, IsTaking, passed_on}
use Rattle.settle_senders.proofs.Letting.{IsLetDown, let_down, let_down_next, sinks}
use Rattle.settle_senders.proofs.Parting.{IsLetGo, Next, Unrefused, a_sender_that_ends_leaves_no_error, let_go, let_go_next, mute, no_rows, silent, start, unrefused_begun}
use Rattle.settle_senders.proofs.TakenFor.{takes_for_live}

-- ---- what each delivery keeps holds in each world on the way
module _ (q : ℕ) (P : World → Type 0) (go : (u : World) → P u → P (step q (Deliver 0) u)) where
  visited_then : (m : ℕ) (u : World) → P u → (ts : List Step) → (P (after_deliveries q m u) → Visited (machine q) P ts (after_deliveries q m u))
      → Visited (machine q) P (deliveries q m ++ ts) u
  visited_then zero u p ts more = more p
  visited_then (suc m) u p ts more = (p, visited_then m (step q (Deliver 0) u) (go u p) ts more)

  visited_passes : (n : ℕ) (u : World) → P u → Visited (machine q) P (passes q n u) u
  visited_passes zero u p = p
  visited_passes (suc n) u p =
      let v : World = after_deliveries q (length u.flight) u in
      visited_then (length u.flight) u p (passes q n v) (λ later. visited_passes n v later)

-- ---- what is kept and asked for, whether or not the demands fitted
module _ (q n : ℕ) (d : SenderKey) (w : World) (bounds : AreBounds q w) (locals : AreHosts w) (settled : HasSettled q w) (quiet : w.flight ≡ []) (sends : SendsAt w n d) where
  abbrev from : World
  from = after_drop q n d w

  has_them : HasItsPaths q w
  has_them = settled_has_paths q w bounds locals settled quiet

  none : {A : Type 0} (y : Item) → In y w.flight → A
  none y j = absurd (subst (λ (z : List Item). In y z) quiet j)

  abbrev Going : World → Type 0
  Going u = IsLettingGo q d w u

  going_on : (u : World) → Going u → Going (step q (Deliver 0) u)
  going_on u r =
      letting_go_next q d (flow q n d w has_them settled.resvs_sound sends (λ y m t j. none y j) (λ y m j. none y j)).0 w u
      (was q n d w has_them settled.resvs_sound sends (λ y m t j. none y j) (λ y m j. none y j)) (want_parts q w bounds) r

  -- no node keeps more than was wanted
  pub a_sender_that_ends_asks_for_no_more : (i : ℕ) → Visited (machine q) (λ u. AreNoMoreThanWanted w u × EndsHoldNoMore w u) (passes q i from) from
  a_sender_that_ends_asks_for_no_more i =
      visited_map (machine q) (λ u. Going u × (u.net ≡ w.net)) (λ u. AreNoMoreThanWanted w u × EndsHoldNoMore w u)
      (λ u r. (asks_for_no_more q d w u r.0 r.1, no_end_holds_more q d w u r.0 r.1 bounds)) (passes q i from) from
      (visited_passes q (λ u. Going u × (u.net ≡ w.net)) (λ u r. (going_on u r.0, r.1)) i from
      (lets_go q n d w has_them settled.resvs_sound sends (λ y m t j. none y j) (λ y m j. none y j), refl))

  -- once paths are gone no reservation names the sender
  abbrev gone : World
  gone = after_passes q (longest w.net) from

  pub a_sender_that_ends_is_named_no_more : (i : ℕ) → Visited (machine q) (λ u. HasItsPaths q u × AreNamesLive u) (passes q i gone) gone
  a_sender_that_ends_is_named_no_more i =
      let sum : longest w.net + 0 ≡ longest w.net = omega arith in
      let there : HasItsPaths q gone =
      subst (λ (m : ℕ). HasItsPaths q (after_passes q m from)) sum (forgotten q n d w has_them settled.resvs_sound sends (λ y m t j. none y j) (λ y m j. none y j) 0) in
      visited_map (machine q) (λ u. Going u × HasItsPaths q u) (λ u. HasItsPaths q u × AreNamesLive u) (λ u r. (r.1, names_live q d w u r.0 r.1)) (passes q i gone) gone
      (visited_passes q (λ u. Going u × HasItsPaths q u) (λ u r. (going_on u r.0, paths_next q u r.1)) i gone
      (then_on q n d w has_them settled.resvs_sound sends (λ y m t j. none y j) (λ y m j. none y j) (longest w.net), there))

  -- and a pass later no Resv in flight does
  abbrev later : World
  later = after_passes q (longest w.net + 1) from

  pub a_sender_that_ends_is_asked_for_no_more : (i : ℕ) → Visited (machine q) AreAsksOfLive (passes q i later) later
  a_sender_that_ends_is_asked_for_no_more i =
      visited_map (machine q) (λ u. HasItsPaths q u × AreAsksOfLive u) AreAsksOfLive (λ u r. r.1) (passes q i later) later
      (visited_passes q (λ u. HasItsPaths q u × AreAsksOfLive u) (λ u r. (paths_next q u r.0, asks_next q u r.0 r.1)) i later (
        forgotten q n d w has_them settled.resvs_sound sends (λ y m t j. none y j) (λ y m j. none y j) 1,
        no_resv_names_it q n d w has_them settled.resvs_sound sends (λ y m t j. none y j) (λ y m j. none y j) 0,
      ))

-- ---- where the demands fitted
module _ (q n : ℕ) (d : SenderKey) (w : World) (begins : IsStart q w) (settled : HasSettled q w) (quiet : w.flight ≡ []) (sends : SendsAt w n d) where
  abbrev begun : World
  begun = after_drop q n d w

  abbrev Mild : World → Type 0
  Mild u = Unrefused q n d w begins settled quiet sends u

  mild_on : (i : ℕ) → Visited (machine q) Mild (passes q i begun) begun
  mild_on i = visited_passes q Mild (Next q n d w begins settled quiet sends) i begun (unrefused_begun q n d w begins settled quiet sends)

  pub a_sender_that_ends_sets_no_blockade : (i : ℕ) → Visited (machine q) (λ u. SetNoBlockade u × IsFreeOfBlockade u) (passes q i begun) begun
  a_sender_that_ends_sets_no_blockade i =
      visited_map (machine q) Mild (λ u. SetNoBlockade u × IsFreeOfBlockade u) (λ u r. (r.mild, record { walls = λ m f at. no_rows f.walls (λ k. r.free m f k at) })) (passes q i begun) begun
      (mild_on i)

  pub what_is_asked_for_others_is_taken : (i : ℕ) → Visited (machine q) (λ u. (t : Step) → is_quiet t ≡ true → TakesForLive q t u) (passes q i begun) begun
  what_is_asked_for_others_is_taken i =
      visited_map (machine q) Mild (λ u. (t : Step) → is_quiet t ≡ true → TakesForLive q t u) (λ u r t quiet_one. takes_for_live q d w u r.going r.net begins.fit t quiet_one) (passes q i begun) begun
      (mild_on i)

  -- ---- and once a pass has gone by since paths are gone
  abbrev then_world : World
  then_world = after_passes q (longest w.net + 1) begun

  pub what_is_asked_for_then_is_taken : (i : ℕ) → Visited (machine q) (λ u. (t : Step) → is_quiet t ≡ true → TakesAll q t u) (passes q i then_world) then_world
  what_is_asked_for_then_is_taken i =
      visited_map (machine q) (λ u. IsLetGo q n d w begins settled quiet sends u) (λ u. (t : Step) → is_quiet t ≡ true → TakesAll q t u)
      (λ u r t quiet_one.
      takes_all_then q n d w (start q n d w begins settled quiet sends) settled.resvs_sound sends (silent q n d w begins settled quiet sends) (mute q n d w begins settled quiet sends) u r.going
      r.paths r.asks r.net begins.fit t quiet_one) (passes q i then_world) then_world
      (visited_passes q (λ u. IsLetGo q n d w begins settled quiet sends u) (let_go_next q n d w begins settled quiet sends) i then_world (let_go q n d w begins settled quiet sends 0))

  pub what_goes_then_is_asked_for : (i : ℕ) (s : Session) → Visited (machine q) (λ u. AreAskedFor q s u) (passes q i then_world) then_world
  what_goes_then_is_asked_for i s =
      visited_map (machine q) (λ u. IsLetDown q n d w begins settled quiet sends u) (λ u. AreAskedFor q s u) (λ u r. (sinks q n d w begins settled quiet sends s u r).asked) (passes q i then_world)
      then_world
      (visited_passes q (λ u. IsLetDown q n d w begins settled quiet sends u) (let_down_next q n d w begins settled quiet sends) i then_world (let_down q n d w begins settled quiet sends 0))

  -- ---- once no error is left none comes
  abbrev last : World
  last = after_passes q (2 * longest w.net + 1) begun

  abbrev Errorless : World → Type 0
  Errorless u = IsLetGo q n d w begins settled quiet sends u × HasNoFlowError u

  errorless_next : (u : World) → Errorless u → Errorless (step q (Deliver 0) u)
  errorless_next u r = (let_go_next q n d w begins settled quiet sends u r.0, λ y m i spelt. by y m i spelt m.blame.flow refl)
    where
      taken : IsTaking q d w u r.0.going
      taken y m f =
          taken_then q n d w (start q n d w begins settled quiet sends) settled.resvs_sound sends (silent q n d w begins settled quiet sends) (mute q n d w begins settled quiet sends)
          u r.0.going r.0.paths
          r.0.asks r.0.net begins.fit y m f

      none_before : AreAllLow u.net (locals_of w) 1 u.flight
      none_before y m t i spelt has_flow = let bad : None ≡ Some t = sym (r.1 y m i spelt) ∙ has_flow in absurd (cc)

      by : (y : Item) (m : ResvErrMsg) → In y (step q (Deliver 0) u).flight → y.arrival ≡ Spelt (message.ResvErr m) → (o : Option TokenBucket) → m.blame.flow ≡ o → m.blame.flow ≡ None
      by y m i spelt None e = e
      by y m i spelt (Some t) e =
          ⊎_elim (λ (old : In y u.flight). r.1 y m old spelt)
          (λ (new : (b : Bool) × In (y, b) (sent q (Deliver 0) u)).
          let al = passed_on q d w u r.0.going taken 0 none_before y new.0 m t new.1 spelt e in
          let some = rank_some u.net r.0.going.fading.bounds.net.loop_free m.session.group al.hop al.there in
          let close = al.near in
          absurd (omega (arith, some, close)))
          (in_flight_after q (Deliver 0) u y refl i)

  errorless : Errorless last
  errorless =
      let sum : longest w.net + suc (longest w.net) ≡ 2 * longest w.net + 1 = omega arith in (
        subst (λ (m : ℕ). IsLetGo q n d w begins settled quiet sends (after_passes q m begun)) sum (let_go q n d w begins settled quiet sends (longest w.net)),
        a_sender_that_ends_leaves_no_error q n d w begins settled quiet sends 0,
      )

  pub no_error_comes : (i : ℕ) → Visited (machine q) HasNoFlowError (passes q i last) last
  no_error_comes i = visited_map (machine q) Errorless HasNoFlowError (λ u r. r.1) (passes q i last) last (visited_passes q Errorless errorless_next i last errorless)
