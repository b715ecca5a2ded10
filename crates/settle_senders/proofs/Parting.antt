-- When a sender has ended: what is set and said no more, of a settled network in which nothing is in flight.
use Rattle.std.proofs.Common.{◌≡◌, ℕ, suc, ◌+◌, ◌*◌, List, [], ◌∷◌, length, Option, None, Some, inl, arith, sym, refl, ap, subst, ◌∙◌, zero, Bool, inr, ⊎_elim}
use Rattle.std.specs.Prelude.{slice_get}
use Rattle.rsvp_base.specs.Members.{In}
use Rattle.rsvp_base.specs.Table.{get, size}
use Rattle.rsvp_base.proofs.Counts.{found_in, in_found}
use Rattle.rsvp_messages.specs.declared.message.Message.TheVariants as message
use Rattle.rsvp_messages.specs.declared.message.ResvMsg.{ResvMsg}
use Rattle.router_rules.specs.Facts.{Blockade, Facts, SenderKey, Walls}
use Rattle.router_rules.specs.Inputs.{Spelt, Call, Came, DropAs}
use Rattle.style_rules.specs.Targets.{WallKey, wall_keys}
use Rattle.tree_model.specs.Goals.{addr_of}
use Rattle.tree_model.specs.Ranks.{longest}
use Rattle.network_model.specs.Bounds.{IsStart}
use Rattle.network_model.specs.Sound.{HasNoFlowError}
use Rattle.network_model.specs.Steps.{Deliver, step, At, ms_of, sent}
use Rattle.network_model.specs.Worlds.{Item, World, config_of}
use Rattle.settle_network.specs.Settled.{HasSettled}
use Rattle.settle_passes.specs.Calls.{HasItsPaths, HasNoPathOf, SendsAt, after_drop}
use Rattle.settle_passes.specs.Passes.{after_passes}
use Rattle.settle_passes.proofs.Deliveries.{known_self, same_next}
use Rattle.settle_senders.proofs.Serving.{net_stays, passes_sum}
use Rattle.settle_senders.specs.Ending.{AreAsksOfLive, SetNoBlockade}
use Rattle.settle_senders.proofs.Asking.{asks_next, paths_next}
use Rattle.settle_senders.proofs.Ending.{IsLettingGo, flow, forgotten, in_flight_now, kinds, lets_go, letting_go_next, no_resv_names_it, settled_has_paths, taken_then, then_on, was}
use Rattle.settle_senders.proofs.Back.{refusal_along}
use Rattle.settle_senders.proofs.Erring.{low_after, none_left, passed_on, AreAllLow, along, low_more}
use Rattle.settle_senders.proofs.Refusing.{IsUnrefused, free_begun, mild_begun, unrefused_after, unrefused_next}
use Rattle.settle_resvs.proofs.Errors.{IsAlong}
use Rattle.network_model.specs.Events.{pass, passes}
use Rattle.tree_model.specs.Networks.{Net}
use Rattle.laws_network.proofs.Sends.{sent_by_rule}
use Rattle.laws_steps.specs.BlameLaws.{IsPassedOn, IsRefusal}
use Rattle.laws_steps.proofs.Blaming.{where_an_error_with_a_flow_comes_from}
use Rattle.router_rules.specs.NodeConfig.{NodeConfig, own}
use Rattle.router_rules.specs.Steps.{node_step}
use Rattle.network_model.specs.Locals.{locals_of}
use Rattle.network_model.proofs.Machines.{in_flight_after}
use Rattle.settle_passes.proofs.Spreading.{after_deliveries, run_then}
use Rattle.settle_passes.proofs.Called.{sent_by_call}

-- ---- no blockade, of all sessions and of each
pub no_rows : (walls : Walls) → ((k : WallKey) → get walls k ≡ None) → size walls ≡ 0
no_rows walls none = by walls.rows refl
  where
    by : (rows : List (WallKey × Blockade)) → walls.rows ≡ rows → length walls.rows ≡ 0
    by [] e = ap length e
    by (x ∷ xs) e =
        let found = in_found wall_keys walls x.0 x.1 (subst (λ (z : List (WallKey × Blockade)). In x z) (sym e) (inl refl)) in let no : None ≡ Some x.1 = sym (none x.0) ∙ found in absurd (cc)

pub no_wall : (walls : Walls) → size walls ≡ 0 → (k : WallKey) → get walls k ≡ None
no_wall walls none k = by (get walls k) refl
  where
    by_rows : (rows : List (WallKey × Blockade)) → length rows ≡ 0 → (x : WallKey × Blockade) → In x rows → ⊥
    by_rows [] e x i = i
    by_rows (y ∷ ys) e x i = omega (arith, e)

    by : (o : Option Blockade) → get walls k ≡ o → get walls k ≡ None
    by None e = e
    by (Some b) e = absurd (by_rows walls.rows none (k, b) (found_in wall_keys walls k b e))

-- ---- the host ends
module _ (q n : ℕ) (d : SenderKey) (w : World) (begins : IsStart q w) (settled : HasSettled q w) (quiet : w.flight ≡ []) (sends : SendsAt w n d) where
  abbrev begun : World
  begun = after_drop q n d w

  pub start : HasItsPaths q w
  start = settled_has_paths q w begins.bounds begins.locals settled quiet

  pub silent : HasNoPathOf w d
  silent y m t j = absurd (subst (λ (z : List Item). In y z) quiet j)

  pub mute : (y : Item) (m : ResvMsg) → In y w.flight → y.arrival ≡ Spelt (message.Resv m) → y.dst ≡ addr_of w.net y.end
  mute y m j = absurd (subst (λ (z : List Item). In y z) quiet j)

  abbrev pub Unrefused : World → Type 0
  Unrefused u = IsUnrefused q d (flow q n d w start settled.resvs_sound sends silent mute).0 w (was q n d w start settled.resvs_sound sends silent mute)
      (kinds q n d w start settled.resvs_sound sends silent mute) begins.fit u

  mild : SetNoBlockade w
  mild y m j = absurd (subst (λ (z : List Item). In y z) quiet j)

  free : (m : ℕ) (f : Facts) (k : WallKey) → slice_get w.nodes m ≡ Some f → get f.walls k ≡ None
  free m f k at = no_wall f.walls (settled.no_blockade.walls m f at) k

  pub unrefused_begun : Unrefused begun
  unrefused_begun = record {
    going = lets_go q n d w start settled.resvs_sound sends silent mute;
    net = refl;
    mild = λ y m i spelt. mild_begun q n d w begins.bounds mild free y m (in_flight_now q n d w start settled.resvs_sound sends silent mute y i) spelt;
    free = free_begun q n d w begins.bounds mild free;
  }

  pub unrefused : (i : ℕ) → Unrefused (after_passes q i begun)
  unrefused i =
      unrefused_after q d (flow q n d w start settled.resvs_sound sends silent mute).0 w (was q n d w start settled.resvs_sound sends silent mute)
      (kinds q n d w start settled.resvs_sound sends silent mute) begins.fit i begun unrefused_begun

  -- ---- once each Resv is taken whole
  pub record IsLetGo (u : World) : Type 0 where
    pub going : IsLettingGo q d w u
    pub net : u.net ≡ w.net
    pub paths : HasItsPaths q u
    pub asks : AreAsksOfLive u

  pub let_go_next : (u : World) → IsLetGo u → IsLetGo (step q (Deliver 0) u)
  let_go_next u r = record {
    going = letting_go_next q d (flow q n d w start settled.resvs_sound sends silent mute).0 w u (was q n d w start settled.resvs_sound sends silent mute)
        (kinds q n d w start settled.resvs_sound sends silent mute) r.going;
    net = (same_next q 0 u r.going.fading.bounds u (known_self q u r.going.fading.bounds).same).net ∙ r.net;
    paths = paths_next q u r.paths;
    asks = asks_next q u r.paths r.asks;
  }

  pub let_go : (i : ℕ) → IsLetGo (after_passes q (longest w.net + suc i) begun)
  let_go i = record {
    going = then_on q n d w start settled.resvs_sound sends silent mute (longest w.net + suc i);
    net = net_stays q (longest w.net + suc i) begun;
    paths = forgotten q n d w start settled.resvs_sound sends silent mute (suc i);
    asks = no_resv_names_it q n d w start settled.resvs_sound sends silent mute i;
  }

  -- ---- each error has H hops to go at most, from the start
  abbrev AllLow : World → Type 0
  AllLow u = AreAllLow w.net (locals_of w) (longest w.net) u.flight

  low_begun : AllLow begun
  low_begun y m t i spelt has_flow =
      ⊎_elim (λ (old : In y w.flight). absurd (subst (λ (z : List Item). In y z) quiet old))
      (λ (new : (b : Bool) × In (y, b) (sent q (At n (DropAs d.0 d.1)) w)).
      let s = sent_by_call q w n (DropAs d.0 d.1) y new.0 (message.ResvErr m) new.1 spelt in
      let p : NodeConfig = config_of q w.net w.trees s.node in
      let c : ℕ = w.clock + ms_of (At n (DropAs d.0 d.1)) in
      ⊎_elim
      (λ (x : IsRefusal p p c (Call (DropAs d.0 d.1)) s.facts s.send). let bad : Call (DropAs d.0 d.1) ≡ Came x.at (own p x.at) (Spelt (message.Resv x.resv)) = x.came in absurd (cc))
      (λ (x : IsPassedOn p (Call (DropAs d.0 d.1)) s.facts s.send m). let bad : Call (DropAs d.0 d.1) ≡ Came x.at (own p x.at) (Spelt (message.ResvErr x.error)) = x.came in absurd (cc))
      (where_an_error_with_a_flow_comes_from.source (node_step p p w.clock c (Call (DropAs d.0 d.1)) s.facts) (begins.bounds.facts s.node s.facts s.there) s.send m t s.sent s.says has_flow))
      (in_flight_now q n d w start settled.resvs_sound sends silent mute y i)

  low_next : (u : World) → Unrefused u → AllLow u → AllLow (step q (Deliver 0) u)
  low_next u r low y m t i spelt has_flow =
      ⊎_elim (λ (old : In y u.flight). low y m t old spelt has_flow)
      (λ (new : (b : Bool) × In (y, b) (sent q (Deliver 0) u)).
      let s = sent_by_rule q (Deliver 0) u y new.0 (message.ResvErr m) refl new.1 spelt in
      let p : NodeConfig = config_of q u.net u.trees s.node in
      let more : AreAllLow u.net (locals_of w) (suc (longest w.net)) u.flight =
      subst (λ (z : Net). AreAllLow z (locals_of w) (suc (longest w.net)) u.flight) (sym r.net) (λ z v f j e h. low_more w.net (locals_of w) (longest w.net) z v (low z v f j e h)) in
      inr
      (⊎_elim
      (λ (x : IsRefusal p p (u.clock + 0) s.by.input s.facts s.send).
      subst (λ (z : Net). IsAlong z (locals_of w) (longest z) y m) r.net (refusal_along q d w u r.going r.net begins.fit y m s x))
      (λ (x : IsPassedOn p s.by.input s.facts s.send m).
      subst (λ (z : Net). IsAlong z (locals_of w) (longest w.net) y m) r.net (along q d w u r.going (longest w.net) more y m t has_flow s x))
      (where_an_error_with_a_flow_comes_from.source (node_step p p u.clock (u.clock + 0) s.by.input s.facts) (r.going.fading.bounds.facts s.node s.facts s.there) s.send m t s.sent s.says has_flow)))
      (in_flight_after q (Deliver 0) u y refl i)

  abbrev pub Next : (u : World) → Unrefused u → Unrefused (step q (Deliver 0) u)
  Next u r =
      unrefused_next q d (flow q n d w start settled.resvs_sound sends silent mute).0 w (was q n d w start settled.resvs_sound sends silent mute)
      (kinds q n d w start settled.resvs_sound sends silent mute) begins.fit u r

  low_on : (m : ℕ) (u : World) → Unrefused u → AllLow u → Unrefused (after_deliveries q m u) × AllLow (after_deliveries q m u)
  low_on zero u r low = (r, low)
  low_on (suc m) u r low = low_on m (step q (Deliver 0) u) (Next u r) (low_next u r low)

  low_passes : (m : ℕ) (u : World) → Unrefused u → AllLow u → AllLow (after_passes q m u)
  low_passes zero u r low = low
  low_passes (suc m) u r low =
      let v : World = after_deliveries q (length u.flight) u in
      let x = low_on (length u.flight) u r low in
      subst AllLow (sym (run_then q (pass q u) (passes q m v) u)) (low_passes m v x.0 x.1)

  pub a_sender_that_ends_leaves_no_error : (i : ℕ) → HasNoFlowError (after_passes q (2 * longest w.net + suc i) begun)
  a_sender_that_ends_leaves_no_error i =
      let u : World = after_passes q (longest w.net + suc i) begun in
      let long : longest w.net ≡ longest w.net + 0 = omega arith in
      let first = low_passes (longest w.net + suc i) begun unrefused_begun low_begun in
      let low =
      (low_after q d w IsLetGo let_go_next (λ v r. r.net)
      (λ v r j. passed_on q d w v r.going (λ y m f. taken_then q n d w start settled.resvs_sound sends silent mute v r.going r.paths r.asks r.net begins.fit y m f) j)
      (longest w.net) 0 u (let_go i) (subst (λ (z : ℕ). AreAllLow w.net (locals_of w) z u.flight) long first)).1 in
      let sum : (longest w.net + suc i) + longest w.net ≡ 2 * longest w.net + suc i = omega arith in
      subst (λ (k : ℕ). HasNoFlowError (after_passes q k begun)) sum
      (subst HasNoFlowError (sym (passes_sum q (longest w.net + suc i) (longest w.net) begun))
      (none_left q d w IsLetGo let_go_next (λ v r. r.net)
      (λ v r j. passed_on q d w v r.going (λ y m f. taken_then q n d w start settled.resvs_sound sends silent mute v r.going r.paths r.asks r.net begins.fit y m f) j)
      begins.bounds.net.loop_free (after_passes q (longest w.net) u) low))
