-- While a sender that ended is forgotten nothing is refused for want of room: so no blockade is set. What is refused names the sender.
use Rattle.std.proofs.Common.{◌≡◌, ℕ, zero, suc, ◌+◌, List, [], ◌∷◌, length, Bool, true, false, Option, None, Some, ◌⊎◌, inl, inr, ⊎_elim, sym, refl, ap, subst, ◌∙◌}
use Rattle.std.specs.Prelude.{slice_get, is_some, not, ◌&&◌, ◌||◌, ◌==◌, map as each}
use Rattle.rsvp_base.specs.declared.part.Part.{Part}
use Rattle.rsvp_base.specs.declared.style.StyleKind.{StyleKind}
use Rattle.rsvp_base.specs.declared.style.StyleKind.TheVariants.{Fixed, Shared, Wild}
use Rattle.rsvp_base.specs.Members.{In}
use Rattle.rsvp_base.specs.Orders.{Names, senders}
use Rattle.rsvp_base.specs.Sets.{IsWithin, is_none}
use Rattle.rsvp_base.specs.Table.{get, has}
use Rattle.rsvp_base.specs.TokenBucket.{TokenBucket}
use Rattle.rsvp_base.proofs.Members.{in_append, in_each}
use Rattle.rsvp_base.proofs.SetLaws.{and_both, has-cut}
use Rattle.rsvp_messages.specs.declared.message.Message.TheVariants as message
use Rattle.rsvp_messages.specs.declared.message.ResvErrMsg.{ResvErrMsg}
use Rattle.rsvp_messages.specs.declared.message.ResvMsg.{ResvMsg}
use Rattle.rsvp_messages.specs.Proper.{IsProperAsk}
use Rattle.rsvp_messages.specs.Units.{AskedUnit, ask_style, asked_units}
use Rattle.style_rules.specs.CutLaws.{made_of, name_some}
use Rattle.style_rules.specs.Lines.{AreUnder, Line}
use Rattle.style_rules.specs.Parts.{part_of}
use Rattle.style_rules.specs.Targets.{WallKey}
use Rattle.laws_steps.specs.AcceptingLaws.{CanBeHeld, HasPlace}
use Rattle.laws_steps.specs.BlameLaws.{IsPassedOn, IsRefusal}
use Rattle.laws_steps.specs.ErrorLaws.{IsBlockadeSet}
use Rattle.laws_steps.proofs.Admitting.{what_is_accepted}
use Rattle.laws_steps.proofs.Blaming.{where_an_error_with_a_flow_comes_from}
use Rattle.laws_steps.proofs.Erring.{where_a_blockade_comes_from}
use Rattle.router_rules.specs.Asking.{Asker, Blamed, Everyone, Nobody, Taking, These, asker_of, book_refuses, has_room, losses, lost, matched, names_that_match, nothing_taken}
use Rattle.router_rules.specs.Asking.{put_tested, put_unit, refusal, style_conflict, style_value, take_unit, take_units, taking, taking_of, tell_lost}
use Rattle.router_rules.specs.Books.{lines}
use Rattle.router_rules.specs.Errors.{is_admission, sets_walls}
use Rattle.router_rules.specs.Facts.{Blockade, Facts, ResvTables, SenderKey, resvs_of, table_of, with_resvs, with_table}
use Rattle.router_rules.specs.Inputs.{Call, Came, DropAs, ErrMsg, ErrSend, Local, OfPath, OfResv, Spelt}
use Rattle.router_rules.specs.Known.{known}
use Rattle.router_rules.specs.NodeConfig.{NodeConfig, own}
use Rattle.router_rules.specs.Rule.{Outcome}
use Rattle.router_rules.specs.Sends.{error_message}
use Rattle.router_rules.specs.Steps.{node_step}
use Rattle.tree_model.specs.Goals.{DemandsFit}
use Rattle.tree_model.specs.Networks.{Net, iface_of, node_of, node_of_end}
use Rattle.tree_model.specs.Wants.{Locals}
use Rattle.network_model.specs.Bounds.{AreBounds, IsProperArrival}
use Rattle.network_model.specs.Events.{pass, passes}
use Rattle.network_model.specs.Locals.{IsLive, locals_of}
use Rattle.network_model.specs.Steps.{At, Deliver, input_at, ms_of, outcome, sent, step, still}
use Rattle.network_model.specs.Worlds.{Item, World, config_of}
use Rattle.network_model.proofs.Machines.{in_arrived, in_flight_after}
use Rattle.network_model.proofs.Quiet.{FollowsRule, outcome_quiet}
use Rattle.network_model.proofs.Stepping.{facts_after_found}
use Rattle.laws_network.proofs.Sends.{sent_by_rule}
use Rattle.settle_resvs.specs.GoalByIface.{goal_at}
use Rattle.settle_resvs.specs.Laws.{AreWantParts}
use Rattle.settle_resvs.specs.Sessions.{Carries, SessionFits}
use Rattle.settle_resvs.proofs.GoalByIface.{each_fits, session_can_be_held}
use Rattle.settle_resvs.proofs.UnderTheGoal.{has_place, sound_under}
use Rattle.settle_passes.specs.Calls.{after_drop}
use Rattle.settle_passes.specs.Passes.{after_passes}
use Rattle.settle_passes.proofs.Deliveries.{came_by_delivery, known_self, same_next}
use Rattle.settle_passes.proofs.Fitting.{as_before}
use Rattle.settle_passes.proofs.SoundParts.{sound_cut}
use Rattle.settle_passes.proofs.Spreading.{after_deliveries, run_then}
use Rattle.settle_passes.proofs.Called.{IsCalled, called, sent_by_call}
use Rattle.settle_releases.proofs.Accepting.{AreResvsWithin, some_unit}
use Rattle.settle_senders.specs.Ending.{SetNoBlockade}
use Rattle.settle_senders.proofs.Ending.{IsLettingGo, letting_go_next}

-- ---- a Resv at a node, where each of its units has a place among lines that can be held, with all of its names or fewer
-- not for want of room
abbrev pub IsMild : ErrSend → Type 0
IsMild e = (w : ResvErrMsg) → e.error ≡ OfResv w → is_admission w.err ≡ false

pub record HasPlaces (o : Asker) (gs : List Line) (u : AskedUnit) : Type 0 where
  pub names : Names
  pub listed : u.names ≡ Some names
  pub some : is_none names ≡ false
  pub place : (ns : Names) → IsWithin ns names → is_none ns ≡ false → HasPlace o u.unit (record { senders = ns; flow = u.flow }) gs

module _ (p : NodeConfig) (o : Asker) (f : Facts) (gs : List Line) (can : CanBeHeld p o.session o.iface gs) where
  refusal_mild : (code value : ℕ) (names : Option Names) (flow : TokenBucket) → (code == 1) ≡ false → IsMild (refusal p o false code value names flow)
  refusal_mild code value names flow other w e =
      let made : ResvErrMsg = record {
        session = o.session;
        hop = record { addr = own p o.iface; handle = 0 };
        err = record { node = own p o.iface; in_place = false; not_guilty = false; code = code; value = value };
        blame = record { style = o.style; senders = names; flow = Some flow };
      } in
      let same : OfResv made ≡ OfResv w = e in
      let is : made ≡ w = cc in
      ap (λ (z : ResvErrMsg). is_admission z.err) (sym is) ∙ ap (λ (b : Bool). b && ((value == 2) || (value == 3))) other

  losses_mild : (b : Blamed) (flow : TokenBucket) (e : ErrSend) → In e (losses p o flow b) → IsMild e
  losses_mild Nobody flow e i = absurd i
  losses_mild Everyone flow e i =
      ⊎_elim (λ (is : e ≡ refusal p o false 4 0 None flow). subst IsMild (sym is) (refusal_mild 4 0 None flow refl)) (λ (no : ⊥). absurd no) i
  losses_mild (These names) flow e i =
      ⊎_elim (λ (is : e ≡ refusal p o false 4 0 (Some names) flow). subst IsMild (sym is) (refusal_mild 4 0 (Some names) flow refl)) (λ (no : ⊥). absurd no) i

  pub record GoesMildly (t : Taking) : Type 0 where
    pub errors : (e : ErrSend) → In e t.errors → IsMild e
    pub under : AreUnder (lines (with_resvs o.style t.table f)) gs

  module _ (all : Names) where
    pub unit_mild : (t : Taking) (u : AskedUnit) → HasPlaces o gs u → GoesMildly t → GoesMildly (take_unit p o f all t u)
    unit_mild t u places mild = by (part_of (names_that_match u.names all) u.flow) refl
      where
        told : Taking
        told = tell_lost p o u.flow (lost o.style u.names all) t

        told_mild : GoesMildly told
        told_mild = record {
          errors = λ e i. ⊎_elim (λ (old : In e t.errors). mild.errors e old) (λ (new : In e (losses p o u.flow (lost o.style u.names all))). losses_mild (lost o.style u.names all) u.flow e new)
              (in_append e t.errors (losses p o u.flow (lost o.style u.names all)) i);
          under = mild.under;
        }

        within : IsWithin (names_that_match u.names all) places.names
        within x i =
            (and_both _ _ (sym (has-cut senders places.names all x) ∙ ap (λ (z : Option Names). has (names_that_match z all) x) (sym places.listed) ∙ i)).0

        by : (w : Option Part) → part_of (names_that_match u.names all) u.flow ≡ w → GoesMildly (put_unit p o f u.unit w told)
        by None e = told_mild
        by (Some part) e =
            let m = made_of (names_that_match u.names all) u.flow part e in
            let is : record { senders = names_that_match u.names all; flow = u.flow } ≡ part = (λ j. record { senders = sym m.senders j; flow = sym m.flow j }) in
            let place : HasPlace o u.unit part gs = subst (λ (z : Part). HasPlace o u.unit z gs) is (places.place (names_that_match u.names all) within m.some) in
            let booked = what_is_accepted.unit p o f told.table u.unit part gs can told_mild.under place in
            let put : put_tested p o f u.unit part (has_room o u.unit part told.table) (book_refuses p o f u.unit part told.table) told ≡ put_tested p o f u.unit part true None told =
            (λ j. put_tested p o f u.unit part (booked.room j) (booked.open_to j) told) in
            subst GoesMildly (sym put) (record { errors = told_mild.errors; under = booked.under })

    units_mild : (us : List AskedUnit) → ((u : AskedUnit) → In u us → HasPlaces o gs u) → (t : Taking) → GoesMildly t → GoesMildly (take_units p o f all t us)
    units_mild [] places t mild = mild
    units_mild (u ∷ us) places t mild = units_mild us (λ v i. places v (inr i)) (take_unit p o f all t u) (unit_mild t u (places u (inl refl)) mild)

  all_refused : (code value : ℕ) (us : List AskedUnit) (e : ErrSend) → (code == 1) ≡ false → In e (each (λ (u : AskedUnit). refusal p o false code value u.names u.flow) us) → IsMild e
  all_refused code value us e other i =
      let x = in_each (λ (u : AskedUnit). refusal p o false code value u.names u.flow) e us i in
      subst IsMild (sym x.2) (refusal_mild code value x.0.names x.0.flow other)

as_it_was : (st : StyleKind) (ts : ResvTables) → with_table st (table_of st ts) ts ≡ ts
as_it_was Wild ts = refl
as_it_was Fixed ts = refl
as_it_was Shared ts = refl

pub taking_mild : (p : NodeConfig) (c e : ℕ) (m : ResvMsg) (f : Facts) (gs : List Line) → CanBeHeld p m.session e gs → AreUnder (lines f) gs
    → ((u : AskedUnit) → In u (asked_units m.ask) → HasPlaces (asker_of p c e m) gs u) → (x : ErrSend) → In x (taking p c e m f).errors → IsMild x
taking_mild p c e m f gs can there places x i = by (is_none (known f m.session)) (style_conflict f m.session (ask_style m.ask)) i
  where
    o : Asker
    o = asker_of p c e m

    by : (b : Bool) (other : Option StyleKind) → In x (taking_of p o (asked_units m.ask) f b other).errors → IsMild x
    by true other j = all_refused p o f gs can 3 0 (asked_units m.ask) x refl j
    by false (Some st) j = all_refused p o f gs can 5 (style_value st) (asked_units m.ask) x refl j
    by false None j =
        (units_mild p o f gs can (matched p f o) (asked_units m.ask) places (nothing_taken (resvs_of o.style f) [])
        (record { errors = λ z n. absurd n; under = subst (λ (ts : ResvTables). AreUnder (lines (record f { resvs = ts })) gs) (sym (as_it_was o.style f.resvs)) there })).errors x j

-- ---- a Resv that arrives, within what was wanted before, which fitted
module _ (q c : ℕ) (before : List Facts) (u : World) (bounds : AreBounds q u) (within : AreResvsWithin before u) (y : Item) (m : ResvMsg) (i : In y u.flight) (spelt : y.arrival ≡ Spelt
    (message.Resv m))
    (fits : SessionFits u.net (locals_of (as_before before u)) m.session) (f : Facts) (at : slice_get u.nodes (node_of u.net.ends y.end) ≡ Some f) where
  abbrev was : Locals
  was = locals_of (as_before before u)

  abbrev n : ℕ
  n = node_of u.net.ends y.end

  abbrev here : NodeConfig
  here = config_of q u.net u.trees n

  abbrev asks : Asker
  asks = asker_of here c (iface_of u.net.ends y.end) m

  proper : IsProperAsk m.ask
  proper = subst IsProperArrival spelt (bounds.flight y i).proper

  pub carries : Carries u.net was m.session y.end
  carries =
      let v = some_unit m.ask proper in
      let x = within.items y m v.0 i spelt v.1 in
      record { hop = x.sound.hop; there = x.sound.there; from = x.sound.from; style = ask_style m.ask; unit = v.0.unit; part = x.sound.wanted; wanted = x.sound.is }

  pub placed : (v : AskedUnit) → In v (asked_units m.ask) → HasPlaces asks (goal_at u.net was n) v
  placed v j =
      let x = within.items y m v i spelt j in
      record {
        names = x.names;
        listed = x.named;
        some = name_some x.names x.sound.some;
        place = λ ns less some.
            let part : Part = record { senders = ns; flow = v.flow } in
            has_place (as_before before u) asks y.end v.unit part
            (sound_cut (ask_style m.ask) (as_before before u) m.session y.end m.hop.addr v.unit part (record { senders = x.names; flow = v.flow })
            (record { names = less; flow = refl; named = ap not some }) x.sound) refl;
      }

  pub resv_mild : (e : ErrSend) → In e (taking here c (iface_of u.net.ends y.end) m f).errors → IsMild e
  resv_mild e j =
      taking_mild here c (iface_of u.net.ends y.end) m f (goal_at u.net was n) (session_can_be_held q u.net u.trees was m.session y.end bounds.net fits carries)
      (sound_under (as_before before u) n f (λ st k r h. within.facts st n f k r at h)) placed e j

-- ---- one delivery: no blockade is set, and nothing that is sent sets one
abbrev pub HasNoWall : World → Type 0
HasNoWall w = (n : ℕ) (f : Facts) (k : WallKey) → slice_get w.nodes n ≡ Some f → get f.walls k ≡ None

off : (b : Bool) → (b && false) ≡ false
off true = refl
off false = refl

pub of_error : (x : ErrMsg) (m : ResvErrMsg) → error_message x ≡ message.ResvErr m → x ≡ OfResv m
of_error (OfPath z) m e = let bad : message.PathErr z ≡ message.ResvErr m = e in absurd (cc)
of_error (OfResv z) m e = let says : message.ResvErr z ≡ message.ResvErr m = e in let is : z ≡ m = cc in ap OfResv is

module _ (q : ℕ) (d : SenderKey) (w u : World) (r : IsLettingGo q d w u) (net : u.net ≡ w.net) (fit : DemandsFit w.net (locals_of w)) (mild : SetNoBlockade u) (free : HasNoWall u) where
  bounds : AreBounds q u
  bounds = r.fading.bounds

  mild_next : SetNoBlockade (step q (Deliver 0) u)
  mild_next y m i spelt = by m.blame.flow refl
    where
      by : (o : Option TokenBucket) → m.blame.flow ≡ o → sets_walls m ≡ false
      by None e = ap (λ (z : Option TokenBucket). is_admission m.err && is_some z) e ∙ off (is_admission m.err)
      by (Some flow) e =
          ⊎_elim (λ (old : In y u.flight). mild y m old spelt)
          (λ (new : (b : Bool) × In (y, b) (sent q (Deliver 0) u)).
          let s = sent_by_rule q (Deliver 0) u y new.0 (message.ResvErr m) refl new.1 spelt in
          let p : NodeConfig = config_of q u.net u.trees s.node in
          let t = came_by_delivery q 0 u bounds s.node s.by.input s.by.came in
          let node : node_of u.net.ends t.item.end ≡ s.node = ap node_of_end t.there ∙ t.node in
          ⊎_elim
          (λ (x : IsRefusal p p (u.clock + 0) s.by.input s.facts s.send).
          let input : Came (iface_of u.net.ends t.item.end) t.item.dst t.item.arrival ≡ Came x.at (own p x.at) (Spelt (message.Resv x.resv)) = sym t.is ∙ x.came in
          let iface : iface_of u.net.ends t.item.end ≡ x.at = cc in
          let said : t.item.arrival ≡ Spelt (message.Resv x.resv) = cc in
          let fits : SessionFits u.net (locals_of w) x.resv.session = subst (λ (z : Net). SessionFits z (locals_of w) x.resv.session) (sym net) (each_fits w.net (locals_of w) fit x.resv.session) in
          let made : In x.error (taking (config_of q u.net u.trees (node_of u.net.ends t.item.end)) (u.clock + 0) (iface_of u.net.ends t.item.end) x.resv s.facts).errors =
          subst (λ (z : ℕ × ℕ). In x.error (taking (config_of q u.net u.trees z.0) (u.clock + 0) z.1 x.resv s.facts).errors) (λ j. (sym node j, sym iface j)) x.made in
          let one = resv_mild q (u.clock + 0) w.nodes u bounds r.within t.item x.resv (in_arrived (Deliver 0) u t.item t.arrives) said fits s.facts
          (ap (λ (z : ℕ). slice_get u.nodes z) node ∙ s.there) x.error made m (of_error x.error.error m (sym (ap (λ (z : _). z.message) x.is) ∙ s.says)) in
          ap (λ (b : Bool). b && is_some m.blame.flow) one)
          (λ (x : IsPassedOn p s.by.input s.facts s.send m).
          let input : Came (iface_of u.net.ends t.item.end) t.item.dst t.item.arrival ≡ Came x.at (own p x.at) (Spelt (message.ResvErr x.error)) = sym t.is ∙ x.came in
          let said : t.item.arrival ≡ Spelt (message.ResvErr x.error) = cc in
          (λ j. is_admission (x.fault j) && is_some (x.flow j)) ∙ mild t.item x.error (in_arrived (Deliver 0) u t.item t.arrives) said)
          (where_an_error_with_a_flow_comes_from.source (node_step p p u.clock (u.clock + 0) s.by.input s.facts) (bounds.facts s.node s.facts s.there) s.send m flow s.sent s.says e))
          (in_flight_after q (Deliver 0) u y refl i)

  free_next : HasNoWall (step q (Deliver 0) u)
  free_next n g k at = by (get g.walls k) refl
    where
      by : (o : Option Blockade) → get g.walls k ≡ o → get g.walls k ≡ None
      by None e = e
      by (Some b) e =
          let f = facts_after_found q (Deliver 0) u n g at in
          let p : NodeConfig = config_of q u.net u.trees n in
          let now : get (outcome q (Deliver 0) u n f.0).facts.walls k ≡ Some b = ap (λ (z : Facts). get z.walls k) (sym f.2) ∙ e in
          let none : get f.0.walls k ≡ None = free n f.0 k f.1 in
          ⊎_elim
          (λ (z : (input_at (Deliver 0) u n ≡ None) × (outcome q (Deliver 0) u n f.0 ≡ still f.0)).
          let bad : None ≡ Some b = sym none ∙ sym (ap (λ (o : Outcome). get o.facts.walls k) z.1) ∙ now in absurd (cc))
          (λ (h : FollowsRule q (Deliver 0) u n f.0 (outcome q (Deliver 0) u n f.0)).
          ⊎_elim
          (λ (old : get f.0.walls k ≡ Some b). let bad : None ≡ Some b = sym none ∙ old in absurd (cc))
          (λ (set : IsBlockadeSet p (u.clock + 0) h.input f.0 k b).
          let c = came_by_delivery q 0 u bounds n h.input h.came in
          let input : Came (iface_of u.net.ends c.item.end) c.item.dst c.item.arrival ≡ Came set.at (own p set.at) (Spelt (message.ResvErr set.error)) = sym c.is ∙ set.came in
          let said : c.item.arrival ≡ Spelt (message.ResvErr set.error) = cc in
          let sets : sets_walls set.error ≡ true = (λ j. set.admission j && is_some (set.says j)) in
          let bad : true ≡ false = sym sets ∙ mild c.item set.error (in_arrived (Deliver 0) u c.item c.arrives) said in
          absurd (cc))
          (where_a_blockade_comes_from (node_step p p u.clock (u.clock + 0) h.input f.0) (bounds.facts n f.0 f.1) k b (sym (ap (λ (o : Outcome). get o.facts.walls k) h.is) ∙ now)))
          (outcome_quiet q (Deliver 0) u n f.0 refl)

-- ---- passes, one after the other
module _ (q : ℕ) (d : SenderKey) (flow : TokenBucket) (w : World) (was : IsLive w d flow) (kinds : AreWantParts (locals_of w)) (fit : DemandsFit w.net (locals_of w)) where
  pub record IsUnrefused (u : World) : Type 0 where
    pub going : IsLettingGo q d w u
    pub net : u.net ≡ w.net
    pub mild : SetNoBlockade u
    pub free : HasNoWall u

  pub unrefused_next : (u : World) → IsUnrefused u → IsUnrefused (step q (Deliver 0) u)
  unrefused_next u r = record {
    going = letting_go_next q d flow w u was kinds r.going;
    net = (same_next q 0 u r.going.fading.bounds u (known_self q u r.going.fading.bounds).same).net ∙ r.net;
    mild = mild_next q d w u r.going r.net fit r.mild r.free;
    free = free_next q d w u r.going r.net fit r.mild r.free;
  }

  unrefused_on : (m : ℕ) (u : World) → IsUnrefused u → IsUnrefused (after_deliveries q m u)
  unrefused_on zero u r = r
  unrefused_on (suc m) u r = unrefused_on m (step q (Deliver 0) u) (unrefused_next u r)

  pub unrefused_after : (m : ℕ) (u : World) → IsUnrefused u → IsUnrefused (after_passes q m u)
  unrefused_after zero u r = r
  unrefused_after (suc m) u r =
      let v : World = after_deliveries q (length u.flight) u in
      subst (λ (z : World). IsUnrefused z) (sym (run_then q (pass q u) (passes q m v) u)) (unrefused_after m v (unrefused_on (length u.flight) u r))

-- ---- the host ends
module _ (q n : ℕ) (d : SenderKey) (w : World) (bounds : AreBounds q w) (mild : SetNoBlockade w) (free : HasNoWall w) where
  abbrev call : Local
  call = DropAs d.0 d.1

  pub mild_begun : (y : Item) (m : ResvErrMsg) → In y w.flight ⊎ ((b : Bool) × In (y, b) (sent q (At n call) w)) → y.arrival ≡ Spelt (message.ResvErr m) → sets_walls m ≡ false
  mild_begun y m from spelt = by m.blame.flow refl
    where
      by : (o : Option TokenBucket) → m.blame.flow ≡ o → sets_walls m ≡ false
      by None e = ap (λ (z : Option TokenBucket). is_admission m.err && is_some z) e ∙ off (is_admission m.err)
      by (Some flow) e =
          ⊎_elim (λ (old : In y w.flight). mild y m old spelt)
          (λ (new : (b : Bool) × In (y, b) (sent q (At n call) w)).
          let s = sent_by_call q w n call y new.0 (message.ResvErr m) new.1 spelt in
          let p : NodeConfig = config_of q w.net w.trees s.node in
          let c : ℕ = w.clock + ms_of (At n call) in
          ⊎_elim
          (λ (x : IsRefusal p p c (Call call) s.facts s.send). let bad : Call call ≡ Came x.at (own p x.at) (Spelt (message.Resv x.resv)) = x.came in absurd (cc))
          (λ (x : IsPassedOn p (Call call) s.facts s.send m). let bad : Call call ≡ Came x.at (own p x.at) (Spelt (message.ResvErr x.error)) = x.came in absurd (cc))
          (where_an_error_with_a_flow_comes_from.source (node_step p p w.clock c (Call call) s.facts) (bounds.facts s.node s.facts s.there) s.send m flow s.sent s.says e))
          from

  pub free_begun : HasNoWall (after_drop q n d w)
  free_begun m g k at =
      let f = facts_after_found q (At n call) w m g at in
      let same : (outcome q (At n call) w m f.0).facts.walls ≡ f.0.walls =
      ⊎_elim (λ (h : outcome q (At n call) w m f.0 ≡ still f.0). ap (λ (o : Outcome). o.facts.walls) h)
      (λ (h : IsCalled q w n call m f.0). ap (λ (o : Outcome). o.facts.walls) h.is) (called q w n call m f.0) in
      ap (λ (z : Facts). get z.walls k) f.2 ∙ ap (λ (z : _). get z k) same ∙ free m f.0 k f.1
