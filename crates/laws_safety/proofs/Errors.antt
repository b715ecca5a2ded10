-- What a ResvErr changes: its own blockades, and nothing of the reservations, so that nothing is torn down. A blockade that it does
-- not set stays.
use Rattle.std.proofs.Common.{leb-false, leb-true, ◌≡◌, ℕ, ◌+◌, ◌<◌, ◌≤◌, Bool, true, false, Option, None, Some, ◌⊎◌, ⊎_elim, arith, refl, sym, ap, subst, ◌∙◌}
use Rattle.std.specs.Prelude.{nat_le, slice_get, is_some}
use Rattle.rsvp_base.specs.declared.addr.Addr.{Addr}
use Rattle.rsvp_base.specs.declared.session.Sender.{Sender}
use Rattle.rsvp_base.specs.declared.style.Unit.{Unit as UnitOf}
use Rattle.rsvp_base.specs.Members.{In}
use Rattle.rsvp_base.specs.Table.{get, has, size}
use Rattle.rsvp_base.specs.TokenBucket.{TokenBucket}
use Rattle.rsvp_base.proofs.SetLaws.{and_both}
use Rattle.rsvp_base.proofs.Tables.{either}
use Rattle.rsvp_messages.specs.declared.message.Message.{Message}
use Rattle.rsvp_messages.specs.declared.message.Message.TheVariants as message
use Rattle.rsvp_messages.specs.declared.message.ResvErrMsg.{ResvErrMsg}
use Rattle.rsvp_messages.specs.declared.message.ResvTearMsg.{ResvTearMsg}
use Rattle.style_rules.specs.Targets.{WallKey}
use Rattle.style_rules.proofs.Towards.{toward_above_meet, toward_source, toward_there}
use Rattle.laws_bounds.specs.ErrorLaws.{errors_with, walls_set}
use Rattle.laws_bounds.proofs.Erring.{resv_errs_by_tests}
use Rattle.laws_bounds.proofs.Telling.{errors_and_walls}
use Rattle.laws_bounds.proofs.Framing.{act_paths, act_wants}
use Rattle.laws_bounds.proofs.Leaving.{waiting_leaves_the_living}
use Rattle.laws_bounds.proofs.Ruling.{rule_in_parts}
use Rattle.laws_bounds.proofs.Tests.{addr_told, addr_tested}
use Rattle.laws_bounds.specs.FactLaws.{ComesBy}
use Rattle.laws_steps.proofs.Blockading.{units_of_toward_do_not_depend_on_blockade}
use Rattle.laws_steps.proofs.Erring.{an_error_changes_no_fact}
use Rattle.laws_steps.proofs.Hopward.{why_a_resv_tear_is_sent}
use Rattle.router_rules.specs.Act.{act, act_spelt, is_mine}
use Rattle.router_rules.specs.Bounds.{IsWithinBounds}
use Rattle.router_rules.specs.Errors.{act_resv_err, is_admission, sets_walls, walled_by, walls_with}
use Rattle.router_rules.specs.Facts.{Blockade, Facts, Walls}
use Rattle.router_rules.specs.Forgetting.{forget}
use Rattle.router_rules.specs.Rule.{Outcome}
use Rattle.router_rules.specs.declared.answers.Heard.TheVariants as heard
use Rattle.router_rules.specs.declared.answers.Why.TheVariants as why
use Rattle.router_rules.specs.Inputs.{Arrival, Call, Came, Change, Clear, only_heard, Input, Moved, Spelt, Unspelt, Wait}
use Rattle.router_rules.specs.Known.{Lane}
use Rattle.router_rules.specs.NodeConfig.{NodeConfig, own}
use Rattle.router_rules.specs.Requests.{requests, toward}
use Rattle.router_rules.specs.Steps.{facts_then, node_step}
use Rattle.tree_model.specs.declared.hops.End.{End}
use Rattle.tree_model.specs.Networks.{iface_of}
use Rattle.network_model.specs.Bounds.{AreBounds}
use Rattle.network_model.specs.Steps.{ClearAt, Deliver, Piece, Lose, Copy, At, Trace, Report, Flags, Adverts, Inject, Reroute, Step, arrived, input_at, is_quiet, ms_of, net_after, outcome}
use Rattle.network_model.specs.Steps.{outcome_of, sent, step}
use Rattle.network_model.specs.Worlds.{Item, World, config_of}
use Rattle.network_model.proofs.Quiet.{IsCame, IsWaited, at_node_found, input_came, input_found, outcome_by}
use Rattle.network_model.proofs.Stepping.{facts_after_found}
use Rattle.laws_network.proofs.Known.{has_some, of_some}
use Rattle.laws_network.proofs.Sends.{sent_by_rule}
use Rattle.laws_safety.specs.Blockades.{ABlockadeStays, AResvErrTearsNothing, AnAdmissionErrorSetsItsBlockade, AnErrorTearsNothing, BlockadesDropNothing, SetsBlockade}

-- ---- a blockade drops no unit
pub blockades_drop_nothing : BlockadesDropNothing
blockades_drop_nothing = record {
  units = λ p f l u. (λ e. toward_source l.style (requests p f l) u e, λ r h. toward_there l.style (requests p f l) u r h);
  least = λ p f l u t flow goes meets. toward_above_meet l.style (requests p f l) u t flow goes meets;
}

-- ---- a ResvErr at a node
module _ (p : NodeConfig) (c e : ℕ) (dst : Addr) (m : ResvErrMsg) (f : Facts) (within : IsWithinBounds p c f) where
  abbrev input : Input
  input = Came e dst (Spelt (message.ResvErr m))

  abbrev made : Facts
  made = (act p c input f).facts

  same_resvs : (facts_then p p c input f).resvs ≡ f.resvs
  same_resvs = an_error_changes_no_fact.resvs p p c c e dst (message.ResvErr m) f within refl

  -- the units that go toward a hop stay
  pub same_units : (l : Lane) (u : UnitOf) → has (toward p (facts_then p p c input f) l) u ≡ has (toward p f l) u
  same_units l u =
      let paths = act_paths p c input f refl in
      let wants = act_wants p c input f refl in
      let resvs : (forget f made).resvs ≡ f.resvs = sym (rule_in_parts.resvs p p c input f) ∙ same_resvs in
      ap (λ t. has t u) (rule_in_parts.toward_same p p c input f l) ∙ (λ j. has (toward p (record f { paths = paths j; wants = wants j; resvs = resvs j; walls = made.walls }) l) u)
      ∙ units_of_toward_do_not_depend_on_blockade p f made.walls l u

-- ---- a blockade that an input does not set
-- a node with these facts takes the error, which sets a blockade of this key
pub record Takes (p : NodeConfig) (c : ℕ) (f : Facts) (k : WallKey) (e : ℕ) (m : ResvErrMsg) : Type 0 where
  pub admission : is_admission m.err ≡ true
  pub flow : TokenBucket
  pub says : m.blame.flow ≡ Some flow
  pub target : In k (walled_by e m m.blame.style)
  pub sender : Sender
  pub comes : ComesBy f m.session (e, m.hop.addr) sender
  pub room : size (walls_set p c e m f) ≤ 512

abbrev pub IsSetBy : NodeConfig → ℕ → Facts → Input → WallKey → Type 0
IsSetBy p c f i k = (e : ℕ) × (m : ResvErrMsg) × (i ≡ Came e (own p e) (Spelt (message.ResvErr m))) × Takes p c f k e m

module _ (p : NodeConfig) (c : ℕ) (f : Facts) (k : WallKey) (b : Blockade) (there : get f.walls k ≡ Some b) where
  abbrev Stands : Change → Type 0
  Stands x = get x.facts.walls k ≡ Some b

  by_error : (e : ℕ) (m : ResvErrMsg) → (Takes p c f k e m → ⊥) → Stands (act_resv_err p c e m f)
  by_error e m apart =
      ⊎_elim (λ (s : act_resv_err p c e m f ≡ only_heard (heard.Dropped why.NoState) f). subst Stands (sym s) there)
      (λ (r : ((x : Sender) × ComesBy f m.session (e, m.hop.addr) x) × ((act_resv_err p c e m f ≡ only_heard (heard.Dropped why.Full) f) ⊎ (act_resv_err p c e m f ≡ errors_with p c e m f))).
      ⊎_elim (λ (s : act_resv_err p c e m f ≡ only_heard (heard.Dropped why.Full) f). subst Stands (sym s) there)
      (λ (s : act_resv_err p c e m f ≡ errors_with p c e m f).
      either (sets_walls m)
      (λ sets.
      either (nat_le (size (walls_set p c e m f)) 512)
      (λ few.
      let parts = and_both (is_admission m.err) (is_some m.blame.flow) sets in
      let flow = has_some m.blame.flow parts.1 in
      subst Stands (sym s)
      (resv_errs_by_tests.beside p c e m f k (λ target. apart (record {
        admission = parts.0;
        flow = flow.0;
        says = flow.1;
        target = target;
        sender = r.0.0;
        comes = r.0.1;
        room = leb-true
            (size (walls_set p c e m f)) 512 few;
      }))
      ∙ there))
      (λ many. subst Stands (sym (resv_errs_by_tests.full p c e m f r.0.0 r.0.1 sets (leb-false (size (walls_set p c e m f)) 512 many))) there))
      (λ none. subst Stands (sym s) (ap (λ (w : Walls). get w k) (resv_errs_by_tests.sets_none p c e m f none) ∙ there)))
      r.1)
      (resv_errs_by_tests.one p c e m f)

  after_error : (e : ℕ) (m : ResvErrMsg) (mine : Bool) → (mine ≡ true → Takes p c f k e m → ⊥) → Stands (act_spelt p c e (message.ResvErr m) mine f)
  after_error e m false apart = there
  after_error e m true apart = by_error e m (apart refl)

  spelt_stays : (i : Input) (e : ℕ) (dst : Addr) (m : Message) (mine : Bool) → i ≡ Came e dst (Spelt m) → is_mine p e dst m ≡ mine → (IsSetBy p c f i k → ⊥)
      → get (act_spelt p c e m mine f).facts.walls k ≡ Some b
  spelt_stays i e dst (message.ResvErr m) mine came is apart =
      after_error e m mine
      (λ yes takes.
      let to : dst ≡ own p e = addr_told dst (own p e) (is ∙ yes) in
      apart (e, m, came ∙ ap (λ (a : Addr). Came e a (Spelt (message.ResvErr m))) to, takes))
  spelt_stays i e dst (message.Path m) false came is apart = there
  spelt_stays i e dst (message.Path m) true came is apart = there
  spelt_stays i e dst (message.Resv m) false came is apart = there
  spelt_stays i e dst (message.Resv m) true came is apart = there
  spelt_stays i e dst (message.PathErr m) false came is apart = there
  spelt_stays i e dst (message.PathErr m) true came is apart = there
  spelt_stays i e dst (message.PathTear m) false came is apart = there
  spelt_stays i e dst (message.PathTear m) true came is apart = there
  spelt_stays i e dst (message.ResvTear m) false came is apart = there
  spelt_stays i e dst (message.ResvTear m) true came is apart = there
  spelt_stays i e dst (message.ResvConf m) false came is apart = there
  spelt_stays i e dst (message.ResvConf m) true came is apart = there

  pub wall_stays : (old : NodeConfig) (i : Input) → c < b.dies → (i ≡ Clear → ⊥) → (IsSetBy p c f i k → ⊥) → get (facts_then old p c i f).walls k ≡ Some b
  wall_stays old (Call l) lives loud apart = there
  wall_stays old (Wait ms word) lives loud apart = (waiting_leaves_the_living.of_walls p c word f k b).1 (there, lives)
  wall_stays old Clear lives loud apart = absurd (loud refl)
  wall_stays old Moved lives loud apart = there
  wall_stays old (Came e dst (Unspelt m)) lives loud apart = there
  wall_stays old (Came e dst (Spelt m)) lives loud apart = spelt_stays (Came e dst (Spelt m)) e dst m (is_mine p e dst m) refl refl apart

-- ---- at a node of a network
-- an input that clears is that of the step
cleared_by : (s : Step) (w : World) (n : ℕ) → input_at s w n ≡ Some Clear → s ≡ ClearAt n
cleared_by (Piece ms) w n e = absurd (cc)
cleared_by (Deliver k) w n e =
    ⊎_elim (λ (t : IsWaited (Deliver k) w n Clear). let z = t.is in absurd (cc)) (λ (t : IsCame (Deliver k) w n Clear). let z = t.is in absurd (cc)) (input_found (Deliver k) w n Clear refl e)
cleared_by (Lose k) w n e = absurd (cc)
cleared_by (Copy k) w n e = absurd (cc)
cleared_by (At m l) w n e = let r = at_node_found m n (Call l) Clear e in let z = r.1 in absurd (cc)
cleared_by (ClearAt m) w n e = ap ClearAt (at_node_found m n Clear Clear e).0
cleared_by (Trace on) w n e = absurd (cc)
cleared_by (Report r) w n e = absurd (cc)
cleared_by Flags w n e = absurd (cc)
cleared_by Adverts w n e = absurd (cc)
cleared_by (Inject t dst a) w n e = absurd (cc)
cleared_by (Reroute g x hops) w n e = absurd (cc)

-- what comes to a node is an item that the step delivers
pub came_by : (s : Step) (w : World) (n e : ℕ) (dst : Addr) (a : Arrival) → input_at s w n ≡ Some (Came e dst a)
    → (k : ℕ) × (y : Item) × (end : End) × (s ≡ Deliver k) × (slice_get w.flight k ≡ Some y) × (slice_get w.net.ends y.end ≡ Some end) × (end.node ≡ n)
    × (Came e dst a ≡ Came (iface_of w.net.ends y.end) y.dst y.arrival)
came_by (Deliver k) w n e dst a is =
    ⊎_elim (λ (t : IsWaited (Deliver k) w n (Came e dst a)). let z = t.is in absurd (cc))
    (λ (t : IsCame (Deliver k) w n (Came e dst a)). (k, t.item, t.end, refl, t.arrives, t.there, t.node, t.is)) (input_found (Deliver k) w n (Came e dst a) refl is)
came_by (Piece ms) w n e dst a is = absurd (cc)
came_by (Lose k) w n e dst a is = absurd (cc)
came_by (Copy k) w n e dst a is = absurd (cc)
came_by (At m l) w n e dst a is = let r = at_node_found m n (Call l) (Came e dst a) is in let z = r.1 in absurd (cc)
came_by (ClearAt m) w n e dst a is = let r = at_node_found m n Clear (Came e dst a) is in let z = r.1 in absurd (cc)
came_by (Trace on) w n e dst a is = absurd (cc)
came_by (Report r) w n e dst a is = absurd (cc)
came_by Flags w n e dst a is = absurd (cc)
came_by Adverts w n e dst a is = absurd (cc)
came_by (Inject t d x) w n e dst a is = absurd (cc)
came_by (Reroute g x hops) w n e dst a is = absurd (cc)

module _ (q : ℕ) (s : Step) (w : World) where
  -- of a step that delivers something the network stays
  replaced : (n : ℕ) (f : Facts) (k : WallKey) (i : Input) → input_at s w n ≡ Some i → IsSetBy (config_of q (net_after s w) w.trees n) (w.clock + ms_of s) f i k → SetsBlockade q s w n f k
  replaced n f k i e x =
      let c = came_by s w n x.0 (own (config_of q (net_after s w) w.trees n) x.0) (Spelt (message.ResvErr x.1)) (e ∙ ap Some x.2) in
      let same : Came x.0 (own (config_of q (net_after s w) w.trees n) x.0) (Spelt (message.ResvErr x.1)) ≡ Came (iface_of w.net.ends c.1.end) c.1.dst c.1.arrival = c.7 in
      let iface : x.0 ≡ iface_of w.net.ends c.1.end = cc in
      let dst : own (config_of q (net_after s w) w.trees n) x.0 ≡ c.1.dst = cc in
      let arrival : Spelt (message.ResvErr x.1) ≡ c.1.arrival = cc in
      let place : config_of q (net_after s w) w.trees n ≡ config_of q w.net w.trees n = ap (λ (z : Step). config_of q (net_after z w) w.trees n) c.3 in
      record {
        place = c.0;
        item = c.1;
        end = c.2;
        error = x.1;
        flow = x.3.flow;
        step_is = c.3;
        arrives = c.4;
        there = c.5;
        node = c.6;
        mine = sym dst ∙ ap (λ (z : NodeConfig). own z x.0) place ∙ ap (own (config_of q w.net w.trees n)) iface;
        says = sym arrival;
        admission = x.3.admission;
        with_flow = x.3.says;
        target = subst (λ (z : ℕ). In k (walled_by z x.1 x.1.blame.style)) iface x.3.target;
        sender = x.3.sender;
        comes = subst (λ (z : ℕ). ComesBy f x.1.session (z, x.1.hop.addr) x.3.sender) iface x.3.comes;
        room = subst (λ (z : ℕ). size (walls_set (config_of q w.net w.trees n) (w.clock + ms_of s) z x.1 f) ≤ 512) iface
            (subst (λ (z : NodeConfig). size (walls_set z (w.clock + ms_of s) x.0 x.1 f) ≤ 512) place x.3.room);
      }

  -- the error sets its blockade
  pub an_admission_error_sets_its_blockade : AnAdmissionErrorSetsItsBlockade q s w
  an_admission_error_sets_its_blockade n f g k before after r =
      let p : NodeConfig = config_of q w.net w.trees n in
      let c : ℕ = w.clock + ms_of s in
      let e : ℕ = iface_of w.net.ends r.item.end in
      let found = facts_after_found q s w n g after in
      let same : found.0 ≡ f = of_some found.0 f (sym found.1 ∙ before) in
      let arrives : arrived s w ≡ Some r.item = ap (λ (z : Step). arrived z w) r.step_is ∙ r.arrives in
      let came : input_at s w n ≡ Some (Came e (own p e) (Spelt (message.ResvErr r.error))) =
      ap (input_at s w) (sym r.node) ∙ input_came s w r.item r.end arrives r.there ∙ (λ j. Some (Came e (r.mine j) (r.says j))) in
      let out = outcome_by q s w n f (Came e (own p e) (Spelt (message.ResvErr r.error))) (ap is_quiet r.step_is) came in
      let mine : is_mine p e (own p e) (message.ResvErr r.error) ≡ true = addr_tested (own p e) (own p e) refl in
      let taken : act_resv_err p c e r.error f ≡ errors_with p c e r.error f = resv_errs_by_tests.taken p c e r.error f r.sender r.comes r.room in
      ap (λ (z : Facts). get z.walls k) (found.2 ∙ ap (λ (z : Facts). (outcome q s w n z).facts) same)
      ∙ ap (λ (z : Outcome). get z.facts.walls k) out
      ∙ ap (λ (z : Bool). get (act_spelt p c e (message.ResvErr r.error) z f).facts.walls k) mine
      ∙ ap (λ (z : Change). get z.facts.walls k) taken
      ∙ ap (λ (z : Option TokenBucket). get (walls_with p c e r.error z f.walls) k) r.with_flow
      ∙ errors_and_walls.set p c e r.error f.walls k r.flow r.admission r.target

  pub a_blockade_stays : ABlockadeStays q s w
  a_blockade_stays n f g k b before after there lives kept alone =
      let r = facts_after_found q s w n g after in
      let same : r.0 ≡ f = of_some r.0 f (sym r.1 ∙ before) in
      ap (λ (z : Facts). get z.walls k) (r.2 ∙ ap (λ (z : Facts). (outcome q s w n z).facts) same) ∙ by (input_at s w n) refl
    where
      by : (o : Option Input) → input_at s w n ≡ o → get (outcome_of q o s w n f).facts.walls k ≡ Some b
      by None e = there
      by (Some i) e =
          wall_stays (config_of q (net_after s w) w.trees n) (w.clock + ms_of s) f k b there (config_of q w.net w.trees n) i lives
          (λ clear. kept (cleared_by s w n (e ∙ ap Some clear)))
          (λ set. alone (replaced n f k i e set))

-- ---- a ResvErr tears nothing down
module _ (q : ℕ) (w : World) (bounds : AreBounds q w) (k : ℕ) (y : Item) (m : ResvErrMsg) (at : slice_get w.flight k ≡ Some y) (spelt : y.arrival ≡ Spelt (message.ResvErr m)) where
  clock : w.clock + 0 ≡ w.clock
  clock = omega arith

  -- what comes to a node by the step is the error
  the_error : (n : ℕ) (i : Input) → input_at (Deliver k) w n ≡ Some i → i ≡ Came (iface_of w.net.ends y.end) y.dst (Spelt (message.ResvErr m))
  the_error n i e =
      ⊎_elim (λ (t : IsWaited (Deliver k) w n i). let z : Deliver k ≡ Piece t.ms = t.step in absurd (cc))
      (λ (t : IsCame (Deliver k) w n i).
      let same : t.item ≡ y = of_some t.item y (sym t.arrives ∙ at) in
      t.is ∙ ap (λ (z : Item). Came (iface_of w.net.ends z.end) z.dst z.arrival) same ∙ ap (λ (a : Arrival). Came (iface_of w.net.ends y.end) y.dst a) spelt)
      (input_found (Deliver k) w n i refl e)

  within : (n : ℕ) (f : Facts) → slice_get w.nodes n ≡ Some f → IsWithinBounds (config_of q w.net w.trees n) (w.clock + 0) f
  within n f there = subst (λ (c : ℕ). IsWithinBounds (config_of q w.net w.trees n) c f) (sym clock) (bounds.facts n f there)

  resvs_stay : (n : ℕ) (f g : Facts) → slice_get w.nodes n ≡ Some f → slice_get (step q (Deliver k) w).nodes n ≡ Some g → g.resvs ≡ f.resvs
  resvs_stay n f g before after =
      let r = facts_after_found q (Deliver k) w n g after in
      let same : r.0 ≡ f = of_some r.0 f (sym r.1 ∙ before) in
      ap (λ (z : Facts). z.resvs) (r.2 ∙ ap (λ (z : Facts). (outcome q (Deliver k) w n z).facts) same) ∙ by (input_at (Deliver k) w n) refl
    where
      by : (o : Option Input) → input_at (Deliver k) w n ≡ o → (outcome_of q o (Deliver k) w n f).facts.resvs ≡ f.resvs
      by None e = refl
      by (Some i) e =
          ap (λ (z : Input). (facts_then (config_of q w.net w.trees n) (config_of q w.net w.trees n) (w.clock + 0) z f).resvs) (the_error n i e)
          ∙ same_resvs (config_of q w.net w.trees n) (w.clock + 0) (iface_of w.net.ends y.end) y.dst m f (within n f before)

  no_tear : (x : Item) (mark : Bool) (t : ResvTearMsg) → In (x, mark) (sent q (Deliver k) w) → x.arrival ≡ Spelt (message.ResvTear t) → ⊥
  no_tear x mark t i is =
      let r = sent_by_rule q (Deliver k) w x mark (message.ResvTear t) refl i is in
      let p : NodeConfig = config_of q w.net w.trees r.node in
      let here = within r.node r.facts r.there in
      let why = why_a_resv_tear_is_sent (node_step p p (w.clock + 0) (w.clock + 0) r.by.input r.facts) here r.send t r.sent r.says in
      let gone = why.gone why.some.0 why.some.1 in
      let same : has (toward p (facts_then p p (w.clock + 0) r.by.input r.facts) why.lane) gone.unit ≡ has (toward p r.facts why.lane) gone.unit =
      ap (λ (z : Input). has (toward p (facts_then p p (w.clock + 0) z r.facts) why.lane) gone.unit) (the_error r.node r.by.input r.by.came)
      ∙ same_units p (w.clock + 0) (iface_of w.net.ends y.end) y.dst m r.facts here why.lane gone.unit in
      let z : false ≡ true = sym gone.gone ∙ same ∙ ap is_some gone.was in
      cc

  pub tears_nothing : AnErrorTearsNothing q (Deliver k) w y m
  tears_nothing = record { no_tear = no_tear; resvs = resvs_stay }

pub a_resv_err : (q : ℕ) (s : Step) (w : World) → AreBounds q w → AResvErrTearsNothing q s w
a_resv_err q s w bounds k y m is at spelt = subst (λ (z : Step). AnErrorTearsNothing q z w y m) (sym is) (tears_nothing q w bounds k y m at spelt)
