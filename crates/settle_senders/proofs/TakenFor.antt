-- While a sender that ended is forgotten, each Resv that arrives is taken for those that send: its units stand with the flow that it asks for,
-- and with their names.
use Rattle.std.specs.Prelude.{◌≡◌, ℕ, ◌<◌, ◌==◌, nat_lt, Bool, true, false, cond, not, ◌&&◌, ◌||◌, List, [], ◌∷◌, length, is_some, Some, None, refl, Option, slice_get}
use Rattle.std.proofs.Common.{sym, ap, subst, ◌∙◌, inl, inr, ⊎_elim, arith, ◌+◌, ◌⊎◌}
use Rattle.std.proofs.lemmas.Bool.{ltb-true}
use Rattle.std.proofs.lemmas.Bool.Decides.{nat_tests}
use Rattle.std.specs.FinMap.Entries.{find}
use Rattle.std.specs.List.{list_any}
use Rattle.std.specs.Ordering.{eq_by_cmp}
use Rattle.rsvp_base.specs.declared.part.Part.{Part}
use Rattle.rsvp_base.specs.declared.session.Sender.{Sender}
use Rattle.rsvp_base.specs.declared.session.Session.{Session}
use Rattle.rsvp_base.specs.declared.style.StyleKind.{StyleKind}
use Rattle.rsvp_base.specs.declared.style.StyleKind.TheVariants.{Wild, Fixed, Shared}
use Rattle.rsvp_base.specs.declared.style.Unit.{Unit as UnitOf}
use Rattle.rsvp_base.specs.declared.style.Unit.TheVariants.{Of}
use Rattle.rsvp_base.specs.Keys.{pairs}
use Rattle.rsvp_base.specs.Members.{In}
use Rattle.rsvp_base.specs.Orders.{Names, senders, sessions, styles, units}
use Rattle.rsvp_base.specs.Sets.{IsWithin, cut, is_none}
use Rattle.rsvp_base.specs.Table.{get, has, kept, size, values, Table}
use Rattle.rsvp_base.proofs.Counts.{in_found}
use Rattle.rsvp_base.proofs.Members.{in_any, in_each}
use Rattle.rsvp_base.proofs.SetLaws.{and_both, has-cut, has-kept, and_made}
use Rattle.rsvp_base.proofs.Tables.{either, get-put_in, get-put_in_same, tied_self}
use Rattle.rsvp_base.proofs.UnderLaws.{get-under}
use Rattle.rsvp_messages.specs.declared.ask.Ask.{Ask}
use Rattle.rsvp_messages.specs.declared.ask.Ask.TheVariants as ask
use Rattle.rsvp_messages.specs.declared.message.Message.TheVariants as message
use Rattle.rsvp_messages.specs.declared.message.ResvMsg.{ResvMsg}
use Rattle.rsvp_messages.specs.Units.{AskedUnit, asked_units, ask_style, fixed_unit}
use Rattle.style_rules.specs.CutLaws.{part_of_some, made_of}
use Rattle.style_rules.specs.Lines.{AreUnder, Line, LineKey, NextHop, line_keys, next_hops}
use Rattle.style_rules.specs.Parts.{part_of}
use Rattle.router_rules.specs.Act.{act, act_spelt}
use Rattle.router_rules.specs.Asking.{Asker, Taking, act_resv, asker_of, has_style, key_at, lost, matched, names_that_match}
use Rattle.router_rules.specs.Asking.{nothing_taken, put_tested, put_unit, resv_state, style_conflict, take_unit, take_units, taking, taking_of, tell_lost}
use Rattle.router_rules.specs.Books.{lines}
use Rattle.router_rules.specs.Facts.{Facts, Resvs, ResvState, ResvTables, Want, resvs_in, resvs_of, table_of, with_resvs, with_table, wants_in, SenderKey, sender_keys}
use Rattle.router_rules.specs.Forgetting.{forget}
use Rattle.router_rules.specs.Inputs.{Change, Input, Came, Spelt}
use Rattle.router_rules.specs.Known.{known, named_as}
use Rattle.router_rules.specs.NodeConfig.{NodeConfig, goes_out, own}
use Rattle.router_rules.specs.Requests.{is_style}
use Rattle.laws_bounds.proofs.Knowing.{named_told, known_and_via}
use Rattle.laws_bounds.proofs.Leaving.{forgetting_by_names, table_put}
use Rattle.laws_bounds.proofs.Lists.{in_values, some_is, some_same}
use Rattle.laws_bounds.proofs.Tests.{addr_tested, style_told}
use Rattle.laws_bounds.specs.AskLaws.{IsOfUnit}
use Rattle.laws_bounds.proofs.Taking.{units_source}
use Rattle.router_rules.specs.Steps.{facts_then}
use Rattle.laws_steps.specs.AcceptingLaws.{CanBeHeld, HasPlace, came_resv}
use Rattle.laws_steps.proofs.Admitting.{what_is_accepted}
use Rattle.settle_senders.proofs.Refusing.{GoesMildly, HasPlaces, unit_mild, carries, placed}
use Rattle.rsvp_base.specs.declared.addr.Addr.{Addr}
use Rattle.rsvp_base.specs.Styles.{name_of}
use Rattle.rsvp_base.specs.TokenBucket.{TokenBucket}
use Rattle.style_rules.specs.PartLaws.{part_at_most_told}
use Rattle.router_rules.specs.Rule.{Outcome}
use Rattle.tree_model.specs.declared.locals.LocalWant.{LocalWant}
use Rattle.tree_model.specs.Goals.{DemandsFit}
use Rattle.tree_model.specs.Networks.{Net, end_at, iface_of, node_of, owner}
use Rattle.tree_model.specs.Trees.{outward, tree, inward}
use Rattle.tree_model.specs.Wants.{Locals, live, names}
use Rattle.tree_model.proofs.Following.{has_hop_in, in_tree}
use Rattle.tree_model.proofs.Ifaces.{interfaces_are_ends}
use Rattle.tree_model.proofs.TreeLaws.{out_tested, the_root_has_no_inward, way_in_told}
use Rattle.tree_model.proofs.WantLaws.{name_told, want_names}
use Rattle.network_model.specs.Bounds.{AreBounds, IsProperArrival}
use Rattle.network_model.specs.Locals.{IsLive, locals_of, want_at}
use Rattle.network_model.specs.Steps.{Step, input_at, is_quiet, ms_of}
use Rattle.network_model.specs.Worlds.{Item, World, config_of}
use Rattle.network_model.proofs.Machines.{in_arrived}
use Rattle.network_model.proofs.NodeLocals.{node_wants}
use Rattle.network_model.proofs.Quiet.{arrival_takes_no_time, outcome_by}
use Rattle.laws_network.proofs.Known.{came_there, of_some}
use Rattle.laws_network.proofs.Standing.{own_end, goes_out_made}
use Rattle.settle_paths.proofs.LiveSenders.{senders_found}
use Rattle.settle_resvs.specs.GoalByIface.{goal_at}
use Rattle.settle_resvs.specs.Sessions.{SessionFits}
use Rattle.settle_resvs.proofs.GoalByIface.{each_fits, session_can_be_held}
use Rattle.settle_resvs.proofs.UnderTheGoal.{sound_under, want_needs}
use Rattle.settle_passes.proofs.Deliveries.{known_self}
use Rattle.settle_passes.proofs.Leaving.{IsFading}
use Rattle.settle_releases.proofs.Accepting.{some_unit}
use Rattle.settle_passes.proofs.Fitting.{as_before}
use Rattle.settle_senders.specs.Ending.{IsNameOfLive, TakesForLive}
use Rattle.settle_senders.proofs.Knowing.{own_known, path_known}
use Rattle.rsvp_messages.specs.Proper.{IsProperAsk}
use Rattle.settle_senders.proofs.Ending.{IsLettingGo}

member_some : (rows : List (Sender × Unit {0})) (s : Sender) → is_some (find senders.cmp s rows) ≡ true → (length rows == 0) ≡ false
member_some [] s e = cc
member_some (r ∷ rs) s e = grind (arith, nat_tests)

-- a unit is asked for once
only_once : (a : Ask) (u v : AskedUnit) → In u (asked_units a) → In v (asked_units a) → u.unit ≡ v.unit → u ≡ v
only_once (ask.Wild scope flow) u v i j e = ⊎_elim (λ (x : u ≡ _). ⊎_elim (λ (y : v ≡ _). x ∙ sym y) (λ (n : ⊥). absurd n) j) (λ (n : ⊥). absurd n) i
only_once (ask.Shared part) u v i j e = ⊎_elim (λ (x : u ≡ _). ⊎_elim (λ (y : v ≡ _). x ∙ sym y) (λ (n : ⊥). absurd n) j) (λ (n : ⊥). absurd n) i
only_once (ask.Fixed list) u v i j e =
    let x = in_each fixed_unit u list.rows i in
    let y = in_each fixed_unit v list.rows j in
    let units_are : Of x.0.0 ≡ Of y.0.0 = sym (ap (λ (z : AskedUnit). z.unit) x.2) ∙ e ∙ ap (λ (z : AskedUnit). z.unit) y.2 in
    let same : x.0.0 ≡ y.0.0 = cc in
    let flows : x.0.1 ≡ y.0.1 = some_same x.0.1 y.0.1 (sym (in_found senders list x.0.0 x.0.1 x.1) ∙ ap (get list) same ∙ in_found senders list y.0.0 y.0.1 y.1) in
    x.2 ∙ (λ k. fixed_unit (same k, flows k)) ∙ sym y.2

-- ---- no other style
module _ (f : Facts) (s : Session) (st : StyleKind) (of_resvs : (x : StyleKind) (k : LineKey) (r : ResvState) → get (resvs_of x f) k ≡ Some r → k.0 ≡ s → x ≡ st)
    (of_wants : (u : UnitOf) (w : Want) → get f.wants (s, u) ≡ Some w → w.style ≡ st) where
  no_rows : (x : StyleKind) → (x ≡ st → ⊥) → nat_lt 0 (size (resvs_in x f s)) ≡ false
  no_rows x other = either (nat_lt 0 (size (resvs_in x f s))) (λ yes. absurd (some_row (resvs_in x f s).rows refl (ltb-true 0 (size (resvs_in x f s)) yes))) (λ no. no)
    where
      some_row : (rows : List ((NextHop × UnitOf) × ResvState)) → (resvs_in x f s).rows ≡ rows → 0 < length rows → ⊥
      some_row [] is h = omega (arith, h)
      some_row (e ∷ es) is h =
          let there : get (resvs_in x f s) e.0 ≡ Some e.1 = in_found (pairs next_hops units) (resvs_in x f s) e.0 e.1
          (subst (λ (zs : List ((NextHop × UnitOf) × ResvState)). In e zs) (sym is) (inl refl)) in
          other (of_resvs x (s, e.0) e.1 (sym (get-under sessions (pairs next_hops units) (resvs_of x f) s e.0) ∙ there) refl)

  no_wants : (x : StyleKind) → (x ≡ st → ⊥) → list_any (λ (w : Want). is_style w.style x) (values (wants_in f s)) ≡ false
  no_wants x other =
      either (list_any (λ (w : Want). is_style w.style x) (values (wants_in f s)))
      (λ yes.
      let one = in_any (λ (w : Want). is_style w.style x) (values (wants_in f s)) yes in
      let at = in_values units (wants_in f s) one.0 one.1 in
      absurd (other (sym (style_told one.0.style x one.2) ∙ of_wants at.0 one.0 (sym (get-under sessions units f.wants s at.0) ∙ at.1))))
      (λ no. no)

  not_other : (x : StyleKind) → (not (is_style x st) && has_style f s x) ≡ false
  not_other x = by (is_style x st) refl
    where
      off : (a b : Bool) → a ≡ false → b ≡ false → (a || b) ≡ false
      off true b e g = absurd (cc)
      off false b e g = g

      by : (b : Bool) → is_style x st ≡ b → (not b && has_style f s x) ≡ false
      by true is = refl
      by false is = let other : x ≡ st → ⊥ = λ same. let z : true ≡ false = sym (ap (λ y. is_style y st) same ∙ tied_self styles st) ∙ is in cc in off _ _ (no_rows x other) (no_wants x other)

  no_conflict : style_conflict f s st ≡ None
  no_conflict =
      ap (λ b. cond b (Some Wild) (cond (not (is_style Fixed st) && has_style f s Fixed) (Some Fixed) (cond (not (is_style Shared st) && has_style f s Shared) (Some Shared) None))) (not_other Wild)
      ∙ ap (λ b. cond b (Some Fixed) (cond (not (is_style Shared st) && has_style f s Shared) (Some Shared) None)) (not_other Fixed) ∙ ap (λ b. cond b (Some Shared) None) (not_other Shared)

-- ---- the units one after another
module _ (p : NodeConfig) (o : Asker) (f : Facts) (gs : List Line) (can : CanBeHeld p o.session o.iface gs) (all : Names) where
  abbrev Mild : Taking → Type 0
  Mild t = GoesMildly p o f gs can t

  -- what is done with a unit of which a name matches
  module _ (t : Taking) (u : AskedUnit) (places : HasPlaces o gs u) (mild : Mild t) where
    abbrev told : Taking
    told = tell_lost p o u.flow (lost o.style u.names all) t

    pub part_taken : (part : Part) → part_of (names_that_match u.names all) u.flow ≡ Some part → take_unit p o f all t u ≡ put_tested p o f u.unit part true None told
    part_taken part e =
        let m = made_of (names_that_match u.names all) u.flow part e in
        let is : record { senders = names_that_match u.names all; flow = u.flow } ≡ part = (λ j. record { senders = sym m.senders j; flow = sym m.flow j }) in
        let within : IsWithin (names_that_match u.names all) places.names =
        (λ x i. (and_both _ _ (sym (has-cut senders places.names all x) ∙ ap (λ (z : Option Names). has (names_that_match z all) x) (sym places.listed) ∙ i)).0) in
        let place : HasPlace o u.unit part gs = subst (λ (z : Part). HasPlace o u.unit z gs) is (places.place (names_that_match u.names all) within m.some) in
        let booked = what_is_accepted.unit p o f told.table u.unit part gs can mild.under place in
        ap (λ (z : Option Part). put_unit p o f u.unit z told) e ∙ (λ j. put_tested p o f u.unit part (booked.room j) (booked.open_to j) told)

    -- what stands under a key still does
    unit_keeps : (k : LineKey) → has t.table k ≡ true → has (take_unit p o f all t u).table k ≡ true
    unit_keeps k h = by (part_of (names_that_match u.names all) u.flow) refl
      where
        by : (w : Option Part) → part_of (names_that_match u.names all) u.flow ≡ w → has (take_unit p o f all t u).table k ≡ true
        by None e = ap (λ (z : Option Part). has (put_unit p o f u.unit z told).table k) e ∙ h
        by (Some part) e =
            ap (λ (z : Taking). has z.table k) (part_taken part e)
            ∙ ap is_some (get-put_in line_keys t.table (key_at o u.unit) (resv_state o part (get t.table (key_at o u.unit))) k) ∙ on (eq_by_cmp line_keys.cmp k (key_at o u.unit)) part
          where
            on : (b : Bool) (part : Part) → is_some (cond b (Some (resv_state o part (get t.table (key_at o u.unit)))) (get t.table k)) ≡ true
            on true part = refl
            on false part = h

    -- the unit's reservation, as it was just put
    unit_stands : (x : Sender) → has (names_that_match u.names all) x ≡ true
        → (r : ResvState) × (get (take_unit p o f all t u).table (key_at o u.unit) ≡ Some r) × IsOfUnit o all (u ∷ []) (key_at o u.unit) r
    unit_stands x i =
        let ns : Names = names_that_match u.names all in
        let some : is_none ns ≡ false = member_some ns.rows x i in
        let part : Part = record { senders = ns; flow = u.flow } in
        let r : ResvState = resv_state o part (get t.table (key_at o u.unit)) in (
          r,
          ap (λ (z : Taking). get z.table (key_at o u.unit)) (part_taken part (part_of_some ns u.flow some)) ∙ get-put_in_same line_keys t.table (key_at o u.unit) r,
          record { unit = u; asks = inl refl; key = refl; senders = refl; flow = refl; named = ap not some; dies = refl },
        )

  units_keep_key : (us : List AskedUnit) → ((u : AskedUnit) → In u us → HasPlaces o gs u) → (t : Taking) → Mild t → (k : LineKey) → has t.table k ≡ true
      → has (take_units p o f all t us).table k ≡ true
  units_keep_key [] places t mild k h = h
  units_keep_key (u ∷ us) places t mild k h =
      units_keep_key us (λ v i. places v (inr i)) (take_unit p o f all t u) (unit_mild p o f gs can all t u (places u (inl refl)) mild) k (unit_keeps t u (places u (inl refl)) mild k h)

  one_more : (us : List AskedUnit) (u : AskedUnit) (k : LineKey) (r : ResvState) → IsOfUnit o all us k r → IsOfUnit o all (u ∷ us) k r
  one_more us u k r m = record { unit = m.unit; asks = inr m.asks; key = m.key; senders = m.senders; flow = m.flow; named = m.named; dies = m.dies }

  the_first : (us : List AskedUnit) (u : AskedUnit) (k : LineKey) (r : ResvState) → IsOfUnit o all (u ∷ []) k r → IsOfUnit o all (u ∷ us) k r
  the_first us u k r m = record {
    unit = m.unit;
    asks = ⊎_elim (λ (e : m.unit ≡ u). inl e)
        (λ (n : ⊥). absurd n) m.asks;
    key = m.key;
    senders = m.senders;
    flow = m.flow;
    named = m.named;
    dies = m.dies;
  }

  -- in the end the key of each unit has the reservation of a unit of that key
  units_stand : (us : List AskedUnit) → ((u : AskedUnit) → In u us → HasPlaces o gs u) → (t : Taking) → Mild t → (u : AskedUnit) → In u us → (x : Sender) → has (names_that_match u.names all) x ≡ true
      → (r : ResvState) × (get (take_units p o f all t us).table (key_at o u.unit) ≡ Some r) × IsOfUnit o all us (key_at o u.unit) r
  units_stand [] places t mild u i x h = absurd i
  units_stand (v ∷ us) places t mild u i x h =
      let mild_then = unit_mild p o f gs can all t v (places v (inl refl)) mild in
      ⊎_elim
      (λ (is : u ≡ v).
      let first = unit_stands t v (places v (inl refl)) mild x (ap (λ (z : AskedUnit). has (names_that_match z.names all) x) (sym is) ∙ h) in
      let there : has (take_unit p o f all t v).table (key_at o u.unit) ≡ true = ap (λ (z : AskedUnit). has (take_unit p o f all t v).table (key_at o z.unit)) is ∙ ap is_some first.1 in
      let last = some_is (get (take_units p o f all (take_unit p o f all t v) us).table (key_at o u.unit))
      (units_keep_key us (λ w j. places w (inr j)) (take_unit p o f all t v) mild_then (key_at o u.unit) there) in (
        last.0,
        last.1,
        ⊎_elim
            (λ (old : get (take_unit p o f all t v).table (key_at o u.unit) ≡ Some last.0).
            let same : first.0 ≡ last.0 = some_same first.0 last.0 (sym first.1 ∙ ap (λ (z : AskedUnit). get (take_unit p o f all t v).table (key_at o z.unit)) (sym is) ∙ old) in
            the_first us v (key_at o u.unit) last.0 (subst (λ (z : LineKey × ResvState). IsOfUnit o all (v ∷ []) z.0 z.1) (λ j. (key_at o (sym is j).unit, same j)) first.2))
            (λ (new : IsOfUnit o all us (key_at o u.unit) last.0). one_more us v (key_at o u.unit) last.0 new)
            (units_source p o f all us (take_unit p o f all t v) (key_at o u.unit) last.0 last.1),
      ))
      (λ (j : In u us).
      let later = units_stand us (λ w n. places w (inr n)) (take_unit p o f all t v) mild_then u j x h in (later.0, later.1, one_more us v (key_at o u.unit) later.0 later.2))
      i

-- ---- the Resv
as_it_was : (st : StyleKind) (ts : ResvTables) → with_table st (table_of st ts) ts ≡ ts
as_it_was Wild ts = refl
as_it_was Fixed ts = refl
as_it_was Shared ts = refl

-- a unit of a Resv, after it: with its flow, and with all of its names that match
pub record IsTakenFor (old p : NodeConfig) (c e : ℕ) (m : ResvMsg) (f : Facts) (u : AskedUnit) (names : Names) : Type 0 where
  pub resv : ResvState
  pub there : get (resvs_of (ask_style m.ask) (facts_then old p c (came_resv p e m) f)) (m.session, ((e, m.hop.addr), u.unit)) ≡ Some resv
  pub senders : resv.part.senders ≡ cut names (matched p f (asker_of p c e m))
  pub flow : resv.part.flow ≡ u.flow

pub taken_for : (old p : NodeConfig) (c e : ℕ) (m : ResvMsg) (f : Facts) (gs : List Line) → CanBeHeld p m.session e gs → AreUnder (lines f) gs
    → ((st : StyleKind) (k : LineKey) (r : ResvState) → get (resvs_of st f) k ≡ Some r → k.0 ≡ m.session → st ≡ ask_style m.ask)
    → ((u : UnitOf) (w : Want) → get f.wants (m.session, u) ≡ Some w → w.style ≡ ask_style m.ask)
    → ((u : AskedUnit) → In u (asked_units m.ask) → HasPlaces (asker_of p c e m) gs u) → (u : AskedUnit) → In u (asked_units m.ask) → (names : Names) → u.names ≡ Some names → (x : Sender)
    → has names x ≡ true → has (matched p f (asker_of p c e m)) x ≡ true → IsTakenFor old p c e m f u names
taken_for old p c e m f gs can under resv_style want_style places u i names listed x named match =
    let o : Asker = asker_of p c e m in
    let all : Names = matched p f o in
    let n = named_told o.style (kept (goes_out p o.session o.iface) (known f o.session)) x match in
    let r = and_both _ _ (sym (has-kept senders (goes_out p o.session o.iface) (known f o.session) n.sender) ∙ n.among) in
    let someone : is_none (known f m.session) ≡ false = member_some (known f m.session).rows n.sender r.0 in
    let end_of : Taking = take_units p o f all (nothing_taken (resvs_of o.style f) []) (asked_units m.ask) in
    let taking_is : taking p c e m f ≡ end_of =
    ap (λ b. taking_of p o (asked_units m.ask) f b (style_conflict f m.session (ask_style m.ask))) someone
    ∙ ap (taking_of p o (asked_units m.ask) f false) (no_conflict f m.session (ask_style m.ask) resv_style want_style) in
    let begins : GoesMildly p o f gs can (nothing_taken (resvs_of o.style f) []) =
    record { errors = λ z j. absurd j; under = subst (λ (ts : ResvTables). AreUnder (lines (record f { resvs = ts })) gs) (sym (as_it_was o.style f.resvs)) under } in
    let cut_in : has (cut names all) x ≡ true = has-cut senders names all x ∙ and_made _ _ named match in
    let among : has (names_that_match u.names all) x ≡ true = ap (λ (z : Option Names). has (names_that_match z all) x) listed ∙ cut_in in
    let last = units_stand p o f gs can all (asked_units m.ask) places (nothing_taken (resvs_of o.style f) []) begins u i x among in
    let by = last.2 in
    let unit : by.unit ≡ u = only_once m.ask by.unit u by.asks i (sym (ap (λ (k : LineKey). k.1.1) by.key)) in
    let input : Input = came_resv p e m in
    let act_is : act p c input f ≡ act_resv p c e m f = ap (λ b. act_spelt p c e (message.Resv m) b f) (addr_tested (own p e) (own p e) refl) in
    let made : Facts = with_resvs o.style end_of.table f in
    let resvs_are : (act p c input f).facts ≡ made = ap (λ (k : Change). k.facts) act_is ∙ ap (λ (t : Taking). with_resvs o.style t.table f) taking_is in
    let there : get (resvs_of o.style made) (key_at o u.unit) ≡ Some last.0 = ap (λ (z : Resvs). get z (key_at o u.unit)) (table_put o.style end_of.table f.resvs) ∙ last.1 in
    let stays = forgetting_by_names.stays f made o.style (key_at o u.unit) last.0 there by.named (λ z g. not_lost (has (named_as o.style (known f o.session)) z)) in
    record {
      resv = last.0;
      there = ap (λ (g : Facts). get (resvs_of o.style (forget f g)) (key_at o u.unit)) resvs_are ∙ stays;
      senders = by.senders ∙ ap (λ (z : AskedUnit). names_that_match z.names all) unit ∙ ap (λ w. names_that_match w all) listed;
      flow = by.flow ∙ ap (λ (z : AskedUnit). z.flow) unit;
    }
  where
    not_lost : (b : Bool) → (b && not b) ≡ false
    not_lost true = refl
    not_lost false = refl

-- ---- in a network from which a sender fades
pub same_addr : (st : StyleKind) (a b : Sender) → name_of st a ≡ name_of st b → a.addr ≡ b.addr
same_addr Wild a b e = ap (λ (z : Sender). z.addr) e
same_addr Fixed a b e = ap (λ (z : Sender). z.addr) e
same_addr Shared a b e = ap (λ (z : Sender). z.addr) e

-- a node that the tree of somebody who sends comes to knows it
pub known_of_live : (q : ℕ) (d : SenderKey) (u : World) → IsFading q d u → (n : ℕ) (f : Facts) → slice_get u.nodes n ≡ Some f → (s : Session) (x : Sender) (t : TokenBucket) → IsLive u (s, x) t
    → (owner u.net.ends x.addr ≡ Some n) ⊎ ((e : ℕ) × (inward u.net n s.group x.addr ≡ Some e)) → has (known f s) x ≡ true
known_of_live q d u fading n f at s x t live way =
    ⊎_elim
    (λ (root : owner u.net.ends x.addr ≡ Some n).
    let g = senders_found u live.node live.senders live.at in
    let sends : get g.0.senders (s, x) ≡ Some t = ap (λ (z : Table sender_keys TokenBucket). get z (s, x)) g.2 ∙ live.sends in
    let node : live.node ≡ n = of_some live.node n (sym (fading.hosts.placed live.node g.0 (s, x) t g.1 sends) ∙ root) in
    let same : g.0 ≡ f = of_some g.0 f (sym g.1 ∙ ap (λ (z : ℕ). slice_get u.nodes z) node ∙ at) in
    own_known f s x t (ap (λ (z : Facts). get z.senders (s, x)) (sym same) ∙ sends))
    (λ (over : (e : ℕ) × (inward u.net n s.group x.addr ≡ Some e)).
    let h = way_in_told u.net fading.bounds.net n over.0 s.group x.addr over.1 in
    let p = fading.complete (s, x) t h.0 live h.1 in
    let same : p.facts ≡ f = of_some p.facts f (sym p.node ∙ ap (λ (z : ℕ). slice_get u.nodes z) (ap (node_of u.net.ends) h.2 ∙ h.3) ∙ at) in
    path_known f s x p.path (ap (λ (z : Facts). get z.paths (s, x)) (sym same) ∙ p.there))
    way

module _ (q : ℕ) (d : SenderKey) (w u : World) (r : IsLettingGo q d w u) (net : u.net ≡ w.net) (fit : DemandsFit w.net (locals_of w)) (y : Item) (m : ResvMsg) (i : In y u.flight)
    (spelt : y.arrival ≡ Spelt (message.Resv m)) (f : Facts) (at : slice_get u.nodes (node_of u.net.ends y.end) ≡ Some f) where
  bounds : AreBounds q u
  bounds = r.fading.bounds

  abbrev was : Locals
  was = locals_of (as_before w.nodes u)

  abbrev n : ℕ
  n = node_of u.net.ends y.end

  abbrev here : NodeConfig
  here = config_of q u.net u.trees n

  abbrev asks : Asker
  asks = asker_of here u.clock (iface_of u.net.ends y.end) m

  -- a name of somebody who sends matches
  matches : (v : AskedUnit) (ns : Names) (x : Sender) → In v (asked_units m.ask) → v.names ≡ Some ns → has ns x ≡ true → IsNameOfLive u m.session (ask_style m.ask) x
      → has (matched here f asks) x ≡ true
  matches v ns x j listed there b =
      let st : StyleKind = ask_style m.ask in
      let k = r.within.items y m v i spelt j in
      let same : ns ≡ k.names = of_some ns k.names (sym listed ∙ k.named) in
      let up = part_at_most_told (record { senders = k.names; flow = v.flow }) k.sound.wanted k.sound.below in
      let a = name_told st u.net was m.session (k.sound.hop ∷ []) x
      (want_names st u.net was m.session k.sound.hop v.unit k.sound.wanted k.sound.is x (up.names x (ap (λ (z : Names). has z x) (sym same) ∙ there))) in
      let addr : a.0.addr ≡ b.sender.addr = same_addr st a.0 b.sender (sym a.3 ∙ b.name) in
      let hop : In k.sound.hop (tree u.net.hops m.session.group b.sender.addr) =
      subst (λ (z : Addr). In k.sound.hop (tree u.net.hops m.session.group z)) addr (has_hop_in (tree u.net.hops m.session.group a.0.addr) k.sound.hop (and_both _ _ a.2).0) in
      let leaves : In y.end (outward u.net n m.session.group b.sender.addr) = out_tested u.net n y.end m.session.group b.sender.addr (k.sound.hop, hop, k.sound.from, refl) in
      let reaches = (the_root_has_no_inward u.net bounds.net).entered n y.end m.session.group b.sender.addr leaves in
      let knows : has (known f m.session) b.sender ≡ true = known_of_live q d u r.fading n f at m.session b.sender b.flow b.live reaches in
      let routing = in_tree u.net.hops m.session.group b.sender.addr k.sound.hop hop in
      let routed : In (m.session.group, b.sender.addr) u.trees = subst (λ (z : Addr × Addr). In z u.trees) (λ j. (routing.2 j, routing.3 j)) (bounds.routed routing.0 routing.1) in
      let out : goes_out here m.session (iface_of u.net.ends y.end) b.sender ≡ true = goes_out_made q u.net u.trees n m.session y.end b.sender routed leaves in
      (known_and_via.named_by st (kept (goes_out here m.session (iface_of u.net.ends y.end)) (known f m.session)) x).1
      (record {
        sender = b.sender;
        among = has-kept senders (goes_out here m.session (iface_of u.net.ends y.end)) (known f m.session) b.sender ∙ and_made _ _ knows out;
        passes = refl;
        name = b.name;
      })

  fits : SessionFits u.net was m.session
  fits = subst (λ (z : Net). SessionFits z (locals_of w) m.session) (sym net) (each_fits w.net (locals_of w) fit m.session)

  proper : IsProperAsk m.ask
  proper = subst IsProperArrival spelt (bounds.flight y i).proper

  -- someone wanted something of the session in the style
  wants : (x : LocalWant) × In x was.wants × (x.session ≡ m.session) × (x.style ≡ ask_style m.ask)
  wants =
      let v = some_unit m.ask proper in
      let x = r.within.items y m v.0 i spelt v.1 in
      let b = want_needs (ask_style m.ask) u.net was m.session x.sound.hop v.0.unit x.sound.wanted x.sound.is in
      (b.want, b.there, b.session, b.style)

  pub taken_for_live : (v : AskedUnit) (ns : Names) (x : Sender) → In v (asked_units m.ask) → v.names ≡ Some ns → has ns x ≡ true → IsNameOfLive u m.session (ask_style m.ask) x
      → IsTakenFor here here u.clock (iface_of u.net.ends y.end) m f v ns × (has (matched here f asks) x ≡ true)
  taken_for_live v ns x j listed there live =
      let match = matches v ns x j listed there live in (
        taken_for here here u.clock (iface_of u.net.ends y.end) m f (goal_at u.net was n)
            (session_can_be_held q u.net u.trees was m.session y.end bounds.net fits (carries q u.clock w.nodes u bounds r.within y m i spelt fits f at))
            (sound_under (as_before w.nodes u) n f (λ st k z h. r.within.facts st n f k z at h))
            (λ st k z h same.
            let o = (r.within.facts st n f k z at h).sound in
            let b = want_needs st u.net was k.0 o.hop k.1.1 o.wanted o.is in
            sym b.style ∙ fits.one_style b.want wants.0 b.there wants.1 (b.session ∙ same) wants.2 ∙ wants.3)
            (λ un z h.
            let b = r.wanted (want_at n ((m.session, un), z)) (node_wants u n f (m.session, un) z at h) in
            sym b.style ∙ fits.one_style b.want wants.0 b.among wants.1 b.session wants.2 ∙ wants.3)
            (placed q u.clock w.nodes u bounds r.within y m i spelt fits f at) v j ns listed x there match,
        match,
      )

pub takes_for_live : (q : ℕ) (d : SenderKey) (w u : World) → IsLettingGo q d w u → u.net ≡ w.net → DemandsFit w.net (locals_of w) → (t : Step) → is_quiet t ≡ true → TakesForLive q t u
takes_for_live q d w u r net fit t quiet_one y m f v ns x arr spelt at asked listed there live =
    let i : In y u.flight = in_arrived t u y arr in
    let e : ℕ = node_of u.net.ends y.end in
    let j : ℕ = iface_of u.net.ends y.end in
    let p : NodeConfig = config_of q u.net u.trees e in
    let lt = (r.fading.bounds.flight y i).end in
    let end : end_at u.net.ends e j ≡ Some y.end = (interfaces_are_ends u.net).end_of_iface y.end lt in
    let dst : y.dst ≡ own p j = r.addressed y m i spelt ∙ sym (own_end q u.net u.trees e j y.end end) in
    let input : Input = Came j (own p j) (Spelt (message.Resv m)) in
    let came : input_at t u e ≡ Some input = came_there q u u (known_self q u r.fading.bounds) y.end lt t y arr refl ∙ (λ z. Some (Came j (dst z) (spelt z))) in
    let ms : u.clock + ms_of t ≡ u.clock = (let z = arrival_takes_no_time t u y arr in omega arith) in
    let is = outcome_by q t u e f input quiet_one came in
    let k = taken_for_live q d w u r net fit y m i spelt f at v ns x asked listed there live in (
      k.0.resv,
      ap (λ (o : Outcome). get (resvs_of (ask_style m.ask) o.facts) (m.session, ((j, m.hop.addr), v.unit))) is
          ∙ (λ z. get (resvs_of (ask_style m.ask) (facts_then p p (ms z) input f)) (m.session, ((j, m.hop.addr), v.unit))) ∙ k.0.there,
      ap (λ (z : Names). has z x) k.0.senders ∙ has-cut senders ns (matched p f (asker_of p u.clock j m)) x ∙ and_made _ _ there k.1,
      k.0.flow,
    )
