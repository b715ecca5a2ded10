-- A Resv whose units lie under lines that can be held is taken whole.
use Rattle.std.specs.Prelude.{◌≡◌, ℕ, ◌<◌, ◌==◌, nat_lt, Bool, true, false, cond, not, ◌&&◌, ◌||◌, List, [], ◌∷◌, ◌++◌, map as each, length, is_some, Some, None, refl}
use Rattle.std.proofs.Common.{sym, ap, subst, ◌∙◌, inl, inr, ⊎_elim, arith}
use Rattle.std.proofs.lemmas.Bool.{ltb-true}
use Rattle.std.proofs.lemmas.Bool.Decides.{nat_tests}
use Rattle.std.specs.FinMap.Entries.{find}
use Rattle.std.specs.List.{list_any}
use Rattle.std.specs.Ordering.{eq_by_cmp}
use Rattle.rsvp_base.specs.declared.part.Part.{Part}
use Rattle.rsvp_base.specs.declared.session.Sender.{Sender}
use Rattle.rsvp_base.specs.declared.session.Session.{Session}
use Rattle.rsvp_base.specs.declared.style.StyleKind.{StyleKind}
use Rattle.rsvp_base.specs.declared.style.StyleKind.TheVariants.{Wild, Fixed, Shared}
use Rattle.rsvp_base.specs.declared.style.Unit.{Unit as UnitOf}
use Rattle.rsvp_base.specs.declared.style.Unit.TheVariants.{One, Of}
use Rattle.rsvp_base.specs.Keys.{pairs}
use Rattle.rsvp_base.specs.Members.{In}
use Rattle.rsvp_base.specs.Orders.{Names, senders, sessions, styles, units}
use Rattle.rsvp_base.specs.Sets.{IsWithin, cut, is_none}
use Rattle.rsvp_base.specs.Table.{get, has, kept, size, values}
use Rattle.rsvp_base.specs.TokenBucket.{TokenBucket}
use Rattle.rsvp_base.proofs.Counts.{in_found}
use Rattle.rsvp_base.proofs.Members.{in_any, in_each}
use Rattle.rsvp_base.proofs.SetLaws.{and_both, has-cut, has-kept, same_set}
use Rattle.rsvp_base.proofs.Tables.{either, get-put_in, get-put_in_same, tied_self}
use Rattle.rsvp_base.proofs.UnderLaws.{get-under}
use Rattle.rsvp_messages.specs.declared.ask.Ask.{Ask}
use Rattle.rsvp_messages.specs.declared.ask.Ask.TheVariants as ask
use Rattle.rsvp_messages.specs.declared.message.Message.TheVariants as message
use Rattle.rsvp_messages.specs.declared.message.ResvErrMsg.{ResvErrMsg}
use Rattle.rsvp_messages.specs.declared.message.ResvMsg.{ResvMsg}
use Rattle.rsvp_messages.specs.Proper.{IsProperAsk}
use Rattle.rsvp_messages.specs.Units.{AskedUnit, asked_units, ask_style, fixed_unit}
use Rattle.style_rules.specs.CutLaws.{part_of_some}
use Rattle.style_rules.specs.Lines.{AreUnder, Line, LineKey, NextHop, line_keys, next_hops}
use Rattle.style_rules.specs.Parts.{part_of}
use Rattle.laws_bounds.specs.RouterRules.declared.answers.Heard.TheVariants as heard
use Rattle.laws_bounds.specs.RouterRules.Act.{act, act_spelt}
use Rattle.laws_bounds.specs.RouterRules.Asking.{Asker, Taking, act_resv, asker_of, book_refuses, errors_in_order, has_style, heard_of, key_at, lost, matched, names_that_match, nothing_taken}
use Rattle.laws_bounds.specs.RouterRules.Asking.{put_tested, put_unit, resv_state, style_conflict, table_with, take_unit, take_units, taking, taking_of, tell_lost, Nobody, These}
use Rattle.laws_bounds.specs.RouterRules.Books.{lines}
use Rattle.laws_bounds.specs.RouterRules.Facts.{Facts, Resvs, ResvState, ResvTables, Want, resvs_in, resvs_of, table_of, with_resvs, with_table, wants_in}
use Rattle.laws_bounds.specs.RouterRules.Forgetting.{forget, is_lost}
use Rattle.laws_bounds.specs.RouterRules.Inputs.{Change, ErrSend, Input, Send}
use Rattle.laws_bounds.specs.RouterRules.Known.{known, named_as}
use Rattle.laws_bounds.specs.RouterRules.NodeConfig.{NodeConfig, goes_out, own}
use Rattle.laws_bounds.specs.RouterRules.Requests.{is_style}
use Rattle.laws_bounds.specs.RouterRules.Rule.{settled}
use Rattle.laws_bounds.specs.SendLaws.{IsConf, IsError, IsPath, IsPathTear, IsResv, IsResvTear}
use Rattle.laws_bounds.proofs.Knowing.{named_told}
use Rattle.laws_bounds.proofs.Leaving.{forgetting_by_names, table_put}
use Rattle.laws_bounds.proofs.Lists.{in_values, one_name, some_is, some_same}
use Rattle.laws_bounds.proofs.Tests.{addr_tested, style_told}
use Rattle.laws_bounds.specs.AskLaws.{IsOfUnit}
use Rattle.laws_bounds.proofs.Taking.{units_source}
use Rattle.laws_bounds.specs.RouterRules.Steps.{facts_then, sent_then}
use Rattle.laws_bounds.proofs.Stepping.{send_told}
use Rattle.laws_bounds.proofs.Reserving.{forgotten_fewer}
use Rattle.laws_bounds.proofs.Shrinking.{lines_under}
use Rattle.laws_steps.specs.AcceptingLaws.{CanBeHeld, CanBeTaken, IsBooked, IsPlaced, IsTakenWhole, WhatIsAccepted, came_resv}
use Rattle.laws_steps.proofs.Accepting.{under_along, unit_booked}

-- ---- names of which all match
member_some : (rows : List (Sender × Unit {0})) (s : Sender) → is_some (find senders.cmp s rows) ≡ true → (length rows == 0) ≡ false
member_some [] s e = cc
member_some (r ∷ rs) s e = grind (arith, nat_tests)

all_match : (names all : Names) → IsWithin names all → cut names all ≡ names
all_match names all match = same_set senders (cut names all) names (λ x. has-cut senders names all x ∙ by (has names x) (has all x) (match x))
  where
    by : (a b : Bool) → (a ≡ true → b ≡ true) → (a && b) ≡ a
    by true b h = h refl
    by false b h = refl

none_unmatched : (names all : Names) → IsWithin names all → is_none (kept (λ x. not (has all x)) names) ≡ true
none_unmatched names all match = either (is_none (kept (λ x. not (has all x)) names)) (λ yes. yes) (λ no.
    let one = one_name (kept (λ x. not (has all x)) names) no in
    let r = and_both _ _ (sym (has-kept senders (λ x. not (has all x)) names one.0) ∙ one.1) in
    let off = sym (ap not (match one.0 r.0)) ∙ r.1 in absurd (cc))

nobody_lost : (st : StyleKind) (names all : Names) → is_none names ≡ false → IsWithin names all → lost st (Some names) all ≡ Nobody
nobody_lost Wild names all some match = ap (λ b. cond b (These names) Nobody) (ap is_none (all_match names all match) ∙ some)
nobody_lost Fixed names all some match = ap (λ b. cond b Nobody (These (kept (λ x. not (has all x)) names))) (none_unmatched names all match)
nobody_lost Shared names all some match = ap (λ b. cond b Nobody (These (kept (λ x. not (has all x)) names))) (none_unmatched names all match)

nothing_more : {A : Type 0} (xs ys : List A) → xs ≡ [] → ys ≡ [] → xs ++ ys ≡ []
nothing_more xs ys e g = λ i. e i ++ g i

-- ---- the units one after another
module _ (p : NodeConfig) (o : Asker) (f : Facts) (gs : List Line) (can : CanBeHeld p o.session o.iface gs) where
  abbrev all : Names
  all = matched p f o

  abbrev IsUnderAll : Resvs → Type 0
  IsUnderAll t = AreUnder (lines (with_resvs o.style t f)) gs

  -- no error, nothing left out, and all under the lines
  record GoesWell (t : Taking) : Type 0 where
    errors : t.errors ≡ []
    whole : t.left_out ≡ false
    under : IsUnderAll t.table

  abbrev the_part : Names → AskedUnit → Part
  the_part names u = record { senders = names; flow = u.flow }

  module _ (t : Taking) (u : AskedUnit) (place : IsPlaced p o f gs u) (well : GoesWell t) where
    part_is : part_of (names_that_match u.names all) u.flow ≡ Some (the_part place.names u)
    part_is = ap (λ w. part_of (names_that_match w all) u.flow) place.listed ∙ ap (λ names. part_of names u.flow) (all_match place.names all place.match) ∙ part_of_some place.names u.flow place.some

    lost_is : lost o.style u.names all ≡ Nobody
    lost_is = ap (λ w. lost o.style w all) place.listed ∙ nobody_lost o.style place.names all place.some place.match

    booked_is : IsBooked p o f t.table u.unit (the_part place.names u) gs
    booked_is = unit_booked p o f t.table u.unit (the_part place.names u) gs can well.under place.place

    unit_is : take_unit p o f all t u ≡ put_tested p o f u.unit (the_part place.names u) true None (tell_lost p o u.flow Nobody t)
    unit_is =
        ap (λ w. put_unit p o f u.unit w (tell_lost p o u.flow (lost o.style u.names all) t)) part_is
        ∙ ap (λ w. put_unit p o f u.unit (Some (the_part place.names u)) (tell_lost p o u.flow w t)) lost_is
        ∙ ap (λ b. put_tested p o f u.unit (the_part place.names u) b (book_refuses p o f u.unit (the_part place.names u) t.table) (tell_lost p o u.flow Nobody t)) booked_is.room
        ∙ ap (λ w. put_tested p o f u.unit (the_part place.names u) true w (tell_lost p o u.flow Nobody t)) booked_is.open_to

    table_is : (take_unit p o f all t u).table ≡ table_with o u.unit (the_part place.names u) t.table
    table_is = ap (λ (z : Taking). z.table) unit_is

    unit_well : GoesWell (take_unit p o f all t u)
    unit_well =
        record {
          errors = ap (λ (z : Taking). z.errors) unit_is ∙ nothing_more t.errors [] well.errors refl;
          whole = ap (λ (z : Taking). z.left_out) unit_is ∙ well.whole;
          under = subst IsUnderAll (sym table_is) booked_is.under;
        }

    -- the unit's reservation, as it was just put
    unit_stands : (r : ResvState) × (get (take_unit p o f all t u).table (key_at o u.unit) ≡ Some r) × IsOfUnit o all (u ∷ []) (key_at o u.unit) r
    unit_stands =
        let r : ResvState = resv_state o (the_part place.names u) (get t.table (key_at o u.unit)) in (
          r,
          ap (λ (z : Resvs). get z (key_at o u.unit)) table_is ∙ get-put_in_same line_keys t.table (key_at o u.unit) r,
          record {
            unit = u;
            asks = inl refl;
            key = refl;
            senders = sym (ap (λ w. names_that_match w all) place.listed ∙ all_match place.names all place.match);
            flow = refl;
            named = ap not place.some;
            dies = refl;
          },
        )

    -- what stands under a key still does
    unit_keeps : (k : LineKey) → has t.table k ≡ true → has (take_unit p o f all t u).table k ≡ true
    unit_keeps k h = ap (λ (z : Resvs). has z k) table_is ∙ ap is_some (get-put_in line_keys t.table (key_at o u.unit) (resv_state o (the_part place.names u) (get t.table (key_at o u.unit))) k)
        ∙ by (eq_by_cmp line_keys.cmp k (key_at o u.unit))
      where
        by : (b : Bool) → is_some (cond b (Some (resv_state o (the_part place.names u) (get t.table (key_at o u.unit)))) (get t.table k)) ≡ true
        by true = refl
        by false = h

  units_well : (us : List AskedUnit) → ((u : AskedUnit) → In u us → IsPlaced p o f gs u) → (t : Taking) → GoesWell t → GoesWell (take_units p o f all t us)
  units_well [] places t well = well
  units_well (u ∷ us) places t well = units_well us (λ v i. places v (inr i)) (take_unit p o f all t u) (unit_well t u (places u (inl refl)) well)

  units_keep_key : (us : List AskedUnit) → ((u : AskedUnit) → In u us → IsPlaced p o f gs u) → (t : Taking) → GoesWell t → (k : LineKey) → has t.table k ≡ true
      → has (take_units p o f all t us).table k ≡ true
  units_keep_key [] places t well k h = h
  units_keep_key (u ∷ us) places t well k h =
      units_keep_key us (λ v i. places v (inr i)) (take_unit p o f all t u) (unit_well t u (places u (inl refl)) well) k (unit_keeps t u (places u (inl refl)) well k h)

  one_more : (us : List AskedUnit) (u : AskedUnit) (k : LineKey) (r : ResvState) → IsOfUnit o all us k r → IsOfUnit o all (u ∷ us) k r
  one_more us u k r m = record { unit = m.unit; asks = inr m.asks; key = m.key; senders = m.senders; flow = m.flow; named = m.named; dies = m.dies }

  the_first : (us : List AskedUnit) (u : AskedUnit) (k : LineKey) (r : ResvState) → IsOfUnit o all (u ∷ []) k r → IsOfUnit o all (u ∷ us) k r
  the_first us u k r m = record {
    unit = m.unit;
    asks = ⊎_elim (λ (e : m.unit ≡ u). inl e)
        (λ (n : ⊥). absurd n) m.asks;
    key = m.key;
    senders = m.senders;
    flow = m.flow;
    named = m.named;
    dies = m.dies;
  }

  -- in the end the key of each unit has the reservation of a unit of that key
  units_stand : (us : List AskedUnit) → ((u : AskedUnit) → In u us → IsPlaced p o f gs u) → (t : Taking) → GoesWell t → (u : AskedUnit) → In u us
      → (r : ResvState) × (get (take_units p o f all t us).table (key_at o u.unit) ≡ Some r) × IsOfUnit o all us (key_at o u.unit) r
  units_stand [] places t well u i = absurd i
  units_stand (v ∷ us) places t well u i =
      let well_then = unit_well t v (places v (inl refl)) well in
      ⊎_elim
      (λ (is : u ≡ v).
      let first = unit_stands t v (places v (inl refl)) well in
      let there : has (take_unit p o f all t v).table (key_at o u.unit) ≡ true = ap (λ (z : AskedUnit). has (take_unit p o f all t v).table (key_at o z.unit)) is ∙ ap is_some first.1 in
      let last = some_is (get (take_units p o f all (take_unit p o f all t v) us).table (key_at o u.unit))
      (units_keep_key us (λ w j. places w (inr j)) (take_unit p o f all t v) well_then (key_at o u.unit) there) in (
        last.0,
        last.1,
        ⊎_elim
            (λ (old : get (take_unit p o f all t v).table (key_at o u.unit) ≡ Some last.0).
            let same : first.0 ≡ last.0 = some_same first.0 last.0 (sym first.1 ∙ ap (λ (z : AskedUnit). get (take_unit p o f all t v).table (key_at o z.unit)) (sym is) ∙ old) in
            the_first us v (key_at o u.unit) last.0 (subst (λ (z : LineKey × ResvState). IsOfUnit o all (v ∷ []) z.0 z.1) (λ j. (key_at o (sym is j).unit, same j)) first.2))
            (λ (new : IsOfUnit o all us (key_at o u.unit) last.0). one_more us v (key_at o u.unit) last.0 new)
            (units_source p o f all us (take_unit p o f all t v) (key_at o u.unit) last.0 last.1),
      ))
      (λ (j : In u us).
      let later = units_stand us (λ w j. places w (inr j)) (take_unit p o f all t v) well_then u j in (later.0, later.1, one_more us v (key_at o u.unit) later.0 later.2))
      i

-- ---- the units of an Ask
some_unit : (a : Ask) → IsProperAsk a → (u : AskedUnit) × In u (asked_units a)
some_unit (ask.Wild scope flow) proper = (record { unit = One; names = scope; flow = flow }, inl refl)
some_unit (ask.Shared part) proper = (record { unit = One; names = Some part.senders; flow = part.flow }, inl refl)
some_unit (ask.Fixed list) proper = by list.rows proper.some
  where
    by : (rows : List (Sender × TokenBucket)) → 0 < length rows → (u : AskedUnit) × In u (each fixed_unit rows)
    by [] h = absurd (omega (arith, h))
    by (e ∷ es) h = (fixed_unit e, inl refl)

-- a unit is asked for once
only_once : (a : Ask) (u v : AskedUnit) → In u (asked_units a) → In v (asked_units a) → u.unit ≡ v.unit → u ≡ v
only_once (ask.Wild scope flow) u v i j e = ⊎_elim (λ (x : u ≡ _). ⊎_elim (λ (y : v ≡ _). x ∙ sym y) (λ (n : ⊥). absurd n) j) (λ (n : ⊥). absurd n) i
only_once (ask.Shared part) u v i j e = ⊎_elim (λ (x : u ≡ _). ⊎_elim (λ (y : v ≡ _). x ∙ sym y) (λ (n : ⊥). absurd n) j) (λ (n : ⊥). absurd n) i
only_once (ask.Fixed list) u v i j e =
    let x = in_each fixed_unit u list.rows i in
    let y = in_each fixed_unit v list.rows j in
    let units_are : Of x.0.0 ≡ Of y.0.0 = sym (ap (λ (z : AskedUnit). z.unit) x.2) ∙ e ∙ ap (λ (z : AskedUnit). z.unit) y.2 in
    let same : x.0.0 ≡ y.0.0 = cc in
    let flows : x.0.1 ≡ y.0.1 = some_same x.0.1 y.0.1 (sym (in_found senders list x.0.0 x.0.1 x.1) ∙ ap (get list) same ∙ in_found senders list y.0.0 y.0.1 y.1) in
    x.2 ∙ (λ k. fixed_unit (same k, flows k)) ∙ sym y.2

-- ---- no other style
module _ (f : Facts) (s : Session) (st : StyleKind) (of_resvs : (x : StyleKind) (k : LineKey) (r : ResvState) → get (resvs_of x f) k ≡ Some r → k.0 ≡ s → x ≡ st)
    (of_wants : (u : UnitOf) (w : Want) → get f.wants (s, u) ≡ Some w → w.style ≡ st) where
  no_rows : (x : StyleKind) → (x ≡ st → ⊥) → nat_lt 0 (size (resvs_in x f s)) ≡ false
  no_rows x other = either (nat_lt 0 (size (resvs_in x f s))) (λ yes. absurd (some_row (resvs_in x f s).rows refl (ltb-true 0 (size (resvs_in x f s)) yes))) (λ no. no)
    where
      some_row : (rows : List ((NextHop × UnitOf) × ResvState)) → (resvs_in x f s).rows ≡ rows → 0 < length rows → ⊥
      some_row [] is h = omega (arith, h)
      some_row (e ∷ es) is h =
          let there : get (resvs_in x f s) e.0 ≡ Some e.1 = in_found (pairs next_hops units) (resvs_in x f s) e.0 e.1
          (subst (λ (zs : List ((NextHop × UnitOf) × ResvState)). In e zs) (sym is) (inl refl)) in
          other (of_resvs x (s, e.0) e.1 (sym (get-under sessions (pairs next_hops units) (resvs_of x f) s e.0) ∙ there) refl)

  no_wants : (x : StyleKind) → (x ≡ st → ⊥) → list_any (λ (w : Want). is_style w.style x) (values (wants_in f s)) ≡ false
  no_wants x other =
      either (list_any (λ (w : Want). is_style w.style x) (values (wants_in f s)))
      (λ yes.
      let one = in_any (λ (w : Want). is_style w.style x) (values (wants_in f s)) yes in
      let at = in_values units (wants_in f s) one.0 one.1 in
      absurd (other (sym (style_told one.0.style x one.2) ∙ of_wants at.0 one.0 (sym (get-under sessions units f.wants s at.0) ∙ at.1))))
      (λ no. no)

  not_other : (x : StyleKind) → (not (is_style x st) && has_style f s x) ≡ false
  not_other x = by (is_style x st) refl
    where
      off : (a b : Bool) → a ≡ false → b ≡ false → (a || b) ≡ false
      off true b e g = absurd (cc)
      off false b e g = g

      by : (b : Bool) → is_style x st ≡ b → (not b && has_style f s x) ≡ false
      by true is = refl
      by false is = let other : x ≡ st → ⊥ = λ same. let z : true ≡ false = sym (ap (λ y. is_style y st) same ∙ tied_self styles st) ∙ is in cc in off _ _ (no_rows x other) (no_wants x other)

  no_conflict : style_conflict f s st ≡ None
  no_conflict =
      ap (λ b. cond b (Some Wild) (cond (not (is_style Fixed st) && has_style f s Fixed) (Some Fixed) (cond (not (is_style Shared st) && has_style f s Shared) (Some Shared) None))) (not_other Wild)
      ∙ ap (λ b. cond b (Some Fixed) (cond (not (is_style Shared st) && has_style f s Shared) (Some Shared) None)) (not_other Fixed) ∙ ap (λ b. cond b (Some Shared) None) (not_other Shared)

-- ---- the Resv
module _ (old p : NodeConfig) (c e : ℕ) (m : ResvMsg) (f : Facts) (gs : List Line) (h : CanBeTaken p c e m f gs) where
  abbrev o : Asker
  o = asker_of p c e m

  abbrev end_of : Taking
  end_of = take_units p o f (matched p f o) (nothing_taken (resvs_of o.style f) []) (asked_units m.ask)

  -- someone is known
  someone : is_none (known f m.session) ≡ false
  someone =
      let u = some_unit m.ask h.proper in
      let place = h.units u.0 u.1 in
      let one = one_name place.names place.some in
      let n = named_told o.style (kept (goes_out p o.session o.iface) (known f o.session)) one.0 (place.match one.0 one.1) in
      let r = and_both _ _ (sym (has-kept senders (goes_out p o.session o.iface) (known f o.session) n.sender) ∙ n.among) in
      member_some (known f m.session).rows n.sender r.0

  taking_is : taking p c e m f ≡ end_of
  taking_is =
      ap (λ b. taking_of p o (asked_units m.ask) f b (style_conflict f m.session (ask_style m.ask))) someone
      ∙ ap (taking_of p o (asked_units m.ask) f false) (no_conflict f m.session (ask_style m.ask) h.resv_style h.want_style)

  as_before : (st : StyleKind) (ts : ResvTables) → with_table st (table_of st ts) ts ≡ ts
  as_before Wild ts = refl
  as_before Fixed ts = refl
  as_before Shared ts = refl

  begins_well : GoesWell p o f gs h.lines_held (nothing_taken (resvs_of o.style f) [])
  begins_well = record { errors = refl; whole = refl; under = subst (λ (ts : ResvTables). AreUnder (lines (record f { resvs = ts })) gs) (sym (as_before o.style f.resvs)) h.there }

  ends_well : GoesWell p o f gs h.lines_held end_of
  ends_well = units_well p o f gs h.lines_held (asked_units m.ask) h.units (nothing_taken (resvs_of o.style f) []) begins_well

  abbrev input : Input
  input = came_resv p e m

  act_is : act p c input f ≡ act_resv p c e m f
  act_is = ap (λ b. act_spelt p c e (message.Resv m) b f) (addr_tested (own p e) (own p e) refl)

  errors_are : (act p c input f).errors ≡ []
  errors_are = ap (λ (k : Change). k.errors) act_is ∙ ap (λ (t : Taking). t.errors) taking_is ∙ ends_well.errors

  -- ---- what was heard, and what is sent
  heard_is : (act p c input f).heard ≡ heard.Taken
  heard_is =
      ap (λ (k : Change). k.heard) act_is ∙ ap (λ (t : Taking). heard_of (errors_in_order t.errors) t.left_out) taking_is
      ∙ (λ j. heard_of (errors_in_order (ends_well.errors j)) (ends_well.whole j))

  no_errors : (s : Send) (w : ResvErrMsg) → In s (sent_then old p c input f) → s.message ≡ message.ResvErr w → ⊥
  no_errors s w i is =
      ⊎_elim
      (λ (r : IsPathTear old p f (settled p c f (act p c input f).facts) (act p c input f) s). let no = sym (ap (λ (z : Send). z.message) r.is) ∙ is in cc)
      (λ k. ⊎_elim
      (λ (r : IsResvTear old p f (settled p c f (act p c input f).facts) (act p c input f) s). let no = sym (ap (λ (z : Send). z.message) r.is) ∙ is in cc)
      (λ k. ⊎_elim
      (λ (r : IsError old p f (settled p c f (act p c input f).facts) (act p c input f) s). subst (λ (zs : List ErrSend). In r.error zs) errors_are r.made)
      (λ k. ⊎_elim
      (λ (r : IsConf old p f (settled p c f (act p c input f).facts) (act p c input f) s). let no = sym (ap (λ (z : Send). z.message) r.is) ∙ is in cc)
      (λ k. ⊎_elim
      (λ (r : IsPath old p f (settled p c f (act p c input f).facts) (act p c input f) s). let no = sym (ap (λ (z : Send). z.message) r.is) ∙ is in cc)
      (λ (r : IsResv old p f (settled p c f (act p c input f).facts) (act p c input f) s). let no = sym (ap (λ (z : Send). z.message) r.is) ∙ is in cc) k) k) k) k)
      (send_told old p c input f s i)

  -- ---- reservations
  resvs_are : (act p c input f).facts ≡ with_resvs o.style end_of.table f
  resvs_are = ap (λ (k : Change). k.facts) act_is ∙ ap (λ (t : Taking). with_resvs o.style t.table f) taking_is

  -- the facts before names are forgotten
  abbrev made : Facts
  made = with_resvs o.style end_of.table f

  not_lost : (st : StyleKind) (s : Session) (x : Sender) → is_lost st f made s x ≡ false
  not_lost st s x = by (has (named_as st (known f s)) x)
    where
      by : (b : Bool) → (b && not b) ≡ false
      by true = refl
      by false = refl

  unit_there : (u : AskedUnit) (names : Names) → In u (asked_units m.ask) → u.names ≡ Some names
      → (r : ResvState) × (get (resvs_of o.style (facts_then old p c input f)) (key_at o u.unit) ≡ Some r) × (r.part ≡ record { senders = names; flow = u.flow }) × (r.dies ≡ o.dies)
  unit_there u names i listed =
      let last = units_stand p o f gs h.lines_held (asked_units m.ask) h.units (nothing_taken (resvs_of o.style f) []) begins_well u i in
      let by = last.2 in
      let unit : by.unit ≡ u = only_once m.ask by.unit u by.asks i (sym (ap (λ (k : LineKey). k.1.1) by.key)) in
      let place = h.units u i in
      let mine : place.names ≡ names = some_same place.names names (sym place.listed ∙ listed) in
      let senders_are : last.0.part.senders ≡ names =
      by.senders ∙ ap (λ (z : AskedUnit). names_that_match z.names (matched p f o)) unit ∙ ap (λ w. names_that_match w (matched p f o)) place.listed
      ∙ all_match place.names (matched p f o) place.match ∙ mine in
      let flow_is : last.0.part.flow ≡ u.flow = by.flow ∙ ap (λ (z : AskedUnit). z.flow) unit in
      let there : get (resvs_of o.style made) (key_at o u.unit) ≡ Some last.0 = ap (λ (z : Resvs). get z (key_at o u.unit)) (table_put o.style end_of.table f.resvs) ∙ last.1 in
      let stays = forgetting_by_names.stays f made o.style (key_at o u.unit) last.0 there by.named (λ x g. not_lost o.style o.session x) in (
        last.0,
        ap (λ (g : Facts). get (resvs_of o.style (forget f g)) (key_at o u.unit)) resvs_are ∙ stays,
        (λ j. record { senders = senders_are j; flow = flow_is j }),
        by.dies,
      )

  all_under : AreUnder (lines (facts_then old p c input f)) gs
  all_under = subst (λ (g : Facts). AreUnder (lines (forget f g)) gs) (sym resvs_are) left_under
    where
      left_under : AreUnder (lines (forget f made)) gs
      left_under l i =
          let k = lines_under made (forget f made) (forgotten_fewer f made) l i in let g = ends_well.under k.0 k.1 in (g.0, g.1, under_along l k.0 g.0 k.2 g.2)

  pub is_taken : IsTakenWhole old p c e m f gs
  is_taken = record { heard_it = heard_is; no_error = no_errors; facts = unit_there; under = all_under }

pub what_is_accepted : WhatIsAccepted
what_is_accepted = record { unit = λ p o f t u part gs can there place. unit_booked p o f t u part gs can there place; whole = λ old p b c e m f gs within h. is_taken old p c e m f gs h }
