-- Where reservations come from, and what keeps them.
use Rattle.std.specs.Prelude.{◌≡◌, ℕ, ◌<◌, ◌⊎◌, Bool, true, false, not, [], ◌&&◌, Option, Some, None, refl}
use Rattle.std.proofs.Common.{sym, ap, subst, ◌∙◌, inl, inr, ⊎_elim}
use Rattle.std.specs.Ordering.{eq_by_cmp}
use Rattle.rsvp_base.specs.declared.addr.Addr.{Addr}
use Rattle.rsvp_base.specs.declared.session.Sender.{Sender}
use Rattle.rsvp_base.specs.declared.session.Session.{Session}
use Rattle.rsvp_base.specs.declared.style.StyleKind.{StyleKind}
use Rattle.rsvp_base.specs.declared.style.StyleKind.TheVariants.{Wild, Fixed, Shared}
use Rattle.rsvp_base.specs.Members.{In}
use Rattle.rsvp_base.specs.Orders.{Names, senders, sessions}
use Rattle.rsvp_base.specs.Table.{get, has}
use Rattle.rsvp_base.proofs.SetLaws.{and_both, has-cut}
use Rattle.rsvp_base.proofs.Tables.{either, tied_same}
use Rattle.rsvp_messages.specs.declared.message.Message.{Message}
use Rattle.rsvp_messages.specs.declared.message.Message.TheVariants as message
use Rattle.rsvp_messages.specs.declared.message.ResvMsg.{ResvMsg}
use Rattle.rsvp_messages.specs.declared.message.ResvTearMsg.{ResvTearMsg}
use Rattle.rsvp_messages.specs.Units.{AskedUnit, ask_style, asked_units, tear_names, tear_style}
use Rattle.style_rules.specs.Lines.{LineKey, NextHop, is_of_hop, next_hops}
use Rattle.style_rules.specs.Parts.{has_name}
use Rattle.laws_bounds.specs.RouterRules.Act.{act, act_spelt, is_mine}
use Rattle.laws_bounds.specs.RouterRules.Asking.{Asker, act_resv, act_resv_tear, asker_of, key_at, matched, names_one, names_that_match, nothing_taken, stays, taking_of}
use Rattle.laws_bounds.specs.RouterRules.Bounds.{IsWithinBounds}
use Rattle.laws_bounds.specs.RouterRules.Facts.{Facts, ResvState, Resvs, resvs_of}
use Rattle.laws_bounds.specs.RouterRules.Forgetting.{is_lost}
use Rattle.laws_bounds.specs.RouterRules.Inputs.{Call, Came, Change, Clear, Input, Moved, Spelt, Unspelt, Wait}
use Rattle.laws_bounds.specs.RouterRules.Known.{known, named_as}
use Rattle.laws_bounds.specs.RouterRules.NodeConfig.{NodeConfig, own}
use Rattle.laws_bounds.proofs.Leaving.{forgetting_by_names, left_by_names, table_other, waiting_leaves_the_living}
use Rattle.laws_bounds.proofs.Tests.{addr_told}
use Rattle.laws_bounds.specs.AskLaws.{IsOfUnit}
use Rattle.laws_bounds.proofs.Receiving.{resv_tears_by_names}
use Rattle.laws_bounds.proofs.Taking.{units_other, units_source}
use Rattle.laws_bounds.proofs.Wholes.{resvs_in_steps}
use Rattle.laws_bounds.specs.RouterRules.Steps.{IsLeftOf, facts_then}
use Rattle.laws_bounds.proofs.Putting.{style_same}
use Rattle.laws_bounds.proofs.Reserving.{forgotten_fewer, itself, tear_fewer}
use Rattle.laws_steps.specs.ReservationLaws.{IsAskedFor, IsListed, SpeaksOf, TakesName, Touches, TouchesBy, WhatKeepsAReservationFact, WhereAReservationFactComesFrom}

-- ---- where a reservation comes from
pub left_along : (r y x : ResvState) → IsLeftOf r y → IsLeftOf y x → IsLeftOf r x
left_along r y x a b = record { names = λ s h. a.names s (b.names s h); flow = b.flow ∙ a.flow; named = b.named; dies = b.dies ∙ a.dies }

-- those that match are listed, and match
listed_of : (names : Option Names) (all : Names) (s : Sender) → has (names_that_match names all) s ≡ true → IsListed names s
listed_of None all s h = tt
listed_of (Some names) all s h = (and_both _ _ (sym (has-cut senders names all s) ∙ h)).0

match_of : (names : Option Names) (all : Names) (s : Sender) → has (names_that_match names all) s ≡ true → has all s ≡ true
match_of None all s h = h
match_of (Some names) all s h = (and_both _ _ (sym (has-cut senders names all s) ∙ h)).1

-- what a Resv leaves: a unit that it asked for, or what was there
module _ (p : NodeConfig) (c e : ℕ) (m : ResvMsg) (f : Facts) where
  abbrev o : Asker
  o = asker_of p c e m

  -- the reservations of its style after it
  taken_source : (b : Bool) (other : Option StyleKind) (k : LineKey) (y : ResvState) → get (taking_of p o (asked_units m.ask) f b other).table k ≡ Some y
      → (get (resvs_of (ask_style m.ask) f) k ≡ Some y) ⊎ IsOfUnit o (matched p f o) (asked_units m.ask) k y
  taken_source true other k y h = inl h
  taken_source false (Some other) k y h = inl h
  taken_source false None k y h = units_source p o f (matched p f o) (asked_units m.ask) (nothing_taken (resvs_of o.style f) []) k y h

  -- what is left of a unit's reservation is asked for by it
  abbrev came_for : LineKey → Input
  came_for k = Came k.1.0.0 (own p k.1.0.0) (Spelt (message.Resv m))

  unit_asked : (i : Input) (k : LineKey) (y x : ResvState) → i ≡ Came e (own p e) (Spelt (message.Resv m)) → IsOfUnit o (matched p f o) (asked_units m.ask) k y → IsLeftOf y x
      → IsAskedFor p c i f (ask_style m.ask) k x
  unit_asked i k y x came q left =
      let iface : e ≡ k.1.0.0 = ap (λ (z : LineKey). z.1.0.0) (sym q.key) in
      record {
        by = record {
          resv = m;
          came = came ∙ ap (λ j. Came j (own p j) (Spelt (message.Resv m))) iface;
          session = ap (λ (z : LineKey). z.0) (sym q.key);
          next = ap (λ (z : LineKey). z.1.0.1)
              (sym q.key);
          style = refl;
        };
        unit = q.unit;
        asks = q.asks;
        at = ap (λ (z : LineKey). z.1.1) (sym q.key);
        flow = left.flow ∙ q.flow;
        listed = λ s h. listed_of q.unit.names (matched p f o) s (ap (λ (z : Names). has z s) (sym q.senders) ∙ left.names s h);
        match = λ s h. ap (λ j. has (matched p f (asker_of p c j m)) s) (sym iface) ∙ match_of q.unit.names (matched p f o) s (ap (λ (z : Names). has z s) (sym q.senders) ∙ left.names s h);
        named = left.named;
        dies = left.dies ∙ q.dies;
      }

module _ (old p : NodeConfig) (b c : ℕ) (f : Facts) (within : IsWithinBounds old b f) where
  -- each reservation has a name
  named : (st : StyleKind) (k : LineKey) (r : ResvState) → get (resvs_of st f) k ≡ Some r → has_name r.part ≡ true
  named st k r h = (within.shapes.resvs st k r h).style.named

  abbrev Source : Input → StyleKind → LineKey → ResvState → Type 0
  Source i st k x = ((r : ResvState) × (get (resvs_of st f) k ≡ Some r) × IsLeftOf r x) ⊎ IsAskedFor p c i f st k x

  -- what a reservation after the input comes from, before names are forgotten
  abbrev Before : Input → StyleKind → LineKey → ResvState → Type 0
  Before i st k y = ((r : ResvState) × (get (resvs_of st f) k ≡ Some r) × IsLeftOf r y) ⊎ ((x : ResvState) → IsLeftOf y x → IsAskedFor p c i f st k x)

  was : (i : Input) (st : StyleKind) (k : LineKey) (y : ResvState) → get (resvs_of st f) k ≡ Some y → Before i st k y
  was i st k y h = inl (y, h, itself y (named st k y h))

  none_left : (i : Input) (st : StyleKind) (k : LineKey) (y : ResvState) → get (resvs_of st (act p c Clear f).facts) k ≡ Some y → Before i st k y
  none_left i Wild k y h = absurd (cc)
  none_left i Fixed k y h = absurd (cc)
  none_left i Shared k y h = absurd (cc)

  by_resv : (i : Input) (e : ℕ) (m : ResvMsg) (st : StyleKind) (k : LineKey) (y : ResvState) → i ≡ Came e (own p e) (Spelt (message.Resv m)) → get (resvs_of st (act_resv p c e m f).facts) k ≡ Some y
      → Before i st k y
  by_resv i e m st k y came h =
      ⊎_elim
      (λ (same : st ≡ ask_style m.ask).
      subst (λ z. Before i z k y) (sym same)
      (⊎_elim (λ (old : get (resvs_of (ask_style m.ask) f) k ≡ Some y). was i (ask_style m.ask) k y old)
      (λ (q : IsOfUnit (asker_of p c e m) (matched p f (asker_of p c e m)) (asked_units m.ask) k y). inr (λ x left. unit_asked p c e m f i k y x came q left))
      (taken_source p c e m f _ _ k y (ap (λ (t : Resvs). get t k) (sym (resvs_in_steps.table p c e m f)) ∙ ap (λ z. get (resvs_of z (act_resv p c e m f).facts) k) (sym same) ∙ h))))
      (λ (other : st ≡ ask_style m.ask → ⊥). was i st k y (ap (λ (t : Resvs). get t k) (sym (resvs_in_steps.others p c e m f st other)) ∙ h))
      (style_same st (ask_style m.ask))

  by_message : (i : Input) (e : ℕ) (dst : Addr) (m : Message) (st : StyleKind) (k : LineKey) (y : ResvState) (mine : Bool) → i ≡ Came e dst (Spelt m) → is_mine p e dst m ≡ mine
      → get (resvs_of st (act_spelt p c e m mine f).facts) k ≡ Some y → Before i st k y
  by_message i e dst m st k y false came is h = was i st k y h
  by_message i e dst (message.Resv m) st k y true came is h = by_resv i e m st k y (came ∙ ap (λ a. Came e a (Spelt (message.Resv m))) (addr_told dst (own p e) is)) h
  by_message i e dst (message.ResvTear m) st k y true came is h = inl (tear_fewer e m f named st k y h)
  by_message i e dst (message.Path m) st k y true came is h = was i st k y h
  by_message i e dst (message.PathErr m) st k y true came is h = was i st k y h
  by_message i e dst (message.ResvErr m) st k y true came is h = was i st k y h
  by_message i e dst (message.PathTear m) st k y true came is h = was i st k y h
  by_message i e dst (message.ResvConf m) st k y true came is h = was i st k y h

  by_input : (i : Input) (st : StyleKind) (k : LineKey) (y : ResvState) → get (resvs_of st (act p c i f).facts) k ≡ Some y → Before i st k y
  by_input (Call l) st k y h = was (Call l) st k y h
  by_input (Wait ms word) st k y h = was (Wait ms word) st k y ((waiting_leaves_the_living.of_resvs p c word f st k y).0 h).0
  by_input Clear st k y h = none_left Clear st k y h
  by_input Moved st k y h = was Moved st k y h
  by_input (Came e dst (Unspelt m)) st k y h = was (Came e dst (Unspelt m)) st k y h
  by_input (Came e dst (Spelt m)) st k y h = by_message (Came e dst (Spelt m)) e dst m st k y (is_mine p e dst m) refl refl h

  pub resv_source : (i : Input) (st : StyleKind) (k : LineKey) (x : ResvState) → get (resvs_of st (facts_then old p c i f)) k ≡ Some x → Source i st k x
  resv_source i st k x h =
      let y = forgotten_fewer f (act p c i f).facts st k x h in
      ⊎_elim (λ (q : (r : ResvState) × (get (resvs_of st f) k ≡ Some r) × IsLeftOf r y.0). inl (q.0, q.1, left_along q.0 y.0 x q.2 y.2))
      (λ (q : (x : ResvState) → IsLeftOf y.0 x → IsAskedFor p c i f st k x). inr (q x y.2)) (by_input i st k y.0 y.1)

pub where_a_reservation_fact_comes_from : WhereAReservationFactComesFrom
where_a_reservation_fact_comes_from step within st k x h = resv_source step.old step.now step.before step.after step.facts within step.input st k x h

-- ---- what keeps a reservation
-- a key of the Resv's is one that it speaks of
module _ (p : NodeConfig) (c e : ℕ) (m : ResvMsg) (f : Facts) (k : LineKey) (apart : SpeaksOf m.session e m.hop.addr (ask_style m.ask) (ask_style m.ask) k → ⊥) where
  abbrev asker : Asker
  asker = asker_of p c e m

  not_of : (u : AskedUnit) → In u (asked_units m.ask) → k ≡ key_at asker u.unit → ⊥
  not_of u i is = apart (ap (λ (z : LineKey). z.0) (sym is), ap (λ (z : LineKey). z.1.0.0) (sym is), ap (λ (z : LineKey). z.1.0.1) (sym is), refl)

  taken_other : (b : Bool) (other : Option StyleKind) → get (taking_of p asker (asked_units m.ask) f b other).table k ≡ get (resvs_of (ask_style m.ask) f) k
  taken_other true other = refl
  taken_other false (Some other) = refl
  taken_other false None = units_other p asker f (matched p f asker) (asked_units m.ask) (nothing_taken (resvs_of asker.style f) []) k not_of

-- the next hop of a ResvTear, by its parts
of_hop_told : (s : Session) (e : ℕ) (a : Addr) (k : LineKey) → is_of_hop s (e, a) k ≡ true → (s ≡ k.0) × (e ≡ k.1.0.0) × (a ≡ k.1.0.1)
of_hop_told s e a k h =
    let r = and_both (eq_by_cmp sessions.cmp s k.0) (eq_by_cmp next_hops.cmp (e, a) k.1.0) h in
    let hop = tied_same next_hops (e, a) k.1.0 r.1 in
    (tied_same sessions s k.0 r.0, ap (λ (n : NextHop). n.0) hop, ap (λ (n : NextHop). n.1) hop)

-- a ResvTear of another hop, or that takes none of its names, leaves it
module _ (e : ℕ) (m : ResvTearMsg) (f : Facts) (k : LineKey) (r : ResvState) (there : get (resvs_of (tear_style m.tear) f) k ≡ Some r) (named : has_name r.part ≡ true)
    (apart : SpeaksOf m.session e m.hop.addr (tear_style m.tear) (tear_style m.tear) k × TakesName m r.part → ⊥) where
  spared : is_of_hop m.session (e, m.hop.addr) k ≡ true → (x : Sender) → has r.part.senders x ≡ true → stays (tear_names m.tear) x ≡ true
  spared hop x h = either (stays (tear_names m.tear) x) (λ t. t) (λ goes. let q = of_hop_told m.session e m.hop.addr k hop in
      absurd (apart ((q.0, q.1, q.2, refl), record { name = x; was = h; goes = goes })))

  by_hop : (hop found : Bool) → is_of_hop m.session (e, m.hop.addr) k ≡ hop → names_one m.session (e, m.hop.addr) (tear_names m.tear) (resvs_of (tear_style m.tear) f) ≡ found
      → get (resvs_of (tear_style m.tear) (act_resv_tear e m f).facts) k ≡ Some r
  by_hop false found h g = resv_tears_by_names.others e m f k h ∙ there
  by_hop true true h g = resv_tears_by_names.own e m f k r g h there ∙ left_by_names.whole (stays (tear_names m.tear)) r named (spared h)
  by_hop true false h g = ap (λ (z : Change). get (resvs_of (tear_style m.tear) z.facts) k) (resv_tears_by_names.none e m f g) ∙ there

  left_by_tear : get (resvs_of (tear_style m.tear) (act_resv_tear e m f).facts) k ≡ Some r
  left_by_tear = by_hop (is_of_hop m.session (e, m.hop.addr) k) (names_one m.session (e, m.hop.addr) (tear_names m.tear) (resvs_of (tear_style m.tear) f)) refl refl

module _ (p : NodeConfig) (c : ℕ) (f : Facts) (st : StyleKind) (k : LineKey) (r : ResvState) (there : get (resvs_of st f) k ≡ Some r) (named : has_name r.part ≡ true) where
  kept_by_resv : (e : ℕ) (m : ResvMsg) → (SpeaksOf m.session e m.hop.addr (ask_style m.ask) st k → ⊥) → get (resvs_of st (act_resv p c e m f).facts) k ≡ Some r
  kept_by_resv e m apart =
      ⊎_elim
      (λ (same : st ≡ ask_style m.ask).
      ap (λ z. get (resvs_of z (act_resv p c e m f).facts) k) same ∙ ap (λ (t : Resvs). get t k) (resvs_in_steps.table p c e m f)
      ∙ taken_other p c e m f k (λ q. apart (q.0, q.1, q.2, sym same)) _ _ ∙ ap (λ z. get (resvs_of z f) k) (sym same) ∙ there)
      (λ (other : st ≡ ask_style m.ask → ⊥). ap (λ (t : Resvs). get t k) (resvs_in_steps.others p c e m f st other) ∙ there) (style_same st (ask_style m.ask))

  kept_by_tear : (e : ℕ) (m : ResvTearMsg) → (SpeaksOf m.session e m.hop.addr (tear_style m.tear) st k × TakesName m r.part → ⊥) → get (resvs_of st (act_resv_tear e m f).facts) k ≡ Some r
  kept_by_tear e m apart =
      ⊎_elim
      (λ (same : st ≡ tear_style m.tear).
      ap (λ z. get (resvs_of z (act_resv_tear e m f).facts) k) same
      ∙ left_by_tear e m f k r (ap (λ z. get (resvs_of z f) k) (sym same) ∙ there) named (λ (t : SpeaksOf m.session e m.hop.addr (tear_style m.tear) (tear_style m.tear) k × TakesName m r.part). apart
      ((t.0.0, t.0.1, t.0.2, sym same), t.1)))
      (λ (other : st ≡ tear_style m.tear → ⊥). ap (λ (t : Resvs). get t k) (table_other st (tear_style m.tear) _ f.resvs other) ∙ there) (style_same st (tear_style m.tear))

  kept_by_message : (e : ℕ) (m : Message) (mine : Bool) → (TouchesBy e m st k r → ⊥) → get (resvs_of st (act_spelt p c e m mine f).facts) k ≡ Some r
  kept_by_message e m false apart = there
  kept_by_message e (message.Resv m) true apart = kept_by_resv e m apart
  kept_by_message e (message.ResvTear m) true apart = kept_by_tear e m apart
  kept_by_message e (message.Path m) true apart = there
  kept_by_message e (message.PathErr m) true apart = there
  kept_by_message e (message.ResvErr m) true apart = there
  kept_by_message e (message.PathTear m) true apart = there
  kept_by_message e (message.ResvConf m) true apart = there

  pub kept_by : (i : Input) → c < r.dies → (Touches i st k r → ⊥) → get (resvs_of st (act p c i f).facts) k ≡ Some r
  kept_by (Call l) later apart = there
  kept_by (Wait ms word) later apart = (waiting_leaves_the_living.of_resvs p c word f st k r).1 (there, later)
  kept_by Clear later apart = absurd (apart tt)
  kept_by Moved later apart = there
  kept_by (Came e dst (Unspelt m)) later apart = there
  kept_by (Came e dst (Spelt m)) later apart = kept_by_message e m (is_mine p e dst m) apart

-- a name that is known after is not lost
not_lost : (st : StyleKind) (before after : Facts) (s : Session) (x : Sender) → has (named_as st (known after s)) x ≡ true → is_lost st before after s x ≡ false
not_lost st before after s x h = by (has (named_as st (known before s)) x) (has (named_as st (known after s)) x) h
  where
    by : (a b : Bool) → b ≡ true → (a && not b) ≡ false
    by true true e = refl
    by false true e = refl
    by a false e = absurd (cc)

pub what_keeps_a_reservation_fact : WhatKeepsAReservationFact
what_keeps_a_reservation_fact =
    record {
      whole = λ step within st k r there later apart all.
          let named = (within.shapes.resvs st k r there).style.named in
          forgetting_by_names.stays step.facts (act step.now step.after step.input step.facts).facts st k r (kept_by step.now step.after step.facts st k r there named step.input later apart) named
          (λ x h. not_lost st step.facts (act step.now step.after step.input step.facts).facts k.0 x (all x h));
      some = λ step within st k r there later apart x h one.
          forgetting_by_names.some step.facts (act step.now step.after step.input step.facts).facts st k r x
          (kept_by step.now step.after step.facts st k r there (within.shapes.resvs st k r there).style.named step.input later apart) h
          (not_lost st step.facts (act step.now step.after step.input step.facts).facts k.0 x one);
    }
