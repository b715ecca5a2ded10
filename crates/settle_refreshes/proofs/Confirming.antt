-- Where a wish to be confirmed comes from, and the confirmations that go on.
use Rattle.std.proofs.Common.{◌≡◌, ◌⊎◌, ℕ, List, [], ◌∷◌, Bool, true, false, Option, None, Some, inl, inr, ⊎_elim, sym, refl, ap, subst, ◌∙◌}
use Rattle.admission_book.specs.declared.refused.Refused.{Refused}
use Rattle.rsvp_base.specs.declared.addr.Addr.{Addr}
use Rattle.rsvp_base.specs.declared.part.Part.{Part}
use Rattle.rsvp_base.specs.declared.style.StyleKind.{StyleKind}
use Rattle.rsvp_base.specs.declared.style.StyleKind.TheVariants.{Wild, Fixed, Shared}
use Rattle.rsvp_base.specs.declared.style.Unit.{Unit as UnitOf}
use Rattle.rsvp_base.specs.Members.{In}
use Rattle.rsvp_base.specs.Orders.{Names}
use Rattle.rsvp_base.specs.Sets.{is_none}
use Rattle.rsvp_base.specs.Table.{get}
use Rattle.rsvp_base.proofs.Tables.{got_put_in}
use Rattle.rsvp_messages.specs.declared.message.Message.{Message}
use Rattle.rsvp_messages.specs.declared.message.Message.TheVariants as message
use Rattle.rsvp_messages.specs.declared.message.ResvConfMsg.{ResvConfMsg}
use Rattle.rsvp_messages.specs.declared.message.ResvMsg.{ResvMsg}
use Rattle.rsvp_messages.specs.declared.message.ResvTearMsg.{ResvTearMsg}
use Rattle.rsvp_messages.specs.Units.{AskedUnit, ask_style, asked_units, tear_names, tear_style}
use Rattle.style_rules.specs.Lines.{LineKey, line_keys}
use Rattle.router_rules.specs.Act.{act, act_spelt, is_mine}
use Rattle.router_rules.specs.Asking.{Asker, Taking, act_resv, act_resv_tear, asker_of, book_refuses, confirm_kept, has_room, key_at, lost, matched, names_one, names_that_match, nothing_taken}
use Rattle.router_rules.specs.Asking.{or_kept, put_tested, put_unit, resv_state, stays, style_conflict, table_with, take_unit, take_units, taking, taking_of, tell_lost, torn_resvs}
use Rattle.router_rules.specs.Confirming.{confs_heard, confs_on, with_confs}
use Rattle.router_rules.specs.Facts.{Facts, ResvState, Resvs, resvs_of, with_resvs}
use Rattle.router_rules.specs.Inputs.{Call, Came, Clear, ConfSend, Input, Moved, Spelt, Unspelt, Wait}
use Rattle.router_rules.specs.Known.{known}
use Rattle.router_rules.specs.NodeConfig.{NodeConfig, is_own}
use Rattle.router_rules.specs.Steps.{facts_then, is_calm}
use Rattle.style_rules.specs.Parts.{part_of}
use Rattle.laws_bounds.specs.MessageLaws.{IsConfOn}
use Rattle.laws_bounds.specs.RuleLaws.{IsLeft}
use Rattle.laws_bounds.proofs.Leaving.{forgetting_by_names, left_told, waiting_leaves_the_living}
use Rattle.laws_bounds.proofs.Receiving.{conf_told, resv_tears_by_names}
use Rattle.laws_bounds.proofs.Wholes.{resvs_in_steps}

-- ---- a confirmation that goes on has come, and somebody wanted to hear it
pub record ConfGoesOn (f : Facts) (s : ConfSend) (i : Input) : Type 0 where
  pub at : ℕ
  pub dst : Addr
  pub conf : ResvConfMsg
  pub came : i ≡ Came at dst (Spelt (message.ResvConf conf))
  pub to : IsConfOn conf f s

module _ (p : NodeConfig) (c : ℕ) (f : Facts) (s : ConfSend) where
  by_conf : (at : ℕ) (dst : Addr) (m : ResvConfMsg) (own : Bool) (ss : List ConfSend) → ((z : ConfSend) → In z ss → In z (confs_on m f)) → In s (with_confs f (confs_heard own ss)).confs
      → ConfGoesOn f s (Came at dst (Spelt (message.ResvConf m)))
  by_conf at dst m true ss g h = absurd h
  by_conf at dst m false [] g h = absurd h
  by_conf at dst m false (z ∷ zs) g h = record { at = at; dst = dst; conf = m; came = refl; to = conf_told m f s (g s h) }

  by_spelt : (at : ℕ) (dst : Addr) (m : Message) (mine : Bool) → In s (act_spelt p c at m mine f).confs → ConfGoesOn f s (Came at dst (Spelt m))
  by_spelt at dst m false h = absurd h
  by_spelt at dst (message.Path m) true h = absurd h
  by_spelt at dst (message.Resv m) true h = absurd h
  by_spelt at dst (message.PathErr m) true h = absurd h
  by_spelt at dst (message.ResvErr m) true h = absurd h
  by_spelt at dst (message.PathTear m) true h = absurd h
  by_spelt at dst (message.ResvTear m) true h = absurd h
  by_spelt at dst (message.ResvConf m) true h = by_conf at dst m (is_own p m.confirm) (confs_on m f) (λ z i. i) h

  pub conf_source : (i : Input) → In s (act p c i f).confs → ConfGoesOn f s i
  conf_source (Call l) h = absurd h
  conf_source (Wait ms word) h = absurd h
  conf_source Clear h = absurd h
  conf_source Moved h = absurd h
  conf_source (Came at dst (Unspelt m)) h = absurd h
  conf_source (Came at dst (Spelt m)) h = by_spelt at dst m (is_mine p at dst m) h

-- ---- where no Resv that came asks, no wish is made
abbrev pub AsksNothing : Input → Type 0
AsksNothing i = (at : ℕ) (dst : Addr) (m : ResvMsg) → i ≡ Came at dst (Spelt (message.Resv m)) → m.confirm ≡ None

module _ (p : NodeConfig) (c : ℕ) (f : Facts) where
  no_wish : (at : ℕ) (dst : Addr) (m : Message) (mine : Bool) → AsksNothing (Came at dst (Spelt m)) → (act_spelt p c at m mine f).asked ≡ None
  no_wish at dst m false none = refl
  no_wish at dst (message.Path m) true none = refl
  no_wish at dst (message.Resv m) true none = resvs_in_steps.no_wish p c at m f (none at dst m refl)
  no_wish at dst (message.PathErr m) true none = refl
  no_wish at dst (message.ResvErr m) true none = refl
  no_wish at dst (message.PathTear m) true none = refl
  no_wish at dst (message.ResvTear m) true none = refl
  no_wish at dst (message.ResvConf m) true none = refl

  pub asks_nothing : (i : Input) → is_calm i ≡ true → AsksNothing i → (act p c i f).asked ≡ None
  asks_nothing (Call l) calm none = absurd (cc)
  asks_nothing (Wait ms word) calm none = refl
  asks_nothing Clear calm none = absurd (cc)
  asks_nothing Moved calm none = absurd (cc)
  asks_nothing (Came at dst (Unspelt m)) calm none = refl
  asks_nothing (Came at dst (Spelt m)) calm none = no_wish at dst m (is_mine p at dst m) none

-- ---- a reservation that keeps a wish kept it, or a Resv brought it
-- the tables of a style
pub style_at : (st of : StyleKind) (t : Resvs) (f : Facts) (k : LineKey) (x : ResvState) → get (resvs_of st (with_resvs of t f)) k ≡ Some x
    → ((st ≡ of) × (get t k ≡ Some x)) ⊎ (get (resvs_of st f) k ≡ Some x)
style_at Wild Wild t f k x e = inl (refl, e)
style_at Wild Fixed t f k x e = inr e
style_at Wild Shared t f k x e = inr e
style_at Fixed Wild t f k x e = inr e
style_at Fixed Fixed t f k x e = inl (refl, e)
style_at Fixed Shared t f k x e = inr e
style_at Shared Wild t f k x e = inr e
style_at Shared Fixed t f k x e = inr e
style_at Shared Shared t f k x e = inl (refl, e)

-- this reservation keeps this wish
abbrev Keeps : Resvs → LineKey → Addr → Type 0
Keeps t k a = (r : ResvState) × (get t k ≡ Some r) × (r.confirm ≡ Some a)

kept_before : (o : Option ResvState) (wish : Option Addr) (a : Addr) → or_kept wish (confirm_kept o) ≡ Some a → ((r : ResvState) × (o ≡ Some r) × (r.confirm ≡ Some a)) ⊎ (wish ≡ Some a)
kept_before o (Some b) a e = inr e
kept_before (Some r) None a e = inl (r, refl, e)
kept_before None None a e = absurd (cc)

module _ (p : NodeConfig) (o : Asker) (f : Facts) (all : Names) (k : LineKey) (a : Addr) where
  abbrev Brings : Resvs → Resvs → Type 0
  Brings before after = Keeps after k a → Keeps before k a ⊎ (o.confirm ≡ Some a)

  by_table : (t : Taking) (u : UnitOf) (part : Part) → Brings t.table (table_with o u part t.table)
  by_table t u part r =
      ⊎_elim
      (λ (here : (k ≡ key_at o u) × (r.0 ≡ resv_state o part (get t.table (key_at o u)))).
      ⊎_elim (λ (z : (x : ResvState) × (get t.table (key_at o u) ≡ Some x) × (x.confirm ≡ Some a)). inl (z.0, ap (λ (y : LineKey). get t.table y) here.0 ∙ z.1, z.2))
      (λ (z : o.confirm ≡ Some a). inr z)
      (kept_before (get t.table (key_at o u)) o.confirm a (sym (ap (λ (z : ResvState). z.confirm) here.1) ∙ r.2)))
      (λ (old : get t.table k ≡ Some r.0). inl (r.0, old, r.2))
      (got_put_in line_keys t.table (key_at o u) (resv_state o part (get t.table (key_at o u))) k r.0 r.1)

  by_test : (t : Taking) (u : UnitOf) (part : Part) (room : Bool) (why : Option Refused) → Brings t.table (put_tested p o f u part room why t).table
  by_test t u part false why r = inl r
  by_test t u part true (Some why) r = inl r
  by_test t u part true None r = by_table t u part r

  by_put : (t : Taking) (u : UnitOf) (part : Option Part) → Brings t.table (put_unit p o f u part t).table
  by_put t u None r = inl r
  by_put t u (Some part) r = by_test t u part (has_room o u part t.table) (book_refuses p o f u part t.table) r

  by_unit : (t : Taking) (u : AskedUnit) → Brings t.table (take_unit p o f all t u).table
  by_unit t u r = by_put (tell_lost p o u.flow (lost o.style u.names all) t) u.unit (part_of (names_that_match u.names all) u.flow) r

  by_units : (t : Taking) (us : List AskedUnit) → Brings t.table (take_units p o f all t us).table
  by_units t [] r = inl r
  by_units t (u ∷ us) r =
      ⊎_elim (λ (old : Keeps (take_unit p o f all t u).table k a). by_unit t u old) (λ (new : o.confirm ≡ Some a). inr new) (by_units (take_unit p o f all t u) us r)

module _ (p : NodeConfig) (c e : ℕ) (m : ResvMsg) (f : Facts) (k : LineKey) (a : Addr) where
  abbrev asks : Asker
  asks = asker_of p c e m

  by_taking : (b : Bool) (v : Option StyleKind) → Keeps (taking_of p asks (asked_units m.ask) f b v).table k a → Keeps (resvs_of (ask_style m.ask) f) k a ⊎ (m.confirm ≡ Some a)
  by_taking true v r = inl r
  by_taking false (Some other) r = inl r
  by_taking false None r = by_units p asks f (matched p f asks) k a (nothing_taken (resvs_of (ask_style m.ask) f) []) (asked_units m.ask) r

  taken_wish : (st : StyleKind) → Keeps (resvs_of st (act_resv p c e m f).facts) k a → Keeps (resvs_of st f) k a ⊎ (m.confirm ≡ Some a)
  taken_wish st r =
      ⊎_elim
      (λ (z : (st ≡ ask_style m.ask) × (get (taking p c e m f).table k ≡ Some r.0)).
      ⊎_elim (λ (old : Keeps (resvs_of (ask_style m.ask) f) k a). inl (subst (λ (y : StyleKind). Keeps (resvs_of y f) k a) (sym z.0) old))
      (λ (new : m.confirm ≡ Some a). inr new)
      (by_taking (is_none (known f m.session)) (style_conflict f m.session (ask_style m.ask)) (r.0, z.1, r.2)))
      (λ (z : get (resvs_of st f) k ≡ Some r.0). inl (r.0, z, r.2))
      (style_at st (ask_style m.ask) (taking p c e m f).table f k r.0 r.1)

torn_wish : (e : ℕ) (m : ResvTearMsg) (f : Facts) (st : StyleKind) (k : LineKey) (a : Addr) → Keeps (resvs_of st (act_resv_tear e m f).facts) k a → Keeps (resvs_of st f) k a
torn_wish e m f st k a r =
    ⊎_elim
    (λ (z : (st ≡ tear_style m.tear) × (get (torn_resvs (names_one m.session (e, m.hop.addr) (tear_names m.tear) (resvs_of (tear_style m.tear) f)) m.session (e, m.hop.addr) (tear_names m.tear)
    (resvs_of (tear_style m.tear) f)) k ≡ Some r.0)).
    let s = resv_tears_by_names.source e m f k r.0 (subst (λ (y : StyleKind). get (resvs_of y (act_resv_tear e m f).facts) k ≡ Some r.0) z.0 r.1) in (
      s.0,
      subst (λ (y : StyleKind). get (resvs_of y f) k ≡ Some s.0) (sym z.0) s.1,
      ⊎_elim (λ (is : r.0 ≡ s.0). ap (λ (y : ResvState). y.confirm) (sym is) ∙ r.2) (λ (is : IsLeft (stays (tear_names m.tear)) s.0 r.0). sym is.confirm ∙ r.2) s.2,
    ))
    (λ (z : get (resvs_of st f) k ≡ Some r.0). (r.0, z, r.2))
    (style_at st (tear_style m.tear) (torn_resvs (names_one m.session (e, m.hop.addr) (tear_names m.tear) (resvs_of (tear_style m.tear) f)) m.session (e, m.hop.addr) (tear_names m.tear)
    (resvs_of (tear_style m.tear) f)) f k r.0 r.1)

module _ (p : NodeConfig) (c : ℕ) (f : Facts) (st : StyleKind) (k : LineKey) (a : Addr) where
  spelt_wish : (at : ℕ) (dst : Addr) (m : Message) (mine : Bool) → AsksNothing (Came at dst (Spelt m)) → Keeps (resvs_of st (act_spelt p c at m mine f).facts) k a → Keeps (resvs_of st f) k a
  spelt_wish at dst m false none r = r
  spelt_wish at dst (message.Path m) true none r = r
  spelt_wish at dst (message.PathErr m) true none r = r
  spelt_wish at dst (message.ResvErr m) true none r = r
  spelt_wish at dst (message.PathTear m) true none r = r
  spelt_wish at dst (message.ResvConf m) true none r = r
  spelt_wish at dst (message.ResvTear m) true none r = torn_wish at m f st k a r
  spelt_wish at dst (message.Resv m) true none r =
      ⊎_elim (λ (old : Keeps (resvs_of st f) k a). old)
      (λ (new : m.confirm ≡ Some a). let no : ◌≡◌ {A = Option Addr} None (Some a) = sym (none at dst m refl) ∙ new in absurd (cc))
      (taken_wish p c at m f k a st r)

  acted_wish : (i : Input) → is_calm i ≡ true → AsksNothing i → Keeps (resvs_of st (act p c i f).facts) k a → Keeps (resvs_of st f) k a
  acted_wish (Call l) calm none r = absurd (cc)
  acted_wish Clear calm none r = absurd (cc)
  acted_wish Moved calm none r = absurd (cc)
  acted_wish (Wait ms word) calm none r = (r.0, ((waiting_leaves_the_living.of_resvs p c word f st k r.0).0 r.1).0, r.2)
  acted_wish (Came at dst (Unspelt m)) calm none r = r
  acted_wish (Came at dst (Spelt m)) calm none r = spelt_wish at dst m (is_mine p at dst m) none r

  pub wish_source : (old : NodeConfig) (i : Input) → is_calm i ≡ true → AsksNothing i → (x : ResvState) → get (resvs_of st (facts_then old p c i f)) k ≡ Some x → x.confirm ≡ Some a
      → (r : ResvState) × (get (resvs_of st f) k ≡ Some r) × (r.confirm ≡ Some a)
  wish_source old i calm none x there wish =
      let g = forgetting_by_names.at f (act p c i f).facts st k x there in
      let left = left_told _ g.0 x g.2 in
      acted_wish i calm none (g.0, g.1, sym left.confirm ∙ wish)
