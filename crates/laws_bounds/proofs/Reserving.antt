-- Reservations stay within bounds.
use Rattle.std.specs.Prelude.{◌≡◌, ℕ, ◌+◌, ◌≤◌, ◌<◌, Bool, true, false, not, [], length, Option, Some, None, refl}
use Rattle.std.proofs.Common.{sym, ap, subst, ◌∙◌, ⊎_elim, arith}
use Rattle.std.proofs.lemmas.Bool.{leb-true}
use Rattle.rsvp_base.specs.declared.session.Sender.{Sender}
use Rattle.rsvp_base.specs.declared.style.StyleKind.{StyleKind}
use Rattle.rsvp_base.specs.declared.style.StyleKind.TheVariants.{Wild, Fixed, Shared}
use Rattle.rsvp_base.specs.Members.{In}
use Rattle.rsvp_base.specs.Orders.{Names, senders}
use Rattle.rsvp_base.specs.Sets.{is_none}
use Rattle.rsvp_base.specs.Table.{get, has, kept, put_in, size}
use Rattle.rsvp_base.proofs.SetLaws.{and_both, has-kept}
use Rattle.rsvp_messages.specs.declared.message.Message.{Message}
use Rattle.rsvp_messages.specs.declared.message.Message.TheVariants as message
use Rattle.rsvp_messages.specs.declared.message.ResvMsg.{ResvMsg}
use Rattle.rsvp_messages.specs.declared.message.ResvTearMsg.{ResvTearMsg}
use Rattle.rsvp_messages.specs.Proper.{IsProper, IsProperAsk}
use Rattle.rsvp_messages.specs.Units.{AskedUnit, ask_style, asked_units, tear_names, tear_style}
use Rattle.style_rules.specs.Limits.{IsWithinLimits}
use Rattle.style_rules.specs.Lines.{LineKey}
use Rattle.style_rules.specs.Parts.{has_name}
use Rattle.router_rules.specs.Act.{act, act_spelt, is_mine}
use Rattle.router_rules.specs.Asking.{Asker, act_resv_tear, asker_of, key_at, matched, nothing_taken, resv_state, stays, style_conflict, taking_of}
use Rattle.router_rules.specs.Books.{book, fits, lines_of, refused}
use Rattle.router_rules.specs.Bounds.{AreBooked, IsShaped, IsWithinBounds, LivesUpTo}
use Rattle.router_rules.specs.Calls.{entry_of}
use Rattle.router_rules.specs.Facts.{Facts, Resvs, ResvState, ResvTables, no_resvs, resvs_of, with_resvs}
use Rattle.router_rules.specs.Forgetting.{forget, is_lost}
use Rattle.router_rules.specs.Inputs.{Input, Call, Wait, Clear, Came, Moved, Spelt, Unspelt}
use Rattle.router_rules.specs.Known.{known}
use Rattle.router_rules.specs.NodeConfig.{NodeConfig, goes_out, lifetime, period}
use Rattle.laws_bounds.specs.RuleLaws.{IsLeft}
use Rattle.laws_bounds.proofs.Leaving.{as_it_was, got_forget, left_told, table_other, waiting_leaves_the_living}
use Rattle.laws_bounds.proofs.Receiving.{resv_tears_by_names}
use Rattle.router_rules.specs.Steps.{AreFewer, IsFit, IsLeftOf, clock_after, facts_then}
use Rattle.laws_bounds.proofs.Folding.{Keeps, names_listed, unit_shape, units_keep}
use Rattle.laws_bounds.proofs.Putting.{IsPut, put_booked, put_limits, put_source, style_same}
use Rattle.laws_bounds.proofs.Shrinking.{fewer_booked, fewer_limits, fewer_shapes}

-- ---- lifetimes: a new one is at least 1, and at most what a full period gives
pub lifetime_some : (p : NodeConfig) (n : ℕ) → 0 < lifetime p n
lifetime_some p n = omega arith

pub lifetime_most : (p : NodeConfig) (n : ℕ) → lifetime p n ≤ lifetime p (period p)
lifetime_most p n = omega arith

pub lives_new : (p : NodeConfig) (c n dies : ℕ) → dies ≡ c + lifetime p n → LivesUpTo c (lifetime p (period p)) dies
lives_new p c n dies e = let some = lifetime_some p n in let most = lifetime_most p n in record { later = omega (arith, e, some); soon = omega (arith, e, most) }

-- ---- reservations within bounds
pub record AreResvsWithin (p : NodeConfig) (c : ℕ) (f : Facts) : Type 0 where
  pub lives : (st : StyleKind) (k : LineKey) (r : ResvState) → get (resvs_of st f) k ≡ Some r → LivesUpTo c (lifetime p (period p)) r.dies
  pub shapes : (st : StyleKind) (k : LineKey) (r : ResvState) → get (resvs_of st f) k ≡ Some r → IsShaped p st k r
  pub limits : (st : StyleKind) → IsWithinLimits st (lines_of st (resvs_of st f))
  pub booked : AreBooked p f

pub of_bounds : (p : NodeConfig) (c : ℕ) (f : Facts) → IsWithinBounds p c f → AreResvsWithin p c f
of_bounds p c f w = record { lives = w.alive.resvs; shapes = w.shapes.resvs; limits = w.limits.resvs; booked = w.booked }

-- they depend on the reservations alone
pub same_resvs : (p : NodeConfig) (c : ℕ) (f g : Facts) → f.resvs ≡ g.resvs → AreResvsWithin p c f → AreResvsWithin p c g
same_resvs p c f g same w =
    let moved : AreResvsWithin p c (record f { resvs = g.resvs }) = subst (λ (ts : ResvTables). AreResvsWithin p c (record f { resvs = ts })) same w in
    record {
      lives = λ st k r e. moved.lives st k r e;
      shapes = λ st k r e. moved.shapes st k r e;
      limits = λ st. moved.limits st;
      booked = record { capacity = λ i on e. moved.booked.capacity i on e; mtu = λ i on k x e h. moved.booked.mtu i on k x e h };
    }

-- fewer of them, of which each lives longer than the clock
pub fewer_resvs : (p : NodeConfig) (b c : ℕ) (f g : Facts) → b ≤ c → AreFewer f g → ((st : StyleKind) (k : LineKey) (r : ResvState) → get (resvs_of st g) k ≡ Some r → c < r.dies)
    → AreResvsWithin p b f → AreResvsWithin p c g
fewer_resvs p b c f g later less lives w =
    record {
      lives = λ st k x e.
          let r = less st k x e in
          let soon = (w.lives st k r.0 r.1).soon in
          let same = r.2.dies in
          record { later = lives st k x e; soon = omega (arith, later, soon, same) };
      shapes = fewer_shapes f g less p w.shapes;
      limits = λ st. fewer_limits f g less st (w.limits st);
      booked = fewer_booked f g less p w.booked;
    }

-- fewer of them at the same moment
pub fewer_now : (p : NodeConfig) (c : ℕ) (f g : Facts) → AreFewer f g → AreResvsWithin p c f → AreResvsWithin p c g
fewer_now p c f g less w =
    fewer_resvs p c c f g (omega arith) less (λ st k x e. let r = less st k x e in let lives = (w.lives st k r.0 r.1).later in let same = r.2.dies in omega (arith, lives, same)) w

-- ---- what is left
left_is_left : (stays : Sender → Bool) (r x : ResvState) → IsLeft stays r x → IsLeftOf r x
left_is_left stays r x h =
    record {
      names = λ s e. (and_both _ _ (sym (has-kept senders stays r.part.senders s) ∙ ap (λ (z : Names). has z s) (sym h.senders) ∙ e)).0;
      flow = h.flow;
      named = h.named;
      dies = h.dies;
    }

-- a reservation with a name is what is left of itself
pub itself : (r : ResvState) → has_name r.part ≡ true → IsLeftOf r r
itself r named = record { names = λ s e. e; flow = refl; named = named; dies = refl }

pub forgotten_fewer : (before after : Facts) → AreFewer after (forget before after)
forgotten_fewer before after st k x e =
    let r = got_forget before after st k x e in (r.0, r.1, left_is_left (λ y. not (is_lost st before after k.0 y)) r.0 x (left_told (λ y. not (is_lost st before after k.0 y)) r.0 x r.2))

-- once names are forgotten
pub forgotten_within : (p : NodeConfig) (c : ℕ) (before after : Facts) → AreResvsWithin p c after → AreResvsWithin p c (forget before after)
forgotten_within p c before after w = fewer_now p c after (forget before after) (forgotten_fewer before after) w

-- ---- a reservation takes its place, where the table has room and the book does not refuse it
pub placed_within : (p : NodeConfig) (c : ℕ) (st : StyleKind) (k : LineKey) (x : ResvState) (f : Facts) (t : Resvs) → LivesUpTo c (lifetime p (period p)) x.dies → IsShaped p st k x
    → fits st (put_in t k x) ≡ true
    → refused p k.1.0.0 (entry_of st k) (book (with_resvs st (put_in t k x) f) k.1.0.0) ≡ None → AreResvsWithin p c (with_resvs st t f) → AreResvsWithin p c (with_resvs st (put_in t k x) f)
placed_within p c st k x f t lives shape room open_to w =
    record {
      lives = λ s q r e.
          ⊎_elim (λ (new : IsPut p st k x f t s q r). subst (λ (z : ResvState). LivesUpTo c (lifetime p (period p)) z.dies) (sym new.is) lives)
          (λ (old : get (resvs_of s (with_resvs st t f)) q ≡ Some r). w.lives s q r old) (put_source p st k x f t s q r e);
      shapes = λ s q r e.
          ⊎_elim (λ (new : IsPut p st k x f t s q r). subst (λ (z : StyleKind × (LineKey × ResvState)). IsShaped p z.0 z.1.0 z.1.1) (λ j. (sym new.style j, (sym new.key j, sym new.is j))) shape)
          (λ (old : get (resvs_of s (with_resvs st t f)) q ≡ Some r). w.shapes s q r old)
          (put_source p st k x f t s q r e);
      limits = put_limits p st k x f t w.limits room;
      booked = put_booked p st k x f t w.booked open_to;
    }

-- a table put where it stood
pub replaced_within : (p : NodeConfig) (c : ℕ) (st : StyleKind) (f : Facts) → AreResvsWithin p c f → AreResvsWithin p c (with_resvs st (resvs_of st f) f)
replaced_within p c st f w = same_resvs p c f (with_resvs st (resvs_of st f) f) (sym (as_it_was st f.resvs)) w

-- ---- a Resv
module _ (p : NodeConfig) (c e : ℕ) (m : ResvMsg) (f : Facts) (inside : e < length p.ifaces) (proper : IsProperAsk m.ask) where
  abbrev o : Asker
  o = asker_of p c e m

  abbrev Within : Resvs → Type 0
  Within t = AreResvsWithin p c (with_resvs o.style t f)

  unit_within : (u : AskedUnit) → In u (asked_units m.ask) → Keeps p o f (matched p f o) Within u
  unit_within u i part is t w room open_to =
      let shape = unit_shape m.ask proper (matched p f o) (λ x h. names_listed o.style (kept (goes_out p o.session o.iface) (known f o.session)) x h) u i part is in
      let tests = and_both _ _ room in
      let few = leb-true (size part.senders) 16 tests.0 in
      placed_within p c o.style (key_at o u.unit) (resv_state o part (get t (key_at o u.unit))) f t (lives_new p c m.period o.dies refl)
      (record { iface = inside; style = shape.style; unit = shape.unit; names = few; flow = shape.flow }) tests.1 open_to w

  before_units : AreResvsWithin p c f → Within (resvs_of o.style f)
  before_units w = replaced_within p c o.style f w

  taken_within : AreResvsWithin p c f → (b : Bool) (other : Option StyleKind) → Within (taking_of p o (asked_units m.ask) f b other).table
  taken_within w true other = before_units w
  taken_within w false (Some other) = before_units w
  taken_within w false None = units_keep p o f (matched p f o) Within (asked_units m.ask) unit_within (nothing_taken (resvs_of o.style f) []) (before_units w)

  pub resv_within : AreResvsWithin p c f → AreResvsWithin p c (act_spelt p c e (message.Resv m) true f).facts
  resv_within w = taken_within w (is_none (known f m.session)) (style_conflict f m.session (ask_style m.ask))

-- ---- a ResvTear
pub tear_fewer : (e : ℕ) (m : ResvTearMsg) (f : Facts) → ((st : StyleKind) (k : LineKey) (r : ResvState) → get (resvs_of st f) k ≡ Some r → has_name r.part ≡ true)
    → AreFewer f (act_resv_tear e m f).facts
tear_fewer e m f named st k x h =
    ⊎_elim
    (λ (same : st ≡ tear_style m.tear).
    let r = resv_tears_by_names.source e m f k x (ap (λ s. get (resvs_of s (act_resv_tear e m f).facts) k) (sym same) ∙ h) in
    let there : get (resvs_of st f) k ≡ Some r.0 = ap (λ s. get (resvs_of s f) k) same ∙ r.1 in (
      r.0,
      there,
      ⊎_elim (λ (is : x ≡ r.0). subst (λ (z : ResvState). IsLeftOf r.0 z) (sym is) (itself r.0 (named st k r.0 there)))
          (λ (left : IsLeft (stays (tear_names m.tear)) r.0 x). left_is_left (stays (tear_names m.tear)) r.0 x left) r.2,
    ))
    (λ (other : st ≡ tear_style m.tear → ⊥).
    let was : get (resvs_of st f) k ≡ Some x = ap (λ (t : Resvs). get t k) (sym (table_other st (tear_style m.tear) _ f.resvs other)) ∙ h in (x, was, itself x (named st k x was)))
    (style_same st (tear_style m.tear))

-- ---- each input
spelt_within : (p : NodeConfig) (c e : ℕ) (m : Message) (b : Bool) (f : Facts) → e < length p.ifaces → IsProper m → AreResvsWithin p c f → AreResvsWithin p c (act_spelt p c e m b f).facts
spelt_within p c e m false f inside proper w = w
spelt_within p c e (message.Resv m) true f inside proper w = resv_within p c e m f inside proper w
spelt_within p c e (message.ResvTear m) true f inside proper w = fewer_now p c f (act_resv_tear e m f).facts (tear_fewer e m f (λ st k r h. (w.shapes st k r h).style.named)) w
spelt_within p c e (message.Path m) true f inside proper w = same_resvs p c f (act_spelt p c e (message.Path m) true f).facts refl w
spelt_within p c e (message.PathErr m) true f inside proper w = same_resvs p c f (act_spelt p c e (message.PathErr m) true f).facts refl w
spelt_within p c e (message.ResvErr m) true f inside proper w = same_resvs p c f (act_spelt p c e (message.ResvErr m) true f).facts refl w
spelt_within p c e (message.PathTear m) true f inside proper w = same_resvs p c f (act_spelt p c e (message.PathTear m) true f).facts refl w
spelt_within p c e (message.ResvConf m) true f inside proper w = same_resvs p c f (act_spelt p c e (message.ResvConf m) true f).facts refl w

no_resv : {A : Type 0} (f : Facts) (st : StyleKind) (k : LineKey) (r : ResvState) → get (resvs_of st (record f { resvs = no_resvs })) k ≡ Some r → A
no_resv f Wild k r e = absurd (cc)
no_resv f Fixed k r e = absurd (cc)
no_resv f Shared k r e = absurd (cc)

act_within : (p : NodeConfig) (b : ℕ) (i : Input) (f : Facts) → IsFit p i → AreResvsWithin p b f → AreResvsWithin p (clock_after b i) (act p (clock_after b i) i f).facts
act_within p b (Call l) f fit w = same_resvs p b f (act p b (Call l) f).facts refl w
act_within p b (Wait ms word) f fit w =
    fewer_resvs p b (b + ms) f (act p (b + ms) (Wait ms word) f).facts (omega arith)
    (λ st k x e. let r = (waiting_leaves_the_living.of_resvs p (b + ms) word f st k x).0 e in (x, r.0, itself x (w.shapes st k x r.0).style.named))
    (λ st k x e. ((waiting_leaves_the_living.of_resvs p (b + ms) word f st k x).0 e).1)
    w
act_within p b Clear f fit w = fewer_now p b f (act p b Clear f).facts (λ st k x e. no_resv f st k x e) w
act_within p b Moved f fit w = w
act_within p b (Came e dst (Unspelt m)) f fit w = same_resvs p b f (act p b (Came e dst (Unspelt m)) f).facts refl w
act_within p b (Came e dst (Spelt m)) f fit w = spelt_within p b e m (is_mine p e dst m) f fit.0 fit.1 w

pub resvs_within : (old p : NodeConfig) (b : ℕ) (i : Input) (f : Facts) → IsFit p i → AreResvsWithin p b f → AreResvsWithin p (clock_after b i) (facts_then old p (clock_after b i) i f)
resvs_within old p b i f fit w =
    let c = clock_after b i in
    same_resvs p (clock_after b i) (forget f (act p (clock_after b i) i f).facts) (facts_then old p (clock_after b i) i f) refl
    (forgotten_within p (clock_after b i) f (act p (clock_after b i) i f).facts (act_within p b i f fit w))
