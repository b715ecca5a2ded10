-- Reservations die, one after another.
use Rattle.std.specs.Prelude.{◌≡◌, ℕ, ◌-◌, nat_le, ◌≤◌, Bool, true, false, cond, not, [], Option, Some, None, refl}
use Rattle.std.specs.FinMap.Entries.{find}
use Rattle.std.specs.Ordering.{eq_by_cmp}
use Rattle.std.proofs.Common.{sym, ap, subst, ◌∙◌, ⊎_elim, arith}
use Rattle.std.proofs.lemmas.Option.{same_Some}
use Rattle.admission_book.specs.Book.{Entries}
use Rattle.rsvp_base.specs.Table.{Table, changed, get, without}
use Rattle.rsvp_base.specs.TokenBucket.{TokenBucket}
use Rattle.rsvp_base.specs.declared.entry_key.EntryKey.{EntryKey}
use Rattle.rsvp_base.specs.declared.part.Part.{Part}
use Rattle.rsvp_base.specs.declared.style.StyleKind.{StyleKind}
use Rattle.rsvp_base.proofs.Tables.{either, get-changed, get-without, got_changed, then_do, tied_same}
use Rattle.resv_state.specs.Resvs.{AreOfStyle, ResvFacts, dead_after, later, resv_key}
use Rattle.resv_state.specs.declared.fact.ResvFact.{ResvFact}
use Rattle.style_rules.specs.Lines.{line_keys}
use Rattle.style_rules.specs.PartLaws.{charge_below, most_below, part_at_most_itself}
use Rattle.style_rules.specs.Parts.{IsPartAtMost}
use Rattle.router_rules.specs.Books.{book}
use Rattle.router_rules.specs.Facts.{Facts, resvs_of}
use Rattle.router_state.specs.State.{resv_at}
use Rattle.resv_admission.specs.Dying.{IsBookBut, IsBookButWith, NoneWaits}
use Rattle.resv_admission.specs.Kept.{IsBookOf, facts_with, flow_in}
use Rattle.resv_admission.specs.Placing.{entry_key_of}
use Rattle.resv_admission.specs.Renewed.{AreRenewed, IsNoMore, entry_in, is_place}
use Rattle.resv_admission.proofs.Entries.{IsBelow, entry_below, entry_same, key_of}
use Rattle.resv_admission.proofs.Moves.{IsLess, alike, entry_of_table, lifted, put_away, put_here, style_same}
use Rattle.resv_admission.proofs.Renewals.{is_its_place, place_is}

-- ---- flows
pub flow_below : (v w : Option Part) → ((x : Part) → v ≡ Some x → (y : Part) × (w ≡ Some y) × IsPartAtMost x y) → IsNoMore (flow_in v) (flow_in w)
flow_below None w h flow e = absurd (cc)
flow_below (Some x) w h flow e =
    let y = h x refl in
    let same : x.flow ≡ flow = same_Some x.flow flow e in
    (y.0.flow, ap flow_in y.1, subst (λ (z : TokenBucket). z.r ≤ y.0.flow.r) same (charge_below x y.0 y.2), subst (λ (z : TokenBucket). z.most ≤ y.0.flow.most) same (most_below x y.0 y.2))

pub no_more_itself : (w : Option TokenBucket) → IsNoMore w w
no_more_itself w f e = (f, e, at_most f.r, at_most f.most)
  where
    at_most : (a : ℕ) → a ≤ a
    at_most a = omega arith

-- ---- time passes
module _ (st : StyleKind) (old new : ResvFacts) (dead : Table line_keys ResvFact) (ms : ℕ) (is : new ≡ changed (later ms) old) (gone : dead ≡ changed (dead_after ms) old) where
  ages_less : (i : ℕ) (k : EntryKey) → IsLess i k new old
  ages_less i k a d got =
      let e = got_changed line_keys (later ms) old (key_of i k a) d (ap (λ (z : ResvFacts). get z (key_of i k a)) (sym is) ∙ got) in
      (e.0, e.1, same (nat_le e.0.1 ms) e.0 d e.2)
    where
      same : (b : Bool) (e d : ResvFact × ℕ) → cond b None (Some (e.0, e.1 - ms)) ≡ Some d → IsPartAtMost d.0.part e.0.part
      same true e d h = absurd (cc)
      same false e d h = subst (λ (z : ResvFact × ℕ). IsPartAtMost z.0.part e.0.part) (same_Some (e.0, e.1 - ms) d h) (part_at_most_itself e.0.part)

  ages_stay : (i : ℕ) (k : EntryKey) → k.style ≡ st → NoneWaits st dead i k → IsLess i k old new
  ages_stay i k here none a d got =
      either (nat_le d.1 ms)
      (λ t. absurd (none here a d.0 (ap (λ (z : Table line_keys ResvFact). get z (key_of i k a)) gone ∙ get-changed line_keys (dead_after ms) old (key_of i k a)
      ∙ ap (λ w. then_do w (dead_after ms (key_of i k a))) got ∙ ap (λ b. cond b (Some d.0) None) t)))
      (λ f. (
        (d.0, d.1 - ms),
        ap (λ (z : ResvFacts). get z (key_of i k a)) is ∙ get-changed line_keys (later ms) old (key_of i k a) ∙ ap (λ w. then_do w (later ms (key_of i k a))) got
            ∙ ap (λ b. cond b None (Some (d.0, d.1 - ms))) f,
        part_at_most_itself d.0.part,
      ))

module _ (st : StyleKind) (old new : ResvFacts) (dead : Table line_keys ResvFact) (ms : ℕ) (is : new ≡ changed (later ms) old) (gone : dead ≡ changed (dead_after ms) old) (b c : ℕ) (f : Facts)
    (es : Entries) (was : resvs_of st f ≡ changed (resv_at b) old) (booked : IsBookOf f es) where
  abbrev g : Facts
  g = facts_with st c new f

  still_below : (i : ℕ) (k : EntryKey) → IsBelow i k g f
  still_below i k =
      ⊎_elim
      (λ (here : k.style ≡ st). lifted i k g f c b new old (ap (λ z. resvs_of z g) here ∙ put_here st new c f) (ap (λ z. resvs_of z f) here ∙ was) (ages_less st old new dead ms is gone i k))
      (λ (away : k.style ≡ st → ⊥). alike i k g f (put_away st new c f k.style away))
      (style_same k.style st)

  still_above : (i : ℕ) (k : EntryKey) → NoneWaits st dead i k → IsBelow i k f g
  still_above i k none =
      ⊎_elim
      (λ (here : k.style ≡ st). lifted i k f g b c old new (ap (λ z. resvs_of z f) here ∙ was) (ap (λ z. resvs_of z g) here ∙ put_here st new c f) (ages_stay st old new dead ms is gone i k here none))
      (λ (away : k.style ≡ st → ⊥). alike i k f g (sym (put_away st new c f k.style away)))
      (style_same k.style st)

  pub ages : IsBookBut st dead g es
  ages = record {
    at = λ i k none. booked.at i k ∙ ap flow_in (entry_same i k f g (still_above i k none) (still_below i k));
    less = λ i k. subst (IsNoMore (flow_in (get (book g i) k))) (sym (booked.at i k)) (flow_below (get (book g i) k) (get (book f i) k) (entry_below i k g f (still_below i k)));
  }

-- ---- one is pulled
module _ (st : StyleKind) (m : ResvFacts) (styled : AreOfStyle st m) (dead : Table line_keys ResvFact) (d : ResvFact) where
  abbrev key : EntryKey
  key = entry_key_of st d

  pub pulls_less : (before : Entries) → IsBookButWith st m dead before → IsNoMore (entry_in st m d.iface key) (get before (d.iface, key))
  pulls_less before with = subst (λ z. IsNoMore z (get before (d.iface, key))) (entry_of_table d.iface key st with.facts with.clock m refl with.resvs styled) (with.book.less d.iface key)

  -- an entry of which none waits afterwards is that of the one that was pulled, or none waited before
  waits : (i : ℕ) (k : EntryKey) → is_place d.iface key i k ≡ false → NoneWaits st (without dead (resv_key st d)) i k → NoneWaits st dead i k
  waits i k apart none here a x got =
      either (eq_by_cmp line_keys.cmp (resv_key st d) (key_of i k a))
      (λ t.
      let same = tied_same line_keys (resv_key st d) (key_of i k a) t in
      let spot : ◌≡◌ {A = ℕ × EntryKey} (d.iface, key) (i, k) = λ j. ((same j).1.0.0, record { session = (same j).0; style = sym here j; unit = (same j).1.1 }) in
      let z : true ≡ false = sym (is_its_place d.iface key) ∙ ap (λ (p : ℕ × EntryKey). is_place d.iface key p.0 p.1) spot ∙ apart in
      absurd (cc))
      (λ f. none here a x (get-without line_keys dead (resv_key st d) (key_of i k a) ∙ ap (λ b. cond (not b) (get dead (key_of i k a)) None) f ∙ got))

  pub pulls : (c : ℕ) (f : Facts) (before after : Entries) → resvs_of st f ≡ changed (resv_at c) m → AreRenewed (is_place d.iface key) (λ i k. entry_in st m d.iface key) before after
      → IsBookBut st dead f before → IsBookBut st (without dead (resv_key st d)) f after
  pulls c f before after is renewed but = record {
    at = λ i k none. either (is_place d.iface key i k)
        (λ t. here i k t)
        (λ g. same i k g ∙ but.at i k (waits i k g none));
    less = λ i k. either (is_place d.iface key i k)
        (λ t. subst (IsNoMore (flow_in (get (book f i) k))) (sym (here i k t)) (no_more_itself (flow_in (get (book f i) k))))
        (λ g. subst (IsNoMore (flow_in (get (book f i) k))) (sym (same i k g)) (but.less i k));
  }
    where
      here : (i : ℕ) (k : EntryKey) → is_place d.iface key i k ≡ true → get after (i, k) ≡ flow_in (get (book f i) k)
      here i k t =
          let spot = place_is d.iface key i k t in
          renewed.at i k ∙ ap (λ b. cond b (entry_in st m d.iface key) (get before (i, k))) t
          ∙ sym (entry_of_table d.iface key st f c m refl is styled) ∙ ap (λ (p : ℕ × EntryKey). flow_in (get (book f p.0) p.1)) spot

      same : (i : ℕ) (k : EntryKey) → is_place d.iface key i k ≡ false → get after (i, k) ≡ get before (i, k)
      same i k g = renewed.at i k ∙ ap (λ b. cond b (entry_in st m d.iface key) (get before (i, k))) g

-- where none waits, the book is whole
pub none_waits : (st : StyleKind) (dead : Table line_keys ResvFact) → dead.rows ≡ [] → (f : Facts) (es : Entries) → IsBookBut st dead f es → IsBookOf f es
none_waits st dead none f es but = record { at = λ i k. but.at i k (λ here a d got. let z : None ≡ Some d = ap (find line_keys.cmp (key_of i k a)) (sym none) ∙ got in cc) }
