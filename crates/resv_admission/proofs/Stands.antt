-- A reservation that is to stand: the tests of the rule are those of the table and of the kept book.
use Rattle.std.specs.Prelude.{◌≡◌, ℕ, ◌+◌, ◌≤◌, ◌<◌, ◌==◌, Bool, true, false, cond, not, ◌&&◌, List, [], ◌∷◌, map as each, sum_by, slice_get, is_some, option_and_then, Option, Some, None, refl}
use Rattle.std.specs.Cmp.{both_ways}
use Rattle.std.specs.List.{fold}
use Rattle.std.specs.Ordering.{eq_by_cmp}
use Rattle.std.proofs.Common.{sym, ap, ◌∙◌, arith, ⊎_elim}
use Rattle.admission_book.specs.Book.{Bookings, Entries, changed_at}
use Rattle.admission_book.specs.Charges.{charges, refusal, refusal_beside}
use Rattle.admission_book.specs.EntryKeys.{places}
use Rattle.admission_book.specs.declared.refused.Refused.{Refused}
use Rattle.rsvp_base.specs.Keys.{numbers}
use Rattle.rsvp_base.specs.Orders.{entry_keys}
use Rattle.rsvp_base.specs.Table.{Table, changed, changed_rows, get, has, put_in, size, without}
use Rattle.rsvp_base.specs.TokenBucket.{TokenBucket}
use Rattle.rsvp_base.specs.Under.{under}
use Rattle.rsvp_base.specs.declared.addr.Addr.{Addr}
use Rattle.rsvp_base.specs.declared.entry_key.EntryKey.{EntryKey}
use Rattle.rsvp_base.specs.declared.iface.Iface.{Iface}
use Rattle.rsvp_base.specs.declared.part.Part.{Part}
use Rattle.rsvp_base.specs.declared.style.StyleKind.{StyleKind}
use Rattle.rsvp_base.specs.declared.style.StyleKind.TheVariants.{Wild, Fixed, Shared}
use Rattle.rsvp_base.proofs.Sizes.{size_same}
use Rattle.rsvp_base.proofs.Tables.{either, get-changed, get-put_in_other, get-without, same_table, size-put_in, then_do, tied_same, tied_self}
use Rattle.rsvp_base.proofs.UnderLaws.{get-under}
use Rattle.resv_state.specs.Resvs.{AreOfStyle, ResvFacts, resv_key, resv_lines, soft_resv}
use Rattle.resv_state.specs.declared.fact.ResvFact.{ResvFact}
use Rattle.resv_state.proofs.Facts.{put_style}
use Rattle.style_rules.specs.Limits.{within_limits}
use Rattle.style_rules.specs.Lines.{BookTable, LineKey, held, line_keys}
use Rattle.style_rules.specs.PartLaws.{part_at_most_itself}
use Rattle.style_rules.specs.Parts.{IsOfStyle, part_charge}
use Rattle.router_rules.specs.Books.{book, fits, line_of, refused}
use Rattle.router_rules.specs.Calls.{needs, stale_refusal}
use Rattle.router_rules.specs.Inputs.{StaleResv}
use Rattle.router_rules.specs.declared.answers.StaleErr.{StaleErr}
use Rattle.router_rules.specs.declared.answers.StaleErr.TheVariants as stale
use Rattle.resv_admission.specs.declared.placing.Placed.{Placed}
use Rattle.resv_admission.specs.declared.placing.Placed.TheVariants as placed
use Rattle.router_rules.specs.Facts.{Facts, Resvs, resvs_of, with_resvs}
use Rattle.router_rules.specs.NodeConfig.{NodeConfig}
use Rattle.router_state.specs.State.{resv_at}
use Rattle.router_state.proofs.Settling.{changed_put, has_changed}
use Rattle.resv_admission.specs.Kept.{IsBookOf, MovesWith, facts_with, flow_in}
use Rattle.resv_admission.specs.Placing.{IsBookAmong, entry_key_of, outcome, placed_in, stands, stood}
use Rattle.resv_admission.specs.Renewed.{entry_in, is_place}
use Rattle.resv_admission.proofs.Entries.{key_of}
use Rattle.resv_admission.proofs.Moves.{IsLess, entry_of_table, moves, put_away, put_here, stays_same, style_same}
use Rattle.resv_admission.proofs.Renewals.{is_its_place, one_renewed, place_is}
use Rattle.resv_admission.proofs.Room.{entries_few, within_few}

-- ---- two books of the same flows charge alike
abbrev flows : List (EntryKey × Part) → List (EntryKey × TokenBucket)
flows es = changed_rows (λ k (part : Part). Some part.flow) es

sum_flows : (a : ℕ) (es : List (EntryKey × Part)) → fold (λ n (e : EntryKey × TokenBucket). n + e.1.r) a (flows es) ≡ fold (λ n (e : EntryKey × Part). n + part_charge e.1) a es
sum_flows a [] = refl
sum_flows a (e ∷ es) = sum_flows (a + e.1.flow.r) es

flow_of_changed : (b : BookTable) (k : EntryKey) → get (changed (λ k (part : Part). Some part.flow) b) k ≡ flow_in (get b k)
flow_of_changed b k = get-changed entry_keys (λ k (part : Part). Some part.flow) b k ∙ by (get b k)
  where
    by : (w : Option Part) → then_do w (λ (part : Part). Some part.flow) ≡ flow_in w
    by None = refl
    by (Some p) = refl

sums_agree : (t : Table entry_keys TokenBucket) (b : BookTable) → ((k : EntryKey) → get t k ≡ flow_in (get b k)) → sum_by (λ e. e.1.r) t.rows ≡ held b
sums_agree t b same = ap (λ (z : Table entry_keys TokenBucket). sum_by (λ e. e.1.r) z.rows)
    (same_table entry_keys t (changed (λ k (part : Part). Some part.flow) b) (λ k. same k ∙ sym (flow_of_changed b k))) ∙ sum_flows 0 b.rows

-- the kept book refuses what the computed one refuses, where the other entries are the same
module _ (ifaces : List Iface) (f g : Facts) (es : Entries) (booked : IsBookOf f es) (i : ℕ) (k : EntryKey)
    (others : (q : EntryKey) → eq_by_cmp entry_keys.cmp k q ≡ false → get (book f i) q ≡ get (book g i) q) where
  same_place : (q : EntryKey) → eq_by_cmp places.cmp (i, k) (i, q) ≡ eq_by_cmp entry_keys.cmp k q
  same_place q =
      both_ways _ _
      (λ h. let e = tied_same places (i, k) (i, q) h in ap (eq_by_cmp entry_keys.cmp k) (λ j. (sym e j).1) ∙ tied_self entry_keys k)
      (λ h. let e = tied_same entry_keys k q h in ap (λ z. eq_by_cmp places.cmp (i, k) (i, z)) (sym e) ∙ tied_self places (i, k))

  rest_same : (q : EntryKey) → get (under numbers entry_keys (without es (i, k)) i) q ≡ flow_in (get (without (book g i) k) q)
  rest_same q =
      get-under numbers entry_keys (without es (i, k)) i q ∙ get-without places es (i, k) (i, q) ∙ ap (λ b. cond (not b) (get es (i, q)) None) (same_place q)
      ∙ by (eq_by_cmp entry_keys.cmp k q) refl ∙ sym (ap flow_in (get-without entry_keys (book g i) k q))
    where
      by : (b : Bool) → eq_by_cmp entry_keys.cmp k q ≡ b → cond (not b) (get es (i, q)) None ≡ flow_in (cond (not b) (get (book g i) q) None)
      by true e = refl
      by false e = booked.at i q ∙ ap flow_in (others q e)

  pub refusal_is : (p : NodeConfig) → p.ifaces ≡ ifaces → (now : Option TokenBucket) → flow_in (get (book g i) k) ≡ now
      → refusal (record { ifaces = ifaces; entries = es }) i k now ≡ refused p i k (book g i)
  refusal_is p same now e =
      let sums : charges (without es (i, k)) i ≡ held (without (book g i) k) = sums_agree (under numbers entry_keys (without es (i, k)) i) (without (book g i) k) rest_same in
      λ j. option_and_then (λ on. refusal_beside on (sums j) (sym e j)) (slice_get (sym same j) i)

-- ---- the lines of a table, at a clock
lines_at : (st : StyleKind) (c : ℕ) (es : List (LineKey × (ResvFact × ℕ))) → each (line_of st) (changed_rows (resv_at c) es) ≡ each (soft_resv st) es
lines_at st c [] = refl
lines_at st c (e ∷ es) = ap (λ ls. soft_resv st e ∷ ls) (lines_at st c es)

pub fits_is : (st : StyleKind) (c : ℕ) (m : ResvFacts) → fits st (changed (resv_at c) m) ≡ within_limits st (resv_lines st m)
fits_is st c m = ap (within_limits st) (lines_at st c m.rows)

pub size_is : (c : ℕ) (m : ResvFacts) → size (changed (resv_at c) m) ≡ size m
size_is c m = size_same line_keys (changed (resv_at c) m) m (has_changed line_keys (resv_at c) (λ k e. refl) m)

-- ---- one reservation in its place
module _ (st : StyleKind) (m : ResvFacts) (styled : AreOfStyle st m) (d : ResvFact) (own : IsOfStyle st d.part) (left : ℕ) where
  abbrev new : ResvFacts
  new = put_in m (resv_key st d) (d, left)

  abbrev key : EntryKey
  key = entry_key_of st d

  still : AreOfStyle st new
  still = put_style st m d left own styled

  pub stood_is : (c : ℕ) (f : Facts) → resvs_of st f ≡ changed (resv_at c) m → stood st c d left f ≡ changed (resv_at c) new
  stood_is c f is = ap (λ (t : Resvs). put_in t (resv_key st d) (stands c d left)) is ∙ sym (changed_put line_keys (resv_at c) m (resv_key st d) (d, left) (stands c d left) refl)

  -- what becomes of it, by the two tests
  pub placed_is : (p : NodeConfig) (c : ℕ) (f : Facts) → resvs_of st f ≡ changed (resv_at c) m → (b : Bool) (w : Option Refused) → b ≡ within_limits st (resv_lines st new)
      → w ≡ refused p d.iface key (book (with_resvs st (stood st c d left f) f) d.iface)
      → outcome b w ≡ placed_in p st c d left f
  placed_is p c f is b w fit why =
      let room : b ≡ fits st (stood st c d left f) = fit ∙ sym (fits_is st c new) ∙ sym (ap (fits st) (stood_is c f is)) in
      λ i. outcome (room i) (why i)

  apart : (i : ℕ) (k : EntryKey) → is_place d.iface key i k ≡ false → k.style ≡ st → (a : Addr) → eq_by_cmp line_keys.cmp (key_of i k a) (resv_key st d) ≡ false
  apart i k g here a =
      either (eq_by_cmp line_keys.cmp (key_of i k a) (resv_key st d))
      (λ t.
      let same = tied_same line_keys (key_of i k a) (resv_key st d) t in
      let spot : ◌≡◌ {A = ℕ × EntryKey} (d.iface, key) (i, k) = λ j. ((sym same j).1.0.0, record { session = (sym same j).0; style = sym here j; unit = (sym same j).1.1 }) in
      let z : true ≡ false = sym (is_its_place d.iface key) ∙ ap (λ (p : ℕ × EntryKey). is_place d.iface key p.0 p.1) spot ∙ g in
      absurd (cc))
      (λ f. f)

  beside : (i : ℕ) (k : EntryKey) → is_place d.iface key i k ≡ false → k.style ≡ st → IsLess i k m new × IsLess i k new m
  beside i k g here = (
    (λ a e got. (e, get-put_in_other line_keys m (resv_key st d) (d, left) (key_of i k a) (apart i k g here a) ∙ got, part_at_most_itself e.0.part)),
    (λ a e got. (e, sym (get-put_in_other line_keys m (resv_key st d) (d, left) (key_of i k a) (apart i k g here a)) ∙ got, part_at_most_itself e.0.part)),
  )

  -- the entry with it
  module _ (flow : TokenBucket) (e : entry_in st new d.iface key ≡ Some flow) where
    pub place_moves : (es : Entries) → MovesWith st m new es (changed_at es d.iface key (Some flow))
    place_moves es =
        let one = one_renewed es d.iface key (Some flow) in
        moves st m new still (is_place d.iface key) es (changed_at es d.iface key (Some flow)) (λ i k t. λ j. (sym (place_is d.iface key i k t) j).1.style) beside
        (record {
          at = λ i k. one.at i k ∙ either (is_place d.iface key i k)
              (λ t. ap (λ b. cond b (Some flow) (get es (i, k))) t ∙ sym e ∙ ap (λ (p : ℕ × EntryKey). entry_in st new p.0 p.1) (place_is d.iface key i k t)
              ∙ sym (ap (λ b. cond b (entry_in st new i k) (get es (i, k))) t))
              (λ f. ap (λ b. cond b (Some flow) (get es (i, k))) f ∙ sym (ap (λ b. cond b (entry_in st new i k) (get es (i, k))) f));
        })

    pub place_refused : (b : Bookings) (p : NodeConfig) (c : ℕ) (f : Facts) → p.ifaces ≡ b.ifaces → resvs_of st f ≡ changed (resv_at c) m → IsBookOf f b.entries
        → refusal b d.iface key (Some flow) ≡ refused p d.iface key (book (with_resvs st (stood st c d left f) f) d.iface)
    place_refused b p c f same is booked =
        refusal_is b.ifaces f (facts_with st c new f) b.entries booked d.iface key (λ q g. stays_same st m new still c f is d.iface q
        (λ here. beside d.iface q (ap (λ z. (d.iface == d.iface) && z) g ∙ and_false (d.iface == d.iface)) here)) p same (Some flow)
        (entry_of_table d.iface key st (facts_with st c new f) c new refl (put_here st new c f) still ∙ e)
        ∙ ap (λ (t : Resvs). refused p d.iface key (book (with_resvs st t f) d.iface)) (sym (stood_is c f is))
      where
        and_false : (b : Bool) → (b && false) ≡ false
        and_false true = refl
        and_false false = refl

    -- a new entry has room, where the table is within its limits
    pub place_room : (es : Entries) → IsBookAmong st m es → within_limits st (resv_lines st new) ≡ true → has es (d.iface, key) ≡ false → size es < 3072
    place_room es among within none =
        let f = among.facts in
        let c = among.clock in
        let g = facts_with st c new f in
        let booked = place_moves es c f among.resvs among.book in
        let all = entries_few g (changed_at es d.iface key (Some flow)) booked in
        let here : size (resvs_of st g) ≡ size new = ap (λ (t : Resvs). size t) (put_here st new c f) ∙ size_is c new in
        let few = within_few st new within in
        let each_few : (s : StyleKind) → size (resvs_of s g) ≤ 1024 = λ s. ⊎_elim
        (λ (same : s ≡ st). let z : size (resvs_of s g) ≡ size new = ap (λ z. size (resvs_of z g)) same ∙ here in omega (arith, z, few))
        (λ (away : s ≡ st → ⊥). let z : size (resvs_of s g) ≡ size (resvs_of s f) = ap (λ (t : Resvs). size t) (put_away st new c f s away) in omega (arith, z, among.others s away))
        (style_same s st) in
        let grown : size (changed_at es d.iface key (Some flow)) ≡ size es + 1 = size-put_in places es (d.iface, key) flow ∙ ap (λ b. cond b (size es) (size es + 1)) none in
        omega (arith, all, grown, each_few Wild, each_few Fixed, each_few Shared)

-- ---- a left-over reservation
abbrev pub as_stale : Placed → Option StaleErr
as_stale placed.LeftOut = Some stale.Full
as_stale (placed.Refused why) = Some stale.Over
as_stale placed.Taken = None

pub stale_is : (p : NodeConfig) (st : StyleKind) (c : ℕ) (d : ResvFact) (left : ℕ) (f : Facts)
    → as_stale (placed_in p st c d left f) ≡ stale_refusal p (StaleResv st (resv_key st d) (stands c d left)) f
stale_is p st c d left f = by (fits st (stood st c d left f)) (refused p d.iface (entry_key_of st d) (book (with_resvs st (stood st c d left f) f) d.iface))
  where
    by : (b : Bool) (w : Option Refused) → as_stale (outcome b w) ≡ needs b stale.Full (needs (not (is_some w)) stale.Over None)
    by false w = refl
    by true (Some why) = refl
    by true None = refl
