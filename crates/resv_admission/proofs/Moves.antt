-- Tables that change, and the book that moves with them.
use Rattle.std.specs.Prelude.{◌≡◌, ℕ, ◌≤◌, Bool, true, false, cond, not, ◌&&◌, ◌||◌, ◌+◌, List, [], ◌∷◌, Option, Some, None, refl}
use Rattle.std.specs.Cmp.{both_ways}
use Rattle.std.specs.List.{list_any}
use Rattle.std.specs.Option.{option_map}
use Rattle.std.specs.Ordering.{eq_by_cmp}
use Rattle.std.proofs.Common.{sym, ap, subst, ◌∙◌, ⊎_elim, inl, inr, ◌⊎◌}
use Rattle.std.proofs.lemmas.Option.{same_Some}
use Rattle.admission_book.specs.Book.{Entries}
use Rattle.rsvp_base.specs.Orders.{Names, entry_keys, senders, sessions, styles}
use Rattle.rsvp_base.specs.Sets.{cut, is_none, set_of}
use Rattle.rsvp_base.specs.Styles.{unit_of}
use Rattle.rsvp_base.specs.Table.{changed, changed_rows, get, has, keys}
use Rattle.rsvp_base.specs.Under.{under}
use Rattle.rsvp_base.specs.TokenBucket.{TokenBucket}
use Rattle.rsvp_base.specs.declared.addr.Addr.{Addr}
use Rattle.rsvp_base.specs.declared.entry_key.EntryKey.{EntryKey}
use Rattle.rsvp_base.specs.declared.part.Part.{Part}
use Rattle.rsvp_base.specs.declared.session.Sender.{Sender}
use Rattle.rsvp_base.specs.declared.session.Session.{Session}
use Rattle.rsvp_base.specs.declared.style.StyleKind.{StyleKind}
use Rattle.rsvp_base.proofs.Counts.{has-set_of}
use Rattle.rsvp_base.proofs.Fronts.{in_keys, to_keys}
use Rattle.rsvp_base.proofs.Members.{any_in, in_any}
use Rattle.rsvp_base.proofs.SetLaws.{and_both, and_made, has-cut}
use Rattle.rsvp_base.proofs.Tables.{either, get-changed, got_changed, then_do, tied_same, tied_self}
use Rattle.resv_state.specs.Leaving.{forgotten, has_one, hop_has_one, left_of, stays, torn, with_part}
use Rattle.resv_state.specs.Merging.{parts_on}
use Rattle.resv_state.specs.Resvs.{AreOfStyle, ResvFacts}
use Rattle.resv_state.specs.Walks.{rests}
use Rattle.resv_state.specs.declared.fact.ResvFact.{ResvFact}
use Rattle.resv_state.proofs.Left.{left_below, whole}
use Rattle.style_rules.specs.Lines.{LineKey, NextHop, is_of_hop, line_keys, next_hops}
use Rattle.style_rules.specs.Merge.{PartTable, merge}
use Rattle.style_rules.specs.PartLaws.{charge_below, most_below, part_at_most_itself}
use Rattle.style_rules.specs.Parts.{IsPartAtMost, part_kept}
use Rattle.style_rules.proofs.StyleLaws.{a_name, unit_of_names}
use Rattle.router_rules.specs.Asking.{names_one, torn_resv, stays as rule_stays, with_part as state_with}
use Rattle.router_rules.specs.Books.{book}
use Rattle.router_rules.specs.Facts.{Facts, ResvState, Resvs, resvs_of, with_resvs}
use Rattle.laws_bounds.proofs.Lists.{has_some}
use Rattle.laws_bounds.proofs.Leaving.{as_it_was, table_other, table_put}
use Rattle.router_state.specs.State.{resv_at}
use Rattle.router_state.proofs.Passing.{changed_same, changed_twice}
use Rattle.resv_admission.specs.Kept.{IsBookOf, IsBookWith, MovesWith, facts_with, flow_in}
use Rattle.resv_admission.specs.Renewed.{AreRenewed, IsNoMore, entry_in, is_key, is_named, name_key}
use Rattle.resv_admission.proofs.Renewals.{name_among, names_told}
use Rattle.resv_admission.proofs.Entries.{IsBelow, entry_below, entry_is, entry_same, key_of}

pub style_same : (a b : StyleKind) → (a ≡ b) ⊎ (a ≡ b → ⊥)
style_same a b = either (eq_by_cmp styles.cmp a b) (λ tie. inl (tied_same styles a b tie))
    (λ apart. inr (λ e. let z : true ≡ false = sym (ap (λ c. eq_by_cmp styles.cmp a c) (sym e) ∙ tied_self styles a) ∙ apart in cc))

-- ---- tables, at one entry
-- each reservation of the entry in the one has one in the other that can stand for it
abbrev pub IsLess : ℕ → EntryKey → ResvFacts → ResvFacts → Type 0
IsLess i k m n = (a : Addr) (d : ResvFact × ℕ) → get m (key_of i k a) ≡ Some d → (e : ResvFact × ℕ) × (get n (key_of i k a) ≡ Some e) × IsPartAtMost d.0.part e.0.part

module _ (i : ℕ) (k : EntryKey) where
  pub lifted : (f g : Facts) (b c : ℕ) (m n : ResvFacts) → resvs_of k.style f ≡ changed (resv_at b) m → resvs_of k.style g ≡ changed (resv_at c) n → IsLess i k m n → IsBelow i k f g
  lifted f g b c m n is are less a r e =
      let d = got_changed line_keys (resv_at b) m (key_of i k a) r (ap (λ (z : Resvs). get z (key_of i k a)) (sym is) ∙ e) in
      let x = less a d.0 d.1 in (
        record { part = x.0.0.part; confirm = x.0.0.confirm; dies = c + x.0.1 },
        ap (λ (z : Resvs). get z (key_of i k a)) are ∙ get-changed line_keys (resv_at c) n (key_of i k a) ∙ ap (λ w. then_do w (resv_at c (key_of i k a))) x.1,
        subst (λ z. IsPartAtMost z x.0.0.part) (ap (λ (z : ResvState). z.part) (same_Some _ r d.2)) x.2,
      )

  pub alike : (f g : Facts) → resvs_of k.style f ≡ resvs_of k.style g → IsBelow i k f g
  alike f g same a r e = (r, ap (λ (z : Resvs). get z (key_of i k a)) (sym same) ∙ e, part_at_most_itself r.part)

  pub itself_less : (m : ResvFacts) → IsLess i k m m
  itself_less m a d e = (d, e, part_at_most_itself d.0.part)

  -- the entry as the table of the style has it
  pub entry_of_table : (st : StyleKind) (f : Facts) (c : ℕ) (m : ResvFacts) → k.style ≡ st → resvs_of st f ≡ changed (resv_at c) m → AreOfStyle st m → flow_in (get (book f i) k) ≡ entry_in st m i k
  entry_of_table st f c m e = subst (λ z. resvs_of z f ≡ changed (resv_at c) m → AreOfStyle z m → flow_in (get (book f i) k) ≡ entry_in z m i k) e
      (λ is styled. ap flow_in (entry_is f c m i k is styled))

-- ---- a table of a style in place of another
pub put_here : (st : StyleKind) (new : ResvFacts) (c : ℕ) (f : Facts) → resvs_of st (facts_with st c new f) ≡ changed (resv_at c) new
put_here st new c f = table_put st (changed (resv_at c) new) f.resvs

pub put_away : (st : StyleKind) (new : ResvFacts) (c : ℕ) (f : Facts) (s : StyleKind) → (s ≡ st → ⊥) → resvs_of s (facts_with st c new f) ≡ resvs_of s f
put_away st new c f s away = table_other s st (changed (resv_at c) new) f.resvs away

module _ (st : StyleKind) (old new : ResvFacts) (styled : AreOfStyle st new) where
  -- entries whose parts are the same stay
  pub stays_same : (c : ℕ) (f : Facts) → resvs_of st f ≡ changed (resv_at c) old → (i : ℕ) (k : EntryKey) → (k.style ≡ st → IsLess i k old new × IsLess i k new old)
      → get (book f i) k ≡ get (book (facts_with st c new f) i) k
  stays_same c f is i k same =
      ⊎_elim
      (λ (here : k.style ≡ st).
      let two = same here in
      let before : resvs_of k.style f ≡ changed (resv_at c) old = ap (λ z. resvs_of z f) here ∙ is in
      let after : resvs_of k.style (facts_with st c new f) ≡ changed (resv_at c) new = ap (λ z. resvs_of z (facts_with st c new f)) here ∙ put_here st new c f in
      entry_same i k f (facts_with st c new f) (lifted i k f (facts_with st c new f) c c old new before after two.0) (lifted i k (facts_with st c new f) f c c new old after before two.1))
      (λ (away : k.style ≡ st → ⊥).
      let same = put_away st new c f k.style away in
      entry_same i k f (facts_with st c new f) (alike i k f (facts_with st c new f) (sym same)) (alike i k (facts_with st c new f) f same))
      (style_same k.style st)

  -- the book that has the new entries where they may differ is that of the facts with the new table
  pub moves : (those : ℕ → EntryKey → Bool) (before after : Entries) → ((i : ℕ) (k : EntryKey) → those i k ≡ true → k.style ≡ st)
      → ((i : ℕ) (k : EntryKey) → those i k ≡ false → k.style ≡ st → IsLess i k old new × IsLess i k new old) → AreRenewed those (entry_in st new) before after → MovesWith st old new before after
  moves those before after inside outside renewed c f is booked =
      record {
        at = λ i k. renewed.at i k ∙ either (those i k)
            (λ t. ap (λ b. cond b (entry_in st new i k) (get before (i, k))) t ∙ sym (entry_of_table i k st (facts_with st c new f) c new (inside i k t) (put_here st new c f) styled))
            (λ g. ap (λ b. cond b (entry_in st new i k) (get before (i, k))) g ∙ booked.at i k ∙ ap flow_in (stays_same c f is i k (outside i k g)));
      }

  -- entries of less are no more
  pub no_more : (before : Entries) → IsBookWith st old before → (i : ℕ) (k : EntryKey) → k.style ≡ st → IsLess i k new old → IsNoMore (entry_in st new i k) (get before (i, k))
  no_more before with i k here less flow e =
      let f = with.facts in
      let c = with.clock in
      let g = facts_with st c new f in
      let after : resvs_of k.style g ≡ changed (resv_at c) new = ap (λ z. resvs_of z g) here ∙ put_here st new c f in
      let was : resvs_of k.style f ≡ changed (resv_at c) old = ap (λ z. resvs_of z f) here ∙ with.resvs in
      let x = some_flow (get (book g i) k) flow (entry_of_table i k st g c new here (put_here st new c f) styled ∙ e) in
      let y = entry_below i k g f (lifted i k g f c c new old after was less) x.0 x.1 in (
        y.0.flow,
        with.book.at i k ∙ ap flow_in y.1,
        subst (λ (z : TokenBucket). z.r ≤ y.0.flow.r) x.2 (charge_below x.0 y.0 y.2),
        subst (λ (z : TokenBucket). z.most ≤ y.0.flow.most) x.2 (most_below x.0 y.0 y.2),
      )
    where
      some_flow : (w : Option Part) (flow : TokenBucket) → flow_in w ≡ Some flow → (x : Part) × (w ≡ Some x) × (x.flow ≡ flow)
      some_flow None flow e = absurd (cc)
      some_flow (Some x) flow e = (x, refl, same_Some x.flow flow e)

-- ---- names that leave some reservations
module _ (st : StyleKind) (m : ResvFacts) (styled : AreOfStyle st m) (test : LineKey → Bool) (gone : Names) where
  abbrev pub leaves : LineKey → ResvFact × ℕ → Option (ResvFact × ℕ)
  leaves k e = cond (test k) (left_of gone e) (Some e)

  abbrev after : ResvFacts
  after = changed leaves m

  less_part : (b : Bool) (e d : ResvFact × ℕ) → cond b (left_of gone e) (Some e) ≡ Some d → IsPartAtMost d.0.part e.0.part
  less_part false e d is = subst (λ (z : ResvFact × ℕ). IsPartAtMost z.0.part e.0.part) (same_Some e d is) (part_at_most_itself e.0.part)
  less_part true e d is = by (part_kept (stays gone) e.0.part) refl is
    where
      by : (w : Option Part) → part_kept (stays gone) e.0.part ≡ w → option_map (with_part e) w ≡ Some d → IsPartAtMost d.0.part e.0.part
      by None from got = absurd (cc)
      by (Some p) from got = subst (λ (z : ResvFact × ℕ). IsPartAtMost z.0.part e.0.part) (same_Some (with_part e p) d got) (left_below gone e.0.part p from)

  pub leaves_less : (i : ℕ) (k : EntryKey) → IsLess i k after m
  leaves_less i k a d got = let e = got_changed line_keys leaves m (key_of i k a) d got in (e.0, e.1, less_part (test (key_of i k a)) e.0 d e.2)

  -- an entry of none of their units stays
  pub leaves_other : (i : ℕ) (k : EntryKey) → ((a : Addr) (x : Sender) → test (key_of i k a) ≡ true → has gone x ≡ true → unit_of st x ≡ k.unit → ⊥) → IsLess i k m after
  leaves_other i k other a d got = (
    d,
    get-changed line_keys leaves m (key_of i k a) ∙ ap (λ w. then_do w (leaves (key_of i k a))) got
        ∙ either (test (key_of i k a)) (λ t. ap (λ b. cond b (left_of gone d) (Some d)) t ∙ ap (option_map (with_part d)) (whole gone d.0.part (none t) (styled.style (key_of i k a) d got).named))
        (λ g. ap (λ b. cond b (left_of gone d) (Some d)) g),
    part_at_most_itself d.0.part,
  )
    where
      none : test (key_of i k a) ≡ true → has_one gone d.0.part ≡ false
      none t = either (is_none (cut d.0.part.senders gone)) (λ e. ap not e) (λ e.
          let x = a_name (cut d.0.part.senders gone) e in
          let two = and_both (has d.0.part.senders x.0) (has gone x.0) (sym (has-cut senders d.0.part.senders gone x.0) ∙ x.1) in
          absurd (other a x.0 t two.1 (sym (unit_of_names st d.0.part x.0 (styled.style (key_of i k a) d got) two.0) ∙ (λ j. (styled.key (key_of i k a) d got j).1.1))))

-- ---- one name of a session
module _ (st : StyleKind) (m : ResvFacts) (styled : AreOfStyle st m) (s : Session) (name : Sender) where
  abbrev key : EntryKey
  key = record { session = s; style = st; unit = unit_of st name }

  pub forgets_less : (i : ℕ) (k : EntryKey) → IsLess i k (changed (forgotten s name) m) m
  forgets_less i k = leaves_less st m styled (λ q. eq_by_cmp sessions.cmp s q.0) (set_of (name ∷ [])) i k

  pub forgets_other : (i : ℕ) (k : EntryKey) → is_key key i k ≡ false → k.style ≡ st → IsLess i k m (changed (forgotten s name) m)
  forgets_other i k apart here =
      leaves_other st m styled (λ q. eq_by_cmp sessions.cmp s q.0) (set_of (name ∷ [])) i k (λ a x t among unit.
      let same : x ≡ name = tied_same senders x name (or_none (eq_by_cmp senders.cmp x name) (sym (has-set_of senders (name ∷ []) x) ∙ among)) in
      let session = tied_same sessions s k.session t in
      let spot : key ≡ k = λ j. record { session = session j; style = sym here j; unit = (ap (unit_of st) (sym same) ∙ unit) j } in
      let z : true ≡ false = sym (tied_self entry_keys key) ∙ ap (eq_by_cmp entry_keys.cmp key) spot ∙ apart in
      absurd (cc))
    where
      or_none : (b : Bool) → (b || false) ≡ true → b ≡ true
      or_none true e = refl
      or_none false e = cc

  pub forget_moves : (new : ResvFacts) → new ≡ changed (forgotten s name) m → AreOfStyle st new → (before after : Entries) → AreRenewed (is_key key) (entry_in st new) before after
      → MovesWith st m new before after
  forget_moves new is styled' before after renewed =
      moves st m new styled' (is_key key) before after (λ i k t. λ j. (sym (tied_same entry_keys key k t) j).style)
      (λ i k g here. (subst (λ z. IsLess i k m z) (sym is) (forgets_other i k g here), subst (λ z. IsLess i k z m) (sym is) (forgets_less i k))) renewed

  pub forget_no_more : (new : ResvFacts) → new ≡ changed (forgotten s name) m → AreOfStyle st new → (before : Entries) → IsBookWith st m before → (i : ℕ)
      → IsNoMore (entry_in st new i key) (get before (i, key))
  forget_no_more new is styled' before with i = no_more st m new styled' before with i key refl (subst (λ z. IsLess i key z m) (sym is) (forgets_less i key))

-- ---- names of a next hop
module _ (st : StyleKind) (m : ResvFacts) (styled : AreOfStyle st m) (s : Session) (hop : NextHop) (gone : Names) where
  pub tears_less : (i : ℕ) (k : EntryKey) → IsLess i k (changed (torn s hop gone) m) m
  tears_less i k = leaves_less st m styled (is_of_hop s hop) gone i k

  pub tears_other : (i : ℕ) (k : EntryKey) → is_named st s hop.0 (keys gone) i k ≡ false → k.style ≡ st → IsLess i k m (changed (torn s hop gone) m)
  tears_other i k apart here =
      leaves_other st m styled (is_of_hop s hop) gone i k (λ a x t among unit.
      let two = and_both (eq_by_cmp sessions.cmp s k.session) (eq_by_cmp next_hops.cmp hop (i, a)) t in
      let session = tied_same sessions s k.session two.0 in
      let spot = tied_same next_hops hop (i, a) two.1 in
      let same : name_key st s x ≡ k = λ j. record { session = session j; style = sym here j; unit = unit j } in
      let named = name_among st s hop.0 (keys gone) x (to_keys senders gone x among) in
      let z : true ≡ false = sym named ∙ (λ j. is_named st s hop.0 (keys gone) (spot j).0 (same j)) ∙ apart in
      absurd (cc))

  pub tear_moves : (new : ResvFacts) → new ≡ changed (torn s hop gone) m → AreOfStyle st new → (before after : Entries) → AreRenewed (is_named st s hop.0 (keys gone)) (entry_in st new) before after
      → MovesWith st m new before after
  tear_moves new is styled' before after renewed =
      moves st m new styled' (is_named st s hop.0 (keys gone)) before after (λ i k t. λ j. (sym (names_told st s hop.0 (keys gone) i k t).1.2 j).style)
      (λ i k g here. (subst (λ z. IsLess i k m z) (sym is) (tears_other i k g here), subst (λ z. IsLess i k z m) (sym is) (tears_less i k))) renewed

  pub tear_no_more : (new : ResvFacts) → new ≡ changed (torn s hop gone) m → AreOfStyle st new → (before : Entries) → IsBookWith st m before → (k : EntryKey)
      → is_named st s hop.0 (keys gone) hop.0 k ≡ true → IsNoMore (entry_in st new hop.0 k) (get before (hop.0, k))
  tear_no_more new is styled' before with k t = no_more st m new styled' before with hop.0 k (λ j. (sym (names_told st s hop.0 (keys gone) hop.0 k t).1.2 j).style)
      (subst (λ z. IsLess hop.0 k z m) (sym is) (tears_less hop.0 k))

-- an entry of a session, by its parts on an interface
pub parts_entry : (st : StyleKind) (m : ResvFacts) (s : Session) (at : ℕ) (parts : PartTable) (xs : List Sender) (i : ℕ) (k : EntryKey)
    → parts ≡ merge st (parts_on at (under sessions rests m s).rows) → is_named st s at xs i k ≡ true → flow_in (get parts k.unit) ≡ entry_in st m i k
parts_entry st m s at parts xs i k is t =
    let told = names_told st s at xs i k t in
    ap (λ (z : PartTable). flow_in (get z k.unit)) is ∙ (λ j. flow_in (get (merge st (parts_on (told.0 j) (under sessions rests m (told.1.2 j).session).rows)) k.unit))

-- the entries of a session, by its parts on an interface
pub by_parts : (st : StyleKind) (m : ResvFacts) (s : Session) (at : ℕ) (parts : PartTable) (xs : List Sender) (before after : Entries) → parts ≡ merge st (parts_on at (under sessions rests m s).rows)
    → AreRenewed (is_named st s at xs) (λ i k. flow_in (get parts k.unit)) before after → AreRenewed (is_named st s at xs) (entry_in st m) before after
by_parts st m s at parts xs before after is renewed = record {
  at = λ i k. renewed.at i k ∙ either (is_named st s at xs i k)
      (λ t.
      let told = names_told st s at xs i k t in
      ap (λ b. cond b (flow_in (get parts k.unit)) (get before (i, k))) t ∙ ap (λ (z : PartTable). flow_in (get z k.unit)) is
      ∙ (λ j. flow_in (get (merge st (parts_on (told.0 j) (under sessions rests m (told.1.2 j).session).rows)) k.unit))
      ∙ sym (ap (λ b. cond b (entry_in st m i k) (get before (i, k))) t))
      (λ f. ap (λ b. cond b (flow_in (get parts k.unit)) (get before (i, k))) f ∙ sym (ap (λ b. cond b (entry_in st m i k) (get before (i, k))) f));
}

-- a table that stays, and its book
pub moves_not : (st : StyleKind) (m : ResvFacts) (es : Entries) → MovesWith st m m es es
moves_not st m es c f is booked = subst (λ (z : Facts). IsBookOf z es) (sym (ap (λ (t : Resvs). with_resvs st t f) (sym is) ∙ (λ j. record f { resvs = as_it_was st f.resvs j }))) booked

-- ---- the same in the words of the rule
module _ (s : Session) (hop : NextHop) (gone : Names) (c : ℕ) where
  row_torn : (k : LineKey) (e : ResvFact × ℕ) → then_do (torn s hop gone k e) (resv_at c k) ≡ then_do (resv_at c k e) (torn_resv s hop (Some gone) k)
  row_torn k e = by (is_of_hop s hop k) (part_kept (stays gone) e.0.part)
    where
      by : (b : Bool) (w : Option Part) → then_do (cond b (option_map (with_part e) w) (Some e)) (resv_at c k)
          ≡ cond b (option_map (state_with (record { part = e.0.part; confirm = e.0.confirm; dies = c + e.1 })) w) (Some (record { part = e.0.part; confirm = e.0.confirm; dies = c + e.1 }))
      by true None = refl
      by true (Some p) = refl
      by false w = refl

  pub torn_is : (m : ResvFacts) → changed (resv_at c) (changed (torn s hop gone) m) ≡ changed (torn_resv s hop (Some gone)) (changed (resv_at c) m)
  torn_is m = changed_twice line_keys (torn s hop gone) (resv_at c) m ∙ changed_same line_keys _ _ row_torn m ∙ sym (changed_twice line_keys (resv_at c) (torn_resv s hop (Some gone)) m)

  -- a part has one of the names
  one_is : (p : Part) → has_one gone p ≡ list_any (λ x. not (rule_stays (Some gone) x)) (keys p.senders)
  one_is p =
      both_ways _ _
      (λ h.
      let x = a_name (cut p.senders gone) (no_not (is_none (cut p.senders gone)) h) in
      let two = and_both (has p.senders x.0) (has gone x.0) (sym (has-cut senders p.senders gone x.0) ∙ x.1) in
      any_in (λ y. not (rule_stays (Some gone) y)) x.0 (keys p.senders) (to_keys senders p.senders x.0 two.0) (twice (has gone x.0) ∙ two.1))
      (λ h.
      let x = in_any (λ y. not (rule_stays (Some gone) y)) (keys p.senders) h in
      let member : has (cut p.senders gone) x.0 ≡ true = has-cut senders p.senders gone x.0 ∙ and_made _ _ (in_keys senders p.senders x.0 x.1) (sym (twice (has gone x.0)) ∙ x.2) in
      ap not (has_some (cut p.senders gone) x.0 member))
    where
      twice : (b : Bool) → not (not b) ≡ b
      twice true = refl
      twice false = refl

      no_not : (b : Bool) → not b ≡ true → b ≡ false
      no_not true e = cc
      no_not false e = refl

  pub names_one_is : (m : ResvFacts) → hop_has_one s hop gone m ≡ names_one s hop (Some gone) (changed (resv_at c) m)
  names_one_is m = rows_one m.rows
    where
      rows_one : (es : List (LineKey × (ResvFact × ℕ))) → list_any (λ e. is_of_hop s hop e.0 && has_one gone e.1.0.part) es
          ≡ list_any (λ (e : LineKey × ResvState). is_of_hop s hop e.0 && list_any (λ x. not (rule_stays (Some gone) x)) (keys e.1.part.senders)) (changed_rows (resv_at c) es)
      rows_one [] = refl
      rows_one (e ∷ es) = λ j. (is_of_hop s hop e.0 && one_is e.1.0.part j) || rows_one es j
