-- Names leave the reservations of one key after another, until all have left.
use Rattle.std.proofs.Common.{◌≡◌, ◌≤◌, ℕ, Bool, true, false, cond, not, ◌||◌, ◌&&◌, List, [], ◌∷◌, ◌++◌, length, take, Option, Some, None, refl, sym, ap, subst, ◌∙◌, inl, inr, ⊎_elim}
use Rattle.std.specs.Cmp.{both_ways}
use Rattle.std.specs.List.{list_any}
use Rattle.std.specs.Option.{option_map}
use Rattle.std.specs.Ordering.{eq_by_cmp}
use Rattle.std.proofs.lemmas.List.{take_all}
use Rattle.std.proofs.lemmas.List.Folds.{list_any-append}
use Rattle.rsvp_base.specs.Members.{In}
use Rattle.rsvp_base.specs.Orders.{Names, sessions, units, senders}
use Rattle.rsvp_base.specs.Sets.{cut, is_none}
use Rattle.rsvp_base.specs.Table.{get, has, keys, changed}
use Rattle.rsvp_base.specs.declared.part.Part.{Part}
use Rattle.rsvp_base.specs.declared.session.Sender.{Sender}
use Rattle.rsvp_base.specs.declared.session.Session.{Session}
use Rattle.rsvp_base.specs.declared.style.StyleKind.{StyleKind}
use Rattle.rsvp_base.specs.declared.style.Unit.{Unit as UnitOf}
use Rattle.rsvp_base.proofs.Counts.{in_found, found_in}
use Rattle.rsvp_base.proofs.Fronts.{to_keys}
use Rattle.rsvp_base.proofs.Members.{in_any, any_in, in_append}
use Rattle.rsvp_base.proofs.SetLaws.{has-cut, and_both, and_made}
use Rattle.rsvp_base.proofs.Tables.{either, tied_same, tied_self, then_do, same_table, get-changed}
use Rattle.style_rules.specs.Lines.{LineKey, NextHop, line_keys, next_hops, is_of_hop}
use Rattle.style_rules.specs.Parts.{part_kept}
use Rattle.rsvp_base.specs.Styles.{unit_of}
use Rattle.style_rules.proofs.StyleLaws.{a_name, unit_of_names}
use Rattle.resv_state.specs.declared.fact.ResvFact.{ResvFact}
use Rattle.resv_state.specs.Resvs.{ResvFacts, ResvMap, AreOfStyle}
use Rattle.resv_state.specs.Leaving.{stays, with_part, left_of, has_one, torn, hop_has_one, lessened, key_has_one}
use Rattle.resv_state.proofs.Facts.{same_map}
use Rattle.resv_state.proofs.Left.{whole, none_left, left_named, then_same}

-- ---- names leave twice as once
left_twice : (gone : Names) (w : Option (ResvFact × ℕ)) → then_do (then_do w (left_of gone)) (left_of gone) ≡ then_do w (left_of gone)
left_twice gone None = refl
left_twice gone (Some e) = by (part_kept (stays gone) e.0.part) refl
  where
    by : (p : Option Part) → part_kept (stays gone) e.0.part ≡ p → then_do (option_map (with_part e) p) (left_of gone) ≡ option_map (with_part e) p
    by None is = refl
    by (Some x) is = ap (option_map (with_part (with_part e x))) (whole gone x (none_left gone e.0.part x is) (left_named gone e.0.part x is))

abbrev IsNamedWithout : Names → Part → Type 0
IsNamedWithout gone p = (not (is_none p.senders) ≡ true) × (has_one gone p ≡ false)

-- what has none of them stays
left_same : (gone : Names) (e : ResvFact × ℕ) → IsNamedWithout gone e.0.part → left_of gone e ≡ Some e
left_same gone e h = ap (option_map (with_part e)) (whole gone e.0.part h.1 h.0)

-- ---- from some keys
abbrev pub after_some : Names → Bool → Option (ResvFact × ℕ) → Option (ResvFact × ℕ)
after_some gone b w = cond b (then_do w (left_of gone)) w

pub one_more_key : (gone : Names) (old now : ResvFacts) (flag more : LineKey → Bool) (k : LineKey) → ((q : LineKey) → get now q ≡ after_some gone (flag q) (get old q))
    → ((q : LineKey) → more q ≡ (flag q || eq_by_cmp line_keys.cmp q k))
    → (q : LineKey) → get (changed (lessened k gone) now) q ≡ after_some gone (more q) (get old q)
one_more_key gone old now flag more k is so q =
    get-changed line_keys (lessened k gone) now q ∙ by (eq_by_cmp line_keys.cmp q k) (flag q) (is q) ∙ ap (λ b. after_some gone b (get old q)) (sym (so q))
  where
    by : (tie f : Bool) → get now q ≡ after_some gone f (get old q) → then_do (get now q) (λ (e : ResvFact × ℕ). cond tie (left_of gone e) (Some e)) ≡ after_some gone (f || tie) (get old q)
    by true true h = ap (λ w. then_do w (left_of gone)) h ∙ left_twice gone (get old q)
    by true false h = ap (λ w. then_do w (left_of gone)) h
    by false true h = then_same (get now q) ∙ h
    by false false h = then_same (get now q) ∙ h

-- ---- a next hop, name by name
hop_ties : (s : Session) (hop : NextHop) (u : UnitOf) (q : LineKey) → eq_by_cmp line_keys.cmp q (s, (hop, u)) ≡ (is_of_hop s hop q && eq_by_cmp units.cmp u q.1.1)
hop_ties s hop u q =
    both_ways _ _
    (λ tie.
    let is = tied_same line_keys q (s, (hop, u)) tie in
    subst (λ (z : LineKey). (is_of_hop s hop z && eq_by_cmp units.cmp u z.1.1) ≡ true) (sym is) (and_made _ _ (and_made _ _ (tied_self sessions s) (tied_self next_hops hop)) (tied_self units u)))
    (λ h.
    let a = and_both (is_of_hop s hop q) (eq_by_cmp units.cmp u q.1.1) h in
    let b = and_both (eq_by_cmp sessions.cmp s q.0) (eq_by_cmp next_hops.cmp hop q.1.0) a.0 in
    let session : s ≡ q.0 = tied_same sessions s q.0 b.0 in
    let at : hop ≡ q.1.0 = tied_same next_hops hop q.1.0 b.1 in
    let unit : u ≡ q.1.1 = tied_same units u q.1.1 a.1 in
    let is : ◌≡◌ {A = LineKey} q (s, (hop, u)) = λ i. (sym session i, (sym at i, sym unit i)) in
    ap (λ z. eq_by_cmp line_keys.cmp z (s, (hop, u))) is ∙ tied_self line_keys (s, (hop, u)))

module _ (st : StyleKind) (s : Session) (hop : NextHop) (gone : Names) where
  abbrev key : Sender → LineKey
  key x = (s, (hop, unit_of st x))

  -- a key has the unit of one of the names
  abbrev pub is_reached : List Sender → LineKey → Bool
  is_reached xs q = is_of_hop s hop q && list_any (λ x. eq_by_cmp units.cmp (unit_of st x) q.1.1) xs

  pub record Torn (old now : ResvMap) (had : Bool) (xs : List Sender) : Type 0 where
    pub facts : (q : LineKey) → get now.facts q ≡ after_some gone (is_reached xs q) (get old.facts q)
    pub dead : now.dead ≡ old.dead
    pub same : had ≡ false → now ≡ old
    pub none : had ≡ false → (x : Sender) → In x xs → key_has_one gone (get old.facts (key x)) ≡ false
    pub some : had ≡ true → hop_has_one s hop gone old.facts ≡ true

  apart : (h a b : Bool) → (h && (a || (b || false))) ≡ ((h && a) || (h && b))
  apart true a true = refl
  apart true a false = refl
  apart false a b = refl

  reached_more : (xs : List Sender) (x : Sender) (q : LineKey) → is_reached (xs ++ x ∷ []) q ≡ (is_reached xs q || eq_by_cmp line_keys.cmp q (key x))
  reached_more xs x q =
      ap (λ b. is_of_hop s hop q && b) (list_any-append (λ x. eq_by_cmp units.cmp (unit_of st x) q.1.1) xs (x ∷ []))
      ∙ apart (is_of_hop s hop q) (list_any (λ x. eq_by_cmp units.cmp (unit_of st x) q.1.1) xs) (eq_by_cmp units.cmp (unit_of st x) q.1.1)
      ∙ ap (λ b. is_reached xs q || b) (sym (hop_ties s hop (unit_of st x) q))

  no_one : (old : ResvMap) → Torn old old false []
  no_one old = record {
    facts = λ q. ap (λ b. after_some gone b (get old.facts q)) (sym (no_any (is_of_hop s hop q)));
    dead = refl;
    same = λ e. refl;
    none = λ e x i. absurd
        (nobody x i);
    some = λ e. let z : false ≡ true = e in absurd (cc);
  }
    where
      no_any : (b : Bool) → (b && false) ≡ false
      no_any true = refl
      no_any false = refl

      nobody : (x : Sender) → In x [] → ⊥
      nobody x i = i

  hop_row : (old : ResvFacts) (x : Sender) → key_has_one gone (get old (key x)) ≡ true → hop_has_one s hop gone old ≡ true
  hop_row old x h = by (get old (key x)) refl h
    where
      by : (w : Option (ResvFact × ℕ)) → get old (key x) ≡ w → key_has_one gone w ≡ true → hop_has_one s hop gone old ≡ true
      by None at e = cc
      by (Some e) at one = any_in (λ (r : LineKey × (ResvFact × ℕ)). is_of_hop s hop r.0 && has_one gone r.1.0.part) (key x, e) old.rows (found_in line_keys old (key x) e at)
          (and_made _ _ (and_made _ _ (tied_self sessions s) (tied_self next_hops hop)) one)

  pub torn_more : (old now new : ResvMap) (had b had2 : Bool) (xs : List Sender) (x : Sender) → Torn old now had xs → new ≡ record now { facts = changed (lessened (key x) gone) now.facts }
      → b ≡ key_has_one gone (get now.facts (key x)) → (b ≡ false → new ≡ now)
      → (b ≡ true → had2 ≡ true) → (b ≡ false → had2 ≡ had) → Torn old new had2 (xs ++ x ∷ [])
  torn_more old now new had b had2 xs x t is one same if_so if_not =
      record {
        facts = λ q. ap (λ (z : ResvMap). get z.facts q) is ∙ one_more_key gone old.facts now.facts (is_reached xs) (is_reached (xs ++ x ∷ [])) (key x) t.facts (reached_more xs x) q;
        dead = ap (λ (z : ResvMap). z.dead) is ∙ t.dead;
        same = λ e. let w = before e in same w.0 ∙ t.same w.1;
        none = λ e y i. let w = before e in elim (in_append y xs (x ∷ []) i) [
          | inl p ↦ t.none w.1 y p
          | inr p ↦ ap (λ z. key_has_one gone (get old.facts (key z))) (only y p) ∙ ap (λ (z : ResvMap). key_has_one gone (get z.facts (key x))) (sym (t.same w.1)) ∙ sym one ∙ w.0
        ];
        some = λ e. by_had had e refl;
      }
    where
      before : had2 ≡ false → (b ≡ false) × (had ≡ false)
      before e = either b (λ t. let z : false ≡ true = sym e ∙ if_so t in absurd (cc)) (λ f. (f, sym (if_not f) ∙ e))

      only : (y : Sender) → In y (x ∷ []) → y ≡ x
      only y i = ⊎_elim (λ (e : y ≡ x). e) (λ (j : ⊥). absurd j) i

      by_had : (h : Bool) → had2 ≡ true → had ≡ h → hop_has_one s hop gone old.facts ≡ true
      by_had true e is = t.some is
      by_had false e is = hop_row old.facts x (ap (λ (z : ResvMap). key_has_one gone (get z.facts (key x))) (sym (t.same is)) ∙ sym one
          ∙ either b (λ y. y) (λ f. let z : true ≡ false = sym e ∙ if_not f ∙ is in absurd (cc)))

  no_not : (b : Bool) → not b ≡ true → b ≡ false
  no_not true e = cc
  no_not false e = refl

  -- a name that a reservation has and that goes
  common : (q : LineKey) (e : ResvFact × ℕ) (old : ResvFacts) → AreOfStyle st old → get old q ≡ Some e → has_one gone e.0.part ≡ true → (x : Sender) × (has gone x ≡ true) × (unit_of st x ≡ q.1.1)
  common q e old own at one =
      let x = a_name (cut e.0.part.senders gone) (no_not _ one) in
      let two = and_both (has e.0.part.senders x.0) (has gone x.0) (sym (has-cut senders e.0.part.senders gone x.0) ∙ x.1) in
      (x.0, two.1, sym (unit_of_names st e.0.part x.0 (own.style q e at) two.0) ∙ ap (λ (k : LineKey). k.1.1) (own.key q e at))

  unreached : (q : LineKey) (e : ResvFact × ℕ) (old : ResvFacts) → AreOfStyle st old → get old q ≡ Some e → list_any (λ x. eq_by_cmp units.cmp (unit_of st x) q.1.1) (keys gone) ≡ false
      → left_of gone e ≡ Some e
  unreached q e old own at none =
      left_same gone e (
        (own.style q e at).named,
        either (has_one gone e.0.part)
            (λ one.
            let x = common q e old own at one in
            let z : true ≡ false = sym (any_in (λ x. eq_by_cmp units.cmp (unit_of st x) q.1.1) x.0 (keys gone) (to_keys senders gone x.0 x.1)
            (ap (eq_by_cmp units.cmp (unit_of st x.0)) (sym x.2) ∙ tied_self units (unit_of st x.0))) ∙ none in
            absurd (cc))
            (λ no. no),
      )

  torn_all : (old now : ResvMap) (had : Bool) → AreOfStyle st old.facts → Torn old now had (keys gone) → now ≡ record old { facts = changed (torn s hop gone) old.facts }
  torn_all old now had own t =
      same_map now (record old { facts = changed (torn s hop gone) old.facts })
      (same_table line_keys now.facts (changed (torn s hop gone) old.facts) (λ q. t.facts q
      ∙ by q (is_of_hop s hop q) (list_any (λ x. eq_by_cmp units.cmp (unit_of st x) q.1.1) (keys gone)) refl (get old.facts q) refl
      ∙ sym (get-changed line_keys (torn s hop gone) old.facts q))) t.dead
    where
      by : (q : LineKey) (h b : Bool) → list_any (λ x. eq_by_cmp units.cmp (unit_of st x) q.1.1) (keys gone) ≡ b → (w : Option (ResvFact × ℕ)) → get old.facts q ≡ w
          → after_some gone (h && b) w ≡ then_do w (λ (e : ResvFact × ℕ). cond h (left_of gone e) (Some e))
      by q false b e w at = sym (then_same w)
      by q true true e w at = refl
      by q true false e None at = refl
      by q true false e (Some r) at = sym (unreached q r old.facts own at e)

  had_all : (old now : ResvMap) (had : Bool) → AreOfStyle st old.facts → Torn old now had (keys gone) → had ≡ hop_has_one s hop gone old.facts
  had_all old now had own t =
      both_ways had _ t.some
      (λ h.
      let r = in_any (λ (r : LineKey × (ResvFact × ℕ)). is_of_hop s hop r.0 && has_one gone r.1.0.part) old.facts.rows h in
      let two = and_both (is_of_hop s hop r.0.0) (has_one gone r.0.1.0.part) r.2 in
      let of = and_both (eq_by_cmp sessions.cmp s r.0.0.0) (eq_by_cmp next_hops.cmp hop r.0.0.1.0) two.0 in
      let at = in_found line_keys old.facts r.0.0 r.0.1 r.1 in
      let x = common r.0.0 r.0.1 old.facts own at two.1 in
      let session : s ≡ r.0.0.0 = tied_same sessions s r.0.0.0 of.0 in
      let same : hop ≡ r.0.0.1.0 = tied_same next_hops hop r.0.0.1.0 of.1 in
      let is : ◌≡◌ {A = LineKey} (key x.0) r.0.0 = λ i. (session i, (same i, x.2 i)) in
      either had (λ y. y)
      (λ no.
      let z : true ≡ false = sym two.1 ∙ sym (ap (key_has_one gone) (ap (get old.facts) is ∙ at)) ∙ t.none no x.0 (to_keys senders gone x.0 x.1) in
      absurd (cc)))

  -- both, when all names have left
  pub torn_end : (old now : ResvMap) (had : Bool) (i : ℕ) (xs : List Sender) → AreOfStyle st old.facts → length xs ≤ i → xs ≡ keys gone → Torn old now had (take i xs)
      → (now ≡ record old { facts = changed (torn s hop gone) old.facts }) × (had ≡ hop_has_one s hop gone old.facts)
  torn_end old now had i xs own far is t =
      let all = subst (λ zs. Torn old now had zs) (take_all i xs far ∙ is) t in
      (torn_all old now had own all, had_all old now had own all)
