-- A name leaves the reservations of a session, one after another.
use Rattle.std.proofs.Common.{◌≡◌, ◌+◌, ℕ, suc, Bool, true, false, cond, ◌||◌, ◌&&◌, List, [], ◌∷◌, ◌++◌, take, drop, Option, Some, None, refl, sym, ap, subst, ◌∙◌, arith}
use Rattle.std.specs.Prelude.{slice_get}
use Rattle.std.specs.Cmp.{both_ways}
use Rattle.std.specs.List.{list_any}
use Rattle.std.specs.Option.{option_map}
use Rattle.std.specs.Ordering.{eq_by_cmp, is_lt}
use Rattle.std.proofs.lemmas.List.Folds.{list_any-append}
use Rattle.rsvp_base.specs.Orders.{Names, sessions}
use Rattle.rsvp_base.specs.Rows.{AreRows, table_of}
use Rattle.rsvp_base.specs.Table.{Table, get, keys, kept, changed, changed_rows}
use Rattle.rsvp_base.specs.Under.{under}
use Rattle.rsvp_base.specs.declared.session.Session.{Session}
use Rattle.rsvp_base.proofs.Counts.{in_found, found_in}
use Rattle.rsvp_base.proofs.Fronts.{front_more, got_in}
use Rattle.rsvp_base.proofs.Members.{to_each, any_in}
use Rattle.rsvp_base.proofs.SetLaws.{and_both, and_made}
use Rattle.rsvp_base.proofs.Tables.{either, tied_same, tied_self, then_do, same_table, get-kept, got_kept, get-changed}
use Rattle.rsvp_base.proofs.UnderLaws.{get-under}
use Rattle.style_rules.specs.Lines.{LineKey, line_keys}
use Rattle.soft_table.specs.Facts.{rows_behind}
use Rattle.soft_table.proofs.Keyed.{keys_of, key_got, row_got, first_key, none_upto, keys-valued, keys_where-valued}
use Rattle.soft_table.proofs.Steps.{behind_drop}
use Rattle.resv_state.specs.declared.fact.Held.{Held}
use Rattle.resv_state.specs.declared.fact.ResvFact.{ResvFact}
use Rattle.resv_state.specs.Resvs.{ResvFacts, ResvMap, held_key, held_row}
use Rattle.resv_state.specs.Walks.{Rest, rests}
use Rattle.resv_state.specs.Leaving.{left_of, lessened}
use Rattle.resv_state.proofs.Facts.{said, same_map}
use Rattle.resv_state.proofs.Left.{then_same, own_key}
use Rattle.resv_state.proofs.Tears.{after_some, one_more_key}

-- ---- a session's reservations
session_ties : (s : Session) (r : Rest) (q : LineKey) → eq_by_cmp line_keys.cmp q (s, r) ≡ (eq_by_cmp sessions.cmp s q.0 && eq_by_cmp rests.cmp r q.1)
session_ties s r q =
    both_ways _ _
    (λ tie.
    let is = tied_same line_keys q (s, r) tie in
    subst (λ (z : LineKey). (eq_by_cmp sessions.cmp s z.0 && eq_by_cmp rests.cmp r z.1) ≡ true) (sym is) (and_made _ _ (tied_self sessions s) (tied_self rests r)))
    (λ h.
    let two = and_both (eq_by_cmp sessions.cmp s q.0) (eq_by_cmp rests.cmp r q.1) h in
    let session : s ≡ q.0 = tied_same sessions s q.0 two.0 in
    let rest : r ≡ q.1 = tied_same rests r q.1 two.1 in
    let is : ◌≡◌ {A = LineKey} q (s, r) = λ i. (sym session i, sym rest i) in
    ap (λ z. eq_by_cmp line_keys.cmp z (s, r)) is ∙ tied_self line_keys (s, r))

one_front : {A : Type 0} (xs : List A) (k : ℕ) (x : A) → slice_get xs k ≡ Some x → take (suc k) xs ≡ take k xs ++ x ∷ []
one_front xs k x at = let one : suc k ≡ k + 1 = omega arith in ap (λ n. take n xs) one ∙ front_more xs k x at

module _ (s : Session) (gone : Names) (old : ResvMap) where
  abbrev those : Table rests (ResvFact × ℕ)
  those = under sessions rests old.facts s

  abbrev is_met : List Rest → LineKey → Bool
  is_met rs q = eq_by_cmp sessions.cmp s q.0 && list_any (λ r. eq_by_cmp rests.cmp r q.1) rs

  -- after a number of them
  pub record Forgot (now : ResvMap) (next : Option Rest) (k : ℕ) : Type 0 where
    pub at : next ≡ slice_get (keys those) k
    pub facts : (q : LineKey) → get now.facts q ≡ after_some gone (is_met (take k (keys those)) q) (get old.facts q)
    pub dead : now.dead ≡ old.dead

  no_any : (b : Bool) → (b && false) ≡ false
  no_any true = refl
  no_any false = refl

  pub forgot_none : (next : Option Rest) → next ≡ slice_get (keys those) 0 → Forgot old next 0
  forgot_none next is = record { at = is; facts = λ q. ap (λ b. after_some gone b (get old.facts q)) (sym (no_any (eq_by_cmp sessions.cmp s q.0))); dead = refl }

  apart : (h a b : Bool) → (h && (a || (b || false))) ≡ ((h && a) || (h && b))
  apart true a true = refl
  apart true a false = refl
  apart false a b = refl

  met_more : (k : ℕ) (r : Rest) → slice_get (keys those) k ≡ Some r → (q : LineKey) → is_met (take (suc k) (keys those)) q ≡ (is_met (take k (keys those)) q || eq_by_cmp line_keys.cmp q (s, r))
  met_more k r at q =
      let test : Rest → Bool = λ r. eq_by_cmp rests.cmp r q.1 in
      ap (λ b. eq_by_cmp sessions.cmp s q.0 && b) (ap (list_any test) (one_front (keys those) k r at) ∙ list_any-append test (take k (keys those)) (r ∷ []))
      ∙ apart (eq_by_cmp sessions.cmp s q.0) (list_any test (take k (keys those))) (eq_by_cmp rests.cmp r q.1)
      ∙ ap (λ b. is_met (take k (keys those)) q || b) (sym (session_ties s r q))

  met_all : (rs : List Rest) (b : Rest) → list_any (λ r. eq_by_cmp rests.cmp r b) rs ≡ false → is_met rs (s, b) ≡ false
  met_all rs b e = ap (λ w. eq_by_cmp sessions.cmp s s && w) e ∙ no_any (eq_by_cmp sessions.cmp s s)

  -- behind a row nothing has changed
  behind_same : (new : ResvFacts) (k : ℕ) (r : Rest) → slice_get (keys those) k ≡ Some r → ((q : LineKey) → get new q ≡ after_some gone (is_met (take (suc k) (keys those)) q) (get old.facts q))
      → kept (λ b. is_lt (rests.cmp r b)) (under sessions rests new s) ≡ kept (λ b. is_lt (rests.cmp r b)) those
  behind_same new k r at facts =
      let x = row_got those.rows k r at in
      same_table rests _ _ (λ b.
      get-kept rests (λ b. is_lt (rests.cmp r b)) (under sessions rests new s) b
      ∙ either (is_lt (rests.cmp r b))
      (λ lt.
      let far : list_any (λ c. eq_by_cmp rests.cmp c b) (take (suc k) (keys those)) ≡ false = none_upto rests those.rows k x.0 b those.sorted x.1 (ap (λ z. is_lt (rests.cmp z b)) x.2 ∙ lt) in
      let same : get (under sessions rests new s) b ≡ get those b = get-under sessions rests new s b ∙ facts (s, b)
      ∙ ap (λ w. after_some gone w (get old.facts (s, b))) (met_all (take (suc k) (keys those)) b far) ∙ sym (get-under sessions rests old.facts s b) in
      ap (λ w. cond (is_lt (rests.cmp r b)) w None) same)
      (λ no. ap (λ w. cond w (get (under sessions rests new s) b) None) no ∙ sym (ap (λ w. cond w (get those b) None) no))
      ∙ sym (get-kept rests (λ b. is_lt (rests.cmp r b)) those b))

  one_more : (n : ℕ) → suc n ≡ n + 1
  one_more n = omega arith

  pub forgot_more : (now new : ResvMap) (next later : Option Rest) (r : Rest) (k : ℕ) → Forgot now next k → next ≡ Some r → new ≡ record now { facts = changed (lessened (s, r) gone) now.facts }
      → later ≡ slice_get (keys_of (rows_behind rests r (under sessions rests new.facts s).rows)) 0 → Forgot new later (k + 1)
  forgot_more now new next later r k f is to on =
      let at : slice_get (keys those) k ≡ Some r = sym f.at ∙ is in
      let facts : (q : LineKey) → get new.facts q ≡ after_some gone (is_met (take (suc k) (keys those)) q) (get old.facts q) = λ q. ap (λ (z : ResvMap). get z.facts q) to
      ∙ one_more_key gone old.facts now.facts (is_met (take k (keys those))) (is_met (take (suc k) (keys those))) (s, r) f.facts (met_more k r at) q in
      let x = row_got those.rows k r at in
      let rows : rows_behind rests r those.rows ≡ drop (suc k) those.rows = ap (λ z. rows_behind rests z those.rows) (sym x.2) ∙ behind_drop rests those.rows k x.0 those.sorted x.1 in
      subst (λ n. Forgot new later n) (one_more k)
      (record {
        at = on ∙ ap (λ (z : Table rests (ResvFact × ℕ)). slice_get (keys z) 0) (behind_same new.facts k r at facts) ∙ ap (λ es. slice_get (keys_of es) 0) rows ∙ first_key those.rows (suc k);
        facts = facts;
        dead = ap (λ (z : ResvMap). z.dead) to ∙ f.dead;
      })

  pub forgot_all : (now : ResvMap) (next : Option Rest) (k : ℕ) → Forgot now next k → take k (keys those) ≡ keys those
      → now ≡ record old { facts = changed (λ q e. cond (eq_by_cmp sessions.cmp s q.0) (left_of gone e) (Some e)) old.facts }
  forgot_all now next k f all =
      same_map now (record old { facts = changed (λ q e. cond (eq_by_cmp sessions.cmp s q.0) (left_of gone e) (Some e)) old.facts })
      (same_table line_keys now.facts _ (λ q.
      f.facts q ∙ ap (λ rs. after_some gone (is_met rs q) (get old.facts q)) all
      ∙ by q (eq_by_cmp sessions.cmp s q.0) refl (list_any (λ r. eq_by_cmp rests.cmp r q.1) (keys those)) refl (get old.facts q) refl
      ∙ sym (get-changed line_keys (λ q e. cond (eq_by_cmp sessions.cmp s q.0) (left_of gone e) (Some e)) old.facts q))) f.dead
    where
      by : (q : LineKey) (h : Bool) → eq_by_cmp sessions.cmp s q.0 ≡ h → (b : Bool) → list_any (λ r. eq_by_cmp rests.cmp r q.1) (keys those) ≡ b → (w : Option (ResvFact × ℕ)) → get old.facts q ≡ w
          → after_some gone (h && b) w ≡ then_do w (λ (e : ResvFact × ℕ). cond h (left_of gone e) (Some e))
      by q false own b e w at = sym (then_same w)
      by q true own true e w at = refl
      by q true own false e None at = refl
      by q true own false e (Some r) at =
          let there : get those q.1 ≡ Some r = get-under sessions rests old.facts s q.1 ∙ ap (λ z. get old.facts (z, q.1)) (tied_same sessions s q.0 own) ∙ at in
          let z : true ≡ false = sym (any_in (λ c. eq_by_cmp rests.cmp c q.1) q.1 (keys those) (to_each (λ (e : Rest × (ResvFact × ℕ)). e.0) (q.1, r) those.rows (found_in rests those q.1 r there))
          (tied_self rests q.1)) ∙ e in
          absurd (cc)

-- ---- the rests, as a table below tells them
keyed : (u : Table rests (Held × ℕ)) → ((b : Rest) (e : Held × ℕ) → get u b ≡ Some e → (held_key e.0).1 ≡ b) → (i : ℕ)
    → option_map (λ (h : Held). (held_key h).1) (option_map (λ (e : Rest × (Held × ℕ)). e.1.0) (slice_get u.rows i)) ≡ slice_get (keys u) i
keyed u own i = by (slice_get u.rows i) refl ∙ sym (key_got u.rows i)
  where
    by : (w : Option (Rest × (Held × ℕ))) → slice_get u.rows i ≡ w → option_map (λ (h : Held). (held_key h).1) (option_map (λ (e : Rest × (Held × ℕ)). e.1.0) w) ≡ option_map (λ e. e.0) w
    by None at = refl
    by (Some x) at = ap Some (own x.0 x.1 (in_found rests u x.0 x.1 (got_in u.rows i x at)))

module _ (fs : List (Held × ℕ)) (up : AreRows line_keys held_row fs) (s : Session) where
  abbrev below : Table rests (Held × ℕ)
  below = under sessions rests (table_of line_keys held_row fs up) s

  own : (b : Rest) (e : Held × ℕ) → get below b ≡ Some e → (held_key e.0).1 ≡ b
  own b e at = ap (λ (k : LineKey). k.1) (own_key (s, b) fs e (found_in line_keys (table_of line_keys held_row fs up) (s, b) e
      (sym (get-under sessions rests (table_of line_keys held_row fs up) s b) ∙ at)))

  -- the first, and the one behind a rest
  pub first_told : (m : Table rests (ResvFact × ℕ)) → m.rows ≡ changed_rows (λ k e. Some (said e)) below.rows
      → option_map (λ (h : Held). (held_key h).1) (option_map (λ (e : Rest × (Held × ℕ)). e.1.0) (slice_get below.rows 0)) ≡ slice_get (keys m) 0
  first_told m is = keyed below own 0 ∙ ap (λ rs. slice_get rs 0) (sym (ap keys_of is ∙ keys-valued said below.rows))

  pub behind_told : (r : Rest) (m : Table rests (ResvFact × ℕ)) → m.rows ≡ changed_rows (λ k e. Some (said e)) below.rows
      → option_map (λ (h : Held). (held_key h).1) (option_map (λ (e : Rest × (Held × ℕ)). e.1.0) (slice_get (rows_behind rests r below.rows) 0)) ≡ slice_get (keys_of (rows_behind rests r m.rows)) 0
  behind_told r m is =
      keyed (kept (λ q. is_lt (rests.cmp r q)) below) (λ b e at. own b e (got_kept rests (λ q. is_lt (rests.cmp r q)) below b e at).1) 0
      ∙ ap (λ rs. slice_get rs 0) (sym (ap (λ es. keys_of (rows_behind rests r es)) is ∙ keys_where-valued said rests (λ q. is_lt (rests.cmp r q)) below.rows))
