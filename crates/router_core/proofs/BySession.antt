-- What the paths offer, session by session: each session that has a path has a countdown.
use Rattle.std.specs.Prelude.{◌≡◌, ℕ, suc, zero, ◌+◌, ◌≤◌, ◌==◌, cond, Bool, true, false, List, [], ◌∷◌, ◌++◌, map as each, length, is_some, Option, Some, None, slice_get, refl}
use Rattle.std.specs.List.{cons_option, filter, filter_map, flat_map}
use Rattle.std.specs.Option.{option_map}
use Rattle.std.specs.Ordering.{eq_by_cmp}
use Rattle.std.specs.FinMap.Entries.{where_key}
use Rattle.std.proofs.Common.{drop, sym, ap, inl, inr, ◌∙◌, arith}
use Rattle.std.proofs.lemmas.List.Elements.{filter_map-append}
use Rattle.rsvp_objects.specs.declared.adspec.Adspec.{Adspec}
use Rattle.path_state.specs.Paths.{AreByKey, path_key, path_keys}
use Rattle.path_state.specs.declared.fact.PathFact.{PathFact}
use Rattle.rsvp_base.specs.Keys.{pairs}
use Rattle.rsvp_base.specs.Members.{In}
use Rattle.rsvp_base.specs.Orders.{sessions, senders}
use Rattle.rsvp_base.specs.SessionLimits.{IsWithinSessionLimits}
use Rattle.rsvp_base.specs.Table.{changed_rows, get, has, keys}
use Rattle.rsvp_base.specs.Under.{rows_under}
use Rattle.rsvp_base.specs.declared.session.Sender.{Sender}
use Rattle.rsvp_base.specs.declared.session.Session.{Session}
use Rattle.rsvp_base.proofs.Counts.{in_found}
use Rattle.rsvp_base.proofs.Fronts.{to_keys}
use Rattle.rsvp_base.proofs.SessionCounts.{all_at_most}
use Rattle.rsvp_base.proofs.SetLaws.{or_right}
use Rattle.rsvp_base.proofs.Tables.{get-changed, then_do}
use Rattle.router_rules.specs.Adverts.{advert_row, adverts_of}
use Rattle.router_rules.specs.Facts.{SenderKey}
use Rattle.router_state.specs.State.{IsCounted, State, facts_at, path_at}
use Rattle.router_state.proofs.Once.{keys_rise}
use Rattle.laws_sends.specs.Several.{is_among}
use Rattle.laws_sends.proofs.Grouping.{among_in, begins_so, grouped, rows_rise}
use Rattle.router_arrivals.proofs.Keeping.{counts_by}
use Rattle.router_core.specs.Adverts.{fact_advert, kept_in, session_adverts}

abbrev Row : Type 0
Row = SenderKey × (PathFact × ℕ)

-- of all a test finds all
whole : {A : Type 0} (t : A → Bool) (xs : List A) → ((x : A) → In x xs → t x ≡ true) → filter t xs ≡ xs
whole t [] h = refl
whole t (x ∷ xs) h = ap (λ b. cond b (x ∷ filter t xs) (filter t xs)) (h x (inl refl)) ∙ ap (λ ys. x ∷ ys) (whole t xs (λ y i. h y (inr i)))

flat_same : {A B : Type 0} (g h : A → List B) → ((x : A) → g x ≡ h x) → (xs : List A) → flat_map g xs ≡ flat_map h xs
flat_same g h same xs = λ i. flat_map (λ x. same x i) xs

told_few : {A B : Type 0} (h : A → Option B) (xs : List A) → length (filter_map h xs) ≤ length xs
told_few h [] = omega arith
told_few {B = B} h (x ∷ xs) = by (h x) (told_few h xs)
  where
    by : (w : Option B) → length (filter_map h xs) ≤ length xs → length (cons_option w (filter_map h xs)) ≤ suc (length xs)
    by None le = omega arith
    by (Some y) le = omega arith

module _ (i : ℕ) where
  abbrev row_advert : Row → Option (SenderKey × Adspec)
  row_advert e = cond (e.1.0.iface == i) (option_map (λ a. (e.0, a)) e.1.0.adspec) None

  at_clock : (c : ℕ) (es : List Row) → filter_map (advert_row i) (changed_rows (path_at c) es) ≡ filter_map row_advert es
  at_clock c [] = refl
  at_clock c (e ∷ es) = ap (cons_option (row_advert e)) (at_clock c es)

  in_session : (s : Session) (es : List Row) → ((e : Row) → In e es → path_key e.1.0 ≡ e.0)
      → filter_map row_advert (filter (λ e. eq_by_cmp sessions.cmp s e.0.0) es) ≡ filter_map (fact_advert i) (each (λ (e : Sender × (PathFact × ℕ)). e.1.0) (rows_under sessions senders s es))
  in_session s [] keyed = refl
  in_session s (e ∷ es) keyed = by (eq_by_cmp sessions.cmp s e.0.0) (in_session s es (λ x j. keyed x (inr j)))
    where
      here : row_advert e ≡ fact_advert i e.1.0
      here = ap (λ (k : SenderKey). cond (e.1.0.iface == i) (option_map (λ a. (k, a)) e.1.0.adspec) None) (sym (keyed e (inl refl)))

      by : (b : Bool)
          → filter_map row_advert (filter (λ e. eq_by_cmp sessions.cmp s e.0.0) es) ≡ filter_map (fact_advert i) (each (λ (e : Sender × (PathFact × ℕ)). e.1.0) (rows_under sessions senders s es))
          → filter_map row_advert (cond b (e ∷ filter (λ e. eq_by_cmp sessions.cmp s e.0.0) es) (filter (λ e. eq_by_cmp sessions.cmp s e.0.0) es))
          ≡ filter_map (fact_advert i) (each (λ (e : Sender × (PathFact × ℕ)). e.1.0) (each (λ (e : Row). (e.0.1, e.1)) (cond b (e ∷ where_key (pairs sessions senders).cmp (λ k. eq_by_cmp sessions.cmp s k.0) es)
          (where_key (pairs sessions senders).cmp (λ k. eq_by_cmp sessions.cmp s k.0) es))))
      by true rest = λ j. cons_option (here j) (rest j)
      by false rest = rest

  flat_told : (h : Session → List Row) (ss : List Session) → filter_map row_advert (flat_map h ss) ≡ flat_map (λ s. filter_map row_advert (h s)) ss
  flat_told h [] = refl
  flat_told h (s ∷ ss) = filter_map-append row_advert (h s) (flat_map h ss) ∙ ap (λ ys. filter_map row_advert (h s) ++ ys) (flat_told h ss)

  pub by_session : (c : ℕ) (n : State) → IsCounted n → AreByKey n.paths → adverts_of (facts_at c n) i ≡ flat_map (session_adverts i n.paths) (keys n.due)
  unfolding adverts_of facts_at
  by_session c n counted keyed =
      at_clock c n.paths.rows
      ∙ ap (filter_map row_advert) (sym (whole (λ (e : Row). is_among (keys n.due) e.0.0) n.paths.rows there)
      ∙ grouped (λ (e : Row). e.0.0) (keys n.due) (keys_rise sessions n.due) n.paths.rows (rows_rise path_keys (λ (k : SenderKey). k.0) (λ a b h. begins_so a.0 b.0 _ h) n.paths.rows n.paths.sorted))
      ∙ flat_told (λ s. filter (λ e. eq_by_cmp sessions.cmp s e.0.0) n.paths.rows) (keys n.due)
      ∙ flat_same (λ s. filter_map row_advert (filter (λ e. eq_by_cmp sessions.cmp s e.0.0) n.paths.rows)) (session_adverts i n.paths)
      (λ s. in_session s n.paths.rows (λ e j. keyed e.0 e.1 (in_found path_keys n.paths e.0 e.1 j))) (keys n.due)
    where
      there : (e : Row) → In e n.paths.rows → is_among (keys n.due) e.0.0 ≡ true
      there e j =
          among_in (keys n.due) e.0.0 (to_keys sessions n.due e.0.0 (counted 0 e.0.0 ∙ sym (counts_by n e.0 (or_right (has n.senders e.0) _ (ap is_some (in_found path_keys n.paths e.0 e.1 j))) 0)))

  pub few_adverts : (c : ℕ) (n : State) → IsWithinSessionLimits senders n.paths → length (adverts_of (facts_at c n) i) ≤ 512
  unfolding adverts_of facts_at
  few_adverts c n within =
      let less = told_few row_advert n.paths.rows in
      let few = all_at_most senders 32 n.paths within.all within.one in
      omega (arith, ap length (at_clock c n.paths.rows), less, few)

-- ---- what the path of a sender keeps
abbrev pub kept_fact : Option PathFact → Option Adspec
kept_fact None = None
kept_fact (Some f) = f.adspec

pub kept_seen : (c : ℕ) (n : State) (k : SenderKey) (w : Option PathFact) → w ≡ option_map (λ e. e.0) (get n.paths k) → kept_fact w ≡ kept_in (get (facts_at c n).paths k)
unfolding facts_at
kept_seen c n k w e = ap kept_fact e ∙ by (get n.paths k) ∙ sym (ap kept_in (get-changed path_keys (path_at c) n.paths k))
  where
    by : (v : Option (PathFact × ℕ)) → kept_fact (option_map (λ (x : PathFact × ℕ). x.0) v) ≡ kept_in (then_do v (path_at c k))
    by None = refl
    by (Some x) = refl

-- ---- the one at a place
module _ {A : Type 0} where
  pub among_first : (xs ys : List A) (k : ℕ) (x : A) → slice_get xs k ≡ Some x → slice_get (xs ++ ys) k ≡ Some x
  among_first [] ys k x e = cc
  among_first (z ∷ xs) ys zero x e = e
  among_first (z ∷ xs) ys (suc k) x e = among_first xs ys k x e

  pub past_first : (xs ys : List A) (k left : ℕ) → k ≡ length xs + left → slice_get (xs ++ ys) k ≡ slice_get ys left
  past_first [] ys k left e =
      let same : k ≡ left = omega (arith, e) in
      ap (slice_get ys) same
  past_first (z ∷ xs) ys zero left e = absurd (omega (arith, e))
  past_first (z ∷ xs) ys (suc k) left e = past_first xs ys k left (omega (arith, e))

-- ---- keys one after another
module _ {K X : Type 0} where
  abbrev keys_in : List (K × X) → List K
  keys_in es = each (λ (e : K × X). e.0) es

  pub next_key : (es : List (K × X)) (i : ℕ) (e : K × X) → slice_get es i ≡ Some e → drop i (keys_in es) ≡ e.0 ∷ drop (i + 1) (keys_in es)
  next_key [] i e h = cc
  next_key (x ∷ es) zero e h = let same : x ≡ e = cc in ap (λ (z : K × X). z.0 ∷ keys_in es) same
  next_key (x ∷ es) (suc i) e h =
      let after : suc (i + 1) ≡ suc i + 1 = omega arith in
      next_key es i e h ∙ ap (λ j. e.0 ∷ drop j (keys_in (x ∷ es))) after

  pub past_keys : (es : List (K × X)) (i : ℕ) → length es ≤ i → drop i (keys_in es) ≡ []
  past_keys [] zero le = refl
  past_keys [] (suc i) le = refl
  past_keys (x ∷ es) zero le = absurd (omega (arith, le))
  past_keys (x ∷ es) (suc i) le = past_keys es i (omega (arith, le))

  pub no_key : (es : List (K × X)) (i : ℕ) → slice_get es i ≡ None → drop i (keys_in es) ≡ []
  no_key [] zero h = refl
  no_key [] (suc i) h = refl
  no_key (x ∷ es) zero h = cc
  no_key (x ∷ es) (suc i) h = no_key es i h

-- ---- of one row
module _ {X B : Type 0} (f : X → Option B) where
  pub front_told : (x : X) (xs : List X) → filter_map f (x ∷ xs) ≡ filter_map f (x ∷ []) ++ filter_map f xs
  front_told x xs = by (f x)
    where
      by : (w : Option B) → cons_option w (filter_map f xs) ≡ cons_option w [] ++ filter_map f xs
      by None = refl
      by (Some y) = refl

  pub told_here : (x : X) (b : B) → Some b ≡ f x → (k : ℕ) → k ≡ 0 → slice_get (filter_map f (x ∷ [])) k ≡ Some b
  told_here x b e k z = ap (λ w. slice_get (cons_option w []) k) (sym e) ∙ ap (slice_get (b ∷ [])) z

  pub one_here : (x : X) (b : B) → Some b ≡ f x → (k left : ℕ) → k ≡ 1 + left → k ≡ length (filter_map f (x ∷ [])) + left
  one_here x b e k left z = z ∙ ap (λ w. length (cons_option w []) + left) e

  pub none_here : (x : X) → None ≡ f x → (k : ℕ) → k ≡ length (filter_map f (x ∷ [])) + k
  none_here x e k =
      let none : k ≡ length (cons_option {X = B} None []) + k = omega arith in
      none ∙ ap (λ w. length (cons_option w []) + k) e
