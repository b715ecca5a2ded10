-- Rows that are put behind those of a table; tables that are small have room; wants without marks.
use Rattle.std.proofs.Common.{◌≡◌, ◌≤◌, Bool, true, false, cond, List, [], ◌∷◌, ◌++◌, refl, sym, ap, subst, ◌∙◌, inl, inr, ⊎_elim, arith, append_assoc, T}
use Rattle.std.specs.Prelude.{map as each, not, ◌&&◌, nat_le}
use Rattle.std.specs.FinMap.Entries.{below_all, by_order, is_sorted, put, where_key}
use Rattle.std.specs.Ordering.{eq_by_cmp, is_lt, ordering_reverse}
use Rattle.std.specs.declared.cmp.Ordering.{Ordering}
use Rattle.std.specs.declared.cmp.Ordering.TheVariants.{Less, Equal, Greater}
use Rattle.std.proofs.lemmas.List.{length-map}
use Rattle.rsvp_base.specs.Keys.{Keys, pairs}
use Rattle.rsvp_base.specs.Members.{In}
use Rattle.rsvp_base.specs.Orders.{sessions}
use Rattle.rsvp_base.specs.SessionLimits.{has_room_at, sessions_in}
use Rattle.rsvp_base.specs.Sets.{Set}
use Rattle.rsvp_base.specs.Table.{Table, changed_rows, first, has, keys, put_in, second, size, with_rows}
use Rattle.rsvp_base.specs.Under.{rows_under, under}
use Rattle.rsvp_base.specs.declared.session.Session.{Session}
use Rattle.rsvp_base.proofs.Counts.{size-set_of}
use Rattle.rsvp_base.proofs.Members.{in_append}
use Rattle.rsvp_base.proofs.SessionCounts.{at_most}
use Rattle.rsvp_base.proofs.SetLaws.{and_made}
use Rattle.router_rules.specs.Facts.{Want, WantKey, want_keys}
use Rattle.router_rules.specs.Sends.{unmarked}
use Rattle.grown_network.proofs.Modest.{shorter}

less : (r : Ordering) → T (is_lt r) → r ≡ Less
less Less t = refl
less Equal t = absurd t
less Greater t = absurd t

-- ---- behind the rows of a table
module _ {K X : Type 0} (o : Keys K) where
  abbrev pub AreBelow : List (K × X) → K → Type 0
  AreBelow es k = (e : K × X) → In e es → o.cmp e.0 k ≡ Less

  put_end : (k : K) (v : X) (es : List (K × X)) → AreBelow es k → put o.cmp k v es ≡ es ++ (k, v) ∷ []
  put_end k v [] h = refl
  put_end k v (e ∷ es) h =
      ap (λ r. by_order r ((k, v) ∷ e ∷ es) ((e.0, v) ∷ es) (e ∷ put o.cmp k v es)) (o.total.antisymm k e.0 ∙ ap ordering_reverse (h e (inl refl)))
      ∙ ap (λ (zs : List (K × X)). e ∷ zs) (put_end k v es (λ x i. h x (inr i)))

  below_row : (k : K) (es : List (K × X)) → T (below_all o.cmp k es) → (e : K × X) → In e es → o.cmp k e.0 ≡ Less
  below_row k [] h e i = absurd i
  below_row k (x ∷ es) h e i = ⊎_elim (λ (is : e ≡ x). ap (λ (z : K × X). o.cmp k z.0) is ∙ less (o.cmp k x.0) (first _ _ h)) (λ (j : In e es). below_row k es (second _ _ h) e j) i

  -- rows in order, each above those of the table
  pub rows_end : (es : List (K × X)) (m : Table o X) → T (is_sorted o.cmp es) → ((e : K × X) → In e es → AreBelow m.rows e.0) → (with_rows m es).rows ≡ m.rows ++ es
  rows_end [] m up above = sym (none m.rows)
    where
      none : (xs : List (K × X)) → xs ++ [] ≡ xs
      none [] = refl
      none (x ∷ xs) = ap (λ (zs : List (K × X)). x ∷ zs) (none xs)
  rows_end (e ∷ es) m up above =
      let here = put_end e.0 e.1 m.rows (above e (inl refl)) in
      rows_end es (put_in m e.0 e.1) (second _ _ up)
      (λ x i y j.
      ⊎_elim (λ (old : In y m.rows). above x (inr i) y old)
      (λ (new : In y (e ∷ [])). ⊎_elim (λ (is : y ≡ e). ap (λ (z : K × X). o.cmp z.0 x.0) is ∙ below_row e.0 es (first _ _ up) x i) (λ (none : ⊥). absurd none) new)
      (in_append y m.rows (e ∷ []) (subst (λ (zs : List (K × X)). In y zs) here j)))
      ∙ ap (λ (zs : List (K × X)). zs ++ es) here ∙ append_assoc m.rows (e ∷ []) es

-- ---- room
module _ {B X : Type 0} (o : Keys B) where
  pub none_under : (s : Session) (es : List ((Session × B) × X)) → ((e : (Session × B) × X) → In e es → eq_by_cmp sessions.cmp s e.0.0 ≡ false) → rows_under sessions o s es ≡ []
  none_under s [] none = refl
  none_under s (e ∷ es) none =
      ap (λ (b : Bool). each (λ (x : (Session × B) × X). (x.0.1, x.1)) (cond b (e ∷ where_key (pairs sessions o).cmp (λ k. eq_by_cmp sessions.cmp s k.0) es)
      (where_key (pairs sessions o).cmp (λ k. eq_by_cmp sessions.cmp s k.0) es))) (none e (inl refl))
      ∙ none_under s es (λ x i. none x (inr i))

  pub small_has_room : (m : Table (pairs sessions o) X) (s : Session) → size m ≤ 16 → has_room_at o m s ≡ true
  small_has_room m s few =
      let a = size-set_of sessions (each (λ (k : Session × B). k.0) (keys m)) in
      let b = length-map (keys m) (λ (k : Session × B). k.0) in
      let c = length-map m.rows (λ (e : (Session × B) × X). e.0) in
      let d = length-map {B = B × X} (where_key (pairs sessions o).cmp (λ k. eq_by_cmp sessions.cmp s k.0) m.rows) (λ (x : (Session × B) × X). (x.0.1, x.1)) in
      let e = shorter (λ (x : (Session × B) × X). eq_by_cmp sessions.cmp s x.0.0) m.rows in
      and_made (nat_le (size (sessions_in o m)) 32) (nat_le (size (under sessions o m s)) 16) (at_most (size (sessions_in o m)) 32 (omega (arith, a, b, c, few)))
      (at_most (size (under sessions o m s)) 16 (omega (arith, d, e, few)))

-- ---- marks: a want without one stays as it is
pub unmarked_rows : (used : Set want_keys) (es : List (WantKey × Want)) → ((e : WantKey × Want) → In e es → e.1.confirm ≡ false) → changed_rows (unmarked used) es ≡ es
unmarked_rows used [] none = refl
unmarked_rows used (e ∷ es) none =
    let off : (e.1.confirm && not (has used e.0)) ≡ e.1.confirm = ap (λ b. b && not (has used e.0)) (none e (inl refl)) ∙ sym (none e (inl refl)) in
    λ i. (e.0, record { style = e.1.style; part = e.1.part; confirm = off i }) ∷ unmarked_rows used es (λ x j. none x (inr j)) i
