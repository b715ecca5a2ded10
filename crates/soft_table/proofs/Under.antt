-- The rows of one session: the one behind a row, and the first behind a key.
use Rattle.std.proofs.Common.{◌≡◌, ◌<◌, ◌+◌, ℕ, zero, suc, Bool, true, false, cond, T, List, [], ◌∷◌, map as each, Option, Some, None, refl, sym, ap, ◌∙◌, arith, inl, inr}
use Rattle.std.specs.Prelude.{slice_get}
use Rattle.std.specs.Cmp.{tied_itself}
use Rattle.std.specs.Option.{option_map}
use Rattle.std.specs.Ordering.{eq_by_cmp, is_eq, is_lt, ordering_then, ordering_reverse}
use Rattle.std.specs.declared.cmp.Ordering.{Ordering}
use Rattle.std.specs.declared.cmp.Ordering.TheVariants.{Less, Equal, Greater}
use Rattle.std.specs.FinMap.Entries.{find, is_sorted}
use Rattle.std.proofs.lemmas.Bool.{cases_lt}
use Rattle.rsvp_base.specs.Keys.{Keys}
use Rattle.rsvp_base.specs.Orders.{sessions}
use Rattle.rsvp_base.specs.Table.{first, second}
use Rattle.rsvp_base.specs.Under.{rows_under}
use Rattle.rsvp_base.specs.declared.session.Session.{Session}
use Rattle.rsvp_base.proofs.Counts.{in_found}
use Rattle.rsvp_base.proofs.Fronts.{got_in}
use Rattle.rsvp_base.proofs.Tables.{either, tied_same}
use Rattle.soft_table.specs.Lists.{IsRow, IsGap, row_keys, rows_of, next_of, slot_of, rows_behind}
use Rattle.soft_table.proofs.Held.{AreFull, row_at}
use Rattle.soft_table.proofs.Found.{found_none}
use Rattle.soft_table.proofs.Firsts.{under_same, under_other, below_in, then_less}
use Rattle.soft_table.proofs.Takes.{none_later, first_next}

then_equal : (w v : Ordering) → is_eq w ≡ true → ordering_then w v ≡ v
then_equal Less v e = cc
then_equal Equal v e = refl
then_equal Greater v e = cc

no_first : {R : Type 0} (xs : List (R × ℕ)) → slot_of (slice_get xs 0) ≡ None → xs ≡ []
no_first [] e = refl
no_first (x ∷ xs) e = cc

-- of rows in order, an earlier one has the lesser key
pub in_order : {K X : Type 0} (o : Keys K) (es : List (K × X)) (i j : ℕ) (a b : K × X) → T (is_sorted o.cmp es) → i < j → slice_get es i ≡ Some a → slice_get es j ≡ Some b → o.cmp a.0 b.0 ≡ Less
in_order o [] i j a b up lt at_a at_b = cc
in_order o (e ∷ es) zero zero a b up lt at_a at_b = absurd (omega (arith, lt))
in_order o (e ∷ es) zero (suc j) a b up lt at_a at_b = let is : e ≡ a = cc in ap (λ z. o.cmp z.0 b.0) (sym is) ∙ below_in o e.0 es j b (first _ _ up) at_b
in_order o (e ∷ es) (suc i) zero a b up lt at_a at_b = absurd (omega (arith, lt))
in_order o (e ∷ es) (suc i) (suc j) a b up lt at_a at_b = in_order o es i j a b (second _ _ up) (omega (arith, lt)) at_a at_b

module _ {R : Type 0} (rests : Keys R) (s : Session) where
  abbrev Row : Type 0
  Row = (Session × R) × ℕ

  abbrev own : List Row → List (R × ℕ)
  own es = rows_under sessions rests s es

  -- a row of the session among all rows, and the one behind it
  abbrev Stands : List Row → ℕ → R → ℕ → Type 0
  Stands es j r f = (i : ℕ) × (slice_get es i ≡ Some ((s, r), f)) × (next_of s (slice_get es (suc i)) ≡ slot_of (slice_get (own es) (suc j)))

  stands_here : (e : Row) (es : List Row) (j : ℕ) (r : R) (f : ℕ) → T (is_sorted (row_keys rests).cmp (e ∷ es)) → eq_by_cmp sessions.cmp s e.0.0 ≡ true
      → slice_get ((e.0.1, e.1) ∷ own es) j ≡ Some (r, f)
      → ((i : ℕ) → slice_get (own es) i ≡ Some (r, f) → Stands es i r f) → Stands (e ∷ es) j r f
  stands_here e es zero r f up t at later =
      let is : ◌≡◌ {A = R × ℕ} (e.0.1, e.1) (r, f) = cc in
      let same : s ≡ e.0.0 = tied_same sessions s e.0.0 t in
      (0, λ i. Some ((sym same i, (is i).0), (is i).1), sym (first_next rests s e es up t) ∙ sym (ap (λ xs. slot_of (slice_get xs 1)) (under_same rests s e es t)))
  stands_here e es (suc j) r f up t at later =
      let rest = later j at in
      (suc rest.0, rest.1, rest.2 ∙ sym (ap (λ xs. slot_of (slice_get xs (suc (suc j)))) (under_same rests s e es t)))

  pub row_under : (es : List Row) (j : ℕ) (r : R) (f : ℕ) → T (is_sorted (row_keys rests).cmp es) → slice_get (own es) j ≡ Some (r, f) → Stands es j r f
  row_under [] j r f up at = cc
  row_under (e ∷ es) j r f up at =
      either (eq_by_cmp sessions.cmp s e.0.0) {C = Stands (e ∷ es) j r f}
      (λ t. stands_here e es j r f up t (sym (ap (λ xs. slice_get xs j) (under_same rests s e es t)) ∙ at) (λ i is. row_under es i r f (second _ _ up) is))
      (λ n.
      let rest = row_under es j r f (second _ _ up) (sym (ap (λ xs. slice_get xs j) (under_other rests s e es n)) ∙ at) in
      (suc rest.0, rest.1, rest.2 ∙ sym (ap (λ xs. slot_of (slice_get xs (suc j))) (under_other rests s e es n))))

  -- the first row behind a key stands where those before end
  module _ (r : R) where
    abbrev chosen : Bool → R × ℕ → List (R × ℕ) → List (R × ℕ)
    chosen b x xs = cond b (x ∷ rows_behind rests r xs) (rows_behind rests r xs)

    pub behind_at : (es : List Row) (i : ℕ) → T (is_sorted (row_keys rests).cmp es) → ((j : ℕ) (e : Row) → j < i → slice_get es j ≡ Some e → is_lt ((row_keys rests).cmp (s, r) e.0) ≡ false)
        → ((e : Row) → slice_get es i ≡ Some e → (row_keys rests).cmp (s, r) e.0 ≡ Less) → next_of s (slice_get es i) ≡ slot_of (slice_get (rows_behind rests r (own es)) 0)
    behind_at [] zero up low high = refl
    behind_at [] (suc i) up low high = refl
    behind_at (e ∷ es) zero up low high =
        let less = high e refl in
        either (eq_by_cmp sessions.cmp s e.0.0)
        (λ t.
        let lt : is_lt (rests.cmp r e.0.1) ≡ true = ap is_lt (sym (then_equal (sessions.cmp s e.0.0) (rests.cmp r e.0.1) t) ∙ less) in
        ap (λ b. cond b (Some e.1) None) t ∙ sym (ap (λ xs. slot_of (slice_get (rows_behind rests r xs) 0)) (under_same rests s e es t)
        ∙ ap (λ b. slot_of (slice_get (chosen b (e.0.1, e.1) (own es)) 0)) lt))
        (λ n.
        let over : sessions.cmp s e.0.0 ≡ Less = then_less (sessions.cmp s e.0.0) (rests.cmp r e.0.1) less n in
        ap (λ b. cond b (Some e.1) None) n
        ∙ sym (ap (λ xs. slot_of (slice_get (rows_behind rests r xs) 0)) (under_other rests s e es n ∙ no_first (own es) (none_later rests s e es up over))))
    behind_at (e ∷ es) (suc i) up low high =
        let rest = behind_at es i (second _ _ up) (λ j d lt at. low (suc j) d (omega (arith, lt)) at) high in
        either (eq_by_cmp sessions.cmp s e.0.0)
        (λ t.
        let ge : is_lt (rests.cmp r e.0.1) ≡ false = ap is_lt (sym (then_equal (sessions.cmp s e.0.0) (rests.cmp r e.0.1) t)) ∙ low 0 e (omega arith) refl in
        rest ∙ sym (ap (λ xs. slot_of (slice_get (rows_behind rests r xs) 0)) (under_same rests s e es t) ∙ ap (λ b. slot_of (slice_get (chosen b (e.0.1, e.1) (own es)) 0)) ge))
        (λ n. rest ∙ sym (ap (λ xs. slot_of (slice_get (rows_behind rests r xs) 0)) (under_other rests s e es n)))

pub each_read : {A B : Type 0} (f : A → B) (xs : List A) (i : ℕ) → slice_get (each f xs) i ≡ option_map f (slice_get xs i)
each_read f [] i = refl
each_read f (x ∷ xs) zero = refl
each_read f (x ∷ xs) (suc i) = each_read f xs i

-- a row before another is not behind it
not_over : {K : Type 0} (o : Keys K) (a b : K) → o.cmp a b ≡ Less → is_lt (o.cmp b a) ≡ false
not_over o a b lt = ap is_lt (o.total.antisymm b a ∙ ap ordering_reverse lt)

module _ {R : Type 0} (rests : Keys R) (keys : List (Option (Session × R))) (slots : List ℕ) (full : AreFull keys slots) (up : T (is_sorted (row_keys rests).cmp (rows_of keys slots))) (s : Session)
    (r : R) where
  -- behind a key's row
  pub behind_row : (slot : ℕ) (w : IsRow rests keys slots (s, r) slot) → next_of s (slice_get (rows_of keys slots) (w.place + 1))
      ≡ slot_of (slice_get (rows_behind rests r (rows_under sessions rests s (rows_of keys slots))) 0)
  behind_row slot w =
      let o = row_keys rests in
      let here = row_at keys slots w.place slot (s, r) full w.is w.key in
      behind_at rests s r (rows_of keys slots) (w.place + 1) up
      (λ j e lt at. elim (cases_lt j w.place) [
        | inl below ↦ not_over o e.0 (s, r) (in_order o (rows_of keys slots) j w.place e ((s, r), slot) up below at here)
        | inr past ↦
            let same : j ≡ w.place = omega (arith, lt, past) in
            let one : Some ((s, r), slot) ≡ Some e = sym here ∙ ap (slice_get (rows_of keys slots)) (sym same) ∙ at in
            let is : ((s, r), slot) ≡ e = cc in
            ap (λ (z : (Session × R) × ℕ). is_lt (o.cmp (s, r) z.0)) (sym is) ∙ ap is_lt (tied_itself o.total (s, r))
      ])
      (λ e at. in_order o (rows_of keys slots) w.place (w.place + 1) ((s, r), slot) e up (omega arith) here at)

  -- and where it has none
  pub behind_gap : (b : Option ℕ) (w : IsGap rests keys slots (s, r) b) → next_of s (slice_get (rows_of keys slots) w.place.start.place)
      ≡ slot_of (slice_get (rows_behind rests r (rows_under sessions rests s (rows_of keys slots))) 0)
  behind_gap b w =
      behind_at rests s r (rows_of keys slots) w.place.start.place up
      (λ j e lt at. not_over (row_keys rests) e.0 (s, r) (w.place.start.before j e lt at))
      (λ e at. over e at ((row_keys rests).cmp e.0 (s, r)) refl)
    where
      over : (e : (Session × R) × ℕ) → slice_get (rows_of keys slots) w.place.start.place ≡ Some e → (v : Ordering) → (row_keys rests).cmp e.0 (s, r) ≡ v → (row_keys rests).cmp (s, r) e.0 ≡ Less
      over e at Less is = absurd (w.place.here e at is)
      over e at Equal is =
          let same : e.0 ≡ (s, r) = (row_keys rests).same e.0 (s, r) is in
          let found : find (row_keys rests).cmp e.0 (rows_of keys slots) ≡ Some e.1 = in_found (row_keys rests) (record { rows = rows_of keys slots; sorted = up }) e.0 e.1
          (got_in (rows_of keys slots) w.place.start.place e at) in
          let none : None ≡ Some e.1 = sym (found_none rests keys slots full (s, r) b w) ∙ ap (λ k. find (row_keys rests).cmp k (rows_of keys slots)) (sym same) ∙ found in
          cc
      over e at Greater is = (row_keys rests).total.antisymm (s, r) e.0 ∙ ap ordering_reverse is
