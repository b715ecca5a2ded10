-- What stands under a key after rows were put one after another: the last of that key. And keys that rise.
use Rattle.std.specs.Prelude.{◌≡◌, ◌⊎◌, true, false, List, [], ◌∷◌, map as each, Option, Some, None, refl}
use Rattle.std.proofs.Common.{T, sym, ap, ◌∙◌, inl, inr, ⊎_elim, Ordering}
use Rattle.std.specs.FinMap.Entries.{below_all, is_sorted}
use Rattle.std.specs.List.{cons_option, filter_map}
use Rattle.std.specs.Ordering.{eq_by_cmp, is_eq, is_lt, ordering_reverse}
use Rattle.std.specs.declared.cmp.Ordering.TheVariants.{Less, Equal, Greater}
use Rattle.router_rules.specs.RsvpBase.Keys.{Keys}
use Rattle.router_rules.specs.RsvpBase.Members.{In}
use Rattle.router_rules.specs.RsvpBase.Sets.{Set, listed}
use Rattle.router_rules.specs.RsvpBase.Table.{Table, changed, changed_rows, empty, first, get, keys, put_in, second, values, with_rows}
use Rattle.router_rules.proofs.RsvpBase.Counts.{in_found}
use Rattle.router_rules.proofs.RsvpBase.Tables.{either, get-put_in_other, get-put_in_same, holds, tied_same, tied_self}
use Rattle.router_rules.proofs.RsvpBase.Fronts.{in_filter_map}
use Rattle.laws_bounds.proofs.Lists.{got_with_rows}

-- ---- rows in order
below_each : {K X : Type 0} (o : Keys K) (k : K) (y : K × X) (es : List (K × X)) → T (below_all o.cmp k es) → In y es → is_lt (o.cmp k y.0) ≡ true
below_each o k y [] h i = absurd i
below_each {K} {X} o k y (e ∷ es) h i =
    ⊎_elim (λ (s : y ≡ e). ap (λ (z : K × X). is_lt (o.cmp k z.0)) s ∙ holds _ (first _ _ h)) (λ (j : In y es). below_each o k y es (second _ _ h) j) i

reversed : (r : Ordering) → is_lt r ≡ true → is_lt (ordering_reverse r) ≡ false
reversed Less e = refl
reversed Equal e = absurd (cc)
reversed Greater e = absurd (cc)

-- of two keys not both are below the other
pub not_below : {K : Type 0} (o : Keys K) (a b : K) → is_lt (o.cmp b a) ≡ true → is_lt (o.cmp a b) ≡ false
not_below o a b h = ap is_lt (o.total.antisymm a b) ∙ reversed (o.cmp b a) h

not_less : (r : Ordering) → is_eq r ≡ true → is_lt r ≡ false
not_less Less e = absurd (cc)
not_less Equal e = refl
not_less Greater e = refl

pub not_below_itself : {K : Type 0} (o : Keys K) (a : K) → is_lt (o.cmp a a) ≡ false
not_below_itself o a = not_less (o.cmp a a) (tied_self o a)

-- ---- rows that the members of a list give, put one after another
module _ {K A X : Type 0} (o : Keys K) (h : A → Option (K × X)) where
  -- no member gives a row of the key
  abbrev pub Silent : K → List A → Type 0
  Silent k xs = (y : A) (w : X) → In y xs → h y ≡ Some (k, w) → ⊥

  -- the last member that gives a row of the key gives this value
  abbrev pub LastGives : List A → K → X → Type 0
  LastGives [] k v = ⊥
  LastGives (x ∷ xs) k v = ((h x ≡ Some (k, v)) × Silent k xs) ⊎ LastGives xs k v

  abbrev put_by : Option (K × X) → Table o X → Table o X
  put_by None m = m
  put_by (Some e) m = put_in m e.0 e.1

  put_first : (m : Table o X) (xs : List A) (w : Option (K × X)) → with_rows m (cons_option w (filter_map h xs)) ≡ with_rows (put_by w m) (filter_map h xs)
  put_first m xs None = refl
  put_first m xs (Some r) = refl

  -- what stands, stays where nobody gives a row of its key
  pub stays_put : (xs : List A) (m : Table o X) (k : K) → Silent k xs → get (with_rows m (filter_map h xs)) k ≡ get m k
  stays_put [] m k none = refl
  stays_put (x ∷ xs) m k none = ap (λ (t : Table o X). get t k) (put_first m xs (h x)) ∙ stays_put xs (put_by (h x) m) k (λ y w i. none y w (inr i)) ∙ by (h x) refl
    where
      by : (w : Option (K × X)) → h x ≡ w → get (put_by w m) k ≡ get m k
      by None e = refl
      by (Some r) e =
          get-put_in_other o m r.0 r.1 k
          (either (eq_by_cmp o.cmp k r.0) (λ tie. absurd (none x r.1 (inl refl) (e ∙ ap (λ z. Some (z, r.1)) (sym (tied_same o k r.0 tie))))) (λ apart. apart))

  -- the last one's row stands
  pub last_stands : (xs : List A) (m : Table o X) (k : K) (v : X) → LastGives xs k v → get (with_rows m (filter_map h xs)) k ≡ Some v
  last_stands [] m k v q = absurd q
  last_stands (x ∷ xs) m k v q =
      ap (λ (t : Table o X). get t k) (put_first m xs (h x))
      ∙ ⊎_elim (λ (here : (h x ≡ Some (k, v)) × Silent k xs). stays_put xs (put_by (h x) m) k here.1 ∙ ap (λ w. get (put_by w m) k) here.0 ∙ get-put_in_same o m k v)
      (λ (later : LastGives xs k v). last_stands xs (put_by (h x) m) k v later) q

  -- one who gives a row does not give the key's, where the row is of another key or of none
  not_by : (x : A) (k : K) (w : Option (K × X)) → h x ≡ w → ((r : K × X) → w ≡ Some r → eq_by_cmp o.cmp k r.0 ≡ false) → (v : X) → h x ≡ Some (k, v) → ⊥
  not_by x k w e other v t =
      let row : w ≡ Some (k, v) = sym e ∙ t in
      let z : true ≡ false = sym (tied_self o k) ∙ other (k, v) row in
      cc

  silent_too : (x : A) (xs : List A) (k : K) → Silent k xs → ((v : X) → h x ≡ Some (k, v) → ⊥) → Silent k (x ∷ xs)
  silent_too x xs k none not y w i t = ⊎_elim (λ (is : y ≡ x). not w (ap h (sym is) ∙ t)) (λ (j : In y xs). none y w j t) i

  -- and what stands was there, or is the last one's
  pub stands_last : (xs : List A) (m : Table o X) (k : K) (v : X) → get (with_rows m (filter_map h xs)) k ≡ Some v → ((get m k ≡ Some v) × Silent k xs) ⊎ LastGives xs k v
  stands_last [] m k v g = inl (g, λ y w i e. i)
  stands_last (x ∷ xs) m k v g =
      ⊎_elim (λ (old : (get (put_by (h x) m) k ≡ Some v) × Silent k xs). by (h x) refl old.0 old.1) (λ (q : LastGives xs k v). inr (inr q))
      (stands_last xs (put_by (h x) m) k v (ap (λ (t : Table o X). get t k) (sym (put_first m xs (h x))) ∙ g))
    where
      by : (w : Option (K × X)) → h x ≡ w → get (put_by w m) k ≡ Some v → Silent k xs → ((get m k ≡ Some v) × Silent k (x ∷ xs)) ⊎ LastGives (x ∷ xs) k v
      by None e old none = inl (old, silent_too x xs k none (not_by x k None e (λ r t. absurd (cc))))
      by (Some r) e old none =
          either (eq_by_cmp o.cmp k r.0)
          (λ tie.
          let same : k ≡ r.0 = tied_same o k r.0 tie in
          let here : Some r.1 ≡ Some v = sym (get-put_in_same o m r.0 r.1) ∙ ap (get (put_in m r.0 r.1)) (sym same) ∙ old in
          let value : r.1 ≡ v = cc in
          inr (inl (e ∙ ap Some (λ i. (sym same i, value i)), none)))
          (λ apart.
          inl (
            sym (get-put_in_other o m r.0 r.1 k apart) ∙ old,
            silent_too x xs k none (not_by x k (Some r) e (λ q t. let is : r ≡ q = cc in ap (λ (z : K × X). eq_by_cmp o.cmp k z.0) (sym is) ∙ apart)),
          ))

  -- someone gives a row of the key, or nobody does
  last_or_silent : (xs : List A) (k : K) → ((w : X) × LastGives xs k w) ⊎ Silent k xs
  last_or_silent [] k = inr (λ y w i t. i)
  last_or_silent (x ∷ xs) k = ⊎_elim (λ (q : (w : X) × LastGives xs k w). inl (q.0, inr q.1)) (λ (none : Silent k xs). by none (h x) refl) (last_or_silent xs k)
    where
      by : Silent k xs → (w : Option (K × X)) → h x ≡ w → ((w : X) × LastGives (x ∷ xs) k w) ⊎ Silent k (x ∷ xs)
      by none None e = inr (silent_too x xs k none (not_by x k None e (λ r t. absurd (cc))))
      by none (Some r) e =
          either (eq_by_cmp o.cmp k r.0) (λ tie. inl (r.1, inl (e ∙ ap (λ z. Some (z, r.1)) (sym (tied_same o k r.0 tie)), none)))
          (λ apart. inr (silent_too x xs k none (not_by x k (Some r) e (λ q t. let same : r ≡ q = cc in ap (λ (z : K × X). eq_by_cmp o.cmp k z.0) (sym same) ∙ apart))))

  pub someone_last : (xs : List A) (k : K) (x : A) (v : X) → In x xs → h x ≡ Some (k, v) → (w : X) × LastGives xs k w
  someone_last xs k x v i e = ⊎_elim (λ (q : (w : X) × LastGives xs k w). q) (λ (none : Silent k xs). absurd (none x v i e)) (last_or_silent xs k)

-- ---- the same for rows of a table, whose keys rise
module _ {K J A X : Type 0} (o : Keys K) (p : Keys J) (h : J × A → Option (K × X)) where
  -- the last of those that give a row of the key
  pub record IsLast (es : List (J × A)) (k : K) (v : X) : Type 0 where
    pub giver : J × A
    pub among : In giver es
    pub gives : h giver ≡ Some (k, v)
    pub last : (y : J × A) (w : X) → In y es → h y ≡ Some (k, w) → is_lt (p.cmp giver.0 y.0) ≡ false

  pub last_told : (es : List (J × A)) (k : K) (v : X) → T (is_sorted p.cmp es) → LastGives o h es k v → IsLast es k v
  last_told [] k v up q = absurd q
  last_told (e ∷ es) k v up q =
      ⊎_elim
      (λ (here : (h e ≡ Some (k, v)) × Silent o h k es).
      record {
        giver = e;
        among = inl refl;
        gives = here.0;
        last = λ y w i t. ⊎_elim (λ (is : y ≡ e). ap (λ (z : J × A). is_lt (p.cmp e.0 z.0)) is ∙ not_below_itself p e.0) (λ (j : In y es). absurd (here.1 y w j t)) i;
      })
      (λ (later : LastGives o h es k v).
      let r = last_told es k v (second _ _ up) later in
      record {
        giver = r.giver;
        among = inr r.among;
        gives = r.gives;
        last = λ y w i t.
            ⊎_elim (λ (is : y ≡ e). ap (λ (z : J × A). is_lt (p.cmp r.giver.0 z.0)) is ∙ not_below p r.giver.0 e.0 (below_each p e.0 r.giver es (first _ _ up) r.among))
            (λ (j : In y es). r.last y w j t) i;
      })
      q

  pub last_made : (es : List (J × A)) (k : K) (v : X) → T (is_sorted p.cmp es) → IsLast es k v → LastGives o h es k v
  last_made [] k v up q = absurd q.among
  last_made (e ∷ es) k v up q =
      ⊎_elim
      (λ (is : q.giver ≡ e).
      inl (
        ap h (sym is) ∙ q.gives,
        λ y w j t. let z : true ≡ false = sym (below_each p e.0 y es (first _ _ up) j) ∙ ap (λ (z : J × A). is_lt (p.cmp z.0 y.0)) (sym is) ∙ q.last y w (inr j) t in absurd (cc),
      ))
      (λ (i : In q.giver es). inr (last_made es k v (second _ _ up) (record { giver = q.giver; among = i; gives = q.gives; last = λ y w j t. q.last y w (inr j) t })))
      q.among

-- ---- a table's keys rise
keys_listed : {K X : Type 0} (es : List (K × X)) → changed_rows (λ (k : K) (x : X). Some tt) es ≡ listed (each (λ (e : K × X). e.0) es)
keys_listed [] = refl
keys_listed (e ∷ es) = λ i. (e.0, tt) ∷ keys_listed es i

pub keys_rise : {K X : Type 0} (o : Keys K) (m : Table o X) → is_sorted o.cmp (listed (keys m)) ≡ true
keys_rise {K} {X} o m =
    let s : Set o = changed (λ (k : K) (x : X). Some tt) m in ap (is_sorted o.cmp) (sym (keys_listed m.rows)) ∙ holds _ s.sorted

-- what tells the keys from the values
pub keys_of_values : {K X : Type 0} (key : X → K) (es : List (K × X)) → ((e : K × X) → In e es → key e.1 ≡ e.0) → each key (each (λ (e : K × X). e.1) es) ≡ each (λ (e : K × X). e.0) es
keys_of_values key [] same = refl
keys_of_values key (e ∷ es) same = λ i. same e (inl refl) i ∷ keys_of_values key es (λ z j. same z (inr j)) i

pub values_rise : {K X : Type 0} (o : Keys K) (key : X → K) (m : Table o X) → ((k : K) (x : X) → get m k ≡ Some x → key x ≡ k) → is_sorted o.cmp (listed (each key (values m))) ≡ true
values_rise o key m same = ap (λ ks. is_sorted o.cmp (listed ks)) (keys_of_values key m.rows (λ e i. same e.0 e.1 (in_found o m e.0 e.1 i))) ∙ keys_rise o m

-- so the values of rows that a list gives, put into an empty table, rise by their keys
pub given_rise : {K A X : Type 0} (o : Keys K) (h : A → Option (K × X)) (key : X → K) (xs : List A) → ((y : A) (k : K) (x : X) → h y ≡ Some (k, x) → key x ≡ k)
    → is_sorted o.cmp (listed (each key (values (with_rows (empty {o = o}) (filter_map h xs))))) ≡ true
given_rise {K} {A} {X} o h key xs same =
    values_rise o key (with_rows (empty {o = o}) (filter_map h xs))
    (λ k x g.
    ⊎_elim (λ (none : get (empty {o = o}) k ≡ Some x). absurd (cc)) (λ (j : In (k, x) (filter_map h xs)). let r = in_filter_map h (k, x) xs j in same r.0 k x r.2)
    (got_with_rows o (filter_map h xs) (empty {o = o}) k x g))
