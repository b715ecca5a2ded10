-- Rows in order: the first row of a session, and those before a key.
use Rattle.std.proofs.Common.{◌≡◌, ◌<◌, ◌+◌, ℕ, zero, suc, true, false, cond, T, List, [], ◌∷◌, map as each, Option, Some, None, refl, sym, ap, ◌∙◌, arith, inl, inr}
use Rattle.std.specs.Prelude.{slice_get}
use Rattle.std.specs.Option.{option_map}
use Rattle.std.specs.Ordering.{eq_by_cmp, is_eq, is_lt, ordering_then, ordering_reverse}
use Rattle.std.specs.declared.cmp.Ordering.{Ordering}
use Rattle.std.specs.declared.cmp.Ordering.TheVariants.{Less, Equal, Greater}
use Rattle.std.specs.FinMap.Entries.{find, where_key, below_all, is_sorted}
use Rattle.std.proofs.lemmas.Bool.{cases_eq}
use Rattle.std.proofs.lemmas.Option.{slice_get_within}
use Rattle.rsvp_base.specs.Keys.{Keys, pairs}
use Rattle.rsvp_base.specs.Orders.{sessions}
use Rattle.rsvp_base.specs.Table.{first, second}
use Rattle.rsvp_base.specs.Under.{rows_under}
use Rattle.rsvp_base.specs.declared.session.Session.{Session}
use Rattle.rsvp_base.proofs.Tables.{either, tied_same, tied_self}
use Rattle.soft_table.specs.declared.heads.Head.{Head}
use Rattle.soft_table.specs.Lists.{AreLists, IsStart, IsPlace, row_keys, first_of, head_row, rows_of}
use Rattle.soft_table.proofs.Held.{AreFull, row_at, row_back, no_row}

pub then_less : (w v : Ordering) → ordering_then w v ≡ Less → is_eq w ≡ false → w ≡ Less
then_less Less v e ne = refl
then_less Equal v e ne = cc
then_less Greater v e ne = cc

eq_reversed : (w : Ordering) → is_eq (ordering_reverse w) ≡ is_eq w
eq_reversed Less = refl
eq_reversed Equal = refl
eq_reversed Greater = refl

less : (r : Ordering) → T (is_lt r) → r ≡ Less
less Less h = refl
less Equal h = absurd h
less Greater h = absurd h

pub less_if : (w : Ordering) → is_lt w ≡ true → w ≡ Less
less_if Less e = refl
less_if Equal e = cc
less_if Greater e = cc

pub below_in : {K X : Type 0} (o : Keys K) (x : K) (es : List (K × X)) (j : ℕ) (e : K × X) → T (below_all o.cmp x es) → slice_get es j ≡ Some e → o.cmp x e.0 ≡ Less
below_in o x [] j e h at = cc
below_in o x (y ∷ ys) zero e h at = let is : y ≡ e = cc in ap (λ z. o.cmp x z.0) (sym is) ∙ less _ (first _ _ h)
below_in o x (y ∷ ys) (suc j) e h at = below_in o x ys j e (second _ _ h) at

-- the slot of a session's first row, and where it stands
pub record IsFirst {R : Type 0} (rests : Keys R) (es : List ((Session × R) × ℕ)) (s : Session) (f : ℕ) : Type 0 where
  pub place : ℕ
  pub rest : R
  pub is : slice_get es place ≡ Some ((s, rest), f)
  pub before : (j : ℕ) (e : (Session × R) × ℕ) → j < place → slice_get es j ≡ Some e → sessions.cmp e.0.0 s ≡ Less
  pub under : List (R × ℕ)
  pub under_is : rows_under sessions rests s es ≡ (rest, f) ∷ under

module _ {R : Type 0} (rests : Keys R) where
  abbrev Row : Type 0
  Row = (Session × R) × ℕ

  abbrev under_in : Session → List Row → List Row
  under_in s es = where_key (pairs sessions rests).cmp (λ k. eq_by_cmp sessions.cmp s k.0) es

  pub under_same : (s : Session) (e : Row) (es : List Row) → eq_by_cmp sessions.cmp s e.0.0 ≡ true → rows_under sessions rests s (e ∷ es) ≡ (e.0.1, e.1) ∷ rows_under sessions rests s es
  under_same s e es t = ap (λ b. each (λ (e : Row). (e.0.1, e.1)) (cond b (e ∷ under_in s es) (under_in s es))) t

  pub under_other : (s : Session) (e : Row) (es : List Row) → eq_by_cmp sessions.cmp s e.0.0 ≡ false → rows_under sessions rests s (e ∷ es) ≡ rows_under sessions rests s es
  under_other s e es t = ap (λ b. each (λ (e : Row). (e.0.1, e.1)) (cond b (e ∷ under_in s es) (under_in s es))) t

  pub first_same : (s : Session) (e : Row) (es : List Row) → eq_by_cmp sessions.cmp s e.0.0 ≡ true → first_of rests s (e ∷ es) ≡ Some e.1
  first_same s e es t = ap (λ (xs : List (R × ℕ)). option_map (λ (x : R × ℕ). x.1) (slice_get xs 0)) (under_same s e es t)

  pub first_other : (s : Session) (e : Row) (es : List Row) → eq_by_cmp sessions.cmp s e.0.0 ≡ false → first_of rests s (e ∷ es) ≡ first_of rests s es
  first_other s e es t = ap (λ (xs : List (R × ℕ)). option_map (λ (x : R × ℕ). x.1) (slice_get xs 0)) (under_other s e es t)

  apart_turned : (a b : Session) → eq_by_cmp sessions.cmp a b ≡ false → is_eq (sessions.cmp b a) ≡ false
  apart_turned a b ne = ap is_eq (sessions.total.antisymm b a) ∙ eq_reversed (sessions.cmp a b) ∙ ne

  before_cons : (e : Row) (es : List Row) (s : Session) (i : ℕ) → sessions.cmp e.0.0 s ≡ Less → ((j : ℕ) (d : Row) → j < i → slice_get es j ≡ Some d → sessions.cmp d.0.0 s ≡ Less)
      → (j : ℕ) (d : Row) → j < suc i → slice_get (e ∷ es) j ≡ Some d → sessions.cmp d.0.0 s ≡ Less
  before_cons e es s i here later zero d lt is = let same : e ≡ d = cc in ap (λ (z : Row). sessions.cmp z.0.0 s) (sym same) ∙ here
  before_cons e es s i here later (suc j) d lt is = later j d (omega (arith, lt)) is

  pub first_found : (es : List Row) → T (is_sorted (row_keys rests).cmp es) → (s : Session) (f : ℕ) → first_of rests s es ≡ Some f → IsFirst rests es s f
  first_found [] up s f at = cc
  first_found (e ∷ es) up s f at =
      either (eq_by_cmp sessions.cmp s e.0.0)
      (λ t.
      let same : s ≡ e.0.0 = tied_same sessions s e.0.0 t in
      let both : Some e.1 ≡ Some f = sym (first_same s e es t) ∙ at in
      let slot : e.1 ≡ f = cc in
      record {
        place = 0;
        rest = e.0.1;
        is = λ i. Some ((sym same i, e.0.1), slot i);
        before = λ j d lt is. absurd
            (omega (arith, lt));
        under = rows_under sessions rests s es;
        under_is = under_same s e es t ∙ ap (λ z. (e.0.1, z) ∷ rows_under sessions rests s es) slot;
      })
      (λ n.
      let tail = first_found es (second _ _ up) s f (sym (first_other s e es n) ∙ at) in
      let under : (row_keys rests).cmp e.0 (s, tail.rest) ≡ Less = below_in (row_keys rests) e.0 es tail.place ((s, tail.rest), f) (first _ _ up) tail.is in
      let here : sessions.cmp e.0.0 s ≡ Less = then_less (sessions.cmp e.0.0 s) (rests.cmp e.0.1 tail.rest) under (apart_turned s e.0.0 n) in
      record { place = suc tail.place; rest = tail.rest; is = tail.is; before = before_cons e es s tail.place here tail.before; under = tail.under; under_is = under_other s e es n ∙ tail.under_is })

  -- the session of a row has a first row
  pub some_first : (es : List Row) (j : ℕ) (e : Row) → slice_get es j ≡ Some e → (f : ℕ) × (first_of rests e.0.0 es ≡ Some f)
  some_first [] j e at = cc
  some_first (d ∷ ds) zero e at =
      let is : d ≡ e = cc in
      (d.1, first_same e.0.0 d ds (ap (λ (z : Row). eq_by_cmp sessions.cmp e.0.0 z.0.0) is ∙ tied_self sessions e.0.0))
  some_first (d ∷ ds) (suc j) e at =
      let rest = some_first ds j e at in
      either (eq_by_cmp sessions.cmp e.0.0 d.0.0) {C = (f : ℕ) × (first_of rests e.0.0 (d ∷ ds) ≡ Some f)}
      (λ t. (d.1, first_same e.0.0 d ds t))
      (λ n. (rest.0, first_other e.0.0 d ds n ∙ rest.1))

-- ---- heads
head_found : (heads : List Head) (s : Session) (f : ℕ) → find sessions.cmp s (each head_row heads) ≡ Some f → (m : ℕ) × (h : Head) × (slice_get heads m ≡ Some h) × (h.session ≡ s)
head_found [] s f e = cc
head_found (h ∷ hs) s f e =
    either (eq_by_cmp sessions.cmp s h.session) {C = (m : ℕ) × (g : Head) × (slice_get (h ∷ hs) m ≡ Some g) × (g.session ≡ s)}
    (λ t. (0, h, refl, sym (tied_same sessions s h.session t)))
    (λ n.
    let skip : find sessions.cmp s (each head_row (h ∷ hs)) ≡ find sessions.cmp s (each head_row hs) = ap (λ b. cond b (Some h.first) (find sessions.cmp s (each head_row hs))) n in
    let rest = head_found hs s f (sym skip ∙ e) in
    (suc rest.0, rest.1, rest.2, rest.3))

pub head_leads : (heads : List Head) (k : ℕ) (h : Head) → T (is_sorted sessions.cmp (each head_row heads)) → slice_get heads k ≡ Some h
    → find sessions.cmp h.session (each head_row heads) ≡ Some h.first
head_leads [] k h up at = cc
head_leads (g ∷ gs) zero h up at =
    let is : g ≡ h = cc in
    ap (λ b. cond b (Some g.first) (find sessions.cmp h.session (each head_row gs))) (ap (λ (z : Head). eq_by_cmp sessions.cmp h.session z.session) is ∙ tied_self sessions h.session)
    ∙ ap (λ (z : Head). Some z.first) is
head_leads (g ∷ gs) (suc k) h up at =
    let over : sessions.cmp g.session h.session ≡ Less = below_heads gs k (first _ _ up) at in
    let ne : eq_by_cmp sessions.cmp h.session g.session ≡ false = ap is_eq (sessions.total.antisymm h.session g.session ∙ ap ordering_reverse over) in
    ap (λ b. cond b (Some g.first) (find sessions.cmp h.session (each head_row gs))) ne ∙ head_leads gs k h (second _ _ up) at
  where
    below_heads : (hs : List Head) (j : ℕ) → T (below_all sessions.cmp g.session (each head_row hs)) → slice_get hs j ≡ Some h → sessions.cmp g.session h.session ≡ Less
    below_heads [] j b at = cc
    below_heads (d ∷ ds) zero b at = let is : d ≡ h = cc in ap (λ (z : Head). sessions.cmp g.session z.session) (sym is) ∙ less _ (first _ _ b)
    below_heads (d ∷ ds) (suc j) b at = below_heads ds j (second _ _ b) at

module _ {R : Type 0} (rests : Keys R) (keys : List (Option (Session × R))) (slots : List ℕ) (heads : List Head) (a : AreLists rests keys slots heads) where
  -- the head of a row's session
  pub head_of_row : (j : ℕ) (e : (Session × R) × ℕ) → slice_get (rows_of keys slots) j ≡ Some e → (m : ℕ) × (h : Head) × (slice_get heads m ≡ Some h) × (h.session ≡ e.0.0)
  head_of_row j e at = let f = some_first rests (rows_of keys slots) j e at in head_found heads e.0.0 f.0 (a.firsts e.0.0 ∙ f.1)

  -- a walk can begin at the first row of the key's session
  pub start_own : (s : Session) (r : R) (f : ℕ) → find sessions.cmp s (each head_row heads) ≡ Some f → IsStart rests keys slots (s, r) (Some f)
  start_own s r f led =
      let i = first_found rests (rows_of keys slots) a.sorted s f (sym (a.firsts s) ∙ led) in
      let back = row_back keys slots i.place ((s, i.rest), f) a.full i.is in
      record {
        place = i.place;
        within = let lt = slice_get_within slots i.place f back.0 in omega (arith, lt);
        is = back.0;
        before = λ j e lt at. ap (λ z. ordering_then z (rests.cmp e.0.1 r)) (i.before j e lt at);
      }

module _ {R : Type 0} (rests : Keys R) (keys : List (Option (Session × R))) (slots : List ℕ) (full : AreFull keys slots) where
  -- ---- a walk
  pub stepped : (key : Session × R) (at : Option ℕ) (w : IsStart rests keys slots key at) (s : ℕ) (k : Session × R) → at ≡ Some s → slice_get keys s ≡ Some (Some k) → (row_keys rests).cmp k key ≡ Less
      → (next : Option ℕ) → next ≡ slice_get slots (w.place + 1) → (x : IsStart rests keys slots key next) × (x.place ≡ w.place + 1)
  stepped key at w s k at_is k_is lt next next_is =
      let in_ = w.is ∙ at_is in (
        record {
          place = w.place + 1;
          within = let l = slice_get_within slots w.place s in_ in omega (arith, l);
          is = sym next_is;
          before = λ j e low is. elim (cases_eq j w.place) [
            | inl same ↦
                let both : Some (k, s) ≡ Some e = sym (row_at keys slots w.place s k full in_ k_is) ∙ ap (slice_get (rows_of keys slots)) (sym same) ∙ is in
                let e_is : (k, s) ≡ e = cc in
                ap (λ (z : (Session × R) × ℕ). (row_keys rests).cmp z.0 key) (sym e_is) ∙ lt
            | inr ne ↦ w.before j e (omega (arith, low, ne)) is
          ];
        },
        refl,
      )

  pub stopped : (key : Session × R) (at : Option ℕ) (w : IsStart rests keys slots key at) (s : ℕ) (k : Session × R) → at ≡ Some s → slice_get keys s ≡ Some (Some k)
      → is_lt ((row_keys rests).cmp k key) ≡ false → IsPlace rests keys slots key at
  stopped key at w s k at_is k_is ge =
      record {
        start = w;
        here = λ e is lt.
            let both : Some (k, s) ≡ Some e = sym (row_at keys slots w.place s k full (w.is ∙ at_is) k_is) ∙ is in
            let e_is : (k, s) ≡ e = cc in
            let z : true ≡ false = sym (ap is_lt (ap (λ (z : (Session × R) × ℕ). (row_keys rests).cmp z.0 key) e_is ∙ lt)) ∙ ge in
            cc;
      }

  pub at_end : (key : Session × R) (at : Option ℕ) (w : IsStart rests keys slots key at) → at ≡ None → IsPlace rests keys slots key at
  at_end key at w none = record { start = w; here = λ e is lt. let z : Some e ≡ None = sym is ∙ no_row keys slots w.place full (w.is ∙ none) in cc }
