-- The index and what it leads to, as a slot changes.
use Rattle.std.proofs.Common.{◌≡◌, ◌<◌, ◌+◌, ℕ, false, cond, not, is_some, List, length, set, map as each, Option, Some, None, refl, sym, ap, ◌∙◌, arith, inl, inr}
use Rattle.std.specs.Prelude.{slice_get, replicate}
use Rattle.std.specs.Ordering.{eq_by_cmp}
use Rattle.std.proofs.lemmas.Bool.{both_ways, cases_eq}
use Rattle.rsvp_base.proofs.SessionCounts.{size-without}
use Rattle.rsvp_base.specs.Keys.{Keys}
use Rattle.rsvp_base.specs.Table.{Table, get, size, empty, put_in, without, changed}
use Rattle.rsvp_base.specs.declared.session.Session.{Session}
use Rattle.rsvp_base.proofs.Tables.{either, tied_same, tied_self, get-put_in_same, get-put_in_other, size-put_in, get-without, same_table, then_do, get-changed}
use Rattle.soft_table.specs.declared.cell.Cell.{Cell}
use Rattle.soft_table.specs.declared.cell.Cell.TheVariants.{Free}
use Rattle.soft_table.specs.Cells.{aged}
use Rattle.soft_table.specs.Facts.{fact_keys}
use Rattle.soft_table.specs.Index.{value_in, IsLinked}
use Rattle.soft_table.proofs.PoolSlots.{within, set_read, set_elsewhere}
use Rattle.soft_table.proofs.Slots.{value_within, counts, used_set, used_none, used_freed, none_in, none_freed, value_later, used_later}

pub turned : {K : Type 0} (o : Keys K) (q k : K) → eq_by_cmp o.cmp q k ≡ false → eq_by_cmp o.cmp k q ≡ false
turned o q k apart =
    either (eq_by_cmp o.cmp k q)
    (λ t. absurd (both_ways (eq_by_cmp o.cmp q k) apart (ap (λ z. eq_by_cmp o.cmp q z) (tied_same o k q t) ∙ tied_self o q)))
    (λ t. t)

-- ---- a row in a table, or none
module _ {K X : Type 0} (o : Keys K) where
  abbrev pub in_place : Table o X → K → Option X → Table o X
  in_place m k None = without m k
  in_place m k (Some v) = put_in m k v

  pub in_place_same : (m : Table o X) (k : K) (v : Option X) → get (in_place m k v) k ≡ v
  in_place_same m k None = get-without o m k k ∙ ap (λ b. cond (not b) (get m k) None) (tied_self o k)
  in_place_same m k (Some v) = get-put_in_same o m k v

  pub in_place_other : (m : Table o X) (k : K) (v : Option X) (q : K) → eq_by_cmp o.cmp q k ≡ false → get (in_place m k v) q ≡ get m q
  in_place_other m k None q apart = get-without o m k q ∙ ap (λ b. cond (not b) (get m q) None) (turned o q k apart)
  in_place_other m k (Some v) q apart = get-put_in_other o m k v q apart

module _ {F R : Type 0} (rests : Keys R) (key : F → Session × R) where
  abbrev o : Keys (Session × R)
  o = fact_keys rests

  -- what is read in the slots that the keys lead to
  abbrev pub seen : {Y : Type 0} → (Option (Cell F) → Option Y) → List (Cell F) → Table (fact_keys rests) ℕ → Table (fact_keys rests) Y
  seen read cells m = changed (λ k s. read (slice_get cells s)) m

  pub get-seen : {Y : Type 0} (read : Option (Cell F) → Option Y) (cells : List (Cell F)) (m : Table (fact_keys rests) ℕ) (q : Session × R)
      → get (seen read cells m) q ≡ then_do (get m q) (λ s. read (slice_get cells s))
  get-seen read cells m q = get-changed o (λ k s. read (slice_get cells s)) m q

  module _ (cells : List (Cell F)) (m : Table (fact_keys rests) ℕ) (linked : IsLinked rests key cells m) where
    -- two keys lead to two slots
    slots_apart : (q k : Session × R) (s t : ℕ) → eq_by_cmp o.cmp q k ≡ false → get m q ≡ Some s → get m k ≡ Some t → s ≡ t → ⊥
    slots_apart q k s t apart at_q at_k same =
        let f = linked.holds q s at_q in
        let g = linked.holds k t at_k in
        let one : Some f.0 ≡ Some g.0 = sym f.1 ∙ ap (λ n. value_in (slice_get cells n)) same ∙ g.1 in
        let is : f.0 ≡ g.0 = cc in
        both_ways (eq_by_cmp o.cmp q k) apart (ap (λ z. eq_by_cmp o.cmp q z) (sym g.2 ∙ ap key (sym is) ∙ f.2) ∙ tied_self o q)

    -- ---- the slot of a key with another content
    module _ (k : Session × R) (t : ℕ) (at : get m k ≡ Some t) (c : Cell F) where
      there : t < length cells
      there = let g = linked.holds k t at in value_within cells t g.0 g.1

      other_read : {Y : Type 0} (read : Option (Cell F) → Option Y) (q : Session × R) → eq_by_cmp o.cmp q k ≡ false
          → then_do (get m q) (λ s. read (slice_get (set cells t c) s)) ≡ then_do (get m q) (λ s. read (slice_get cells s))
      other_read read q apart = by (get m q) refl
        where
          by : (w : Option ℕ) → get m q ≡ w → then_do w (λ s. read (slice_get (set cells t c) s)) ≡ then_do w (λ s. read (slice_get cells s))
          by None e = refl
          by (Some s) e = ap read (set_elsewhere cells t s c (slots_apart q k s t apart e at))

      pub seen_replaced : {Y : Type 0} (read : Option (Cell F) → Option Y) → seen read (set cells t c) m ≡ in_place o (seen read cells m) k (read (Some c))
      seen_replaced read =
          same_table o _ _ (λ q. either (eq_by_cmp o.cmp q k)
          (λ tie.
          let is = tied_same o q k tie in
          ap (get (seen read (set cells t c) m)) is ∙ get-seen read (set cells t c) m k ∙ ap (λ w. then_do w (λ s. read (slice_get (set cells t c) s))) at ∙ ap read (set_read cells t c there)
          ∙ sym (in_place_same o (seen read cells m) k (read (Some c))) ∙ ap (get (in_place o (seen read cells m) k (read (Some c)))) (sym is))
          (λ apart.
          get-seen read (set cells t c) m q ∙ other_read read q apart ∙ sym (get-seen read cells m q) ∙ sym (in_place_other o (seen read cells m) k (read (Some c)) q apart)))

      -- out of the index and out of its slot
      pub seen_taken : {Y : Type 0} (read : Option (Cell F) → Option Y) → seen read (set cells t c) (without m k) ≡ without (seen read cells m) k
      seen_taken read =
          same_table o _ _ (λ q. either (eq_by_cmp o.cmp q k)
          (λ tie.
          let is = tied_same o q k tie in
          ap (get (seen read (set cells t c) (without m k))) is ∙ get-seen read (set cells t c) (without m k) k
          ∙ ap (λ w. then_do w (λ s. read (slice_get (set cells t c) s))) (in_place_same o m k None)
          ∙ sym (in_place_same o (seen read cells m) k None) ∙ ap (get (without (seen read cells m) k)) (sym is))
          (λ apart.
          get-seen read (set cells t c) (without m k) q ∙ ap (λ w. then_do w (λ s. read (slice_get (set cells t c) s))) (in_place_other o m k None q apart) ∙ other_read read q apart
          ∙ sym (get-seen read cells m q)
          ∙ sym (in_place_other o (seen read cells m) k None q apart)))

      -- the index is still one where the key's fact changes
      pub linked_replaced : (old : Cell F) (f : F) → slice_get cells t ≡ Some old → counts old ≡ counts c → value_in (Some c) ≡ Some f → key f ≡ k → IsLinked rests key (set cells t c) m
      linked_replaced old f was count has is =
          record {
            holds = λ q s at_q. either (eq_by_cmp o.cmp q k)
                (λ tie.
                let one = tied_same o q k tie in
                let same : Some s ≡ Some t = sym at_q ∙ ap (get m) one ∙ at in
                let place : s ≡ t = cc in
                (f, ap (λ n. value_in (slice_get (set cells t c) n)) place ∙ ap value_in (set_read cells t c there) ∙ has, is ∙ sym one))
                (λ apart.
                let g = linked.holds q s at_q in
                (g.0, ap value_in (set_elsewhere cells t s c (slots_apart q k s t apart at_q at)) ∙ g.1, g.2));
            finds = λ s g in_s. elim (cases_eq s t) [
              | inl same ↦
                  let one : Some f ≡ Some g = sym has ∙ ap value_in (sym (set_read cells t c there)) ∙ ap (λ n. value_in (slice_get (set cells t c) n)) (sym same) ∙ in_s in
                  let g_is : f ≡ g = cc in
                  ap (get m) (ap key (sym g_is) ∙ is) ∙ at ∙ ap Some (sym same)
              | inr apart ↦ linked.finds s g (ap value_in (sym (set_elsewhere cells t s c apart)) ∙ in_s)
            ];
            each = let u = used_set cells t old c was in omega (arith, u, count, linked.each);
          }

      -- and where it goes
      pub linked_taken : (old : Cell F) → slice_get cells t ≡ Some old → counts old ≡ 1 → c ≡ Free → IsLinked rests key (set cells t c) (without m k)
      linked_taken old was count free =
          record {
            holds = λ q s at_q. either (eq_by_cmp o.cmp q k)
                (λ tie. let none : None ≡ Some s = sym (in_place_same o m k None) ∙ ap (get (without m k)) (sym (tied_same o q k tie)) ∙ at_q in absurd (cc))
                (λ apart.
                let before : get m q ≡ Some s = sym (in_place_other o m k None q apart) ∙ at_q in
                let g = linked.holds q s before in
                (g.0, ap value_in (set_elsewhere cells t s c (slots_apart q k s t apart before at)) ∙ g.1, g.2));
            finds = λ s g in_s. elim (cases_eq s t) [
              | inl same ↦ let none : None ≡ Some g = ap (λ (x : Cell F). value_in (Some x)) (sym free) ∙ ap value_in (sym (set_read cells t c there)) ∙ ap (λ n. value_in (slice_get (set cells t c) n)) (sym same) ∙ in_s in absurd (cc)
              | inr apart ↦
                  let before = linked.finds s g (ap value_in (sym (set_elsewhere cells t s c apart)) ∙ in_s) in
                  in_place_other o m k None (key g) (keys_apart (key g) s before apart) ∙ before
            ];
            each = let u = used_set cells t old c was in omega (arith, u, count, ap counts free, linked.each, size-without o m k t at);
          }
        where
          keys_apart : (q : Session × R) (s : ℕ) → get m q ≡ Some s → (s ≡ t → ⊥) → eq_by_cmp o.cmp q k ≡ false
          keys_apart q s at_q ne =
              either (eq_by_cmp o.cmp q k)
              (λ tie. let same : Some s ≡ Some t = sym at_q ∙ ap (get m) (tied_same o q k tie) ∙ at in let place : s ≡ t = cc in absurd (ne place))
              (λ apart. apart)

    -- ---- a new key, in a free slot
    module _ (k : Session × R) (t : ℕ) (new : get m k ≡ None) (free : slice_get cells t ≡ Some Free) (c : Cell F) where
      free_apart : (q : Session × R) (s : ℕ) → get m q ≡ Some s → s ≡ t → ⊥
      free_apart q s at_q same =
          let g = linked.holds q s at_q in
          let none : None ≡ Some g.0 = ap value_in (sym free) ∙ ap (λ n. value_in (slice_get cells n)) (sym same) ∙ g.1 in
          cc

      rest_read : {Y : Type 0} (read : Option (Cell F) → Option Y) (q : Session × R) → then_do (get m q) (λ s. read (slice_get (set cells t c) s)) ≡ then_do (get m q) (λ s. read (slice_get cells s))
      rest_read read q = by (get m q) refl
        where
          by : (w : Option ℕ) → get m q ≡ w → then_do w (λ s. read (slice_get (set cells t c) s)) ≡ then_do w (λ s. read (slice_get cells s))
          by None e = refl
          by (Some s) e = ap read (set_elsewhere cells t s c (free_apart q s e))

      pub seen_new : {Y : Type 0} (read : Option (Cell F) → Option Y) → seen read (set cells t c) (put_in m k t) ≡ in_place o (seen read cells m) k (read (Some c))
      seen_new read =
          same_table o _ _ (λ q. either (eq_by_cmp o.cmp q k)
          (λ tie.
          let is = tied_same o q k tie in
          ap (get (seen read (set cells t c) (put_in m k t))) is ∙ get-seen read (set cells t c) (put_in m k t) k
          ∙ ap (λ w. then_do w (λ s. read (slice_get (set cells t c) s))) (get-put_in_same o m k t)
          ∙ ap read (set_read cells t c (within cells t Free free))
          ∙ sym (in_place_same o (seen read cells m) k (read (Some c))) ∙ ap (get (in_place o (seen read cells m) k (read (Some c)))) (sym is))
          (λ apart.
          get-seen read (set cells t c) (put_in m k t) q ∙ ap (λ w. then_do w (λ s. read (slice_get (set cells t c) s))) (get-put_in_other o m k t q apart) ∙ rest_read read q
          ∙ sym (get-seen read cells m q)
          ∙ sym (in_place_other o (seen read cells m) k (read (Some c)) q apart)))

      pub linked_new : (f : F) → counts c ≡ 1 → value_in (Some c) ≡ Some f → key f ≡ k → IsLinked rests key (set cells t c) (put_in m k t)
      linked_new f count has is =
          record {
            holds = λ q s at_q. either (eq_by_cmp o.cmp q k)
                (λ tie.
                let one = tied_same o q k tie in
                let same : Some t ≡ Some s = sym (get-put_in_same o m k t) ∙ ap (get (put_in m k t)) (sym one) ∙ at_q in
                let place : t ≡ s = cc in
                (f, ap (λ n. value_in (slice_get (set cells t c) n)) (sym place) ∙ ap value_in (set_read cells t c (within cells t Free free)) ∙ has, is ∙ sym one))
                (λ apart.
                let before : get m q ≡ Some s = sym (get-put_in_other o m k t q apart) ∙ at_q in
                let g = linked.holds q s before in
                (g.0, ap value_in (set_elsewhere cells t s c (free_apart q s before)) ∙ g.1, g.2));
            finds = λ s g in_s. elim (cases_eq s t) [
              | inl same ↦
                  let one : Some f ≡ Some g = sym has ∙ ap value_in (sym (set_read cells t c (within cells t Free free))) ∙ ap (λ n. value_in (slice_get (set cells t c) n)) (sym same) ∙ in_s in
                  let g_is : f ≡ g = cc in
                  ap (get (put_in m k t)) (ap key (sym g_is) ∙ is) ∙ get-put_in_same o m k t ∙ ap Some (sym same)
              | inr apart ↦
                  let before = linked.finds s g (ap value_in (sym (set_elsewhere cells t s c apart)) ∙ in_s) in
                  get-put_in_other o m k t (key g) (new_apart (key g) s before) ∙ before
            ];
            each = let u = used_set cells t Free c free in omega (arith, u, count, linked.each, size-put_in o m k t ∙ ap (λ w. cond (is_some w) (size m) (size m + 1)) new);
          }
        where
          new_apart : (q : Session × R) (s : ℕ) → get m q ≡ Some s → eq_by_cmp o.cmp q k ≡ false
          new_apart q s at_q =
              either (eq_by_cmp o.cmp q k)
              (λ tie. let none : None ≡ Some s = sym new ∙ ap (get m) (sym (tied_same o q k tie)) ∙ at_q in absurd (cc))
              (λ apart. apart)

    -- ---- time
    pub linked_later : (ms : ℕ) → IsLinked rests key (each (aged ms) cells) m
    linked_later ms =
        record {
          holds = λ q s at_q. let g = linked.holds q s at_q in (g.0, value_later ms cells s ∙ g.1, g.2);
          finds = λ s g in_s. linked.finds s g (sym (value_later ms cells s) ∙ in_s);
          each = used_later ms cells ∙ linked.each;
        }

  -- ---- no fact
  pub linked_none : (n : ℕ) → IsLinked rests key (replicate {A = Cell F} n Free) empty
  linked_none n = record { holds = λ q s at_q. cc; finds = λ s g in_s. absurd (none_in n s g in_s); each = used_none F n }

  pub linked_freed : (cells : List (Cell F)) → IsLinked rests key (each {A = Cell F} {B = Cell F} (λ c. Free) cells) empty
  linked_freed cells = record { holds = λ q s at_q. cc; finds = λ s g in_s. absurd (none_freed cells s g in_s); each = used_freed cells }
