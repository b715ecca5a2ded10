-- Wants in slots: one more, one taken out, and those that are meant taken out.
use Rattle.std.specs.Prelude.{◌≡◌, ◌≤◌, ℕ, suc, ◌+◌, ◌==◌, Bool, true, false, cond, not, ◌&&◌, ◌||◌, if◌then◌else◌, List, [], ◌∷◌, ◌++◌, map as each, Option, None, Some, length, set, get_or, refl}
use Rattle.std.specs.List.{filter, list_any}
use Rattle.std.proofs.Common.{ap, sym, subst, ◌∙◌, ⊎_elim, arith, zero}
use Rattle.std.proofs.lemmas.Bool.Decides.{nat_tests}
use Rattle.std.proofs.lemmas.List.{append-nil, map-append}
use Rattle.std.proofs.lemmas.List.Elements.{filter-append, filter_agree}
use Rattle.rsvp_base.specs.Members.{In}
use Rattle.rsvp_base.proofs.Members.{in_each, to_each, in_filter, to_filter, in_any, any_in}
use Rattle.tree_model.specs.declared.locals.LocalWant.{LocalWant}
use Rattle.script_rules.specs.declared.entries.Entry.{Entry}
use Rattle.script_rules.specs.declared.entries.Which.{Which}
use Rattle.script_rules.specs.Entries.{cleared, is_meant, is_meant_at, is_of_node, placed, placed_from, entry_of, standing, entries_of}
use Rattle.script_rules.proofs.Sifting.{filter_all, filter_each, filter_like, filter_twice, one_test}

-- ---- one more
pub placed_more : (k : ℕ) (slots : List (Option LocalWant)) (one : Option LocalWant) → placed_from k (slots ++ one ∷ []) ≡ placed_from k slots ++ placed_from (k + length slots) (one ∷ [])
placed_more k [] one = let same : k ≡ k + 0 = omega arith in ap (λ n. placed_from n (one ∷ [])) same
placed_more k (None ∷ slots) one =
    let same : suc k + length slots ≡ k + suc (length slots) = omega arith in
    placed_more (suc k) slots one ∙ ap (λ n. placed_from (suc k) slots ++ placed_from n (one ∷ [])) same
placed_more k (Some w ∷ slots) one =
    let same : suc k + length slots ≡ k + suc (length slots) = omega arith in
    ap (λ l. (k, w) ∷ l) (placed_more (suc k) slots one ∙ ap (λ n. placed_from (suc k) slots ++ placed_from n (one ∷ [])) same)

module _ (slots : List (Option LocalWant)) where
  pub standing_more : (w : LocalWant) → standing (slots ++ Some w ∷ []) ≡ standing slots ++ w ∷ []
  standing_more w = ap (each (λ (e : ℕ × LocalWant). e.1)) (placed_more 0 slots (Some w)) ∙ map-append (λ (e : ℕ × LocalWant). e.1) (placed slots) _

  pub standing_none : standing (slots ++ None ∷ []) ≡ standing slots
  standing_none = ap (each (λ (e : ℕ × LocalWant). e.1)) (placed_more 0 slots None) ∙ map-append (λ (e : ℕ × LocalWant). e.1) (placed slots) [] ∙ append-nil _

  pub entries_more : (n : ℕ) (w : LocalWant) → entries_of n (slots ++ Some w ∷ []) ≡ entries_of n slots ++ cond (w.node == n) (entry_of (length slots, w) ∷ []) []
  entries_more n w =
      let at : 0 + length slots ≡ length slots = omega arith in
      ap (λ es. each entry_of (filter (is_of_node n) es)) (placed_more 0 slots (Some w) ∙ ap (λ k. placed slots ++ (k, w) ∷ []) at)
      ∙ ap (each entry_of) (filter-append (is_of_node n) (placed slots) ((length slots, w) ∷ []))
      ∙ map-append entry_of (filter (is_of_node n) (placed slots)) _
      ∙ ap (λ l. entries_of n slots ++ l) (by (w.node == n))
    where
      by : (b : Bool) → each entry_of (cond b ((length slots, w) ∷ []) []) ≡ cond b (entry_of (length slots, w) ∷ []) []
      by true = refl
      by false = refl

-- ---- each want is in a slot of its own
above : (k : ℕ) (slots : List (Option LocalWant)) (e : ℕ × LocalWant) → In e (placed_from k slots) → k ≤ e.0
above k [] e i = absurd i
above k (None ∷ slots) e i = let more = above (suc k) slots e i in omega (arith, more)
above k (Some w ∷ slots) e i =
    ⊎_elim (λ (is : e ≡ (k, w)). let at : e.0 ≡ k = ap (λ (x : ℕ × LocalWant). x.0) is in omega (arith, at))
    (λ (j : In e (placed_from (suc k) slots)). let more = above (suc k) slots e j in omega (arith, more)) i

-- it is found in its slot
pub in_its_slot : (k : ℕ) (slots : List (Option LocalWant)) (e : ℕ × LocalWant) → In e (placed_from k slots) → (s : ℕ) → e.0 ≡ k + s → get_or slots s None ≡ Some e.1
in_its_slot k [] e i s at = absurd i
in_its_slot k (None ∷ slots) e i zero at = let more = above (suc k) slots e i in absurd (omega (arith, more, at))
in_its_slot k (None ∷ slots) e i (suc s) at = in_its_slot (suc k) slots e i s (omega (arith, at))
in_its_slot k (Some w ∷ slots) e i zero at =
    ⊎_elim (λ (is : e ≡ (k, w)). ap (λ (x : ℕ × LocalWant). Some x.1) (sym is)) (λ (j : In e (placed_from (suc k) slots)). let more = above (suc k) slots e j in absurd (omega (arith, more, at))) i
in_its_slot k (Some w ∷ slots) e i (suc s) at =
    ⊎_elim (λ (is : e ≡ (k, w)). let first : e.0 ≡ k = ap (λ (x : ℕ × LocalWant). x.0) is in absurd (omega (arith, first, at)))
    (λ (j : In e (placed_from (suc k) slots)). in_its_slot (suc k) slots e j s (omega (arith, at))) i

one_slot : (k : ℕ) (slots : List (Option LocalWant)) (e f : ℕ × LocalWant) → In e (placed_from k slots) → In f (placed_from k slots) → e.0 ≡ f.0 → e ≡ f
one_slot k [] e f i j same = absurd i
one_slot k (None ∷ slots) e f i j same = one_slot (suc k) slots e f i j same
one_slot k (Some w ∷ slots) e f i j same =
    ⊎_elim
    (λ (is : e ≡ (k, w)). ⊎_elim (λ (too : f ≡ (k, w)). is ∙ sym too)
    (λ (q : In f (placed_from (suc k) slots)). let more = above (suc k) slots f q in let at : e.0 ≡ k = ap (λ (x : ℕ × LocalWant). x.0) is in absurd (omega (arith, more, at, same))) j)
    (λ (p : In e (placed_from (suc k) slots)). ⊎_elim
    (λ (too : f ≡ (k, w)). let more = above (suc k) slots e p in let at : f.0 ≡ k = ap (λ (x : ℕ × LocalWant). x.0) too in absurd (omega (arith, more, at, same)))
    (λ (q : In f (placed_from (suc k) slots)). one_slot (suc k) slots e f p q same) j)
    i

-- ---- an emptied slot
other : (k n : ℕ) → (k ≡ n → ⊥) → not (k == n) ≡ true
other k n apart = grind (arith, nat_tests, apart)

past : (k : ℕ) (slots : List (Option LocalWant)) → filter (λ e. not (k == e.0)) (placed_from (suc k) slots) ≡ placed_from (suc k) slots
past k slots = filter_all (λ (e : ℕ × LocalWant). not (k == e.0)) (placed_from (suc k) slots) (λ e i. let more = above (suc k) slots e i in other k e.0 (λ is. omega (arith, more, is)))

itself : (k : ℕ) → not (k == k) ≡ false
itself k = grind (arith, nat_tests)

emptied_from : (k : ℕ) (slots : List (Option LocalWant)) (s : ℕ) → placed_from k (set slots s None) ≡ filter (λ e. not (k + s == e.0)) (placed_from k slots)
emptied_from k [] s = refl
emptied_from k (None ∷ slots) zero = let same : k ≡ k + 0 = omega arith in sym (past k slots) ∙ ap (λ n. filter (λ e. not (n == e.0)) (placed_from (suc k) slots)) same
emptied_from k (Some w ∷ slots) zero =
    let same : k ≡ k + 0 = omega arith in
    sym (past k slots)
    ∙ sym (ap (λ b. cond b ((k, w) ∷ filter (λ e. not (k == e.0)) (placed_from (suc k) slots)) (filter (λ e. not (k == e.0)) (placed_from (suc k) slots))) (itself k))
    ∙ ap (λ n. filter (λ e. not (n == e.0)) ((k, w) ∷ placed_from (suc k) slots)) same
emptied_from k (None ∷ slots) (suc s) =
    let same : suc k + s ≡ k + suc s = omega arith in
    emptied_from (suc k) slots s ∙ ap (λ n. filter (λ e. not (n == e.0)) (placed_from (suc k) slots)) same
emptied_from k (Some w ∷ slots) (suc s) =
    let same : suc k + s ≡ k + suc s = omega arith in
    let apart : not (k + suc s == k) ≡ true = other (k + suc s) k (λ is. omega (arith, is)) in
    ap (λ l. (k, w) ∷ l) (emptied_from (suc k) slots s ∙ ap (λ n. filter (λ e. not (n == e.0)) (placed_from (suc k) slots)) same)
    ∙ sym (ap (λ b. cond b ((k, w) ∷ filter (λ e. not (k + suc s == e.0)) (placed_from (suc k) slots)) (filter (λ e. not (k + suc s == e.0)) (placed_from (suc k) slots))) apart)

emptied : (slots : List (Option LocalWant)) (s : ℕ) → placed (set slots s None) ≡ filter (λ e. not (s == e.0)) (placed slots)
emptied slots s = let same : 0 + s ≡ s = omega arith in emptied_from 0 slots s ∙ ap (λ n. filter (λ e. not (n == e.0)) (placed slots)) same

-- ---- those of a list that are meant
module _ (which : Which) where
  -- one of the list is meant, and in the slot
  abbrev hits : List Entry → ℕ → Bool
  hits ss k = list_any (λ s. is_meant which s && (s.slot == k)) ss

  abbrev without_one : Entry → List (Option LocalWant) → List (Option LocalWant)
  without_one s slots = if is_meant which s then set slots s.slot None else slots

  one_out : (s : Entry) (slots : List (Option LocalWant)) → placed (without_one s slots) ≡ filter (λ e. not (is_meant which s && (s.slot == e.0))) (placed slots)
  one_out s slots = by (is_meant which s)
    where
      by : (b : Bool) → placed (if b then set slots s.slot None else slots) ≡ filter (λ e. not (b && (s.slot == e.0))) (placed slots)
      by true = emptied slots s.slot
      by false = sym (filter_all (λ (e : ℕ × LocalWant). true) (placed slots) (λ e i. refl))

  neither : (a b : Bool) → (not a && not b) ≡ not (a || b)
  neither true b = refl
  neither false b = refl

  all_out : (ss : List Entry) (slots : List (Option LocalWant)) → placed (cleared which slots ss) ≡ filter (λ e. not (hits ss e.0)) (placed slots)
  all_out [] slots = sym (filter_all (λ (e : ℕ × LocalWant). true) (placed slots) (λ e i. refl))
  all_out (s ∷ ss) slots =
      all_out ss (without_one s slots)
      ∙ ap (filter (λ (e : ℕ × LocalWant). not (hits ss e.0))) (one_out s slots)
      ∙ filter_twice (λ (e : ℕ × LocalWant). not (is_meant which s && (s.slot == e.0))) (λ (e : ℕ × LocalWant). not (hits ss e.0)) (placed slots)
      ∙ filter_agree (λ (e : ℕ × LocalWant). not (is_meant which s && (s.slot == e.0)) && not (hits ss e.0)) (λ (e : ℕ × LocalWant). not (hits (s ∷ ss) e.0))
      (λ e. neither (is_meant which s && (s.slot == e.0)) (hits ss e.0)) (placed slots)

  both : (a b : Bool) → (a && b) ≡ true → (a ≡ true) × (b ≡ true)
  both true b e = (refl, e)
  both false b e = absurd (cc)

  and_both : (a b : Bool) → a ≡ true → b ≡ true → (a && b) ≡ true
  and_both a b e f = ap (λ c. c && b) e ∙ f

  same_number : (a b : ℕ) → (a == b) ≡ true → a ≡ b
  same_number a b e = grind (arith, nat_tests, e)

  is_itself : (k : ℕ) → (k == k) ≡ true
  is_itself k = grind (arith, nat_tests)

  module _ (n : ℕ) (slots : List (Option LocalWant)) where
    -- those of the node's list that are meant are the wants that are meant at the node
    hit : (e : ℕ × LocalWant) → In e (placed slots) → hits (entries_of n slots) e.0 ≡ is_meant_at n which e.1
    hit e i = one_test (hits (entries_of n slots) e.0) (is_meant_at n which e.1)
        (λ t.
        let one = in_any (λ (s : Entry). is_meant which s && (s.slot == e.0)) (entries_of n slots) t in
        let from = in_each entry_of one.0 (filter (is_of_node n) (placed slots)) one.1 in
        let there = in_filter (is_of_node n) from.0 (placed slots) from.1 in
        let told = subst (λ (s : Entry). (is_meant which s && (s.slot == e.0)) ≡ true) from.2 one.2 in
        let parts = both (is_meant which (entry_of from.0)) (from.0.0 == e.0) told in
        let same : from.0 ≡ e = one_slot 0 slots from.0 e there.0 i (same_number from.0.0 e.0 parts.1) in
        subst (λ (x : ℕ × LocalWant). (is_of_node n x && is_meant which (entry_of x)) ≡ true) same (and_both (is_of_node n from.0) (is_meant which (entry_of from.0)) there.1 parts.0))
        (λ t.
        let parts = both (e.1.node == n) (is_meant which (entry_of e)) t in
        any_in (λ (s : Entry). is_meant which s && (s.slot == e.0)) (entry_of e) (entries_of n slots)
        (to_each entry_of e (filter (is_of_node n) (placed slots)) (to_filter (is_of_node n) e (placed slots) i parts.0))
        (and_both (is_meant which (entry_of e)) (e.0 == e.0) parts.1 (is_itself e.0)))

    abbrev after : List (Option LocalWant)
    after = cleared which slots (entries_of n slots)

    placed_after : placed after ≡ filter (λ e. not (is_meant_at n which e.1)) (placed slots)
    placed_after =
        all_out (entries_of n slots) slots
        ∙ filter_like (λ (e : ℕ × LocalWant). not (hits (entries_of n slots) e.0)) (λ (e : ℕ × LocalWant). not (is_meant_at n which e.1)) (placed slots) (λ e i. ap not (hit e i))

    pub standing_after : standing after ≡ filter (λ w. not (is_meant_at n which w)) (standing slots)
    standing_after =
        ap (each (λ (e : ℕ × LocalWant). e.1)) placed_after
        ∙ sym (filter_each (λ (e : ℕ × LocalWant). e.1) (λ (w : LocalWant). not (is_meant_at n which w)) (placed slots))

    first_then : (a b c : Bool) → (c ≡ true → a ≡ true) → (not (a && b) && c) ≡ (c && not b)
    first_then true true true f = refl
    first_then true true false f = refl
    first_then true false true f = refl
    first_then true false false f = refl
    first_then false b true f = absurd (let no : false ≡ true = f refl in cc)
    first_then false b false f = refl

    -- of the node all are listed but those that are meant
    pub entries_here : entries_of n after ≡ filter (λ s. not (is_meant which s)) (entries_of n slots)
    entries_here =
        ap (λ es. each entry_of (filter (is_of_node n) es)) placed_after
        ∙ ap (each entry_of) (
        filter_twice (λ (e : ℕ × LocalWant). not (is_meant_at n which e.1)) (is_of_node n) (placed slots)
        ∙ filter_agree (λ (e : ℕ × LocalWant). not (is_meant_at n which e.1) && is_of_node n e) (λ (e : ℕ × LocalWant). is_of_node n e && not (is_meant which (entry_of e)))
        (λ e. first_then (e.1.node == n) (is_meant which (entry_of e)) (is_of_node n e) (λ t. t)) (placed slots)
        ∙ sym (filter_twice (is_of_node n) (λ (e : ℕ × LocalWant). not (is_meant which (entry_of e))) (placed slots)))
        ∙ sym (filter_each entry_of (λ (s : Entry). not (is_meant which s)) (filter (is_of_node n) (placed slots)))

    off : (a b c : Bool) → (c ≡ true → a ≡ false) → (not (a && b) && c) ≡ c
    off true b true f = absurd (let no : true ≡ false = f refl in cc)
    off true true false f = refl
    off true false false f = refl
    off false b c f = refl

    -- of another node nothing changes
    pub entries_there : (m : ℕ) → (m ≡ n → ⊥) → entries_of m after ≡ entries_of m slots
    entries_there m apart =
        ap (λ es. each entry_of (filter (is_of_node m) es)) placed_after
        ∙ ap (each entry_of) (
        filter_twice (λ (e : ℕ × LocalWant). not (is_meant_at n which e.1)) (is_of_node m) (placed slots)
        ∙ filter_agree (λ (e : ℕ × LocalWant). not (is_meant_at n which e.1) && is_of_node m e) (is_of_node m)
        (λ e. off (e.1.node == n) (is_meant which (entry_of e)) (is_of_node m e) (λ t. let at = same_number e.1.node m t in grind (arith, nat_tests, at, apart))) (placed slots))
