-- The slots of the wants of each node, while wants come and go.
use Rattle.std.specs.Prelude.{◌≡◌, ◌<◌, ◌+◌, ◌↔◌, ℕ, ◌==◌, Bool, true, false, cond, not, ◌&&◌, ◌||◌, if◌then◌else◌, IsTrue, List, [], ◌∷◌, ◌++◌, map as each, Option, Some, None, Result, Ok}
use Rattle.std.specs.Prelude.{Err, OnErr, length, set, get_or, take, refl}
use Rattle.std.specs.List.{All, filter, list_all}
use Rattle.std.specs.Ordering.{eq_by_cmp}
use Rattle.std.proofs.Common.{ap, sym, subst, ◌∙◌, ⊎_elim, append_assoc, arith, inl, inr, zero, suc}
use Rattle.std.proofs.lemmas.Bool.{false≢true}
use Rattle.std.proofs.lemmas.Bool.Decides.{eqb_tells}
use Rattle.std.proofs.lemmas.List.{append-nil, get_or-set_same, get_or-set_other, length-map, take_more}
use Rattle.std.proofs.lemmas.List.Elements.{filter_agree}
use Rattle.rsvp_base.specs.Members.{In}
use Rattle.rsvp_base.specs.Orders.{styles as by_style, units as by_unit}
use Rattle.rsvp_base.specs.Styles.{part_unit}
use Rattle.rsvp_base.specs.declared.session.Session.{Session}
use Rattle.rsvp_base.specs.declared.style.StyleKind.{StyleKind}
use Rattle.rsvp_base.proofs.Members.{all_in, in_all, in_filter, in_each, to_each, to_filter}
use Rattle.rsvp_base.proofs.Tables.{tied_same, tied_self}
use Rattle.tree_model.specs.declared.locals.LocalWant.{LocalWant}
use Rattle.script_grammar.specs.Adds.{is_in_place_of, is_want_at, wants_at}
use Rattle.script_grammar.specs.Draft.{same_session}
use Rattle.script_rules.specs.declared.entries.Entry.{Entry}
use Rattle.script_rules.specs.declared.entries.Which.{Which}
use Rattle.script_rules.specs.Entries.{AreListed, cleared, fits, is_meant, is_meant_at, is_of_node, is_of_session, placed, entry_of, standing, entries_in, entries_of, with_slot, with_slots}
use Rattle.script_rules.proofs.Members.{all_in_of, in_all_of}
use Rattle.script_rules.proofs.Sifting.{filter_each, filter_twice}
use Rattle.script_rules.proofs.Slots.{entries_here, entries_more, entries_there, in_its_slot, standing_after, standing_more, standing_none}

-- ---- lists of nodes
pub one_list_more : {A : Type 0} (lists : List (List A)) (n : ℕ) → get_or (lists ++ [] ∷ []) n [] ≡ get_or lists n []
one_list_more [] zero = refl
one_list_more [] (suc n) = refl
one_list_more (l ∷ lists) zero = refl
one_list_more (l ∷ lists) (suc n) = one_list_more lists n

-- the list of a node with something done to it, which leaves an empty list empty
pub list_changed : {A : Type 0} (f : List A → List A) → f [] ≡ [] → (lists : List (List A)) (n : ℕ) → get_or (set lists n (f (get_or lists n []))) n [] ≡ f (get_or lists n [])
list_changed f none [] n = sym none
list_changed f none (l ∷ lists) zero = refl
list_changed f none (l ∷ lists) (suc n) = list_changed f none lists n

-- a list that one of another form stands for
pub list_at : {V A : Type 0} (f : V → List A) (vs : List V) (n : ℕ) (d : V) → n < length vs → get_or (each f vs) n [] ≡ f (get_or vs n d)
list_at f [] n d lt = absurd (omega (arith, lt))
list_at f (v ∷ vs) zero d lt = refl
list_at f (v ∷ vs) (suc n) d lt = list_at f vs n d (omega (arith, lt))

-- an element set to one that stands for the same
pub each_same : {V A : Type 0} (f : V → A) (vs : List V) (n : ℕ) (v d : V) → f v ≡ f (get_or vs n d) → each f (set vs n v) ≡ each f vs
each_same f [] n v d same = refl
each_same f (x ∷ vs) zero v d same = ap (λ y. y ∷ each f vs) same
each_same f (x ∷ vs) (suc n) v d same = ap (λ l. f x ∷ l) (each_same f vs n v d same)

pub on_err : {A E P : Type 0} (r : Result A E) → P → OnErr r P
on_err (Ok a) p = tt
on_err (Err e) p = p

-- one more in the list of a node
pub one_entry_more : (lists : List (List Entry)) (node : ℕ) (entry : Entry) → node < length lists → (n : ℕ)
    → entries_in (set lists node (entries_in lists node ++ entry ∷ [])) n ≡ entries_in lists n ++ cond (node == n) (entry ∷ []) []
one_entry_more lists node entry lt n = ⊎_elim
    (λ t. let same : n ≡ node = sym t.1 in
    ap (λ k. entries_in (set lists node (entries_in lists node ++ entry ∷ [])) k) same
    ∙ get_or-set_same lists node (entries_in lists node ++ entry ∷ []) [] lt
    ∙ ap (λ k. entries_in lists k ++ entry ∷ []) t.1
    ∙ ap (λ b. entries_in lists n ++ cond b (entry ∷ []) []) (sym t.0))
    (λ t. get_or-set_other lists node n (entries_in lists node ++ entry ∷ []) [] (λ e. t.1 (sym e))
    ∙ sym (append-nil (entries_in lists n))
    ∙ ap (λ b. entries_in lists n ++ cond b (entry ∷ []) []) (sym t.0))
    (eqb_tells node n)

-- ---- a want behind all others
pub listed_more : (slots : List (Option LocalWant)) (old new : List (List Entry)) (w : LocalWant) → AreListed slots old
    → ((n : ℕ) → entries_in new n ≡ entries_in old n ++ cond (w.node == n) (entry_of (length slots, w) ∷ []) [])
    → AreListed (slots ++ Some w ∷ []) new
listed_more slots old new w listed more n =
    more n ∙ ap (λ l. l ++ cond (w.node == n) (entry_of (length slots, w) ∷ []) []) (listed n) ∙ sym (entries_more slots n w)

-- ---- the wants in the slots so far
module _ (slots : List (Option LocalWant)) (i : ℕ) (lt : i < length slots) where
  -- the next slot has a want, or is empty
  pub next_full : (d : Option LocalWant) (w : LocalWant) → get_or slots i d ≡ Some w → standing (take (i + 1) slots) ≡ standing (take i slots) ++ w ∷ []
  next_full d w is = ap (λ xs. standing xs) (take_more slots i d lt) ∙ ap (λ one. standing (take i slots ++ one ∷ [])) is ∙ standing_more (take i slots) w

  pub next_empty : (d : Option LocalWant) → get_or slots i d ≡ None → standing (take (i + 1) slots) ≡ standing (take i slots)
  next_empty d is = ap (λ xs. standing xs) (take_more slots i d lt) ∙ ap (λ one. standing (take i slots ++ one ∷ [])) is ∙ standing_none (take i slots)

-- ---- those that are meant taken out
module _ (slots : List (Option LocalWant)) (lists : List (List Entry)) (n : ℕ) (which : Which) (listed : AreListed slots lists) where
  abbrev rest : List Entry → List Entry
  rest ss = filter (λ s. not (is_meant which s)) ss

  pub listed_out : AreListed (cleared which slots (entries_in lists n)) (set lists n (rest (entries_in lists n)))
  listed_out m = ⊎_elim
      (λ t. let same : m ≡ n = sym t.1 in
      ap (λ k. entries_in (set lists n (rest (entries_in lists n))) k) same
      ∙ list_changed rest refl lists n
      ∙ ap rest (listed n)
      ∙ sym (entries_here which n slots)
      ∙ ap (λ ss. entries_of n (cleared which slots ss)) (sym (listed n))
      ∙ ap (λ k. entries_of k (cleared which slots (entries_in lists n))) t.1)
      (λ t. get_or-set_other lists n m (rest (entries_in lists n)) [] (λ e. t.1 (sym e))
      ∙ listed m
      ∙ sym (entries_there which n slots m (λ e. t.1 (sym e)))
      ∙ ap (λ ss. entries_of m (cleared which slots ss)) (sym (listed n)))
      (eqb_tells n m)

  pub standing_out : standing (cleared which slots (entries_in lists n)) ≡ filter (λ w. not (is_meant_at n which w)) (standing slots)
  standing_out = ap (λ ss. standing (cleared which slots ss)) (listed n) ∙ standing_after which n slots

-- ---- which are meant
and_assoc : (a b c : Bool) → (a && (b && c)) ≡ ((a && b) && c)
and_assoc true b c = refl
and_assoc false b c = refl

and_true : (a b : Bool) → (a && (b && true)) ≡ (a && b)
and_true true true = refl
and_true true false = refl
and_true false b = refl

-- the one of the unit of a want
pub in_its_place : (new : LocalWant) (ws : List LocalWant) → filter (λ w. not (is_meant_at new.node (record { session = new.session; one = Some (new.style, part_unit new.style new.part) }) w)) ws
    ≡ filter (λ w. not (is_in_place_of new w)) ws
in_its_place new ws = filter_agree _ (λ (w : LocalWant). not (is_in_place_of new w)) (λ w. ap not
    (and_assoc (w.node == new.node) (same_session new.session w.session) (eq_by_cmp by_style.cmp new.style w.style
    && eq_by_cmp by_unit.cmp (part_unit new.style new.part) (part_unit w.style w.part)))) ws

-- all of a session at a node
pub of_its_session : (n : ℕ) (s : Session) (ws : List LocalWant) → filter (λ w. not (is_meant_at n (record { session = s; one = None }) w)) ws ≡ filter (λ w. not (is_want_at n s w)) ws
of_its_session n s ws = filter_agree _ (λ (w : LocalWant). not (is_want_at n s w)) (λ w. ap not (and_true (w.node == n) (same_session s w.session))) ws

-- ---- the wants of a session at a node
module _ (slots : List (Option LocalWant)) (n : ℕ) (s : Session) where
  abbrev there : List (ℕ × LocalWant)
  there = filter (λ e. is_want_at n s e.1) (placed slots)

  wants_there : wants_at (standing slots) n s ≡ each (λ e. e.1) there
  wants_there = filter_each (λ (e : ℕ × LocalWant). e.1) (is_want_at n s) (placed slots)

  entries_found : filter (is_of_session s) (entries_of n slots) ≡ each entry_of there
  entries_found =
      filter_each entry_of (is_of_session s) (filter (is_of_node n) (placed slots))
      ∙ ap (each entry_of) (filter_twice (is_of_node n) (λ (e : ℕ × LocalWant). is_of_session s (entry_of e)) (placed slots))

  pub as_many : length (filter (is_of_session s) (entries_of n slots)) ≡ length (wants_at (standing slots) n s)
  as_many =
      ap length entries_found ∙ length-map there entry_of ∙ sym (length-map there (λ (e : ℕ × LocalWant). e.1)) ∙ ap length (sym wants_there)

  -- each is drawn from its slot
  abbrev those : List (ℕ × LocalWant) → List LocalWant
  those es = each (λ e. e.1) (filter (λ e. is_of_session s (entry_of e)) es)

  drawn : (es : List (ℕ × LocalWant)) (own : List LocalWant) → ((e : ℕ × LocalWant) → In e es → get_or slots e.0 None ≡ Some e.1)
      → with_slots s slots own (each entry_of es) ≡ own ++ those es
  drawn [] own h = sym (append-nil own)
  drawn (e ∷ es) own h = by (is_of_session s (entry_of e)) (λ first. drawn es first (λ x i. h x (inr i)))
    where
      by : (b : Bool) → ((first : List LocalWant) → with_slots s slots first (each entry_of es) ≡ first ++ those es)
          → with_slots s slots (if b then with_slot own (get_or slots e.0 None) else own) (each entry_of es)
          ≡ own ++ each (λ x. x.1) (cond b (e ∷ filter (λ x. is_of_session s (entry_of x)) es) (filter (λ x. is_of_session s (entry_of x)) es))
      by true more =
          ap (λ (o : Option LocalWant). with_slots s slots (with_slot own o) (each entry_of es)) (h e (inl refl))
          ∙ more (own ++ e.1 ∷ [])
          ∙ append_assoc own (e.1 ∷ []) (those es)
      by false more = more own

  pub own_drawn : with_slots s slots [] (entries_of n slots) ≡ wants_at (standing slots) n s
  own_drawn =
      drawn (filter (is_of_node n) (placed slots)) [] (λ e i. let place = in_filter (is_of_node n) e (placed slots) i in in_its_slot 0 slots e place.0 e.0 (omega arith))
      ∙ ap (each (λ (e : ℕ × LocalWant). e.1)) (filter_twice (is_of_node n) (λ (e : ℕ × LocalWant). is_of_session s (entry_of e)) (placed slots))
      ∙ sym wants_there

  module _ (style : StyleKind) where
    fits_one : (x : Entry) (b : Bool) → (not b || eq_by_cmp by_style.cmp x.style style) ≡ true → b ≡ true → x.style ≡ style
    fits_one x true t e = tied_same by_style x.style style t
    fits_one x false t e = absurd (false≢true e)

    one_fits : (x : Entry) (b : Bool) → is_of_session s x ≡ b → (is_of_session s x ≡ true → x.style ≡ style) → (not b || eq_by_cmp by_style.cmp x.style style) ≡ true
    one_fits x true e same = subst (λ (st : StyleKind). eq_by_cmp by_style.cmp x.style st ≡ true) (same e) (tied_self by_style x.style)
    one_fits x false e same = refl

    all_fit : list_all (fits s style) (entries_of n slots) ≡ true → All (λ (w : LocalWant). w.style ≡ style) (wants_at (standing slots) n s)
    all_fit t = in_all_of (λ (w : LocalWant). w.style ≡ style) (wants_at (standing slots) n s) (λ w i.
        let from = in_each (λ (e : ℕ × LocalWant). e.1) w there (subst (λ (ws : List LocalWant). In w ws) wants_there i) in
        let x = entry_of from.0 in
        let k = in_filter (is_of_session s) x (entries_of n slots) (subst (λ (ss : List Entry). In x ss) (sym entries_found) (to_each entry_of from.0 there from.1)) in
        ap (λ (v : LocalWant). v.style) from.2 ∙ fits_one x (is_of_session s x) (all_in (fits s style) (entries_of n slots) t x k.0) k.1)

    fit_all : All (λ (w : LocalWant). w.style ≡ style) (wants_at (standing slots) n s) → list_all (fits s style) (entries_of n slots) ≡ true
    fit_all all = in_all (fits s style) (entries_of n slots) (λ x i. one_fits x (is_of_session s x) refl (λ e.
        let from = in_each entry_of x there (subst (λ (ss : List Entry). In x ss) entries_found (to_filter (is_of_session s) x (entries_of n slots) i e)) in
        let w = from.0.1 in
        ap (λ (y : Entry). y.style) from.2
        ∙ all_in_of (λ (v : LocalWant). v.style ≡ style) (wants_at (standing slots) n s) all w
        (subst (λ (ws : List LocalWant). In w ws) (sym wants_there) (to_each (λ (e : ℕ × LocalWant). e.1) from.0 there from.1))))

    pub of_style : IsTrue (list_all (fits s style) (entries_of n slots)) ↔ All (λ (w : LocalWant). w.style ≡ style) (wants_at (standing slots) n s)
    of_style = (all_fit, fit_all)
