-- The memory of a pool after each change, and what it shows.
use Rattle.std.proofs.Common.{◌≡◌, ◌<◌, ◌≤◌, ◌+◌, ◌-◌, ◌%◌, ◌^◌, ◌||◌, ◌++◌, ◌⊎◌, ℕ, zero, suc, Bool, true, false, cond, List, [], ◌∷◌, length, set, get_or, map as each, Option, Some, None}
use Rattle.std.proofs.Common.{refl, sym, ap, subst, ◌∙◌, arith, inl, inr}
use Rattle.std.specs.Prelude.{slice_get, nat_le, replicate}
use Rattle.std.specs.List.{list_any}
use Rattle.std.proofs.lemmas.Option.{slice_get_read}
use Rattle.std.proofs.lemmas.Bool.{cases_eq, cases_lt, le-leb, lt-leb, both_ways}
use Rattle.std.proofs.lemmas.List.{length-map, length-set, length-append, length-replicate, map-set, map-append, append_assoc, set-append_left, set-append_right}
use Rattle.soft_table.specs.declared.cell.Cell.{Cell}
use Rattle.soft_table.specs.declared.cell.Cell.TheVariants.{Free, Live, Due}
use Rattle.soft_table.specs.declared.entry.Entry.{Entry}
use Rattle.soft_table.specs.Cells.{NoneFree, NoneDue, is_live, aged, cell_is_free, cell_is_due}
use Rattle.soft_table.specs.Wheel.{AreFiled, IsEmpty, IsFiled, IsPool, MayStand, cells, cell_of, list_at, shown, set_back, wheel_list}
use Rattle.soft_table.proofs.PoolSlots.{within, something, set_same, set_read, set_elsewhere, after_set, read_each, read_back}
use Rattle.soft_table.proofs.Passing.{filed_at, filed_sooner, live_filed, live_list, live_put, live_stays}

-- ---- what a slot shows
pub due_cell : {T : Type 0} (clock : ℕ) (v : T) (m : ℕ) → m ≤ clock → cell_of clock (Some v) m ≡ Due v
due_cell clock v m le = ap (λ b. cond b (Due v) (Live v (m - clock))) (le-leb m clock le)

pub live_cell : {T : Type 0} (clock : ℕ) (v : T) (m : ℕ) → clock < m → cell_of clock (Some v) m ≡ Live v (m - clock)
live_cell clock v m lt = ap (λ b. cond b (Due v) (Live v (m - clock))) (lt-leb m clock lt)

pub live_shown : {T : Type 0} (clock left : ℕ) (v : T) → 1 ≤ left → cell_of clock (Some v) (clock + left) ≡ Live v left
live_shown clock left v some = live_cell clock v (clock + left) (omega (arith, some)) ∙ ap (Live v) (omega arith)

-- a live slot has a value, whose moment has not come
live_of : {T : Type 0} (clock : ℕ) (o : Option T) (m : ℕ) → is_live (Some (cell_of clock o m)) ≡ true → (v : T) × (o ≡ Some v) × (clock < m)
live_of clock None m e = absurd (both_ways _ refl e)
live_of clock (Some v) m e =
    elim (cases_lt clock m) [
      | inl lt ↦ (v, refl, lt)
      | inr le ↦ absurd (both_ways _ refl (sym (ap (λ c. is_live (Some c)) (due_cell clock v m le)) ∙ e))
    ]

-- ---- slots of the list of the free and of the due
free_of : {T : Type 0} (clock soonest : ℕ) (o : Option T) (m : ℕ) → MayStand clock soonest o m 0 → cell_of clock o m ≡ Free
free_of clock soonest None m stands = refl
free_of clock soonest (Some v) m stands =
    elim (cases_lt clock m) [
      | inl lt ↦ let passed = stands.1 lt in absurd (omega (arith, passed.3))
      | inr le ↦ absurd (omega (arith, stands.0 le))
    ]

due_of : {T : Type 0} (clock soonest : ℕ) (o : Option T) (m : ℕ) → MayStand clock soonest o m 1 → (v : T) × (o ≡ Some v) × (cell_of clock o m ≡ Due v)
due_of clock soonest None m stands = absurd (omega (arith, stands))
due_of clock soonest (Some v) m stands =
    elim (cases_lt clock m) [
      | inl lt ↦ let passed = stands.1 lt in absurd (omega (arith, passed.3))
      | inr le ↦ (v, refl, due_cell clock v m le)
    ]

not_free : {T : Type 0} (clock soonest : ℕ) (o : Option T) (m h : ℕ) → MayStand clock soonest o m h → (h ≡ 0 → ⊥) → cell_is_free (cell_of clock o m) ≡ false
not_free clock soonest None m h stands ne = absurd (ne stands)
not_free clock soonest (Some v) m h stands ne = elim (nat_le m clock) as (λ b. cell_is_free (cond b (Due v) (Live v (m - clock))) ≡ false) [ true ↦ refl | false ↦ refl ]

not_due : {T : Type 0} (clock soonest : ℕ) (o : Option T) (m h : ℕ) → MayStand clock soonest o m h → (h ≡ 1 → ⊥) → cell_is_due (cell_of clock o m) ≡ false
not_due clock soonest None m h stands ne = refl
not_due clock soonest (Some v) m h stands ne =
    elim (cases_lt clock m) [
      | inl lt ↦ ap cell_is_due (live_cell clock v m lt)
      | inr le ↦ absurd (ne (stands.0 le))
    ]

-- ---- slots that were not made yet
append_read : {A : Type 0} (xs ys : List A) (i : ℕ) (x : A) → slice_get xs i ≡ Some x → slice_get (xs ++ ys) i ≡ Some x
append_read [] ys i x e = cc
append_read (y ∷ xs) ys zero x e = e
append_read (y ∷ xs) ys (suc i) x e = append_read xs ys i x e

seam_read : {A : Type 0} (xs : List A) (y : A) (ys : List A) → slice_get (xs ++ y ∷ ys) (length xs) ≡ Some y
seam_read [] y ys = refl
seam_read (x ∷ xs) y ys = seam_read xs y ys

front_read : {A : Type 0} (xs ys : List A) (i : ℕ) → i < length xs → slice_get (xs ++ ys) i ≡ slice_get xs i
front_read [] ys i lt = absurd (omega arith)
front_read (x ∷ xs) ys zero lt = refl
front_read (x ∷ xs) ys (suc i) lt = front_read xs ys i (omega arith)

last_read : {A : Type 0} (xs : List A) (y : A) (i : ℕ) (x : A) → slice_get (xs ++ y ∷ []) i ≡ Some x → (slice_get xs i ≡ Some x) ⊎ ((i ≡ length xs) × (x ≡ y))
last_read [] y zero x e = let is : y ≡ x = cc in inr (refl, sym is)
last_read [] y (suc i) x e = cc
last_read (z ∷ xs) y zero x e = inl e
last_read (z ∷ xs) y (suc i) x e = elim (last_read xs y i x e) [ inl before ↦ inl before | inr last ↦ inr (ap suc last.0, last.1) ]

none_due_free : (T : Type 0) (n : ℕ) → list_any cell_is_due (replicate {A = Cell T} n Free) ≡ false
none_due_free T zero = refl
none_due_free T (suc n) = none_due_free T n

none_live_free : (T : Type 0) (n i : ℕ) → is_live (slice_get (replicate {A = Cell T} n Free) i) ≡ false
none_live_free T zero i = refl
none_live_free T (suc n) zero = refl
none_live_free T (suc n) (suc i) = none_live_free T n i

aged_free : (T : Type 0) (ms n : ℕ) → each (aged ms) (replicate {A = Cell T} n Free) ≡ replicate n Free
aged_free T ms zero = refl
aged_free T ms (suc n) = ap (λ cs. Free ∷ cs) (aged_free T ms n)

all_free : {T : Type 0} (cs : List (Cell T)) → replicate {A = Cell T} (length cs) Free ≡ each (λ _. Free) cs
all_free [] = refl
all_free (c ∷ cs) = ap (λ cs. Free ∷ cs) (all_free cs)

module _ {T : Type 0} (clock room : ℕ) where
  none_free_in : (es : List (Entry T)) (tail : List (Cell T)) → NoneFree tail → ((i : ℕ) (e : Entry T) → slice_get es i ≡ Some e → cell_is_free (shown clock e) ≡ false)
      → NoneFree (each (shown clock) es ++ tail)
  none_free_in [] tail t none = t
  none_free_in (e ∷ es) tail t none = ap (λ b. b || list_any cell_is_free (each (shown clock) es ++ tail)) (none 0 e refl) ∙ none_free_in es tail t (λ i. none (suc i))

  none_due_in : (es : List (Entry T)) (tail : List (Cell T)) → NoneDue tail → ((i : ℕ) (e : Entry T) → slice_get es i ≡ Some e → cell_is_due (shown clock e) ≡ false)
      → NoneDue (each (shown clock) es ++ tail)
  none_due_in [] tail t none = t
  none_due_in (e ∷ es) tail t none = ap (λ b. b || list_any cell_is_due (each (shown clock) es ++ tail)) (none 0 e refl) ∙ none_due_in es tail t (λ i. none (suc i))

  module _ {soonest : ℕ} (es : List (Entry T)) (lists : List ℕ) (p : IsPool es lists room clock soonest) where
    pub sizes : length lists ≡ length es
    sizes = p.filed.0

    -- the memory with an earlier soonest time
    pub pool_sooner : (less : ℕ) → clock ≤ less → less ≤ soonest → IsPool es lists room clock less
    pool_sooner less order le = record { few = p.few; most = p.most; filed = filed_sooner clock soonest less es lists le p.filed; ahead = order; early = p.early }

    -- a slot is left to be made, where the lists say that they are not full
    pub room_left : (full : Bool) → full ≡ false → (room ≤ length lists → full ≡ true) → length es < room
    room_left full open_is is_full =
        elim (cases_lt (length es) room) [
          | inl lt ↦ lt
          | inr le ↦ absurd (both_ways _ open_is (is_full (omega (arith, le, sizes))))
        ]

    -- the list of a slot
    home_of : (i : ℕ) (e : Entry T) → slice_get es i ≡ Some e → (h : ℕ) × (slice_get lists i ≡ Some h) × IsFiled clock soonest e h
    home_of i e is =
        let h = something lists i (omega (arith, within es i e is, sizes)) in
        (h.0, h.1, p.filed.1 i e h.0 is h.1)

    -- all slots are made, and none is in the list of the free
    pub none_free : room ≤ length lists → ((i : ℕ) → slice_get lists i ≡ Some 0 → ⊥) → NoneFree (cells clock room es)
    none_free full none =
        let made : room - length es ≡ 0 = omega (arith, full, sizes) in
        none_free_in es (replicate (room - length es) Free) (ap (λ n. list_any cell_is_free (replicate {A = Cell T} n Free)) made) (λ i e is.
        let h = home_of i e is in
        not_free clock soonest e.value e.moment h.0 h.2 (λ zero_is. none i (h.1 ∙ ap Some zero_is)))

    pub none_due : ((i : ℕ) → slice_get lists i ≡ Some 1 → ⊥) → NoneDue (cells clock room es)
    none_due none = none_due_in es (replicate (room - length es) Free) (none_due_free T (room - length es)) (λ i e is.
        let h = home_of i e is in
        not_due clock soonest e.value e.moment h.0 h.2 (λ one_is. none i (h.1 ∙ ap Some one_is)))

    -- the entry of a slot in a list
    found : (i list : ℕ) → slice_get lists i ≡ Some list → (e : Entry T) × (slice_get es i ≡ Some e) × IsFiled clock soonest e list
    found i list is =
        let e = something es i (omega (arith, within lists i list is, sizes)) in
        (e.0, e.1, p.filed.1 i e.0 list e.1 is)

    pub found_free : (i : ℕ) → slice_get lists i ≡ Some 0 → slice_get (cells clock room es) i ≡ Some Free
    found_free i is =
        let e = found i 0 is in
        append_read (each (shown clock) es) (replicate (room - length es) Free) i Free (read_each (shown clock) es i e.0 e.1 ∙ ap Some (free_of clock soonest e.0.value e.0.moment e.2))

    pub found_due : (i : ℕ) → slice_get lists i ≡ Some 1 → (e : Entry T) × (v : T) × (slice_get es i ≡ Some e) × (e.value ≡ Some v) × (slice_get (cells clock room es) i ≡ Some (Due v))
    found_due i is =
        let e = found i 1 is in
        let d = due_of clock soonest e.0.value e.0.moment e.2 in
        (e.0, d.0, e.1, d.1, append_read (each (shown clock) es) (replicate (room - length es) Free) i (Due d.0) (read_each (shown clock) es i e.0 e.1 ∙ ap Some d.2))

    -- the memory after one slot was changed, and put into a list that it may stand in
    pub pool_placed : (fs : List (Entry T)) (ls : List ℕ) (i list : ℕ) (e : Entry T) → i < length es → fs ≡ set es i e → ls ≡ set lists i list → IsFiled clock soonest e list
        → IsPool fs ls room clock soonest
    pool_placed fs ls i list e made is at filed =
        let size : length ls ≡ length fs = ap length at ∙ length-set lists i list ∙ sizes ∙ sym (ap length is ∙ length-set es i e) in
        record {
          few = omega (arith, p.few, ap length is, length-set es i e);
          most = p.most;
          filed = (
            size,
            λ j f h f_is h_is. after_set (λ j f. (h : ℕ) → slice_get ls j ≡ Some h → IsFiled clock soonest f h) es i e j f made (ap (λ xs. slice_get xs j) (sym is) ∙ f_is)
                (λ h h_is.
                let home : Some list ≡ Some h = sym (set_read lists i list (omega (arith, made, sizes))) ∙ ap (λ xs. slice_get xs i) (sym at) ∙ h_is in
                let list_h : list ≡ h = cc in
                subst (IsFiled clock soonest e) list_h filed)
                (λ apart f_is h h_is. p.filed.1 j f h f_is (sym (set_elsewhere lists i j list apart) ∙ ap (λ xs. slice_get xs j) (sym at) ∙ h_is))
                h h_is,
          );
          ahead = p.ahead;
          early = p.early;
        }

    -- and after one was changed that may stay in its list
    pub pool_changed : (fs : List (Entry T)) (i : ℕ) (e f : Entry T) → slice_get es i ≡ Some e → fs ≡ set es i f → ((h : ℕ) → IsFiled clock soonest e h → IsFiled clock soonest f h)
        → IsPool fs lists room clock soonest
    pool_changed fs i e f e_is is stays =
        let h = home_of i e e_is in
        pool_placed fs lists i h.0 f (within es i e e_is) is (sym (set_same lists i h.0 h.1)) (stays h.0 h.2)

    -- and after one more was made
    pub pool_grown : (fs : List (Entry T)) (ls : List ℕ) (e : Entry T) → length es < room → soonest ≤ e.moment → fs ≡ es ++ e ∷ [] → ls ≡ lists ++ list_at clock e ∷ []
        → IsPool fs ls room clock soonest
    pool_grown fs ls e lt sooner is at =
        let size : length ls ≡ length fs = ap length at ∙ length-append lists (list_at clock e ∷ []) ∙ ap (λ n. n + 1) sizes ∙ sym (ap length is ∙ length-append es (e ∷ [])) in
        record {
          few = omega (arith, lt, ap length is, length-append es (e ∷ []));
          most = p.most;
          filed = (
            size,
            λ j f h f_is h_is.
                let f_at : slice_get (es ++ e ∷ []) j ≡ Some f = ap (λ xs. slice_get xs j) (sym is) ∙ f_is in
                let h_at : slice_get (lists ++ list_at clock e ∷ []) j ≡ Some h = ap (λ xs. slice_get xs j) (sym at) ∙ h_is in
                elim (last_read es e j f f_at) [
                  | inl before ↦ p.filed.1 j f h before (sym (front_read lists (list_at clock e ∷ []) j (omega (arith, within es j f before, sizes))) ∙ h_at)
                  | inr last ↦
                      let read : Some (list_at clock e) ≡ Some h = sym (seam_read lists (list_at clock e) []) ∙ ap (slice_get (lists ++ list_at clock e ∷ [])) (sizes ∙ sym last.0) ∙ h_at in
                      let list_h : list_at clock e ≡ h = cc in
                      subst (λ f. IsFiled clock soonest f h) (sym last.1) (subst (IsFiled clock soonest e) list_h (filed_at clock soonest e sooner))
                ],
          );
          ahead = p.ahead;
          early = p.early;
        }

-- a live slot of a pool
live_made : {T : Type 0} (clock n : ℕ) (es : List (Entry T)) (i : ℕ) → is_live (slice_get (each (shown clock) es ++ replicate n Free) i) ≡ true
    → (e : Entry T) × (v : T) × (slice_get es i ≡ Some e) × (e.value ≡ Some v) × (clock < e.moment)
live_made {T} clock n [] i live = absurd (both_ways _ (none_live_free T n i) live)
live_made clock n (e ∷ es) zero live = let l = live_of clock e.value e.moment live in (e, l.0, refl, l.1, l.2)
live_made clock n (e ∷ es) (suc i) live = live_made clock n es i live

pub live_in : {T : Type 0} (clock room : ℕ) (es : List (Entry T)) (i : ℕ) → is_live (slice_get (cells clock room es) i) ≡ true
    → (e : Entry T) × (v : T) × (slice_get es i ≡ Some e) × (e.value ≡ Some v) × (clock < e.moment)
live_in clock room es i live = live_made clock (room - length es) es i live

-- it was made
pub live_within : {T : Type 0} (clock room : ℕ) (es : List (Entry T)) (i : ℕ) → is_live (slice_get (cells clock room es) i) ≡ true → i < length es
live_within clock room es i live = let l = live_in clock room es i live in within es i l.0 l.2

pub live_at : {T : Type 0} (clock room : ℕ) (es : List (Entry T)) (i : ℕ) (e : Entry T) → is_live (slice_get (cells clock room es) i) ≡ true → slice_get es i ≡ Some e → clock < e.moment
live_at clock room es i e live is =
    let l = live_in clock room es i live in
    let same : Some l.0 ≡ Some e = sym l.2 ∙ is in
    let eq : l.0 ≡ e = cc in
    omega (arith, l.4, ap (λ (e : Entry _). e.moment) eq)

pub live_now : {T : Type 0} (clock room : ℕ) (es : List (Entry T)) (i : ℕ) (e : Entry T) → is_live (slice_get (cells clock room es) i) ≡ true → e ≡ get_or es i e
    → (v : T) × (slice_get es i ≡ Some e) × (e.value ≡ Some v) × (clock < e.moment)
live_now clock room es i e live eq =
    let l = live_in clock room es i live in
    let is : slice_get es i ≡ Some e = slice_get_read es (length es) i e refl (within es i l.0 l.2) eq in
    let same : Some l.0 ≡ Some e = sym l.2 ∙ is in
    let l_e : l.0 ≡ e = cc in
    (l.1, is, ap (λ (e : Entry _). e.value) (sym l_e) ∙ l.3, omega (arith, l.4, ap (λ (e : Entry _). e.moment) l_e))

pub live_read : {T : Type 0} (clock room : ℕ) (es : List (Entry T)) (i : ℕ) (e : Entry T) (v : T) → slice_get es i ≡ Some e → e.value ≡ Some v → clock < e.moment
    → slice_get (cells clock room es) i ≡ Some (Live v (e.moment - clock))
live_read clock room es i e v is has lt =
    append_read (each (shown clock) es) (replicate (room - length es) Free) i (Live v (e.moment - clock))
    (read_each (shown clock) es i e is ∙ ap (λ o. Some (cell_of clock o e.moment)) has ∙ ap Some (live_cell clock v e.moment lt))

-- what a pool shows after one slot was changed
pub shows : {T : Type 0} (clock room : ℕ) (es fs : List (Entry T)) (i : ℕ) (e : Entry T) (c : Cell T) → i < length es → fs ≡ set es i e → shown clock e ≡ c
    → cells clock room fs ≡ set (cells clock room es) i c
shows {T} clock room es fs i e c lt is shown_is =
    let size : length fs ≡ length es = ap length is ∙ length-set es i e in
    let few : i < length (each (shown clock) es) = omega (arith, lt, length-map es (shown clock)) in
    ap (λ n. each (shown clock) fs ++ replicate {A = Cell T} (room - n) Free) size
    ∙ ap (λ cs. cs ++ replicate {A = Cell T} (room - length es) Free) (ap (each (shown clock)) is ∙ map-set (shown clock) es i e ∙ ap (set (each (shown clock) es) i) shown_is)
    ∙ sym (set-append_left (each (shown clock) es) (replicate (room - length es) Free) i c few)

-- and after a live slot was renewed, to this moment
module _ {T : Type 0} (clock room moment : ℕ) (es : List (Entry T)) (i : ℕ) (e : Entry T)
    (live : is_live (slice_get (cells clock room es) i) ≡ true) (is : e ≡ get_or es i e) where
  -- its entry has a value, and its moment has not come
  entry : (v : T) × (slice_get es i ≡ Some e) × (e.value ≡ Some v) × (clock < e.moment)
  entry = live_now clock room es i e live is

  made : i < length es
  made = within es i e entry.1

  abbrev new : Entry T
  new = record { value = e.value; moment = moment }

  pub renewed : (left : ℕ) → moment ≡ clock + left → 1 ≤ left
      → (v : T) × (was : ℕ) × (slice_get (cells clock room es) i ≡ Some (Live v was))
      × (cells clock room (set es i new) ≡ set (cells clock room es) i (Live v left))
  renewed left at some =
      let v = entry.0 in
      let shown_new = ap (λ o. cell_of clock o moment) entry.2 ∙ ap (cell_of clock (Some v)) at ∙ live_shown clock left v some in (
        v,
        e.moment - clock,
        live_read clock room es i e v entry.1 entry.2 entry.3,
        shows clock room es (set es i new) i new (Live v left) made refl shown_new,
      )

  module _ {soonest : ℕ} (lists : List ℕ) (p : IsPool es lists room clock soonest) where
    -- it may stay in its list where its moment comes no earlier
    pub pool_kept : e.moment ≤ moment → IsPool (set es i new) lists room clock soonest
    pool_kept later =
        let stays = λ (h : ℕ). live_stays clock soonest h e new entry.0 entry.0 entry.2 entry.2 entry.3 later in
        pool_changed clock room es lists p (set es i new) i e new entry.1 refl stays

    -- it may go to the list of its moment, with a soonest time that comes no later
    pub pool_moved : (list less : ℕ) → list ≡ wheel_list moment → clock < moment → clock ≤ less → less ≤ soonest → less ≤ moment
        → IsPool (set es i new) (set lists i list) room clock less
    pool_moved list less list_is ahead order sooner early =
        let before = pool_sooner clock room es lists p less order sooner in
        let put = live_put clock less list moment new entry.0 entry.2 refl ahead early list_is in
        pool_placed clock room es lists before (set es i new) (set lists i list) i list new made refl refl put

-- and after one was made
module _ {T : Type 0} (clock room : ℕ) (es : List (Entry T)) (lt : length es < room) where
  left : ℕ
  left = room - length es - 1

  one_left : cells clock room es ≡ each (shown clock) es ++ Free ∷ replicate {A = Cell T} left Free
  unfolding left
  one_left = let some : room - length es ≡ suc (room - length es - 1) = omega (arith, lt) in ap (λ n. each (shown clock) es ++ replicate {A = Cell T} n Free) some

  pub next_free : slice_get (cells clock room es) (length es) ≡ Some Free
  next_free = ap (λ cs. slice_get cs (length es)) one_left ∙ ap (slice_get (each (shown clock) es ++ Free ∷ replicate {A = Cell T} left Free)) (sym (length-map es (shown clock)))
      ∙ seam_read (each (shown clock) es) Free (replicate left Free)

  pub grows : (fs : List (Entry T)) (e : Entry T) (c : Cell T) → fs ≡ es ++ e ∷ [] → shown clock e ≡ c → cells clock room fs ≡ set (cells clock room es) (length es) c
  unfolding left
  grows fs e c is shown_is =
      let size : room - length fs ≡ room - length es - 1 = omega (arith, ap length is, length-append es (e ∷ [])) in
      let none : length es - length es ≡ 0 = omega arith in
      let tail : List (Cell T) = replicate left Free in
      let shown_es : List (Cell T) = each (shown clock) es in
      ap (λ n. each (shown clock) fs ++ replicate {A = Cell T} n Free) size
      ∙ ap (λ cs. cs ++ tail) (ap (each (shown clock)) is ∙ map-append (shown clock) es (e ∷ []) ∙ ap (λ c. shown_es ++ c ∷ []) shown_is)
      ∙ append_assoc shown_es (c ∷ []) tail
      ∙ sym (ap (λ cs. set cs (length es) c) one_left ∙ set-append_right shown_es (Free ∷ tail) (length es) (length es) c (length-map es (shown clock)) (omega arith)
      ∙ ap (λ n. shown_es ++ set (Free ∷ tail) n c) none)

-- ---- time
aged_cell : {T : Type 0} (clock ms : ℕ) (o : Option T) (m : ℕ) → cell_of (clock + ms) o m ≡ aged ms (cell_of clock o m)
aged_cell clock ms None m = refl
aged_cell clock ms (Some v) m =
    elim (cases_lt clock m) [
      | inl lt ↦
          let now_live = ap (aged ms) (live_cell clock v m lt) in
          elim (cases_lt (clock + ms) m) [
            | inl later ↦ live_cell (clock + ms) v m later ∙ ap (Live v) (omega arith) ∙ sym (ap (λ b. cond b (Due v) (Live v (m - clock - ms))) (lt-leb (m - clock) ms (omega (arith, later))))
                ∙ sym now_live
            | inr over ↦ due_cell (clock + ms) v m over ∙ sym (ap (λ b. cond b (Due v) (Live v (m - clock - ms))) (le-leb (m - clock) ms (omega (arith, over)))) ∙ sym now_live
          ]
      | inr le ↦ due_cell (clock + ms) v m (omega (arith, le)) ∙ sym (ap (aged ms) (due_cell clock v m le))
    ]

aged_made : {T : Type 0} (clock ms : ℕ) (es : List (Entry T)) → each (shown (clock + ms)) es ≡ each (aged ms) (each (shown clock) es)
aged_made clock ms [] = refl
aged_made clock ms (e ∷ es) = ap (λ c. c ∷ each (shown (clock + ms)) es) (aged_cell clock ms e.value e.moment) ∙ ap (λ cs. aged ms (shown clock e) ∷ cs) (aged_made clock ms es)

aged_all : {T : Type 0} (clock room ms : ℕ) (es : List (Entry T)) → cells (clock + ms) room es ≡ each (aged ms) (cells clock room es)
aged_all {T} clock room ms es =
    let tail : List (Cell T) = replicate (room - length es) Free in
    ap (λ cs. cs ++ tail) (aged_made clock ms es) ∙ ap (λ cs. each (aged ms) (each (shown clock) es) ++ cs) (sym (aged_free T ms (room - length es)))
    ∙ sym (map-append (aged ms) (each (shown clock) es) tail)

-- the same slots on another clock
pub as_many : {T : Type 0} (clock other : ℕ) (es fs : List (Entry T)) → each (shown other) fs ≡ each (shown clock) es → length fs ≡ length es
as_many clock other es fs same = sym (length-map fs (shown other)) ∙ ap length same ∙ length-map es (shown clock)

pub aged_on : {T : Type 0} (clock other room ms : ℕ) (es fs : List (Entry T)) → each (shown other) fs ≡ each (shown clock) es → cells (other + ms) room fs ≡ each (aged ms) (cells clock room es)
aged_on {T} clock other room ms es fs same =
    let cells_are : cells other room fs ≡ cells clock room es = ap (λ n. each (shown other) fs ++ replicate {A = Cell T} (room - n) Free) (as_many clock other es fs same)
    ∙ ap (λ cs. cs ++ replicate {A = Cell T} (room - length es) Free) same in
    aged_all other room ms fs ∙ ap (each (aged ms)) cells_are

-- ---- the clock set back by whole turns
module _ (clock : ℕ) where
  abbrev into : ℕ
  into = clock % 262144

  abbrev by : ℕ
  by = clock - clock % 262144

module _ {T : Type 0} (clock soonest : ℕ) where
  cell_back : (o : Option T) (m : ℕ) → cell_of (into clock) o (m - by clock) ≡ cell_of clock o m
  cell_back None m = refl
  cell_back (Some v) m =
      elim (cases_lt clock m) [
        | inl lt ↦ live_cell (into clock) v (m - by clock) (omega (arith, lt)) ∙ ap (Live v) (omega (arith, lt)) ∙ sym (live_cell clock v m lt)
        | inr le ↦ due_cell (into clock) v (m - by clock) (omega (arith, le)) ∙ sym (due_cell clock v m le)
      ]

  stands_back : (o : Option T) (m h : ℕ) → clock ≤ soonest → MayStand clock soonest o m h → MayStand (into clock) (soonest - by clock) o (m - by clock) h
  stands_back None m h order stands = stands
  stands_back (Some v) m h order stands =
      elim (cases_lt clock m) [
        | inl lt ↦
            let passed = stands.1 lt in
            let time = passed.0 in
            let same : wheel_list (time - by clock) ≡ wheel_list time = omega (arith, order, passed.1) in
            live_filed (into clock) (soonest - by clock) v (m - by clock) h (omega (arith, lt)) (time - by clock, omega (arith, passed.1), omega (arith, passed.2), passed.3 ∙ sym same)
        | inr le ↦ (λ _. stands.0 le, λ lt. absurd (omega (arith, le, lt)))
      ]

  pub shown_back : (es : List (Entry T)) → each (shown (into clock)) (each (set_back (by clock)) es) ≡ each (shown clock) es
  shown_back [] = refl
  shown_back (e ∷ es) = ap (λ c. c ∷ each (shown (into clock)) (each (set_back (by clock)) es)) (cell_back e.value e.moment) ∙ ap (λ cs. shown clock e ∷ cs) (shown_back es)

  pub filed_back : (es : List (Entry T)) (homes : List ℕ) → clock ≤ soonest → AreFiled clock soonest es homes → AreFiled (into clock) (soonest - by clock) (each (set_back (by clock)) es) homes
  filed_back es homes order filed = (
    filed.0 ∙ sym (length-map es (set_back (by clock))),
    λ i f h f_is h_is.
        let e = read_back (set_back (by clock)) es i f f_is in
        subst (λ f. IsFiled (into clock) (soonest - by clock) f h) e.2 (stands_back e.0.value e.0.moment h order (filed.1 i e.0 h e.1 h_is)),
  )

-- ---- a list in which no slot stands
pub no_slots : (list : ℕ) → IsEmpty list []
no_slots list i is = cc

-- none does after a slot went to another list
pub none_placed : (homes : List ℕ) (i to list : ℕ) → (to ≡ list → ⊥) → IsEmpty list homes → IsEmpty list (set homes i to)
none_placed homes i to list ne none j is =
    elim (cases_eq j i) [
      | inl e ↦
          let made : i < length homes = omega (arith, e, within (set homes i to) j list is, length-set homes i to) in
          let read : Some to ≡ Some list = sym (set_read homes i to made) ∙ ap (slice_get (set homes i to)) (sym e) ∙ is in
          let same : to ≡ list = cc in
          absurd (ne same)
      | inr apart ↦ none j (sym (set_elsewhere homes i j to apart) ∙ is)
    ]

-- and after one was made in another
pub none_made : (homes : List ℕ) (to list : ℕ) → (to ≡ list → ⊥) → IsEmpty list homes → IsEmpty list (homes ++ to ∷ [])
none_made homes to list ne none j is = elim (last_read homes to j list is) [ inl before ↦ none j before | inr last ↦ absurd (ne (sym last.1)) ]

-- a live slot is not put into the list of the due
pub not_into_due : {T : Type 0} (clock moment : ℕ) (v : T) → clock < moment → list_at clock (record { value = Some v; moment = moment }) ≡ 1 → ⊥
not_into_due clock moment v lt is = omega (arith, sym (live_list clock v moment lt) ∙ is)

-- ---- all free
abbrev pub empty : {T : Type 0} → Entry T
empty = record { value = None; moment = 0 }

none_filed : (T : Type 0) (clock soonest : ℕ) → AreFiled {T = T} clock soonest [] []
none_filed T clock soonest = (refl, λ i e h is. cc)

pub opened : (T : Type 0) (room soonest : ℕ) → room ≤ 65536 → IsPool {T = T} [] [] room 0 soonest
opened T room soonest most = record { few = omega arith; most = most; filed = none_filed T 0 soonest; ahead = omega arith; early = omega arith }

pub cleared : {T : Type 0} {soonest : ℕ} (es : List (Entry T)) (lists : List ℕ) (room clock new : ℕ) → 2 ^ 63 ≤ new → IsPool es lists room clock soonest → IsPool {T = T} [] [] room clock new
cleared {T} es lists room clock new high p = record { few = omega arith; most = p.most; filed = none_filed T clock new; ahead = omega (arith, high, p.early); early = p.early }

pub shown_opened : (T : Type 0) (clock room : ℕ) → cells {T = T} clock room [] ≡ replicate room Free
shown_opened T clock room = let all : room - 0 ≡ room = omega arith in ap (λ n. replicate {A = Cell T} n Free) all

pub shown_cleared : {T : Type 0} {soonest : ℕ} (es : List (Entry T)) (lists : List ℕ) (room clock : ℕ) → IsPool es lists room clock soonest
    → cells {T = T} clock room [] ≡ each (λ _. Free) (cells clock room es)
shown_cleared {T} es lists room clock p =
    let tail : List (Cell T) = replicate (room - length es) Free in
    let size : room ≡ length (cells clock room es) = omega (
      arith,
      p.few,
      length-append (each (shown clock) es) tail,
      length-map es (shown clock),
      length-replicate {A = Cell T} (room - length es) Free,
    ) in
    shown_opened T clock room ∙ ap (λ n. replicate {A = Cell T} n Free) size ∙ all_free (cells clock room es)
